-- The language counts a number's binary digits, the definitions the bits of a list that spells it: both look at the lowest bit and go on with
-- the half, so induction on n shows them equal. For leading zeros the lowest bit comes last, and it counts only where no bit above it is a one.
use Rattle.std.proofs.Common.{◌≡◌, ℕ, zero, suc, ◌+◌, ◌-◌, ◌*◌, ◌/◌, ◌%◌, ◌^◌, ◌<◌, ◌≤◌, Bool, true, false, eqb, ◌⊎◌, List, [], ◌∷◌, ◌++◌, reverse, length, sym, refl, ap, ◌∙◌, inl, inr, mod-lt, zero-lt-suc, mul_assoc, eq-zero-or-pos, pow-suc, arith, pow_pos}
use mathlib.Core.List.{reverse-cons}
use lib.Arith.{lt-one}
use lib.Count.{count_leading_zeros, count_trailing_zeros, under, ones_step, leading_of_zero, leading_top, trailing_of_zero}
use lib.Count as Count
use lib.ListN.{length-reverse}
use Rattle.words.specs.Bits.{bit, to_vec}
use Rattle.words.specs.Counts.{ones, zeros, popcnt, lzcnt, tzcnt}
use Rattle.words.proofs.BitLaws.{bit_lt, half_lt}

-- ---- lists of bits

to_vec_length : (n x : ℕ) → length (to_vec n x) ≡ n
unfolding to_vec
to_vec_length zero x = refl
to_vec_length (suc n) x = ap suc (to_vec_length n (x / 2))

ones_le : (bs : List Bool) → ones bs ≤ length bs
unfolding ones
ones_le [] = omega arith
ones_le (b ∷ bs) = omega (arith, ones_le bs, bit_lt b)

zeros_le : (bs : List Bool) → zeros bs ≤ length bs
unfolding zeros
zeros_le [] = omega arith
zeros_le (false ∷ bs) = omega (arith, zeros_le bs)
zeros_le (true ∷ bs) = omega arith

-- behind a one nothing counts
zeros_some : (bs cs : List Bool) → zeros bs < length bs → zeros (bs ++ cs) ≡ zeros bs
unfolding zeros
zeros_some [] cs h = absurd (omega arith)
zeros_some (false ∷ bs) cs h = grind (arith, zeros_some bs cs)
zeros_some (true ∷ bs) cs h = refl

-- behind zeros alone the count goes on
zeros_none : (bs cs : List Bool) → zeros bs ≡ length bs → zeros (bs ++ cs) ≡ length bs + zeros cs
unfolding zeros
zeros_none [] cs h = omega arith
zeros_none (false ∷ bs) cs h = omega (arith, zeros_none bs cs (omega arith))
zeros_none (true ∷ bs) cs h = absurd (omega arith)

-- ---- each count is at most the width

pub popcnt_le : (n x : ℕ) → popcnt n x ≤ n
unfolding popcnt
popcnt_le n x = omega (arith, ones_le (to_vec n x), to_vec_length n x)

pub lzcnt_le : (n x : ℕ) → lzcnt n x ≤ n
unfolding lzcnt
lzcnt_le n x = omega (arith, zeros_le (reverse (to_vec n x)), length-reverse (to_vec n x), to_vec_length n x)

pub tzcnt_le : (n x : ℕ) → tzcnt n x ≤ n
unfolding tzcnt
tzcnt_le n x = omega (arith, zeros_le (to_vec n x), to_vec_length n x)

-- ---- each count is the language's

-- the bit of a digit is the digit
bit_digit : (d : ℕ) → d < 2 → bit (eqb d 1) ≡ d
bit_digit d h = grind arith

-- the lowest digit, and the count of the half
popcnt_step : (n x : ℕ) → popcnt (suc n) x ≡ x % 2 + popcnt n (x / 2)
unfolding popcnt ones to_vec
popcnt_step n x = ap (λ (d : ℕ). d + ones (to_vec n (x / 2))) (bit_digit (x % 2) (mod-lt x (zero-lt-suc 1)))

pub popcnt_is : (n x : ℕ) → x < 2 ^ n → popcnt n x ≡ Count.ones x
unfolding popcnt ones to_vec Count.ones
popcnt_is zero x h = sym (ap Count.ones (lt-one h))
popcnt_is (suc n) x h = popcnt_step n x ∙ ap (λ (k : ℕ). x % 2 + k) (popcnt_is n (x / 2) (half_lt n h)) ∙ sym (ones_step x)

zeros_low : (d : ℕ) (bs : List Bool) → d < 2 → zeros (eqb d 1 ∷ bs) ≡ under d (zeros bs)
unfolding zeros
zeros_low d bs h = grind arith

tzcnt_step : (n x : ℕ) → tzcnt (suc n) x ≡ under (x % 2) (tzcnt n (x / 2))
unfolding tzcnt to_vec
tzcnt_step n x = zeros_low (x % 2) (to_vec n (x / 2)) (mod-lt x (zero-lt-suc 1))

pub tzcnt_is : (n x : ℕ) → tzcnt n x ≡ count_trailing_zeros n x
unfolding tzcnt zeros to_vec count_trailing_zeros
tzcnt_is zero x = refl
tzcnt_is (suc n) x = tzcnt_step n x ∙ ap (under (x % 2)) (tzcnt_is n (x / 2))

-- a number that is not 0 keeps its leading zeros when its lowest bit is dropped
leading_half : (n x : ℕ) → 0 < x → count_leading_zeros (suc n) x ≡ count_leading_zeros n (x / 2)
unfolding count_leading_zeros
leading_half n x h = grind arith

-- 0 and 1 have none but zeros above their lowest bit
leading_last : (n x : ℕ) → x / 2 ≡ 0 → n + zeros (eqb (x % 2) 1 ∷ []) ≡ count_leading_zeros (suc n) x
unfolding zeros count_leading_zeros
leading_last n x h = grind (arith, leading_of_zero)

-- one bit more below counts only where those above it are zeros
lzcnt_low : (n x : ℕ) → x < 2 ^ suc n → lzcnt n (x / 2) ≡ count_leading_zeros n (x / 2) → lzcnt (suc n) x ≡ count_leading_zeros (suc n) x
unfolding lzcnt to_vec
lzcnt_low n x h counted = ap zeros (reverse-cons lowest (to_vec n (x / 2))) ∙ go (eq-zero-or-pos (x / 2))
  where
    lowest : Bool
    lowest = eqb (x % 2) 1

    above : List Bool
    above = reverse (to_vec n (x / 2))

    sized : length above ≡ n
    sized = length-reverse (to_vec n (x / 2)) ∙ to_vec_length n (x / 2)

    go : (x / 2 ≡ 0) ⊎ (0 < x / 2) → zeros (above ++ (lowest ∷ [])) ≡ count_leading_zeros (suc n) x
    go (inl e) =
        zeros_none above (lowest ∷ []) (counted ∙ ap (count_leading_zeros n) e ∙ leading_of_zero n ∙ sym sized)
        ∙ ap (λ (k : ℕ). k + zeros (lowest ∷ [])) sized
        ∙ leading_last n x e
    go (inr p) =
        zeros_some above (lowest ∷ []) (omega (arith, sized, counted, (leading_top n (x / 2) p (half_lt n h)).1))
        ∙ counted
        ∙ sym (leading_half n x (omega arith))

pub lzcnt_is : (n x : ℕ) → x < 2 ^ n → lzcnt n x ≡ count_leading_zeros n x
unfolding lzcnt zeros to_vec count_leading_zeros
lzcnt_is zero x h = refl
lzcnt_is (suc n) x h = lzcnt_low n x h (lzcnt_is n (x / 2) (half_lt n h))

-- ---- a word of zeros alone

pub popcnt_zero : (n : ℕ) → popcnt n 0 ≡ 0
unfolding Count.ones
popcnt_zero n = popcnt_is n 0 (pow_pos n)

pub lzcnt_zero : (n : ℕ) → lzcnt n 0 ≡ n
lzcnt_zero n = lzcnt_is n 0 (pow_pos n) ∙ leading_of_zero n

pub tzcnt_zero : (n : ℕ) → tzcnt n 0 ≡ n
tzcnt_zero n = tzcnt_is n 0 ∙ trailing_of_zero n

-- ---- where the highest and the lowest one of any other word stand

-- the highest stands just below the leading zeros
pub lzcnt_highest : (n x : ℕ) → 0 < x → x < 2 ^ n → (2 ^ (n - 1 - lzcnt n x) ≤ x) × (x < 2 ^ (n - lzcnt n x))
lzcnt_highest n x p h =
    let top = leading_top n x p h in
    let counted = lzcnt_is n x h in
    let place : n - 1 - lzcnt n x ≡ top.0 = omega (arith, top.1) in
    let above : n - lzcnt n x ≡ suc top.0 = omega (arith, top.1) in
    (rw place top.2, rw above top.3)

-- it is an odd multiple of the power of two of its lowest one
odd_multiple : (x d t : ℕ) → x % 2 ≡ d → d < 2 → (d ≡ 0 → (k : ℕ) × (x / 2 ≡ (2 * k + 1) * 2 ^ t)) → (k : ℕ) × (x ≡ (2 * k + 1) * 2 ^ under d t)
odd_multiple x zero t e h half =
    let w = half refl in
    (w.0, rw pow-suc (omega (arith, w.1, mul_assoc (2 * w.0 + 1) (2 ^ t) 2)))
odd_multiple x (suc zero) t e h half = (x / 2, omega arith)
odd_multiple x (suc (suc d)) t e h half = absurd (omega arith)

pub tzcnt_lowest : (n x : ℕ) → 0 < x → x < 2 ^ n → (k : ℕ) × (x ≡ (2 * k + 1) * 2 ^ tzcnt n x)
tzcnt_lowest zero x p h = absurd (omega arith)
tzcnt_lowest (suc n) x p h =
    rw tzcnt_step
    (odd_multiple x (x % 2) (tzcnt n (x / 2)) refl (mod-lt x (zero-lt-suc 1))
    (λ even. tzcnt_lowest n (x / 2) (omega arith) (half_lt n h)))

-- without its lowest one it has one fewer
one_fewer : (n x d t : ℕ) → x % 2 ≡ d → d < 2 → (d ≡ 0 → popcnt n (x / 2) ≡ suc (popcnt n (x / 2 - 2 ^ t)))
    → popcnt (suc n) x ≡ suc (popcnt (suc n) (x - 2 ^ under d t))
one_fewer n x zero t e h half =
    let y = x - 2 ^ suc t in
    let even : y % 2 ≡ 0 = omega (arith, pow-suc 2 t) in
    let rest : y / 2 ≡ x / 2 - 2 ^ t = omega (arith, pow-suc 2 t) in
    omega (arith, popcnt_step n x, popcnt_step n y, ap (popcnt n) rest, half refl)
one_fewer n x (suc zero) t e h half =
    let even : (x - 1) % 2 ≡ 0 = omega arith in
    let rest : (x - 1) / 2 ≡ x / 2 = omega arith in
    omega (arith, popcnt_step n x, popcnt_step n (x - 1), ap (popcnt n) rest)
one_fewer n x (suc (suc d)) t e h half = absurd (omega arith)

pub popcnt_lowest : (n x : ℕ) → 0 < x → x < 2 ^ n → popcnt n x ≡ suc (popcnt n (x - 2 ^ tzcnt n x))
popcnt_lowest zero x p h = absurd (omega arith)
popcnt_lowest (suc n) x p h =
    rw tzcnt_step
    (one_fewer n x (x % 2) (tzcnt n (x / 2)) refl (mod-lt x (zero-lt-suc 1))
    (λ even. popcnt_lowest n (x / 2) (omega arith) (half_lt n h)))
