-- A shift multiplies or divides by a power of two. From an amount of n on, a product is a multiple of 2 ^ n and a quotient of an n-bit word is 0.
-- Below that the bits move: a factor of two puts a zero before the lowest bit, and a half takes the lowest bit away.
use Rattle.std.proofs.Common.{◌≡◌, ℕ, zero, suc, ◌+◌, ◌-◌, ◌*◌, ◌/◌, ◌%◌, ◌^◌, ◌<◌, ◌≤◌, Bool, false, eqb, List, ◌∷◌, ◌++◌, take, drop, replicate, sym, refl, ap, ◌∙◌, ap₂, lt_of_lt_of_le, lt_of_le_of_lt, mod-lt, mul_assoc, suc-add, pow-suc, zero-add, mul-one, sub-add_cancel, div-one, add-one, one-add, arith, pow_pos, pow_mono, pow-add, shr-shr, shr_lt}
use native.Mathlib.Nat.{mul-mod_left, div-eq_of_lt}
use lib.Arith.{lt-one}
use lib.Pow.{shr_le, field, mod-mod-pow}
use Rattle.words.specs.Bits.{to_vec, ishl, ishr}
use Rattle.words.proofs.BitLaws.{half_lt}

-- the definitions
pub ishl_is : (n x s : ℕ) → ishl n x s ≡ x * 2 ^ s % 2 ^ n
unfolding ishl
ishl_is n x s = refl

pub ishr_is : (x s : ℕ) → ishr x s ≡ x / 2 ^ s
unfolding ishr
ishr_is x s = refl

pub ishl_lt : (n x s : ℕ) → ishl n x s < 2 ^ n
unfolding ishl
ishl_lt n x s = mod-lt (x * 2 ^ s) (pow_pos n)

pub ishr_lt : (n : ℕ) {x : ℕ} (s : ℕ) → x < 2 ^ n → ishr x s < 2 ^ n
unfolding ishr
ishr_lt n {x} s h = lt_of_le_of_lt (shr_le x s) h

pub ishl_past : (n x s : ℕ) → n ≤ s → ishl n x s ≡ 0
unfolding ishl
ishl_past n x s h =
    ap (λ (p : ℕ). x * p % 2 ^ n) (ap (λ (k : ℕ). 2 ^ k) (sym (sub-add_cancel h)) ∙ pow-add 2 (s - n) n)
    ∙ ap (λ (p : ℕ). p % 2 ^ n) (sym (mul_assoc x (2 ^ (s - n)) (2 ^ n)))
    ∙ mul-mod_left (x * 2 ^ (s - n)) (2 ^ n)

pub ishr_past : (n : ℕ) {x : ℕ} (s : ℕ) → x < 2 ^ n → n ≤ s → ishr x s ≡ 0
unfolding ishr
ishr_past n s hx h = div-eq_of_lt (lt_of_lt_of_le hx (pow_mono h))

-- ---- the bits of a number, lowest first

to_vec_mod : (n x : ℕ) → to_vec n (x % 2 ^ n) ≡ to_vec n x
unfolding to_vec
to_vec_mod zero x = refl
to_vec_mod (suc n) x =
    ap₂ (λ (b : ℕ) (bs : List Bool). eqb b 1 ∷ bs) low (ap (to_vec n) rest ∙ to_vec_mod n (x / 2))
  where
    low : x % 2 ^ suc n % 2 ≡ x % 2
    low = rw (← (add-one n)) (mod-mod-pow x n 1)

    rest : x % 2 ^ suc n / 2 ≡ x / 2 % 2 ^ n
    rest = rw (← (add-one n)) (field x n 1)

-- the lowest m bits
to_vec_take : (m n x : ℕ) → take m (to_vec (m + n) x) ≡ to_vec m x
unfolding to_vec
to_vec_take zero n x = refl
to_vec_take (suc m) n x = rw suc-add (ap (λ (bs : List Bool). eqb (x % 2) 1 ∷ bs) (to_vec_take m n (x / 2)))

-- the bits from s on
to_vec_drop : (s n x : ℕ) → drop s (to_vec (s + n) x) ≡ to_vec n (x / 2 ^ s)
unfolding to_vec
to_vec_drop zero n x = rw (zero-add, div-one)
to_vec_drop (suc s) n x =
    rw suc-add (to_vec_drop s n (x / 2) ∙ ap (to_vec n) (shr-shr x 1 s ∙ ap (λ (k : ℕ). x / 2 ^ k) (one-add s)))

-- the bits of a multiple of 2 ^ s
to_vec_times : (s n x : ℕ) → to_vec (s + n) (x * 2 ^ s) ≡ replicate s false ++ to_vec n x
unfolding to_vec
to_vec_times zero n x = rw (zero-add, mul-one)
to_vec_times (suc s) n x = rw (suc-add, pow-suc, ← (mul_assoc x (2 ^ s) 2)) (lowest (x * 2 ^ s) (s + n) _ (to_vec_times s n x))
  where
    lowest : (y k : ℕ) (bs : List Bool) → to_vec k y ≡ bs → eqb (y * 2 % 2) 1 ∷ to_vec k (y * 2 / 2) ≡ false ∷ bs
    lowest y k bs e =
        let even : y * 2 % 2 ≡ 0 = omega arith in
        let half : y * 2 / 2 ≡ y = omega arith in
        rw (even, half) (ap (λ (cs : List Bool). false ∷ cs) e)

to_vec_zero : (n : ℕ) → to_vec n 0 ≡ replicate n false
unfolding to_vec
to_vec_zero zero = refl
to_vec_zero (suc n) = ap (λ (bs : List Bool). false ∷ bs) (to_vec_zero n)

-- a number of m bits has none set from m on
to_vec_past : (m n x : ℕ) → x < 2 ^ m → to_vec (m + n) x ≡ to_vec m x ++ replicate n false
unfolding to_vec
to_vec_past zero n x h = rw (zero-add, lt-one h) (to_vec_zero n)
to_vec_past (suc m) n x h = rw suc-add (ap (λ (bs : List Bool). eqb (x % 2) 1 ∷ bs) (to_vec_past m n (x / 2) (half_lt m h)))

-- ---- a shift moves the bits and fills up with zeros

-- FStar.UInt's shift_left_vec, which lists the bits from the highest
pub ishl_vec : (n x s : ℕ) → s ≤ n → to_vec n (ishl n x s) ≡ replicate s false ++ take (n - s) (to_vec n x)
unfolding ishl
ishl_vec n x s h =
    let up : n ≡ s + (n - s) = omega arith in
    let down : n ≡ n - s + s = omega arith in
    to_vec_mod n (x * 2 ^ s) ∙ ap (λ (k : ℕ). to_vec k (x * 2 ^ s)) up ∙ to_vec_times s (n - s) x
    ∙ ap (λ (bs : List Bool). replicate s false ++ bs) (sym (ap (λ (k : ℕ). take (n - s) (to_vec k x)) down ∙ to_vec_take (n - s) s x))

-- FStar.UInt's shift_right_vec, which lists the bits from the highest
pub ishr_vec : (n x s : ℕ) → s ≤ n → x < 2 ^ n → to_vec n (ishr x s) ≡ drop s (to_vec n x) ++ replicate s false
unfolding ishr
ishr_vec n x s h l =
    let up : n ≡ s + (n - s) = omega arith in
    let down : n ≡ n - s + s = omega arith in
    ap (λ (k : ℕ). to_vec k (x / 2 ^ s)) down ∙ to_vec_past (n - s) s (x / 2 ^ s) (shr_lt (n - s) s (rw (← down) l))
    ∙ ap (λ (bs : List Bool). bs ++ replicate s false) (sym (ap (λ (k : ℕ). drop s (to_vec k x)) up ∙ to_vec_drop s (n - s) x))
