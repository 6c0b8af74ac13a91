-- A number has no more digits than the power of ten above it says, and one digit more is allowed for nothing.
use Prim.Native.Nat.{ℕ, zero, suc, ◌+◌, ◌*◌, ◌/◌, ◌%◌, ◌^◌, ◌≤◌, ◌<◌}
use mathlib.Core.Path.{◌≡◌, refl, ap, ◌∙◌}
use mathlib.Core.Bool.{Bool, true, false, cond}
use mathlib.Core.List.{List, [], ◌∷◌, ◌++◌, append_assoc}
use native.Mathlib.Omega.{arith}
use lib.Dec.{ltb}
use lib.ListN.{length, length-append}
use borrow.Author.Tests.{lt-ltb, le-ltb, ltb-false}
use Rattle.job.specs.Text.{digits}

-- a fact of both branches holds of the branch taken
by_test : (P : List ℕ → Type 0) (b : Bool) (x y : List ℕ) → (b ≡ true → P x) → (b ≡ false → P y) → P (cond b x y)
by_test P true x y f g = f refl
by_test P false x y f g = g refl

-- n below 10 ^ (j + 1) has at most j + 1 digits
pub length_digits : (k j n : ℕ) → n < 10 * 10 ^ j → length (digits k n) ≤ suc j
unfolding digits
length_digits zero j n h = omega arith
length_digits (suc k) zero n h =
    by_test (λ (l : List ℕ). length l ≤ 1) (ltb n 10) _ _ (λ e. omega arith)
    (λ e. let g : 10 ≤ n = ltb-false n 10 e in omega arith)
length_digits (suc k) (suc j) n h =
    by_test (λ (l : List ℕ). length l ≤ suc (suc j)) (ltb n 10) _ _ (λ e. omega arith)
    (λ e.
    let shorter : length (digits k (n / 10)) ≤ suc j = length_digits k j (n / 10) (omega arith) in
    omega (arith, length-append (digits k (n / 10)) ((48 + n % 10) ∷ [])))

-- where k digits hold n, one more changes nothing
pub digits_more : (k n : ℕ) → n < 10 * 10 ^ k → digits (suc k) n ≡ digits (suc (suc k)) n
unfolding digits
digits_more zero n h = rw (lt-ltb n 10 (omega arith)) refl
digits_more (suc k) n h =
    ap (λ (l : List ℕ). cond (ltb n 10) ((48 + n) ∷ []) (l ++ ((48 + n % 10) ∷ []))) (digits_more k (n / 10) (omega arith))

-- a number below 10 is its digit
pub one_digit : (n : ℕ) → n < 10 → digits 20 n ≡ (48 + n) ∷ []
unfolding digits
one_digit n h = rw (lt-ltb n 10 h) refl

-- any other has the digits of its tenth before its last
pub digits_last : (n : ℕ) → 10 ≤ n → n < 2 ^ 64 → digits 20 n ≡ digits 20 (n / 10) ++ ((48 + n % 10) ∷ [])
unfolding digits
digits_last n h f =
    rw (le-ltb n 10 h) (ap (λ (l : List ℕ). l ++ ((48 + n % 10) ∷ [])) (digits_more 18 (n / 10) (omega arith)))

-- a number below 100 that is not below 10 is its two digits
pub two_digits : (n : ℕ) → 10 ≤ n → n < 100 → digits 20 n ≡ (48 + n / 10) ∷ (48 + n % 10) ∷ []
two_digits n h b =
    digits_last n h (omega arith)
    ∙ ap (λ (l : List ℕ). l ++ ((48 + n % 10) ∷ [])) (one_digit (n / 10) (omega arith))

-- any other has the digits of its hundredth before its last two
pub digits_last_two :
    (n : ℕ)
    → 100 ≤ n
    → n < 2 ^ 64
    → digits 20 n ≡ digits 20 (n / 100) ++ ((48 + n % 100 / 10) ∷ (48 + n % 100 % 10) ∷ [])
digits_last_two n h f =
    let hundredth : n / 10 / 10 ≡ n / 100 = omega arith in
    let ten : n / 10 % 10 ≡ n % 100 / 10 = omega arith in
    let one : n % 10 ≡ n % 100 % 10 = omega arith in
    rw (hundredth, ten, one) at
    (digits_last n (omega arith) f
    ∙ ap (λ (l : List ℕ). l ++ ((48 + n % 10) ∷ [])) (digits_last (n / 10) (omega arith) (omega arith))
    ∙ append_assoc (digits 20 (n / 10 / 10)) ((48 + n / 10 % 10) ∷ []) ((48 + n % 10) ∷ []))

-- a number below 2 ^ 64 has at most twenty digits
pub length_decimal : (n : ℕ) → n < 2 ^ 64 → length (digits 20 n) ≤ 20
length_decimal n h = length_digits 20 19 n (omega arith)

-- and its hundredth at most eighteen
pub length_hundredth : (n : ℕ) → n < 2 ^ 64 → length (digits 20 (n / 100)) ≤ 18
length_hundredth n h = length_digits 20 17 (n / 100) (omega arith)
