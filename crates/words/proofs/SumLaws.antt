-- A sum of two n-bit words and a carry is below 2 ^ n twice over, so it wraps at most once, and then it lies below each of its terms.
use Rattle.std.proofs.Common.{◌≡◌, ℕ, ◌+◌, ◌-◌, ◌*◌, ◌%◌, ◌^◌, ◌<◌, ◌≤◌, Bool, true, false, leb, ◌⊎◌, ◌||◌, sym, refl, ap, ◌∙◌, inl, inr, mod-lt, mod-eq_of_lt, arith, pow_pos, le-leb, leb-true, leb-false}
use native.Mathlib.Nat.{mod-add-mod, mod-eq-sub-mod}
use native.Mathlib.Decide.{dec_lt}
use Rattle.words.specs.Bits.{bit}
use Rattle.words.specs.Sums.{sum_mod, sum_carry, sub_mod, Added, Subtracted}

pub sum_mod_lt : (n s : ℕ) → sum_mod n s < 2 ^ n
unfolding sum_mod
sum_mod_lt n s = mod-lt s (pow_pos n)

pub sub_mod_lt : (n a b : ℕ) → sub_mod n a b < 2 ^ n
unfolding sub_mod
sub_mod_lt n a b = mod-lt (a + (2 ^ n - b)) (pow_pos n)

-- a sum below twice the modulus wraps at most once
once : (m s : ℕ) → s < m + m → Dec (s < m) → ((s < m) × (s % m ≡ s)) ⊎ ((m ≤ s) × (s % m + m ≡ s))
once m s h (yes p) = inl (p, mod-eq_of_lt p)
once m s h (no p) =
    let q : m ≤ s = omega arith in
    let e : s % m ≡ s - m = mod-eq-sub-mod q ∙ mod-eq_of_lt (omega arith) in
    inr (q, omega arith)

-- ---- the sum in two steps: first the words, then the carry

module _ (n s part c word : ℕ) (out over : Bool) (first : Added n s part out) (second : Added n (part + c) word over) where
  add_word : word ≡ sum_mod n (s + c)
  unfolding sum_mod
  add_word = second.word_is ∙ ap (λ (x : ℕ). (x + c) % 2 ^ n) first.word_is ∙ mod-add-mod s (2 ^ n) c

  -- the second step may carry only where the first does not
  add_carry : (t : Bool) → leb (2 ^ n) s ≡ t → (t || over) ≡ sum_carry n (s + c)
  unfolding sum_mod sum_carry
  add_carry true p = sym (le-leb (2 ^ n) (s + c) (omega (arith, leb-true (2 ^ n) s p)))
  add_carry false p =
      second.carry_is ∙ ap (λ (x : ℕ). leb (2 ^ n) (x + c)) (first.word_is ∙ mod-eq_of_lt (leb-false (2 ^ n) s p))

  pub added_both : Added n (s + c) word (out || over)
  unfolding sum_carry
  added_both = record { word_is = add_word; carry_is = ap (λ (t : Bool). t || over) first.carry_is ∙ add_carry (leb (2 ^ n) s) refl }

-- ---- the number that a word and what left it spell

pub added_number : (n s word : ℕ) (carry : Bool) → Added n s word carry → s < 2 ^ n + 2 ^ n → word + bit carry * 2 ^ n ≡ s
unfolding sum_mod sum_carry
added_number n s word true a h = grind (arith, once (2 ^ n) s h (dec_lt s (2 ^ n)))
added_number n s word false a h = grind (arith, once (2 ^ n) s h (dec_lt s (2 ^ n)))

pub subtracted_number : (n a b word : ℕ) (borrow : Bool) → Subtracted n a b word borrow → a < 2 ^ n → b < 2 ^ n → word + b ≡ a + bit borrow * 2 ^ n
unfolding sub_mod
subtracted_number n a b word true s ha hb = grind (arith, once (2 ^ n) (a + (2 ^ n - b)) (omega arith) (dec_lt (a + (2 ^ n - b)) (2 ^ n)))
subtracted_number n a b word false s ha hb = grind (arith, once (2 ^ n) (a + (2 ^ n - b)) (omega arith) (dec_lt (a + (2 ^ n - b)) (2 ^ n)))
