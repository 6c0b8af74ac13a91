-- A word as a signed number is the word, less 2 ^ n where it is negative. So a sum of two is the sum of the words, less 2 ^ n once for each negative
-- one, and where it leaves the range both have one sign and the word of the sum has the other; where it does not, the word of the sum is the sum.
use Rattle.std.proofs.Common.{◌≡◌, ℕ, suc, ◌+◌, ◌-◌, ◌*◌, ◌^◌, ◌<◌, ◌≤◌, Bool, true, false, not, ◌||◌, ◌&&◌, leb, ltb, ℤ, pos, negsuc, ◌+ℤ◌, refl, sym, ap, ◌∙◌, arith, pow_pos, to_z, of_z, ltb-true, ltb-false}
use Rattle.std.proofs.lemmas.Int.{ints, to_z_pos, of_z-to_z}
use mathlib.Core.Bool.{beq}
use lib.Signed.{lt_z, le_z}
use mir.Syntax.{Width}
use mir.Val.{bits, hbits}
use Rattle.words.specs.Bits.{bit}
use Rattle.words.specs.Signed.{signed_word, signed_sum, leaves}
use Rattle.words.specs.Sums.{Added}
use Rattle.words.proofs.BitLaws.{bit_lt}
use Rattle.words.proofs.SumLaws.{sum_mod_lt, added_number}

pub not_negative : (n x : ℕ) → x < 2 ^ (n - 1) → signed_word n x ≡ pos x
unfolding signed_word
not_negative n x h = grind (arith, ints)

pub is_negative : (n x : ℕ) → 2 ^ (n - 1) ≤ x → x < 2 ^ n → signed_word n x ≡ negsuc (2 ^ n - 1 - x)
unfolding signed_word
is_negative n x h k = grind (arith, ints)

-- ---- the language's signed integers, of width w, read a word so too
module _ (w : Width) (n r : ℕ) (full : 2 ^ n ≡ 2 ^ bits w) (half : 2 ^ (n - 1) ≡ 2 ^ hbits w) (fits : r < 2 ^ bits w) where
  read_signed : (b : Bool) → ltb r (2 ^ hbits w) ≡ b → to_z w r ≡ signed_word n r
  read_signed true p =
      let l : r < 2 ^ hbits w = ltb-true r (2 ^ hbits w) p in
      to_z_pos w r l ∙ sym (not_negative n r (omega arith))
  read_signed false p =
      let h : 2 ^ hbits w ≤ r = ltb-false r (2 ^ hbits w) p in
      rw p (sym (is_negative n r (omega arith) (omega arith) ∙ ap negsuc (omega arith)))

  pub signed_is : (z : ℤ) → z ≡ to_z w r → to_z w (of_z w z) ≡ signed_word n r
  signed_is z e = ap (λ (y : ℤ). to_z w (of_z w y)) e ∙ ap (to_z w) (of_z-to_z w r fits) ∙ read_signed (ltb r (2 ^ hbits w)) refl

-- ---- the range of n bits, from -(m + 1) to m
abbrev pub outside : ℕ → ℤ → Bool
outside m z = lt_z z (negsuc m) || le_z (pos (suc m)) z

pub is_outside : (n : ℕ) (z : ℤ) → leaves n z ≡ outside (2 ^ (n - 1) - 1) z
unfolding leaves
is_outside n z = grind (arith, ints, pow_pos (n - 1))

-- the number of a word is in the range
pub word_within : (n x : ℕ) → 2 ^ n ≡ 2 ^ (n - 1) + 2 ^ (n - 1) → x < 2 ^ n → leaves n (signed_word n x) ≡ false
unfolding leaves signed_word
word_within n x twice fits = grind (arith, ints)

-- ---- a sum of two words of n bits and a carry

-- whether a word is negative
abbrev negative : ℕ → ℕ → Bool
negative n x = leb (2 ^ (n - 1)) x

-- a word is its signed number, and 2 ^ n more where that is negative
spelled : (n x : ℕ) (p : Bool) → x < 2 ^ n → negative n x ≡ p → signed_word n x +ℤ pos (bit p * 2 ^ n) ≡ pos x
unfolding signed_word
spelled n x true h k = grind (arith, ints)
spelled n x false h k = grind (arith, ints)

module _ (n a b word : ℕ) (carry out : Bool) (twice : 2 ^ n ≡ 2 ^ (n - 1) + 2 ^ (n - 1)) (ha : a < 2 ^ n) (hb : b < 2 ^ n)
    (sum : Added n (a + b + bit carry) word out) where
  word_fits : word < 2 ^ n
  word_fits = rw sum.word_is (sum_mod_lt n (a + b + bit carry))

  -- the sum is its word, or 2 ^ n more
  parted : word + bit out * 2 ^ n ≡ a + b + bit carry
  parted = added_number n (a + b + bit carry) word out sum (omega (arith, bit_lt carry))

  word_spelled : (r : Bool) → negative n word ≡ r → signed_word n word +ℤ pos (bit r * 2 ^ n) ≡ pos word
  word_spelled r = spelled n word r word_fits

  module _ (p q : Bool) (h : negative n a ≡ p) (k : negative n b ≡ q) where
    both : signed_sum n a b (bit carry) +ℤ pos (bit p * 2 ^ n + bit q * 2 ^ n) ≡ pos (a + b + bit carry)
    unfolding signed_sum
    both = omega (arith, ints, spelled n a p ha h, spelled n b q hb k)

  -- by the signs of the two
  over : (p q : Bool) → negative n a ≡ p → negative n b ≡ q
      → leaves n (signed_sum n a b (bit carry)) ≡ (beq p q && not (beq p (negative n word)))
  unfolding leaves
  over true true h k = grind (arith, ints, both true true h k, parted, word_fits, bit_lt)
  over true false h k = grind (arith, ints, both true false h k, bit_lt)
  over false true h k = grind (arith, ints, both false true h k, bit_lt)
  over false false h k = grind (arith, ints, both false false h k, parted, bit_lt)

  pub overflows : leaves n (signed_sum n a b (bit carry)) ≡ (beq (negative n a) (negative n b) && not (beq (negative n a) (negative n word)))
  overflows = over (negative n a) (negative n b) refl refl

  word_is : (p q : Bool) → negative n a ≡ p → negative n b ≡ q → leaves n (signed_sum n a b (bit carry)) ≡ false
      → signed_word n word ≡ signed_sum n a b (bit carry)
  unfolding leaves
  word_is true true h k stays = grind (arith, ints, both true true h k, word_spelled true, word_spelled false, parted, word_fits, bit_lt)
  word_is true false h k stays = grind (arith, ints, both true false h k, word_spelled true, word_spelled false, parted, word_fits, bit_lt)
  word_is false true h k stays = grind (arith, ints, both false true h k, word_spelled true, word_spelled false, parted, word_fits, bit_lt)
  word_is false false h k stays = grind (arith, ints, both false false h k, word_spelled true, word_spelled false, parted, word_fits, bit_lt)

  pub word_is_sum : leaves n (signed_sum n a b (bit carry)) ≡ false → signed_word n word ≡ signed_sum n a b (bit carry)
  word_is_sum = word_is (negative n a) (negative n b) refl refl
