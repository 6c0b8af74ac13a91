-- `iand` and `ixor` go through two lists of n bits, and the language's `&` and `^` through the binary digits of two numbers: both give the
-- lowest bit and go on with the halves, so induction on n shows them equal.
use Rattle.std.proofs.Common.{◌≡◌, ℕ, zero, suc, ◌+◌, ◌*◌, ◌/◌, ◌%◌, ◌^◌, ◌<◌, min, Bool, true, false, ◌&&◌, eqb, sym, refl, ap, ◌∙◌, ap₂, le_of_suc-le-suc, mod-lt, zero-lt-suc, div-lt_iff_lt-mul, pow-suc, div-one, one-add, arith, shr-shr}
use mathlib.Core.Bool.{xor}
use lib.Arith.{lt-one}
use lib.Bits.{bit_and, bit_xor, differ, and_step, xor_step}
use Rattle.words.specs.Bits.{bit, to_vec, from_vec, map2, iand, ixor}

-- bit j of a number
unfoldable pub bit_of : ℕ → ℕ → Bool
bit_of x j = eqb (x / 2 ^ j % 2) 1

pub bit_lt : (b : Bool) → bit b < 2
bit_lt true = omega arith
bit_lt false = omega arith

pub bit_test : (b : Bool) → eqb (bit b) 1 ≡ b
bit_test true = refl
bit_test false = refl

-- the lowest bit of a number made of one, and the rest
low_bit : (b : Bool) (v : ℕ) → (bit b + 2 * v) % 2 ≡ bit b
low_bit b v = omega (arith, bit_lt b)

rest : (b : Bool) (v : ℕ) → (bit b + 2 * v) / 2 ≡ v
rest b v = omega (arith, bit_lt b)

pub half_lt : {x : ℕ} (n : ℕ) → x < 2 ^ suc n → x / 2 < 2 ^ n
half_lt n h = (div-lt_iff_lt-mul (zero-lt-suc 1)).1 (rw pow-suc at h)

-- bit 0, and bit j + 1 as bit j of the half
bit_first : (b : Bool) (v : ℕ) → bit_of (bit b + 2 * v) 0 ≡ b
unfolding bit_of
bit_first b v = ap (λ (x : ℕ). eqb (x % 2) 1) (div-one (bit b + 2 * v)) ∙ ap (λ (x : ℕ). eqb x 1) (low_bit b v) ∙ bit_test b

bit_next : (x j : ℕ) → bit_of x (suc j) ≡ bit_of (x / 2) j
unfolding bit_of
bit_next x j = ap (λ (y : ℕ). eqb (y % 2) 1) (ap (λ (k : ℕ). x / 2 ^ k) (sym (one-add j)) ∙ sym (shr-shr x 1 j))

bit_zero : (x : ℕ) → eqb (x % 2) 1 ≡ bit_of x 0
unfolding bit_of
bit_zero x = ap (λ (y : ℕ). eqb (y % 2) 1) (sym (div-one x))

-- ---- for any operation f on two bits

module _ (f : Bool → Bool → Bool) where
  abbrev both : ℕ → ℕ → ℕ → ℕ
  both n x y = from_vec (map2 f (to_vec n x) (to_vec n y))

  both_lt : (n x y : ℕ) → both n x y < 2 ^ n
  unfolding from_vec map2 to_vec
  both_lt zero x y = omega arith
  both_lt (suc n) x y =
      rw pow-suc (omega (arith, both_lt n (x / 2) (y / 2), bit_lt (f (eqb (x % 2) 1) (eqb (y % 2) 1))))

  both_bit : (n x y j : ℕ) → j < n → bit_of (both n x y) j ≡ f (bit_of x j) (bit_of y j)
  unfolding from_vec map2 to_vec
  both_bit zero x y j h = absurd (omega arith)
  both_bit (suc n) x y zero h =
      bit_first (f (eqb (x % 2) 1) (eqb (y % 2) 1)) (both n (x / 2) (y / 2)) ∙ ap₂ f (bit_zero x) (bit_zero y)
  both_bit (suc n) x y (suc j) h =
      bit_next (bit (f (eqb (x % 2) 1) (eqb (y % 2) 1)) + 2 * both n (x / 2) (y / 2)) j
      ∙ ap (λ (z : ℕ). bit_of z j) (rest (f (eqb (x % 2) 1) (eqb (y % 2) 1)) (both n (x / 2) (y / 2)))
      ∙ both_bit n (x / 2) (y / 2) j (le_of_suc-le-suc h)
      ∙ ap₂ f (sym (bit_next x j)) (sym (bit_next y j))

  -- op is f, digit by digit
  module _ (op : ℕ → ℕ → ℕ) (g : ℕ → ℕ → ℕ) (step : (a b : ℕ) → op a b ≡ op (a / 2) (b / 2) * 2 + g (a % 2) (b % 2))
      (zeros : op 0 0 ≡ 0) (digit : (a b : ℕ) → a < 2 → b < 2 → bit (f (eqb a 1) (eqb b 1)) ≡ g a b) where
    both_op : (n x y : ℕ) → x < 2 ^ n → y < 2 ^ n → both n x y ≡ op x y
    unfolding from_vec map2 to_vec
    both_op zero x y hx hy = sym (ap₂ op (lt-one hx) (lt-one hy) ∙ zeros)
    both_op (suc n) x y hx hy =
        ap₂ (λ (d r : ℕ). d + 2 * r) (digit (x % 2) (y % 2) (mod-lt x (zero-lt-suc 1)) (mod-lt y (zero-lt-suc 1)))
        (both_op n (x / 2) (y / 2) (half_lt n hx) (half_lt n hy))
        ∙ turned (g (x % 2) (y % 2)) (op (x / 2) (y / 2))
        ∙ sym (step x y)
      where
        turned : (d r : ℕ) → d + 2 * r ≡ r * 2 + d
        turned d r = omega arith

-- ---- `&`

and_digit : (a b : ℕ) → a < 2 → b < 2 → bit (eqb a 1 && eqb b 1) ≡ min a b
and_digit a b ha hb = grind arith

pub iand_is : (n x y : ℕ) → x < 2 ^ n → y < 2 ^ n → iand n x y ≡ bit_and x y
unfolding iand
iand_is n x y hx hy = both_op ◌&&◌ bit_and min and_step refl and_digit n x y hx hy

pub iand_lt : (n x y : ℕ) → iand n x y < 2 ^ n
unfolding iand
iand_lt n x y = both_lt ◌&&◌ n x y

pub iand_bit : (n x y j : ℕ) → j < n → bit_of (iand n x y) j ≡ (bit_of x j && bit_of y j)
unfolding iand
iand_bit n x y j h = both_bit ◌&&◌ n x y j h

-- ---- `^`

xor_digit : (a b : ℕ) → a < 2 → b < 2 → bit (xor (eqb a 1) (eqb b 1)) ≡ differ a b
unfolding xor
xor_digit a b ha hb = grind arith

pub ixor_is : (n x y : ℕ) → x < 2 ^ n → y < 2 ^ n → ixor n x y ≡ bit_xor x y
unfolding ixor
ixor_is n x y hx hy = both_op xor bit_xor differ xor_step refl xor_digit n x y hx hy

pub ixor_lt : (n x y : ℕ) → ixor n x y < 2 ^ n
unfolding ixor
ixor_lt n x y = both_lt xor n x y

pub ixor_bit : (n x y j : ℕ) → j < n → bit_of (ixor n x y) j ≡ xor (bit_of x j) (bit_of y j)
unfolding ixor
ixor_bit n x y j h = both_bit xor n x y j h

xor_same : (b : Bool) → xor b b ≡ false
unfolding xor
xor_same true = refl
xor_same false = refl

pub ixor_self : (n x : ℕ) → ixor n x x ≡ 0
unfolding ixor from_vec map2 to_vec
ixor_self zero x = refl
ixor_self (suc n) x = ap₂ (λ (b : Bool) (v : ℕ). bit b + 2 * v) (xor_same (eqb (x % 2) 1)) (ixor_self n (x / 2))
