-- Sums, differences and products of n-bit words.
use Rattle.std.specs.Prelude.{◌≡◌, ℕ, ◌+◌, ◌-◌, ◌*◌, ◌/◌, ◌%◌, ◌^◌, Bool, nat_le, nat_lt}

-- the n-bit word of a sum
unfoldable pub sum_mod : ℕ → ℕ → ℕ
sum_mod n s = s % 2 ^ n

-- whether a sum leaves n bits
unfoldable pub sum_carry : ℕ → ℕ → Bool
sum_carry n s = nat_le (2 ^ n) s

-- a - b modulo 2^n, for n-bit words
unfoldable pub sub_mod : ℕ → ℕ → ℕ → ℕ
sub_mod n a b = (a + (2 ^ n - b)) % 2 ^ n

-- `mul_div`: the high word of a product
unfoldable pub mul_div : ℕ → ℕ → ℕ → ℕ
mul_div n a b = a * b / 2 ^ n

-- `mul_mod`: the low word of a product
unfoldable pub mul_mod : ℕ → ℕ → ℕ → ℕ
mul_mod n a b = a * b % 2 ^ n

-- the n-bit word of the sum s, and its carry
pub record Added (n s word : ℕ) (carry : Bool) : Type 0 where
  pub word_is : word ≡ sum_mod n s
  pub carry_is : carry ≡ sum_carry n s

-- the n-bit word of a - b, and its borrow
pub record Subtracted (n a b word : ℕ) (borrow : Bool) : Type 0 where
  pub word_is : word ≡ sub_mod n a b
  pub borrow_is : borrow ≡ nat_lt a b

-- the two n-bit words of a product
pub record Product (n a b low high : ℕ) : Type 0 where
  pub low_is : low ≡ mul_mod n a b
  pub high_is : high ≡ mul_div n a b
