-- Words as signed numbers.
use Rattle.std.specs.Prelude.{ℕ, ◌-◌, ◌^◌, Bool, cond, ◌||◌, ℤ, pos, ◌+ℤ◌, ◌-ℤ◌, neg_ℤ, int_le, int_lt, nat_lt}

-- the signed number that an n-bit word is, two's complement: itself below 2^(n-1), and 2^n less from there on
unfoldable pub signed_word : ℕ → ℕ → ℤ
signed_word n x = cond (nat_lt x (2 ^ (n - 1))) (pos x) (pos x -ℤ pos (2 ^ n))

-- the sum of two n-bit words as signed numbers, plus c
unfoldable pub signed_sum : (n a b c : ℕ) → ℤ
signed_sum n a b c = signed_word n a +ℤ signed_word n b +ℤ pos c

-- whether a whole number leaves -2^(n-1) to 2^(n-1) - 1
unfoldable pub leaves : ℕ → ℤ → Bool
leaves n z = int_lt z (neg_ℤ (pos (2 ^ (n - 1)))) || int_le (pos (2 ^ (n - 1))) z
