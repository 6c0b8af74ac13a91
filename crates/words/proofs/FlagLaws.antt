-- An update takes one bit out of the flags and puts the new one in: f - f % 2 + b for the carry, and the same at 2048 for overflow. What is
-- said of the other bits is then arithmetic.
use Rattle.std.proofs.Common.{◌≡◌, ℕ, ◌+◌, ◌-◌, ◌*◌, ◌/◌, ◌%◌, ◌^◌, ◌<◌, Bool, true, false, arith}
use Rattle.words.specs.Bits.{bit}
use Rattle.words.specs.Flags.{cf, overflow, update_cf, update_of}
use Rattle.words.proofs.BitLaws.{bit_lt}

-- ---- carry

pub update_cf_is : (f : ℕ) (b : Bool) → update_cf f b ≡ f - f % 2 + bit b
unfolding update_cf cf
update_cf_is f true = grind arith
update_cf_is f false = grind arith

pub cf_update_cf : (f : ℕ) (b : Bool) → cf (update_cf f b) ≡ b
unfolding update_cf cf
cf_update_cf f true = grind arith
cf_update_cf f false = grind arith

-- the other 63 bits stay
pub update_cf_rest : (f : ℕ) (b : Bool) → update_cf f b / 2 ≡ f / 2
update_cf_rest f b = omega (arith, update_cf_is f b, bit_lt b)

pub overflow_update_cf : (f : ℕ) (b : Bool) → overflow (update_cf f b) ≡ overflow f
unfolding overflow
overflow_update_cf f b = grind (arith, update_cf_rest f b)

pub update_cf_lt : (f : ℕ) (b : Bool) → f < 2 ^ 64 → update_cf f b < 2 ^ 64
update_cf_lt f b h = omega (arith, update_cf_rest f b)

-- ---- overflow

pub update_of_is : (f : ℕ) (b : Bool) → update_of f b ≡ f - f / 2048 % 2 * 2048 + bit b * 2048
unfolding update_of overflow
update_of_is f true = grind arith
update_of_is f false = grind arith

pub overflow_update_of : (f : ℕ) (b : Bool) → overflow (update_of f b) ≡ b
unfolding update_of overflow
overflow_update_of f true = grind arith
overflow_update_of f false = grind arith

-- the other 63 bits stay
pub update_of_low : (f : ℕ) (b : Bool) → update_of f b % 2048 ≡ f % 2048
update_of_low f b = omega (arith, update_of_is f b, bit_lt b)

pub update_of_high : (f : ℕ) (b : Bool) → update_of f b / 4096 ≡ f / 4096
update_of_high f b = omega (arith, update_of_is f b, bit_lt b)

pub cf_update_of : (f : ℕ) (b : Bool) → cf (update_of f b) ≡ cf f
unfolding cf
cf_update_of f b = grind (arith, update_of_low f b)

pub update_of_lt : (f : ℕ) (b : Bool) → f < 2 ^ 64 → update_of f b < 2 ^ 64
update_of_lt f b h = omega (arith, update_of_high f b)
