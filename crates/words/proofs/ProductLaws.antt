-- The two words of a product are its digits in base 2 ^ n.
use Rattle.std.proofs.Common.{◌≡◌, ℕ, ◌+◌, ◌*◌, ◌^◌, ◌<◌, lt_of_le_of_lt, le_of_lt, mod-lt, div-lt_iff_lt-mul, mul-le-mul_left, mul-lt-mul_of_pos_right, div-add-mod', pow_pos}
use Rattle.words.specs.Sums.{mul_div, mul_mod, Product}

pub mul_mod_lt : (n a b : ℕ) → mul_mod n a b < 2 ^ n
unfolding mul_mod
mul_mod_lt n a b = mod-lt (a * b) (pow_pos n)

pub mul_div_lt : (n : ℕ) {a b : ℕ} → a < 2 ^ n → b < 2 ^ n → mul_div n a b < 2 ^ n
unfolding mul_div
mul_div_lt n {a} {b} ha hb =
    (div-lt_iff_lt-mul (pow_pos n)).1 (lt_of_le_of_lt (mul-le-mul_left a (le_of_lt hb)) (mul-lt-mul_of_pos_right ha (pow_pos n)))

-- the number that the two words of a product spell
pub product_number : (n a b low high : ℕ) → Product n a b low high → high * 2 ^ n + low ≡ a * b
unfolding mul_mod mul_div
product_number n a b low high p = rw (p.low_is, p.high_is) (div-add-mod' (a * b) (2 ^ n))
