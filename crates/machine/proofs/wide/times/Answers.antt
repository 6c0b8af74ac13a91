-- `machine::wide::times` meets its contract: 8 times an index below 2^61 is a word, and any other product has two.
use Rattle.std.proofs.Common.{ℕ, ◌-◌, ◌*◌, ◌^◌, ◌<◌, ◌≤◌, mul-le-mul, arith}
use Rattle.words.proofs.ProductLaws.{product_number}
use Rattle.machine.proofs.wide.times.Goals as goal

word : (s x : ℕ) → s ≤ 8 → x < 2 ^ 61 → s * x ≤ 8 * (2 ^ 61 - 1)
word s x h k = let m : x ≤ 2 ^ 61 - 1 = omega arith in mul-le-mul h m

pub returns : goal.returns
returns c =
    let a = c.args in
    product_number 64 a.scale a.index _ _ c.mul_wide-product.ensures
