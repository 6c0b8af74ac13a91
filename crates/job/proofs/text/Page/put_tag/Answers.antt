-- A tag is below 256, so that it has three digits at most.
use Prim.Native.Nat.{◌<◌}
use native.Mathlib.Omega.{arith}
use Rattle.job.proofs.Writing.{counted}
use Rattle.job.proofs.Digits.{length_digits}
use Rattle.job.proofs.text.Page.put_tag.Goals as goal

pub returns : goal.returns
returns c =
    let tag = c.args.tag in
    let small : tag < 1000 = omega arith in
    let short = length_digits 20 2 tag small in
    counted (omega arith) (rw c.from.ensures at c.put_field.ensures)
