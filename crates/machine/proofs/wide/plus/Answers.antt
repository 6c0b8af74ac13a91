-- `machine::wide::plus` meets its contract: the carry of the low words goes into the high word, which has room for it below 2^80.
use Rattle.std.proofs.Common.{arith}
use Rattle.words.proofs.SumLaws.{added_number}
use Rattle.machine.proofs.wide.plus.Goals as goal

pub returns : goal.returns
returns c =
    let sum = c.plus-sum in
    omega (arith, added_number 64 _ sum.result.word sum.result.carry sum.ensures (omega arith))
