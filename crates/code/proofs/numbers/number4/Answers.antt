-- `code::numbers::number4` meets its contract: a number of four bytes is made of its two halves.
-- Assumes nothing.
use native.Mathlib.Omega.{arith}
use Rattle.code.proofs.NumberLaws.{number_split}
use Rattle.code.proofs.numbers.number4.Goals as goal

pub returns : goal.returns
returns c =
    omega (arith, number_split c.args.code.now c.args.at 2 2)
