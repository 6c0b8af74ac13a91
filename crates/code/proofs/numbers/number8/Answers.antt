-- `code::numbers::number8` meets its contract: a number of eight bytes is made of its two halves.
-- Assumes nothing.
use native.Mathlib.Omega.{arith}
use Rattle.code.proofs.NumberLaws.{number_split}
use Rattle.code.proofs.numbers.number8.Goals as goal

pub returns : goal.returns
returns c =
    omega (arith, number_split c.args.code.now c.args.at 4 4)
