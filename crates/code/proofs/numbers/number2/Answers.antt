-- `code::numbers::number2` meets its contract: a number of two bytes is the low one and 256 times the high one.
-- Assumes nothing.
use Prim.Native.Nat.{◌+◌}
use native.Mathlib.Omega.{arith}
use Rattle.code.proofs.NumberLaws.{one_byte, number_split}
use Rattle.code.proofs.numbers.number2.Goals as goal

pub returns : goal.returns
returns c =
    let code = c.args.code.now in
    let at = c.args.at in
    omega (arith, number_split code at 1 1, one_byte code at, one_byte code (at + 1))
