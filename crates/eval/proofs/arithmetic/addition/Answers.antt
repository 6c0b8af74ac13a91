-- Each evaluation has its rule.
use Rattle.eval.specs.FlagRule.{base_flags}
use Rattle.eval.proofs.arithmetic.addition.Goals as goal

pub returns-in-Base : goal.returns-in-Base
unfolding base_flags
returns-in-Base c = rw c.in-Base.is c.carry_addition.ensures

pub returns-in-Board : goal.returns-in-Board
returns-in-Board c = let a = c.args in rw c.in-Board.is (c.board_addition.ensures a.flags)
