-- `kept` meets its contract: the bits of each kind say what it keeps, by either evaluation. Assumes nothing.
use mathlib.Core.Path.{refl}
use native.Mathlib.Omega.{arith}
use Rattle.eval.specs.FlagRule.{base_rule, board_rule}
use Rattle.eval.specs.Watch.{touched, open_after, reads_open}
use Rattle.eval.proofs.CountedLaws.{keeps_as}
use Rattle.eval.proofs.counted.kept.Goals as goal

pub overflow_mul-bits : goal.overflow_mul-bits
overflow_mul-bits c = omega (arith, c.requires.0)

pub overflow_cast-result : goal.overflow_cast-result
overflow_cast-result c = omega (arith, c.requires.0)

pub overflow_shr-result : goal.overflow_shr-result
overflow_shr-result c = omega (arith, c.requires.0)

pub overflow_cast-result-in-Board : goal.overflow_cast-result-in-Board
overflow_cast-result-in-Board c = omega (arith, c.requires.0)

pub overflow_shr-result-in-Board : goal.overflow_shr-result-in-Board
overflow_shr-result-in-Board c = omega (arith, c.requires.0)

pub returns-in-Base : goal.returns-in-Base
unfolding touched open_after reads_open
returns-in-Base c =
    rw c.in-Base.is (keeps_as base_rule _ c.args.kind c.args.was c.requires.0 c.requires.1 refl)

pub returns-in-Board : goal.returns-in-Board
unfolding touched open_after reads_open
returns-in-Board c =
    rw c.in-Board.is (keeps_as board_rule _ c.args.kind c.args.was c.requires.0 c.requires.1 refl)
