-- `code::reader::read_operands` meets its contract. The loop's invariant: reading all of the operands reaches what
-- reading those that are left reaches from here. Assumes nothing.
use Prim.Native.Nat.{◌+◌, ◌-◌}
use mathlib.Core.Path.{sym, ◌∙◌}
use native.Mathlib.Omega.{arith}
use Rattle.code.proofs.Reaches.{stopped, operands_go, operands_stop, operands_end}
use Rattle.code.proofs.reader.read_operands.Goals as goal

pub loop-preserved : goal.loop-preserved
loop-preserved c =
    let l = c.loop in
    l.invariant
    ∙ operands_go _ _ _ _ _ _ (c.args.count - (l.counter + 1)) (omega arith) c.read_operand.ensures c.in_ok-at.was

pub returns-in_err-at : goal.returns-in_err-at
returns-in_err-at c =
    stopped _ _ c.from_residual.ensures.1 _
    (operands_stop _ _ _ _ _ _ (λ e. omega arith) c.read_operand.ensures c.in_err-at.was ∙ sym c.loop.invariant)

pub returns : goal.returns
returns c = operands_end _ _ _ _ (omega arith) ∙ sym c.loop.invariant
