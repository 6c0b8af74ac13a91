-- A source that cannot be read ends the run with its number; else its word goes into the quad. Assumes nothing.
use native.Mathlib.Omega.{arith}
use Rattle.eval.proofs.Asked.{operand_starts, inserts_nothing, inserts}
use Rattle.eval.proofs.lanes.insert.Goals as goal

pub overflow_add-at : goal.overflow_add-at
overflow_add-at c = omega (arith, operand_starts)

pub returns-then-src-ne0 : goal.returns-then-src-ne0
returns-then-src-ne0 c = rw c.at.ensures (search inserts_nothing)

pub overflow_add-dst : goal.overflow_add-dst
overflow_add-dst c = omega (arith, operand_starts)

pub bounds-lent-at : goal.bounds-lent-at
bounds-lent-at c = omega (arith, operand_starts)

pub bounds-lent-at-2 : goal.bounds-lent-at-2
bounds-lent-at-2 c = omega (arith, operand_starts)

pub overflow_add-at-2 : goal.overflow_add-at-2
overflow_add-at-2 c = omega (arith, operand_starts)

pub bounds-lent-at-3 : goal.bounds-lent-at-3
bounds-lent-at-3 c = omega (arith, operand_starts)

pub returns : goal.returns
returns c = let kind = c.requires.at_value in search inserts
