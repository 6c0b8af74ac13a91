-- A destination that cannot be written ends the run with its number; else it takes the pair that the index names. Assumes nothing.
use mathlib.Core.List.{[]}
use native.Mathlib.Omega.{arith}
use Rattle.eval.proofs.Asked.{operand_starts, extracts_nowhere, extracts}
use Rattle.eval.proofs.lanes.extract.Goals as goal

pub overflow_add-at : goal.overflow_add-at
overflow_add-at c = omega (arith, operand_starts)

pub returns-then-dst-gt1 : goal.returns-then-dst-gt1
returns-then-dst-gt1 c = let s = c.args.state.now in let dst = c.resolve-dst.ensures s.flags s.xmms in rw c.at.ensures (search extracts_nowhere)

pub overflow_add-at-2 : goal.overflow_add-at-2
overflow_add-at-2 c = omega (arith, operand_starts)

pub bounds-lent-at : goal.bounds-lent-at
bounds-lent-at c = omega (arith, operand_starts)

pub overflow_add-at-3 : goal.overflow_add-at-3
overflow_add-at-3 c = omega (arith, operand_starts)

pub bounds-lent-at-2 : goal.bounds-lent-at-2
bounds-lent-at-2 c = omega (arith, operand_starts)

pub put-requires : goal.put-requires
put-requires c = search (c.resolve-dst.ensures 0 []).bounds

pub returns : goal.returns
returns c = let s = c.args.state.now in let dst = c.resolve-dst.ensures s.flags s.xmms in search extracts
