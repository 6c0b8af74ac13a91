-- A copy of the registers takes the word where the slot is one of them. Assumes nothing.
use native.Mathlib.Omega.{arith}
use borrow.Author.Tests.{eq-eqb, ne_eqb}
use Rattle.eval.proofs.operand.registers_with.Goals as goal

pub offset_bounds-after-t : goal.offset_bounds-after-t
offset_bounds-after-t c = omega (arith, c.requires c.if-t-eq0.true)

pub bounds-after-t : goal.bounds-after-t
bounds-after-t c = c.requires c.if-t-eq0.true

pub returns-then-t-eq0 : goal.returns-then-t-eq0
returns-then-t-eq0 c = rw (eq-eqb c.args.t.how 0 c.if-t-eq0.true)

pub returns-else-t-eq0 : goal.returns-else-t-eq0
returns-else-t-eq0 c = rw (ne_eqb c.args.t.how 0 c.if-t-eq0.false)
