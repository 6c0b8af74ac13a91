-- `eval::cycle::first_code` meets its contract: a Block has its length behind its kind. Assumes nothing.
use native.Mathlib.Omega.{arith}
use borrow.Author.Tests.{eq-eqb, ne_eqb}
use Rattle.eval.proofs.CycleLaws.{starts, has_length}
use Rattle.eval.proofs.cycle.first_code.Goals as goal

pub bounds-code-part : goal.bounds-code-part
bounds-code-part c = search starts

pub overflow_add-result : goal.overflow_add-result
overflow_add-result c = omega (arith, has_length _ _ c.requires (omega (arith, c.if-code-part-eq32.true)))

pub returns-then-code-part-eq32 : goal.returns-then-code-part-eq32
returns-then-code-part-eq32 c = rw (eq-eqb _ 0x20 c.if-code-part-eq32.true)

pub returns-else-code-part-eq32 : goal.returns-else-code-part-eq32
returns-else-code-part-eq32 c = rw (ne_eqb _ 0x20 c.if-code-part-eq32.false)
