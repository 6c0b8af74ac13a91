-- Only the kind of Paddd takes the fill word.
use borrow.Author.Tests.{eq-eqb, ne_eqb}
use Rattle.eval.specs.Instructions.{quads_flags}
use Rattle.eval.proofs.lanes.quads_flags.Goals as goal

pub returns-then-kind-eq15 : goal.returns-then-kind-eq15
unfolding quads_flags
returns-then-kind-eq15 c = rw (eq-eqb _ 0x0f c.if-kind-eq15.true)

pub returns-else-kind-eq15 : goal.returns-else-kind-eq15
unfolding quads_flags
returns-else-kind-eq15 c = rw (ne_eqb _ 0x0f c.if-kind-eq15.false)
