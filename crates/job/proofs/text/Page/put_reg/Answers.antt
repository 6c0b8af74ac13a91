-- A register that is 0 prints nothing; else name, field and the end of the line follow each other.
use native.Mathlib.Omega.{arith}
use borrow.Author.Tests.{eq-eqb, ne_eqb}
use Rattle.job.proofs.Writing.{◌▸◌, spelled, looser, wrote_none}
use Rattle.job.proofs.Choices.{when_true, when_false}
use Rattle.job.proofs.text.Page.put_reg.Goals as goal

pub returns-then-value-eq0 : goal.returns-then-value-eq0
returns-then-value-eq0 c = looser (omega arith) (spelled (when_true _ _ (eq-eqb _ _ c.if-value-eq0.true)) (wrote_none _))

pub returns : goal.returns
returns c =
    spelled (when_false _ _ (ne_eqb _ _ c.if-value-eq0.false)) (c.put_name.ensures ▸ c.put_field.ensures ▸ c.put_byte.ensures)
