-- The word, the number, and the place to the end of the line.
use native.Mathlib.Omega.{arith}
use Rattle.job.proofs.Writing.{◌▸◌, looser}
use Rattle.job.proofs.text.Page.put_numbered.Goals as goal

pub returns : goal.returns
returns c = looser (omega (arith, c.requires.short)) (c.put_word.ensures ▸ (rw c.from.ensures at c.put_field.ensures) ▸ c.put_line.ensures)
