-- The word, the field and the end of the line follow each other.
use native.Mathlib.Omega.{arith}
use Rattle.job.proofs.Writing.{◌▸◌, looser}
use Rattle.job.proofs.text.Page.put_line.Goals as goal

pub returns : goal.returns
returns c = looser (omega arith) (c.put_word.ensures ▸ c.put_field.ensures ▸ c.put_byte.ensures)
