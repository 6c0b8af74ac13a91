-- The word, the three fields and the end of the line follow each other.
use Rattle.job.proofs.Writing.{◌▸◌}
use Rattle.job.proofs.text.Page.put_cell.Goals as goal

pub returns : goal.returns
returns c = c.put_word.ensures ▸ c.put_field.ensures ▸ c.put_tag.ensures ▸ c.put_field-2.ensures ▸ c.put_byte.ensures
