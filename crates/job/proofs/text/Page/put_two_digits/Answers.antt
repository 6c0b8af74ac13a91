-- One digit, then the other.
use Rattle.job.proofs.Writing.{◌▸◌}
use Rattle.job.proofs.text.Page.put_two_digits.Goals as goal

pub returns : goal.returns
returns c = c.put_byte.ensures ▸ c.put_byte-2.ensures
