-- Letters from the table below 8, the number from there on.
use native.Mathlib.Omega.{arith}
use Rattle.job.proofs.Writing.{◌▸◌, spelled, looser}
use Rattle.job.proofs.Choices.{name_short, name_long}
use Rattle.job.proofs.text.Page.put_name.Goals as goal

pub returns-then-i-lt8 : goal.returns-then-i-lt8
returns-then-i-lt8 c = looser (omega arith) (spelled (name_short _ c.if-i-lt8.true) (c.put_byte-page.ensures ▸ c.put_word.ensures))

pub returns-else-i-lt8 : goal.returns-else-i-lt8
returns-else-i-lt8 c = spelled (name_long _ c.if-i-lt8.false) (c.put_byte-page.ensures ▸ c.put_decimal.ensures)
