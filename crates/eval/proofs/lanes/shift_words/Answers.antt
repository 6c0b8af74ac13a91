-- An amount above 31 is the fault 34; else each word is shifted. Assumes nothing.
use Rattle.eval.proofs.LaneLaws.{shifts_fail, shifts_done}
use Rattle.eval.proofs.lanes.shift_words.Goals as goal

pub returns-then-amount-gt31 : goal.returns-then-amount-gt31
returns-then-amount-gt31 c = rw c.at.ensures (search shifts_fail)

pub returns : goal.returns
returns c = search shifts_done
