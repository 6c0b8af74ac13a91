-- A count that is not 4 is the fault 35; else the quad is shifted by a word. Assumes nothing.
use Rattle.eval.proofs.LaneLaws.{word_shift_fails, word_shift_done}
use Rattle.eval.proofs.lanes.shift_by_word.Goals as goal

pub returns-then-lent-at-ne4 : goal.returns-then-lent-at-ne4
returns-then-lent-at-ne4 c = rw c.at.ensures (search word_shift_fails)

pub returns : goal.returns
returns c = search word_shift_done
