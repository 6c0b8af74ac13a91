-- The quad that is written is the source's, in the order of the imm8. Assumes nothing.
use Rattle.eval.proofs.LaneLaws.{shuffle_done}
use Rattle.eval.proofs.lanes.shuffle.Goals as goal

pub returns : goal.returns
returns c = search shuffle_done
