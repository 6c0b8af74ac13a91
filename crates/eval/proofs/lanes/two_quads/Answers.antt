-- The quad that is written, and the flags, are those of the kind. Assumes nothing.
use Rattle.eval.proofs.LaneLaws.{quads_done}
use Rattle.eval.proofs.lanes.two_quads.Goals as goal

pub returns : goal.returns
returns c = search quads_done
