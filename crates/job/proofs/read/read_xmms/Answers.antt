-- In each turn the first i words are read.
use native.Mathlib.Omega.{arith}
use Rattle.job.proofs.Numbers.{taken_none, taken_more}
use Rattle.job.proofs.read.read_xmms.Goals as goal

pub loop-i-init : goal.loop-i-init
loop-i-init c = taken_none 4 4 _ _ _

pub loop-i-preserved : goal.loop-i-preserved
loop-i-preserved c = taken_more c.loop-i.invariant (omega arith) c.number4.ensures.0
