-- In each turn the first i registers are read.
use native.Mathlib.Omega.{arith}
use Rattle.job.proofs.Numbers.{taken_none, taken_more}
use Rattle.job.proofs.read.read_regs.Goals as goal

pub loop-i-init : goal.loop-i-init
loop-i-init c = taken_none 8 8 _ _ _

pub loop-i-preserved : goal.loop-i-preserved
loop-i-preserved c = taken_more c.loop-i.invariant (omega arith) c.number8.ensures
