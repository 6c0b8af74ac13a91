-- In each turn the first i registers are read.
use Rattle.job.proofs.Numbers.{Taken}
use Rattle.job.proofs.read.read_regs.Given as goal

abbrev pub invariant-loop-i : goal.invariant-loop-i
invariant-loop-i l = Taken 8 8 l.input 20 l.initial.word-items l.i l.word-items
