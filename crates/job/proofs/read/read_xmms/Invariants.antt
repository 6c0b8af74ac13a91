-- In each turn the first i words are read.
use Rattle.job.proofs.Numbers.{Taken}
use Rattle.job.proofs.read.read_xmms.Given as goal

abbrev pub invariant-loop-i : goal.invariant-loop-i
invariant-loop-i l = Taken 4 4 l.input 148 l.initial.word-items l.i l.word-items
