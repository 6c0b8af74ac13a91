-- In each turn the first i cells are read.
use Rattle.job.proofs.Numbers.{Taken}
use Rattle.job.proofs.cells.read_cells.Given as goal

abbrev pub invariant-loop-i : goal.invariant-loop-i
invariant-loop-i l =
    Taken 8 17 l.input 406 l.initial.addresses l.i l.addresses
    × Taken 1 17 l.input 414 l.initial.tags l.i l.tags
    × Taken 8 17 l.input 415 l.initial.values l.i l.values
