-- Cells that the check accepts may be searched.
use Rattle.std.proofs.Common.{sym}
use Rattle.machine.proofs.Accepting.{accepted_of, searchable_of}
use Rattle.machine_main.proofs.searches.cell.Goals as goal

pub cell_of-requires-clause-searchable : goal.cell_of-requires-clause-searchable
cell_of-requires-clause-searchable c = searchable_of _ _ _ (accepted_of _ _ _ (sym c.in-Ok.ensures))
