-- Cells that the check accepts may be searched.
use Rattle.std.proofs.Common.{sym}
use Rattle.machine.proofs.Accepting.{accepted_of, searchable_of}
use Rattle.machine_main.proofs.searches.find.Goals as goal

pub find_cell-requires : goal.find_cell-requires
find_cell-requires c = searchable_of _ _ _ (accepted_of _ _ _ (sym c.in-Ok.ensures))
