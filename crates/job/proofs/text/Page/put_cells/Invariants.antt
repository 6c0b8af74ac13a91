-- In each turn the cells from i on are left to print.
use Rattle.std.proofs.Common.{◌+◌, ◌*◌, ◌≤◌}
use Rattle.job.specs.Text.{cell_lines}
use Rattle.job.proofs.Writing.{Left}
use Rattle.job.proofs.Rests.{cells_from}
use Rattle.job.proofs.text.Page.put_cells.Given as goal

abbrev pub invariant-loop-i : goal.invariant-loop-i
invariant-loop-i l =
    (l.page.at ≤ l.initial.page.at + 51 * l.i)
    × Left l.initial.page (cell_lines l.addresses l.tags l.values) l.page (cells_from l.i l.addresses l.tags l.values)
