-- `machine::cells::only_place` meets its contract. The invariant: an index with that address lies in the part that is left. Addresses
-- ascend, so the middle one says on which side.
use Rattle.std.proofs.Common.{◌-◌}
use Rattle.machine.specs.Cells.{Part}
use Rattle.machine.proofs.cells.only_place.Given as goal

abbrev pub invariant-loop-high : goal.invariant-loop-high
invariant-loop-high l =
    Part l.addresses l.address l.low l.high

abbrev pub decreases-loop-high : goal.decreases-loop-high
decreases-loop-high l =
    l.high - l.low
