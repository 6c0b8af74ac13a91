-- `machine::cells::check_from` meets its contract. The invariant: what is left to check, from the running end on, has the verdict of
-- all that was to be checked. One turn is one step of `check_from`.
use Rattle.std.proofs.Common.{◌≡◌, drop}
use Rattle.machine.specs.Wide.{number}
use Rattle.machine.specs.Cells.{check_from}
use Rattle.machine.proofs.cells.check_from.Given as goal

abbrev pub invariant-loop-place : goal.invariant-loop-place
invariant-loop-place l =
    check_from l.from (number l.initial.last) (drop l.from l.addresses) (drop l.from l.tags) (drop l.from l.values)
    ≡ check_from l.place (number l.last) (drop l.place l.addresses) (drop l.place l.tags) (drop l.place l.values)
