-- `machine::cells::check_cells` meets its contract: the lengths and the count are tested first, and the rest is `check_from`.
use Rattle.machine.proofs.CellLaws.{tags_differ, values_differ, too_many, from_first}
use Rattle.machine.proofs.cells.check_cells.Goals as goal
use Rattle.machine.proofs.cells.check_cells.Goals.{then-tags-addresses-via-then-tags-addresses, then-tags-addresses-via-else-tags-addresses+then-values-addresses}

pub returns-then-tags-addresses : goal.returns-then-tags-addresses
returns-then-tags-addresses c =
    rw c.at.ensures
    (elim c.then-tags-addresses.branch [
      | then-tags-addresses-via-then-tags-addresses w ↦
          tags_differ c.args.addresses.now c.args.tags.now c.args.values.now w.if-tags-addresses.true
      | then-tags-addresses-via-else-tags-addresses+then-values-addresses w ↦
          values_differ c.args.addresses.now c.args.tags.now c.args.values.now w.if-tags-addresses.false w.if-values-addresses.true
    ])

pub returns-then-addresses-gt1024 : goal.returns-then-addresses-gt1024
returns-then-addresses-gt1024 c =
    rw c.at-then-addresses-gt1024.ensures
    (too_many c.args.addresses.now c.args.tags.now c.args.values.now
    (record { tags = c.if-tags-addresses.false; values = c.if-values-addresses.false }) c.if-addresses-gt1024.true)

-- from the first cell on, with the end 0
pub returns : goal.returns
returns c =
    from_first c.args.addresses.now c.args.tags.now c.args.values.now _ _ c.check_from.ensures c.from.ensures
    (record { tags = c.if-tags-addresses.false; values = c.if-values-addresses.false }) c.if-addresses-gt1024.false
