-- In each turn the cells from i on are left to print.
use native.Mathlib.Omega.{arith}
use Rattle.job.proofs.Writing.{left_less, left_none}
use Rattle.job.proofs.Rests.{cells_rest, cells_none}
use Rattle.job.proofs.text.Page.put_cells.Goals as goal

pub loop-i-preserved : goal.loop-i-preserved
loop-i-preserved c =
    let args = c.args in
    let rest =
    cells_rest args.addresses.now args.tags.now args.values.now c.loop-i.i (omega arith) (omega arith) (omega arith)
    in
    (omega arith, left_less _ _ rest c.loop-i.invariant.1 c.put_cell-page.ensures)

pub returns : goal.returns
returns c =
    let args = c.args in
    let none = cells_none args.addresses.now args.tags.now args.values.now c.loop-i.i (omega arith) in
    left_none none c.loop-i.invariant.1 (omega arith)
