-- What is decoded says which operand it is: a constant and Rsp are no destination, and memory is one where its cell is found. Assumes
-- nothing.
use Rattle.eval.proofs.Asked.{register_inside, is_memory, destination_inside, destination_fits, no_constant, no_rsp, resolves_register, resolves_cell, no_cell}
use Rattle.eval.proofs.operand.resolve.Goals as goal

pub returns-then-is_rsp : goal.returns-then-is_rsp
returns-then-is_rsp c = search no_rsp

pub bounds-regs-index : goal.bounds-regs-index
bounds-regs-index c = search register_inside

pub cell_at-cell-requires : goal.cell_at-cell-requires
cell_at-cell-requires c = search is_memory

pub returns-then-cell-ne0 : goal.returns-then-cell-ne0
returns-then-cell-ne0 c = search no_cell

pub offset_bounds-values-index : goal.offset_bounds-values-index
offset_bounds-values-index c =
    destination_fits _ _ _ c.form_at.ensures _ _ _ _ c.requires.long c.in-Memory.is _ c.if-cell-ne0.false c.cell_at-cell.ensures (search)

pub bounds-values-index : goal.bounds-values-index
bounds-values-index c =
    destination_inside _ _ _ c.form_at.ensures _ _ _ _ c.requires.long c.in-Memory.is _ c.if-cell-ne0.false c.cell_at-cell.ensures

pub returns-in-Const : goal.returns-in-Const
returns-in-Const c = search no_constant

pub returns-else-is_rsp : goal.returns-else-is_rsp
returns-else-is_rsp c = search resolves_register

pub returns-else-cell-ne0 : goal.returns-else-cell-ne0
returns-else-cell-ne0 c = search resolves_cell
