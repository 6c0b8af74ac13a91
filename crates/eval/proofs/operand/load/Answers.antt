-- What is decoded says which operand it is: its word is the constant, the register's or the cell's. Assumes nothing.
use Rattle.eval.proofs.Asked.{register_inside, is_memory, source_inside, source_fits, loads_constant, loads_register, loads_cell, loads_none}
use Rattle.eval.proofs.operand.load.Goals as goal

pub bounds-state-index : goal.bounds-state-index
bounds-state-index c = search register_inside

pub cell_at-cell-requires : goal.cell_at-cell-requires
cell_at-cell-requires c = search is_memory

pub returns-then-cell-ne0 : goal.returns-then-cell-ne0
returns-then-cell-ne0 c = search loads_none

pub offset_bounds-values-cell : goal.offset_bounds-values-cell
offset_bounds-values-cell c =
    source_fits _ _ _ c.form_at.ensures _ _ _ _ c.requires.long c.in-Memory.is _ c.if-cell-ne0.false c.cell_at-cell.ensures (search)

pub bounds-values-cell : goal.bounds-values-cell
bounds-values-cell c =
    source_inside _ _ _ c.form_at.ensures _ _ _ _ c.requires.long c.in-Memory.is _ c.if-cell-ne0.false c.cell_at-cell.ensures

pub returns-in-Const : goal.returns-in-Const
returns-in-Const c = search loads_constant

pub returns-in-Register : goal.returns-in-Register
returns-in-Register c = search loads_register

pub returns-else-cell-ne0 : goal.returns-else-cell-ne0
returns-else-cell-ne0 c = search loads_cell
