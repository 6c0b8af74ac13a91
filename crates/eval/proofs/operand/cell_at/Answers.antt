-- The memory operand that stands there is the one whose cell is sought, and its fields are right; what it leads to has its number.
-- Assumes nothing.
use Rattle.std.proofs.Common.{Err, ap, ◌∙◌}
use Rattle.code.proofs.Forms.{one_memory, right_fields}
use Rattle.eval.proofs.OperandLaws.{seek_cell, seek_absent, seek_wild}
use Rattle.eval.proofs.operand.cell_at.Goals as goal

pub cell_of-requires : goal.cell_of-requires
cell_of-requires c = search right_fields

pub returns-in-Ok : goal.returns-in-Ok
returns-in-Ok c = λ m q. rw (← (one_memory _ _ _ c.memory_at-m.ensures q))
    (seek_cell _ _ _ _ _ c.cell_of.result c.cell_of.ensures _ c.in-Ok.is)

pub returns-in-Err-Absent : goal.returns-in-Err-Absent
returns-in-Err-Absent c = λ m q. rw (← (one_memory _ _ _ c.memory_at-m.ensures q))
    (seek_absent _ _ _ _ _ c.cell_of.result c.cell_of.ensures (c.in-Err-Absent.is ∙ ap Err c.in-Err-Absent.field-0-is))

pub returns-in-Err-Wild : goal.returns-in-Err-Wild
returns-in-Err-Wild c = λ m q. rw (← (one_memory _ _ _ c.memory_at-m.ensures q))
    (seek_wild _ _ _ _ _ c.cell_of.result c.cell_of.ensures (c.in-Err-Wild.is ∙ ap Err c.in-Err-Wild.field-0-is))
