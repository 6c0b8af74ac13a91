-- The kind says which group makes the instruction.
use Rattle.numbered.specs.Given.{operands_of}
use Rattle.numbered.proofs.KindsGiven.{gives, of_operands, of_both}
use Rattle.numbered.proofs.values.instruction_of.Goals as goal

pub returns-in-0-to-7 : goal.returns-in-0-to-7
returns-in-0-to-7 c =
    gives _ c.is_instruction.ensures c.if-not-is_instruction.false
    (of_operands _ c.operand_of-a.ensures c.operand_of-b.ensures c.operand_of-c.ensures c.sums.ensures)

pub returns-in-8-to-14 : goal.returns-in-8-to-14
returns-in-8-to-14 c =
    gives _ c.is_instruction.ensures c.if-not-is_instruction.false
    (of_operands _ c.operand_of-a.ensures c.operand_of-b.ensures c.operand_of-c.ensures c.products.ensures)

pub returns-in-15-to-20 : goal.returns-in-15-to-20
returns-in-15-to-20 c =
    let given = c.args.given in
    gives given c.is_instruction.ensures c.if-not-is_instruction.false (c.lanes.ensures (operands_of given))

pub returns-in-21-to-24 : goal.returns-in-21-to-24
returns-in-21-to-24 c =
    gives _ c.is_instruction.ensures c.if-not-is_instruction.false
    (of_both _ c.operand_of-a.ensures c.insertions.ensures)

pub returns-in_default : goal.returns-in_default
returns-in_default c =
    gives _ c.is_instruction.ensures c.if-not-is_instruction.false
    (of_operands _ c.operand_of-a.ensures c.operand_of-b.ensures c.operand_of-c.ensures (c.counts.ensures _))
