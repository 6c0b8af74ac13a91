-- `code::records::operand_behind` meets its contract: the body of each kind of operand has its own length.
-- Assumes nothing.
use mathlib.Core.Path.{sym}
use Rattle.code.proofs.Frames.{operand_frame}
use Rattle.code.proofs.records.operand_behind.Goals as goal

pub returns-in-65 : goal.returns-in-65
returns-in-65 c = sym ((operand_frame _ _ c.requires).o_reg c.in-65.is).0

pub returns-in-67 : goal.returns-in-67
returns-in-67 c = sym ((operand_frame _ _ c.requires).m_reg c.in-67.is).0

pub returns-in-68 : goal.returns-in-68
returns-in-68 c = sym ((operand_frame _ _ c.requires).m_index c.in-68.is).0

pub returns-in_default : goal.returns-in_default
returns-in_default c =
    let others = c.in_default.in_default-own.rest in
    sym ((operand_frame _ _ c.requires).eight others.0.0.1 others.0.1 others.1).0
