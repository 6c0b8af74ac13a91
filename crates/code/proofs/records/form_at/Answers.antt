-- `code::records::form_at` meets its contract: the kinds 40 and 41 say a constant and a register, and the others memory.
-- Assumes nothing.
use mathlib.Core.Path.{sym}
use native.Mathlib.Omega.{arith}
use Rattle.code.proofs.Frames.{operand_frame}
use Rattle.code.proofs.Forms.{else_memory}
use Rattle.code.proofs.records.form_at.Goals as goal

pub number8-requires : goal.number8-requires
number8-requires c =
    let pre = c.requires in
    let match = c.in-64 in
    omega (arith, (operand_frame _ _ pre).const match.is)

pub bounds-code-at-in-65 : goal.bounds-code-at-in-65
bounds-code-at-in-65 c =
    let pre = c.requires in
    let match = c.in-65 in
    omega (arith, (operand_frame _ _ pre).o_reg match.is)

pub returns-in-64 : goal.returns-in-64
returns-in-64 c =
    let pre = c.requires in
    let match = c.in-64 in
    let number8 = c.number8 in
    let w = (operand_frame _ _ pre).const match.is in
    rw (w.2, number8.ensures)

pub returns-in-65 : goal.returns-in-65
returns-in-65 c =
    let pre = c.requires in
    let match = c.in-65 in
    rw ((operand_frame _ _ pre).o_reg match.is).3

pub returns-in_default : goal.returns-in_default
returns-in_default c =
    let pre = c.requires in
    let match = c.in_default.in_default-own in
    sym (else_memory _ _ pre match.rest.0.1 match.rest.1)
