-- `code::records::memory_at` meets its contract: each kind of memory operand has its fields at its own places, and a signed field reads
-- back as itself. Assumes nothing.
use mir.Syntax.{w16, w64}
use mir.ValLaws.{to_z-of_z}
use native.Mathlib.Omega.{arith}
use Rattle.code.proofs.Frames.{operand_frame}
use Rattle.code.proofs.Forms.{based, indexed}
use Rattle.code.proofs.records.memory_at.Goals as goal

pub number8-requires : goal.number8-requires
number8-requires c =
    let pre = c.requires in
    let if1 = c.if-kind-eq66 in
    omega (arith, (operand_frame _ _ pre.operand_bytes).m_const if1.true)

pub returns-then-kind-eq66 : goal.returns-then-kind-eq66
returns-then-kind-eq66 c =
    let pre = c.requires in
    let if1 = c.if-kind-eq66 in
    let number8 = c.number8 in
    let w = (operand_frame _ _ pre.operand_bytes).m_const if1.true in
    rw (w.2, number8.ensures)

pub bounds-code-at-2 : goal.bounds-code-at-2
bounds-code-at-2 c =
    let pre = c.requires in
    let if1 = c.if-kind-eq66 in
    omega (arith, based _ _ pre.operand_bytes pre.at_value if1.false)

pub signed8-requires : goal.signed8-requires
signed8-requires c =
    let pre = c.requires in
    let if2 = c.if-kind-eq67 in
    omega (arith, (operand_frame _ _ pre.operand_bytes).m_reg if2.true)

pub returns-then-kind-eq67 : goal.returns-then-kind-eq67
returns-then-kind-eq67 c =
    let pre = c.requires in
    let if2 = c.if-kind-eq67 in
    let signed8 = c.signed8 in
    let w = (operand_frame _ _ pre.operand_bytes).m_reg if2.true in
    rw (w.3, to_z-of_z w64 signed8.result (record { sfits = signed8.type_inv }), signed8.ensures)

pub bounds-code-at-3 : goal.bounds-code-at-3
bounds-code-at-3 c =
    let pre = c.requires in
    let if1 = c.if-kind-eq66 in
    let if2 = c.if-kind-eq67 in
    omega (arith, indexed _ _ pre.operand_bytes pre.at_value if1.false if2.false)

pub signed2-requires : goal.signed2-requires
signed2-requires c =
    let pre = c.requires in
    let if1 = c.if-kind-eq66 in
    let if2 = c.if-kind-eq67 in
    omega (arith, indexed _ _ pre.operand_bytes pre.at_value if1.false if2.false)

pub signed8-requires-2 : goal.signed8-requires-2
signed8-requires-2 c =
    let pre = c.requires in
    let if1 = c.if-kind-eq66 in
    let if2 = c.if-kind-eq67 in
    omega (arith, indexed _ _ pre.operand_bytes pre.at_value if1.false if2.false)

pub returns : goal.returns
returns c =
    let pre = c.requires in
    let if1 = c.if-kind-eq66 in
    let if2 = c.if-kind-eq67 in
    let signed2 = c.signed2 in
    let signed82 = c.signed8-2 in
    let w = indexed _ _ pre.operand_bytes pre.at_value if1.false if2.false in
    rw (
      w.5,
      to_z-of_z w16 signed2.result (record { sfits = signed2.type_inv }),
      to_z-of_z w64 signed82.result (record { sfits = signed82.type_inv }),
      signed2.ensures,
      signed82.ensures,
    )
