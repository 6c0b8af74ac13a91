-- What is decoded of an operand says which operand it is, and an operand that stands in the bytes names registers below 16 and one of the
-- four scales. By the kind of its record. Assumes nothing.
use Prim.Native.Nat.{ℕ, ◌+◌, ◌<◌, ◌≤◌}
use mathlib.Core.Path.{◌≡◌, refl, ap, subst⁻¹}
use mathlib.Core.Bool.{true}
use mathlib.Core.List.{List}
use native.Mathlib.Omega.{arith}
use lib.ListN.{length}
use Rattle.machine.specs.Registers.{reg}
use Rattle.machine.specs.Operands.{is_scale, RightFields}
use Rattle.machine.specs.declared.reg.Reg.{Reg}
use Rattle.machine.specs.declared.Maddr.{Maddr}
use Rattle.machine.specs.declared.Maddr.TheVariants.{MIndex}
use Rattle.machine.specs.declared.Operand.{Operand}
use Rattle.machine.specs.declared.Operand.TheVariants.{OConst, OReg, OMem}
use Rattle.code.specs.Records.{byte_at, signed_at, operand_at, behind}
use Rattle.code.specs.Spells.{OperandBytes}
use Rattle.code.specs.Forms.{form_of}
use Rattle.code.specs.declared.records.Form.TheVariants.{Const, Register, Memory}
use Rattle.code.proofs.Passing.{clash}
use Rattle.code.proofs.Frames.{by_kind, operand_frame}

-- ---- from the form to the operand
pub constant_is : (o : Operand) (n : ℕ) → form_of o ≡ Const n → o ≡ OConst n
constant_is (OConst m) n e = cc
constant_is (OReg r) n e = clash (cc)
constant_is (OMem m) n e = clash (cc)

pub register_is : (o : Operand) (r : Reg) → form_of o ≡ Register r → o ≡ OReg r
register_is (OConst m) r e = clash (cc)
register_is (OReg q) r e = cc
register_is (OMem m) r e = clash (cc)

pub memory_is : (o : Operand) → form_of o ≡ Memory → (m : Maddr) × (o ≡ OMem m)
memory_is (OConst m) e = clash (cc)
memory_is (OReg r) e = clash (cc)
memory_is (OMem m) e = (m, refl)

-- an operand is one memory operand
pub one_memory : (o : Operand) (m n : Maddr) → o ≡ OMem m → o ≡ OMem n → m ≡ n
one_memory o m n e f = cc

-- ---- the registers and the scale that an operand names
abbrev Names : Operand → Type 0
Names (OConst n) = Unit {0}
Names (OReg r) = r.number < 16
Names (OMem m) = RightFields m

module _ (bs : List ℕ) (at : ℕ) (stands : OperandBytes bs at) where
  names : Names (operand_at bs at)
  names =
      let w = operand_frame bs at stands in
      by_kind bs at stands
      (λ h. subst⁻¹ Names (w.const h).2 tt)
      (λ h. subst⁻¹ Names (w.o_reg h).3 (w.o_reg h).2)
      (λ h. subst⁻¹ Names (w.m_const h).2 tt)
      (λ h. subst⁻¹ Names (w.m_reg h).3 (w.m_reg h).2)
      (λ h. subst⁻¹ Names (w.m_index h).5 ((w.m_index h).2, (w.m_index h).3, (w.m_index h).4))

  pub register_below : (r : Reg) → operand_at bs at ≡ OReg r → r.number < 16
  register_below r e = rw e at names

  pub right_fields : (m : Maddr) → operand_at bs at ≡ OMem m → RightFields m
  right_fields m e = rw e at names

  -- ---- from the kind to the form
  pub else_memory : (byte_at bs at ≡ 0x40 → ⊥) → (byte_at bs at ≡ 0x41 → ⊥) → form_of (operand_at bs at) ≡ Memory
  else_memory x y =
      let w = operand_frame bs at stands in
      by_kind bs at stands
      (λ h. absurd (x h))
      (λ h. absurd (y h))
      (λ h. ap form_of (w.m_const h).2)
      (λ h. ap form_of (w.m_reg h).3)
      (λ h. ap form_of (w.m_index h).5)

  module _ (memory : form_of (operand_at bs at) ≡ Memory) where
    no_constant : byte_at bs at ≡ 0x40 → ⊥
    no_constant h = clash (let e = ap form_of ((operand_frame bs at stands).const h).2 in cc)

    no_register : byte_at bs at ≡ 0x41 → ⊥
    no_register h = clash (let e = ap form_of ((operand_frame bs at stands).o_reg h).3 in cc)

    -- memory that is no constant address has a register behind its kind
    pub based : (byte_at bs at ≡ 0x42 → ⊥) → at + 10 ≤ length bs
    based x =
        let w = operand_frame bs at stands in
        by_kind bs at stands
        (λ h. absurd (no_constant h))
        (λ h. absurd (no_register h))
        (λ h. absurd (x h))
        (λ h. (w.m_reg h).1)
        (λ h. omega (arith, (w.m_index h).1))

    -- memory that is neither that nor a register with an offset is indexed
    pub indexed :
        (byte_at bs at ≡ 0x42 → ⊥) → (byte_at bs at ≡ 0x43 → ⊥) →
        (behind bs at ≡ at + 13) × (at + 13 ≤ length bs) × (byte_at bs (at + 1) < 16) × (is_scale (signed_at 2 bs (at + 2)) ≡ true) × (byte_at bs (at + 4) < 16)
        × (operand_at bs at ≡ OMem (MIndex (reg (byte_at bs (at + 1))) (signed_at 2 bs (at + 2)) (reg (byte_at bs (at + 4))) (signed_at 8 bs (at + 5))))
    indexed x y = let w = operand_frame bs at stands in w.m_index (w.kinds no_constant no_register x y)
