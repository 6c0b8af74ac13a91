-- What the bytes of an operand's record say, by its kind byte: where it ends, which registers and scale it names and what it spells. Assumes nothing.
use Prim.Native.Nat.{ℕ, ◌+◌, ◌≤◌, ◌<◌}
use mathlib.Core.Path.{◌≡◌, refl, subst, ◌∙◌}
use mathlib.Core.Bool.{Bool, true}
use mathlib.Core.List.{List}
use native.Mathlib.Omega.{arith}
use lib.ListN.{length}
use Rattle.machine.specs.Registers.{reg}
use Rattle.machine.specs.Operands.{is_scale}
use Rattle.machine.specs.declared.Maddr.TheVariants.{MConst, MReg, MIndex}
use Rattle.machine.specs.declared.Operand.TheVariants.{OConst, OReg, OMem}
use Rattle.code.specs.Records.{is_operand, body_length, judged_fields, byte_at, number_at, signed_at, operand_at, behind}
use Rattle.code.specs.Spells.{Fields, IsRecord, OperandBytes, Operands}
use Rattle.code.proofs.Passing.{between_true}
use Rattle.code.proofs.Sound.{behind_past}
use Rattle.code.proofs.Complete.{behind_structure}
use Rattle.code.proofs.KindLaws.{each, ◌▹◌}

-- what follows from each kind of operand follows
pub by_kind :
    (bs : List ℕ) (at : ℕ) → OperandBytes bs at → {A : Type 0} →
    (byte_at bs at ≡ 0x40 → A) → (byte_at bs at ≡ 0x41 → A) → (byte_at bs at ≡ 0x42 → A) → (byte_at bs at ≡ 0x43 → A) →
    (byte_at bs at ≡ 0x44 → A) → A
by_kind bs at s {A} a b c d e =
    let w = between_true 0x40 0x44 (byte_at bs at) s.kind in
    each (λ (k : ℕ). byte_at bs at ≡ k → A) 5 0x40 (a ▹ b ▹ c ▹ d ▹ e ▹ tt) (byte_at bs at) w.0 (omega (arith, w.1)) refl

-- an operand's record, by its kind
pub record OperandFrame (bs : List ℕ) (at : ℕ) : Type 0 where
  pub starts : at < length bs
  pub const :
      byte_at bs at ≡ 0x40 →
      (behind bs at ≡ at + 9) × (at + 9 ≤ length bs) × (operand_at bs at ≡ OConst (number_at 8 bs (at + 1)))
  pub o_reg :
      byte_at bs at ≡ 0x41 →
      (behind bs at ≡ at + 2) × (at + 2 ≤ length bs) × (byte_at bs (at + 1) < 16) × (operand_at bs at ≡ OReg (reg (byte_at bs (at + 1))))
  pub m_const :
      byte_at bs at ≡ 0x42 →
      (behind bs at ≡ at + 9) × (at + 9 ≤ length bs) × (operand_at bs at ≡ OMem (MConst (number_at 8 bs (at + 1))))
  pub m_reg :
      byte_at bs at ≡ 0x43 →
      (behind bs at ≡ at + 10) × (at + 10 ≤ length bs) × (byte_at bs (at + 1) < 16)
      × (operand_at bs at ≡ OMem (MReg (reg (byte_at bs (at + 1))) (signed_at 8 bs (at + 2))))
  pub m_index :
      byte_at bs at ≡ 0x44 →
      (behind bs at ≡ at + 13) × (at + 13 ≤ length bs) × (byte_at bs (at + 1) < 16) × (is_scale (signed_at 2 bs (at + 2)) ≡ true) × (byte_at bs (at + 4) < 16)
      × (operand_at bs at ≡ OMem (MIndex (reg (byte_at bs (at + 1))) (signed_at 2 bs (at + 2)) (reg (byte_at bs (at + 4))) (signed_at 8 bs (at + 5))))
  -- a constant and a constant address take eight bytes
  pub eight :
      (byte_at bs at ≡ 0x41 → ⊥) → (byte_at bs at ≡ 0x43 → ⊥) → (byte_at bs at ≡ 0x44 → ⊥) →
      (behind bs at ≡ at + 9) × (at + 9 ≤ length bs)
  pub kinds :
      (byte_at bs at ≡ 0x40 → ⊥) → (byte_at bs at ≡ 0x41 → ⊥) → (byte_at bs at ≡ 0x42 → ⊥) → (byte_at bs at ≡ 0x43 → ⊥) →
      byte_at bs at ≡ 0x44

module _ (bs : List ℕ) (at : ℕ) where
  fields_of : (k : ℕ) → byte_at bs at ≡ k → Fields (judged_fields (byte_at bs at)) bs at → Fields (judged_fields k) bs at
  fields_of k h f = subst (λ (x : ℕ). Fields (judged_fields x) bs at) h f

  pub operand_frame : OperandBytes bs at → OperandFrame bs at
  unfolding operand_at body_length judged_fields
  operand_frame s =
      let w = between_true 0x40 0x44 (byte_at bs at) s.kind in
      let i = s.inside in
      let a : at + 1 + 1 ≡ at + 2 = omega arith in
      let b : at + 1 + 3 ≡ at + 4 = omega arith in
      let d : at + 1 + 4 ≡ at + 5 = omega arith in
      record {
        starts = omega (arith, behind_past bs at);
        const = λ h.
            let e : behind bs at ≡ at + 9 = behind_structure bs at 0x40 h ∙ omega arith in
            (e, omega arith, rw h);
        o_reg = λ h.
            let e : behind bs at ≡ at + 2 = behind_structure bs at 0x41 h ∙ omega arith in
            let f = fields_of 0x41 h s.fields in
            (e, omega arith, omega (arith, f.0), rw h);
        m_const = λ h.
            let e : behind bs at ≡ at + 9 = behind_structure bs at 0x42 h ∙ omega arith in
            (e, omega arith, rw h);
        m_reg = λ h.
            let e : behind bs at ≡ at + 10 = behind_structure bs at 0x43 h ∙ omega arith in
            let f = fields_of 0x43 h s.fields in
            (e, omega arith, omega (arith, f.0), rw (h, a));
        m_index = λ h.
            let e : behind bs at ≡ at + 13 = behind_structure bs at 0x44 h ∙ omega arith in
            let f = fields_of 0x44 h s.fields in
            (e, omega arith, omega (arith, f.0), f.1.0, omega (arith, f.1.1.0), rw (h, a, b, d));
        eight = λ x y z.
            let e : behind bs at ≡ at + 9 =
            by_kind bs at s (λ h. behind_structure bs at 0x40 h ∙ omega arith) (λ h. absurd (x h))
            (λ h. behind_structure bs at 0x42 h ∙ omega arith) (λ h. absurd (y h)) (λ h. absurd (z h))
            in
            (e, omega arith);
        kinds = λ x y z t. omega arith;
      }

-- operands in a row
pub inside :
    (allowed : ℕ → Bool) (bs : List ℕ) (at m e : ℕ) → m ≤ e → IsRecord allowed bs at m → IsRecord allowed bs at e
inside allowed bs at m e l s = record { kind = s.kind; inside = omega (arith, s.inside); fields = s.fields }

pub record TwoOperands (bs : List ℕ) (at e : ℕ) : Type 0 where
  pub first : OperandBytes bs at
  pub second : OperandBytes bs (behind bs at)
  pub ends : behind bs (behind bs at) ≡ e

module _ (bs : List ℕ) (at e : ℕ) (l : e ≤ length bs) where
  bytes : (at : ℕ) → IsRecord is_operand bs at e → OperandBytes bs at
  bytes at s = inside is_operand bs at e (length bs) l s

  pub two_operands : Operands 2 bs at e → TwoOperands bs at e
  two_operands o = record { first = bytes at o.0; second = bytes (behind bs at) o.1.0; ends = o.1.1 }
