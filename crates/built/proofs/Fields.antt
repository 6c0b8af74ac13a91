-- A call of the types whose fields are right is well formed, and a well-formed one is such a call; the number of a wrong field is 4 or 7.
-- Assumes nothing.
use Prim.Native.Nat.{ℕ, ◌≤◌, ◌<◌}
use mathlib.Core.Path.{◌≡◌, refl}
use mathlib.Core.Bool.{Bool, true, false, cond}
use mathlib.Core.List.{List, [], ◌∷◌, ◌++◌, map}
use mathlib.Core.Logic.{inl, ⊎_elim}
use native.Mathlib.Omega.{arith}
use borrow.Author.Tests.{leb-true, le-leb}
use lib.Dec.{leb}
use lib.IntN.{ℤ}
use Rattle.machine.specs.Operands.{is_scale}
use Rattle.machine.specs.declared.Maddr.{Maddr}
use Rattle.machine.specs.declared.Maddr.TheVariants.{MConst, MReg, MIndex}
use Rattle.machine.specs.declared.Operand.{Operand}
use Rattle.machine.specs.declared.Operand.TheVariants.{OConst, OReg, OMem}
use Rattle.code.specs.Layout.{Byte, number, amount, Layout, layout, ocmp_layout}
use Rattle.code.specs.WellFormed.{WfScale, WfMaddr, WfOperand, WfByte, WfLayout, WfIns, WfOcmp, All}
use Rattle.code.proofs.Layouts.{WfBytes, WfOperands, bounds, bounded}
use Rattle.builder.proofs.Judged.{first_zero}
use Rattle.builder.proofs.Checked.{first, others}
use Rattle.builder.proofs.Known.{Known, record_known}
use Rattle.builder.specs.Calls.{Call, open_block, open_if_else, open_while, add, close, first_of, number_trouble, scale_trouble, byte_trouble, maddr_trouble, operand_trouble, body_trouble, operands_trouble, record_trouble, call_trouble, MaddrTyped, OperandTyped, ByteTyped, RecordTyped, CallTyped}

-- a well-formed call
unfoldable pub WfCall : Call → Type 0
WfCall open_block = Unit {0}
WfCall (open_if_else c) = WfOcmp c
WfCall (open_while c) = WfOcmp c
WfCall (add i) = WfIns i
WfCall close = Unit {0}

-- ---- one field: a test, and the number where it fails
right : (t : Bool) (n : ℕ) → 0 < n → cond t 0 n ≡ 0 → t ≡ true
right true n h e = refl
right false n h e = absurd (omega (arith, h, e))

number_wf : (n : ℕ) → number_trouble n ≡ 0 → n < 16
unfolding number_trouble
number_wf n h = omega (arith, leb-true n 15 (right (leb n 15) 4 (omega arith) h))

scale_wf : (z : ℤ) → scale_trouble z ≡ 0 → WfScale z
unfolding scale_trouble
scale_wf z h = right (is_scale z) 7 (omega arith) h

maddr_wf : (m : Maddr) → MaddrTyped m → maddr_trouble m ≡ 0 → WfMaddr m
unfolding MaddrTyped maddr_trouble
maddr_wf (MConst n) f h = f
maddr_wf (MReg r offset) f h = (number_wf r.number h, f.1)
maddr_wf (MIndex base scale index offset) f h =
    let w = first_zero (number_trouble base.number) _ h in
    let v = first_zero (scale_trouble scale) (number_trouble index.number) w.1 in
    (number_wf base.number w.0, scale_wf scale v.0, number_wf index.number v.1, f.3)

operand_wf : (o : Operand) → OperandTyped o → operand_trouble o ≡ 0 → WfOperand o
unfolding OperandTyped operand_trouble
operand_wf (OConst n) f h = f
operand_wf (OReg r) f h = number_wf r.number h
operand_wf (OMem m) f h = maddr_wf m f h

byte_wf : (b : Byte) → ByteTyped b → byte_trouble b ≡ 0 → WfByte b
unfolding ByteTyped byte_trouble
byte_wf (number n) f h = number_wf n h
byte_wf (amount n) f h = f

operands_wf : (os : List Operand) → All (map OperandTyped os) → operands_trouble os ≡ 0 → WfOperands os
unfolding operands_trouble
operands_wf [] f h = tt
operands_wf (o ∷ os) f h =
    let w = first_zero (operand_trouble o) (operands_trouble os) h in
    let As = map OperandTyped os in
    (operand_wf o (first (OperandTyped o) As f) w.0, operands_wf os (others (OperandTyped o) As f) w.1)

body_wf :
    (bs : List Byte) (os : List Operand) → All (map ByteTyped bs ++ map OperandTyped os) → body_trouble bs ≡ 0 → operands_trouble os ≡ 0
    → WfBytes bs × WfOperands os
unfolding body_trouble
body_wf [] os f h k = (tt, operands_wf os f k)
body_wf (b ∷ bs) os f h k =
    let w = first_zero (byte_trouble b) (body_trouble bs) h in
    let As = map ByteTyped bs ++ map OperandTyped os in
    let r = body_wf bs os (others (ByteTyped b) As f) w.1 k in
    ((byte_wf b (first (ByteTyped b) As f) w.0, r.0), r.1)

record_wf : (l : Layout) → RecordTyped l → record_trouble l ≡ 0 → WfLayout l
unfolding RecordTyped record_trouble
record_wf l f h =
    let w = first_zero (body_trouble l.body) (operands_trouble l.operands) h in
    let r = body_wf l.body l.operands f w.0 w.1 in
    bounded l.kind l.body l.operands r.0 r.1

pub call_wf : (c : Call) → CallTyped c → call_trouble c ≡ 0 → WfCall c
unfolding CallTyped call_trouble WfCall WfIns WfOcmp
call_wf open_block f h = tt
call_wf (open_if_else c) f h = record_wf (ocmp_layout c) f h
call_wf (open_while c) f h = record_wf (ocmp_layout c) f h
call_wf (add i) f h = record_wf (layout i) f h
call_wf close f h = tt

-- ---- and the other way round
wf_number : (n : ℕ) → n < 16 → number_trouble n ≡ 0
unfolding number_trouble
wf_number n h = rw (le-leb n 15 (omega arith)) refl

wf_scale : (z : ℤ) → WfScale z → scale_trouble z ≡ 0
unfolding scale_trouble
wf_scale z h = rw h refl

wf_maddr : (m : Maddr) → WfMaddr m → maddr_trouble m ≡ 0
unfolding maddr_trouble first_of
wf_maddr (MConst n) h = refl
wf_maddr (MReg r offset) h = wf_number r.number h.0
wf_maddr (MIndex base scale index offset) h =
    rw (wf_number base.number h.0, wf_scale scale h.1, wf_number index.number h.2) refl

wf_operand : (o : Operand) → WfOperand o → operand_trouble o ≡ 0
unfolding operand_trouble
wf_operand (OConst n) h = refl
wf_operand (OReg r) h = wf_number r.number h
wf_operand (OMem m) h = wf_maddr m h

wf_byte : (b : Byte) → WfByte b → byte_trouble b ≡ 0
unfolding byte_trouble
wf_byte (number n) h = wf_number n h
wf_byte (amount n) h = refl

wf_body : (bs : List Byte) → WfBytes bs → body_trouble bs ≡ 0
unfolding body_trouble first_of
wf_body [] h = refl
wf_body (b ∷ bs) h = rw (wf_byte b h.0, wf_body bs h.1) refl

wf_operands : (os : List Operand) → WfOperands os → operands_trouble os ≡ 0
unfolding operands_trouble first_of
wf_operands [] h = refl
wf_operands (o ∷ os) h = rw (wf_operand o h.0, wf_operands os h.1) refl

wf_record : (l : Layout) → WfLayout l → record_trouble l ≡ 0
unfolding record_trouble first_of
wf_record l h = let w = bounds l h in rw (wf_body l.body w.0, wf_operands l.operands w.1) refl

pub wf_call : (c : Call) → WfCall c → call_trouble c ≡ 0
unfolding call_trouble WfCall WfIns WfOcmp
wf_call open_block h = refl
wf_call (open_if_else c) h = wf_record (ocmp_layout c) h
wf_call (open_while c) h = wf_record (ocmp_layout c) h
wf_call (add i) h = wf_record (layout i) h
wf_call close h = refl

pub call_known : (c : Call) → Known (call_trouble c)
unfolding call_trouble
call_known open_block = inl refl
call_known (open_if_else c) = record_known (ocmp_layout c)
call_known (open_while c) = record_known (ocmp_layout c)
call_known (add i) = record_known (layout i)
call_known close = inl refl

pub call_small : (c : Call) → call_trouble c ≤ 7
call_small c =
    ⊎_elim (λ e. omega (arith, e)) (λ w. ⊎_elim (λ e. omega (arith, e)) (λ e. omega (arith, e)) w) (call_known c)
