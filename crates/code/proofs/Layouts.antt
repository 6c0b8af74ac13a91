-- Laying out and reading are inverse to each other: what is read of a layout is what was laid out, and the layout of what is read is of the kind,
-- the bytes and the operands that were read. Each instruction and each kind computes. Assumes nothing.
use Prim.Native.Nat.{ℕ, zero, suc}
use mathlib.Core.Path.{◌≡◌, refl, subst}
use mathlib.Core.Bool.{Bool, true, ◌&&◌}
use mathlib.Core.List.{List, [], ◌∷◌, ◌++◌, map}
use native.Mathlib.Omega.{arith}
use borrow.Author.Tests.{eqb-true}
use lib.Dec.{eqb}
use lib.ListN.{length, get_or}
use Rattle.machine.specs.declared.Operand.{Operand}
use Rattle.machine.specs.declared.Operand.TheVariants.{OConst}
use Rattle.code.specs.declared.tree.Instruction.{Instruction}
use Rattle.code.specs.declared.tree.Instruction.TheVariants.{Mov64, Add64, AddLea64, AddCarry64, Adcx64, Adox64, Sub64, Mul64, Mulx64, IMul64, Xor64, And64, Shr64, Shl64, Paddd, Pxor, Pslld, Psrld, Pshufd, Pcmpeqd, Pextrq, Pinsrd, Pinsrq, VPSLLDQ, Popcnt64, Lzcnt64, Tzcnt64}
use Rattle.code.specs.declared.tree.Ocmp.{Ocmp}
use Rattle.code.specs.declared.tree.Ocmp.TheVariants.{OEq, ONe, OLe, OGe, OLt, OGt}
use Rattle.code.specs.Layout.{Byte, number, amount, Field, Layout, laid, layout, ocmp_layout, values, numbers_from, ins_forms, last_ins, ins_of, ocmp_of, shape}
use Rattle.code.specs.Records.{is_ins, is_ocmp, body_length, operand_count, judged_fields}
use Rattle.code.specs.WellFormed.{WfByte, WfOperand, All, WfLayout}
use Rattle.code.proofs.Passing.{and_both, between_true}
use Rattle.code.proofs.KindLaws.{answers, same_within, same, same_field, same_true}

-- ---- the shape of a kind: its body's length, its number of operands, its judged fields
pub record Shape (k size count : ℕ) (fields : List Field) : Type 0 where
  pub sized : body_length k ≡ size
  pub counted : operand_count k ≡ count
  pub judged : judged_fields k ≡ fields

unfoldable pub shaped : ℕ → ℕ → List Field → ℕ → Bool
shaped size count fields k = eqb (body_length k) size && (eqb (operand_count k) count && same (judged_fields k) fields)

pub shape_of : (k size count : ℕ) (fields : List Field) → shaped size count fields k ≡ true → Shape k size count fields
unfolding shaped
shape_of k size count fields h =
    let a = and_both _ _ h in
    let b = and_both _ _ a.1 in
    record { sized = eqb-true _ _ a.0; counted = eqb-true _ _ b.0; judged = same_true _ _ b.1 }

-- a layout is of an allowed kind, and of the shape of its kind
pub record Agrees (allowed : ℕ → Bool) (l : Layout) : Type 0 where
  pub right : allowed l.kind ≡ true
  pub shape : Shape l.kind (length l.body) (length l.operands) (numbers_from 1 l.body)

agrees : (ℕ → Bool) → Layout → Bool
agrees allowed l = allowed l.kind && shaped (length l.body) (length l.operands) (numbers_from 1 l.body) l.kind

agreed : (allowed : ℕ → Bool) (l : Layout) → agrees allowed l ≡ true → Agrees allowed l
unfolding agrees
agreed allowed l h = let w = and_both _ _ h in record { right = w.0; shape = shape_of _ _ _ _ w.1 }

-- ---- what is read of a layout
-- the list of the instructions ends at the last kind
ins_listed : (b : ℕ → ℕ) (o : ℕ → Operand) → length (ins_forms b o) ≡ last_ins
ins_listed b o = refl

abbrev Told : Instruction → Type 0
Told i = (agrees is_ins (layout i) ≡ true) × (ins_of (layout i).kind (values (layout i).body) (layout i).operands ≡ i)

told : (i : Instruction) → Told i
unfolding agrees shaped body_length operand_count judged_fields same same_field
told (Mov64 a b) = (refl, refl)
told (Add64 a b) = (refl, refl)
told (AddLea64 a b c) = (refl, refl)
told (AddCarry64 a b) = (refl, refl)
told (Adcx64 a b) = (refl, refl)
told (Adox64 a b) = (refl, refl)
told (Sub64 a b) = (refl, refl)
told (Mul64 a) = (refl, refl)
told (Mulx64 a b c) = (refl, refl)
told (IMul64 a b) = (refl, refl)
told (Xor64 a b) = (refl, refl)
told (And64 a b) = (refl, refl)
told (Shr64 a b) = (refl, refl)
told (Shl64 a b) = (refl, refl)
told (Paddd x y) = (refl, refl)
told (Pxor x y) = (refl, refl)
told (Pslld x n) = (refl, refl)
told (Psrld x n) = (refl, refl)
told (Pshufd x y n) = (refl, refl)
told (Pcmpeqd x y) = (refl, refl)
told (Pextrq a x n) = (refl, refl)
told (Pinsrd x a n) = (refl, refl)
told (Pinsrq x a n) = (refl, refl)
told (VPSLLDQ x y n) = (refl, refl)
told (Popcnt64 a b) = (refl, refl)
told (Lzcnt64 a b) = (refl, refl)
told (Tzcnt64 a b) = (refl, refl)

abbrev OcmpTold : Ocmp → Type 0
OcmpTold c = (agrees is_ocmp (ocmp_layout c) ≡ true) × (ocmp_of (ocmp_layout c).kind (ocmp_layout c).operands ≡ c)

ocmp_told : (c : Ocmp) → OcmpTold c
unfolding agrees shaped body_length operand_count judged_fields same same_field
ocmp_told (OEq a b) = (refl, refl)
ocmp_told (ONe a b) = (refl, refl)
ocmp_told (OLe a b) = (refl, refl)
ocmp_told (OGe a b) = (refl, refl)
ocmp_told (OLt a b) = (refl, refl)
ocmp_told (OGt a b) = (refl, refl)

pub ins_agrees : (i : Instruction) → Agrees is_ins (layout i)
ins_agrees i = agreed is_ins (layout i) (told i).0

pub ins_read : (i : Instruction) → ins_of (layout i).kind (values (layout i).body) (layout i).operands ≡ i
ins_read i = (told i).1

pub ocmp_agrees : (c : Ocmp) → Agrees is_ocmp (ocmp_layout c)
ocmp_agrees c = agreed is_ocmp (ocmp_layout c) (ocmp_told c).0

pub ocmp_read : (c : Ocmp) → ocmp_of (ocmp_layout c).kind (ocmp_layout c).operands ≡ c
ocmp_read c = (ocmp_told c).1

-- ---- the layout of what is read
-- a kind of instruction has the body of its shape
module _ (k : ℕ) (is : is_ins k ≡ true) where
  pub ins_body : body_length k ≡ length (shape k).body
  unfolding body_length
  ins_body = rw is

  pub ins_fields : judged_fields k ≡ numbers_from 1 (shape k).body
  unfolding judged_fields
  ins_fields = rw is

-- bytes of the same sorts as some
abbrev pub like : List Byte → (ℕ → ℕ) → List Byte
like [] f = []
like (number n ∷ bytes) f = number (f 0) ∷ like bytes (λ i. f (suc i))
like (amount n ∷ bytes) f = amount (f 0) ∷ like bytes (λ i. f (suc i))

-- the first n operands of a list
abbrev firsts_of : ℕ → (ℕ → Operand) → List Operand
firsts_of zero o = []
firsts_of (suc n) o = o 0 ∷ firsts_of n (λ i. o (suc i))

abbrev pub firsts : ℕ → List Operand → List Operand
firsts n os = firsts_of n (λ i. get_or os i (OConst 0))

-- two functions that say the same of each kind of instruction, or of each kind of comparison, by one equation that antt computes
module _ {A : Type 0} (f g : ℕ → A) where
  ins_same : answers f 0x01 last_ins ≡ answers g 0x01 last_ins → (k : ℕ) → is_ins k ≡ true → f k ≡ g k
  ins_same e k h = let w = between_true 0x01 last_ins k h in same_within f g last_ins 0x01 e k w.0 (omega (arith, w.1))

  ocmp_same : answers f 0x30 6 ≡ answers g 0x30 6 → (k : ℕ) → is_ocmp k ≡ true → f k ≡ g k
  ocmp_same e k h = let w = between_true 0x30 0x35 k h in same_within f g 6 0x30 e k w.0 (omega (arith, w.1))

-- what a function says of the instructions of some bytes and operands, in the order of their kinds
abbrev pub of_each : {A : Type 0} → (Instruction → A) → List ℕ → List Operand → List A
of_each f bytes os = answers (λ k. f (ins_of k bytes os)) 0x01 last_ins

-- two that say the same there say the same of every instruction: so a law of all instructions is one equation that antt computes
pub every_ins : {A : Type 0} (f g : Instruction → A) → ((bytes : List ℕ) (os : List Operand) → of_each f bytes os ≡ of_each g bytes os)
    → (i : Instruction) → f i ≡ g i
every_ins f g e i =
    let l = layout i in
    let bytes = values l.body in
    let of : ℕ → Instruction = λ k. ins_of k bytes l.operands in
    subst (λ (x : Instruction). f x ≡ g x) (ins_read i)
    (ins_same (λ k. f (of k)) (λ k. g (of k)) (e bytes l.operands) l.kind (ins_agrees i).right)

-- the instruction of a kind, and the comparison of a kind, are laid out so
module _ (k : ℕ) (bytes : List ℕ) (os : List Operand) where
  abbrev ins_layout : ℕ → Layout
  ins_layout k = laid k (like (shape k).body (λ i. get_or bytes i 0)) (firsts (operand_count k) os)

  pub ins_laid : is_ins k ≡ true → layout (ins_of k bytes os) ≡ ins_layout k
  unfolding operand_count
  ins_laid h = ins_same (λ k. layout (ins_of k bytes os)) ins_layout refl k h

  pub ocmp_laid : is_ocmp k ≡ true → ocmp_layout (ocmp_of k os) ≡ laid k [] (firsts (operand_count k) os)
  unfolding operand_count
  ocmp_laid h = ocmp_same (λ k. ocmp_layout (ocmp_of k os)) (λ k. laid k [] (firsts (operand_count k) os)) refl k h

-- a comparison has no body and two operands
pub ocmp_counts : (k : ℕ) → is_ocmp k ≡ true → (body_length k ≡ 0) × (operand_count k ≡ 2)
unfolding body_length operand_count
ocmp_counts k h = (ocmp_same body_length (λ k. 0) refl k h, ocmp_same operand_count (λ k. 2) refl k h)

-- ---- the bounds of a layout are those of its body and those of its operands
abbrev pub Every : List (Type 0) → Type 0
Every [] = Unit {0}
Every (A ∷ As) = A × Every As

every : (As : List (Type 0)) → All As → Every As
every [] h = tt
every (A ∷ []) h = (h, tt)
every (A ∷ B ∷ As) h = (h.0, every (B ∷ As) h.1)

all_of : (As : List (Type 0)) → Every As → All As
all_of [] h = tt
all_of (A ∷ []) h = h.0
all_of (A ∷ B ∷ As) h = (h.0, all_of (B ∷ As) h.1)

both : (As Bs : List (Type 0)) → Every (As ++ Bs) → Every As × Every Bs
both [] Bs h = (tt, h)
both (A ∷ As) Bs h = let w = both As Bs h.1 in ((h.0, w.0), w.1)

joined : (As Bs : List (Type 0)) → Every As → Every Bs → Every (As ++ Bs)
joined [] Bs f g = g
joined (A ∷ As) Bs f g = (f.0, joined As Bs f.1 g)

abbrev pub WfBytes : List Byte → Type 0
WfBytes bytes = Every (map WfByte bytes)

abbrev pub WfOperands : List Operand → Type 0
WfOperands os = Every (map WfOperand os)

abbrev claims : Layout → List (Type 0)
claims l = map WfByte l.body ++ map WfOperand l.operands

pub bounds : (l : Layout) → WfLayout l → WfBytes l.body × WfOperands l.operands
bounds l w = both (map WfByte l.body) (map WfOperand l.operands) (every (claims l) w)

pub bounded : (k : ℕ) (bytes : List Byte) (os : List Operand) → WfBytes bytes → WfOperands os → WfLayout (laid k bytes os)
bounded k bytes os f g = all_of (claims (laid k bytes os)) (joined (map WfByte bytes) (map WfOperand os) f g)
