-- What the bytes of an instruction say, family by family: the places of its operands, its end, and the instruction that it is. The kinds of a
-- family have one shape, which antt computes; what stands there follows from the shape. Assumes nothing.
use Prim.Native.Nat.{ℕ, zero, suc, ◌+◌, ◌≤◌, ◌<◌}
use mathlib.Core.Path.{◌≡◌, refl, sym, subst}
use mathlib.Core.Bool.{Bool, true, false, ◌&&◌, ◌||◌}
use mathlib.Core.List.{List, [], ◌∷◌, map}
use mathlib.Core.Logic.{◌⊎◌, inl, inr, ⊎_elim}
use native.Mathlib.Omega.{arith}
use borrow.Author.Tests.{ne_eqb, eqb-true}
use lib.Dec.{eqb}
use lib.ListN.{length}
use Rattle.machine.specs.declared.Operand.{Operand}
use Rattle.code.specs.declared.tree.Instruction.{Instruction}
use Rattle.code.specs.declared.tree.Instruction.TheVariants.{AddLea64, Mul64, Mulx64, Paddd, Pxor, Pslld, Psrld, Pshufd, Pcmpeqd, Pextrq, Pinsrd, Pinsrq, VPSLLDQ}
use Rattle.code.specs.Layout.{Field, register, last_ins, ins_of}
use Rattle.code.specs.Records.{between, is_ins, body_length, operand_count, judged_fields, byte_at, operand_at, behind, bytes_at, operands_at, ins_at}
use Rattle.code.specs.Spells.{Fields, Operands, OperandsFrom, Stands}
use Rattle.code.specs.Families.{among, twos, is_two, two_ins, quads, is_quads, quads_ins, shifts, is_shifts, shifts_ins, inserts, is_inserts, inserts_ins}
use Rattle.code.proofs.Passing.{and_both, or_right, between_true, never}
use Rattle.code.proofs.KindLaws.{within, ◌▹◌, same, same_field}
use Rattle.code.proofs.Layouts.{Shape, shaped, shape_of}
use Rattle.code.proofs.Frames.{inside}

-- ---- which kinds are whose
or_cases : (a b : Bool) → (a || b) ≡ true → (a ≡ true) ⊎ (b ≡ true)
or_cases true b h = inl refl
or_cases false b h = inr h

-- what holds of each of some kinds
abbrev pub EachOf : (ℕ → Type 0) → List ℕ → Type 0
EachOf P [] = Unit {0}
EachOf P (n ∷ ns) = P n × EachOf P ns

by_among : (P : ℕ → Type 0) (ns : List ℕ) → EachOf P ns → (k : ℕ) → among ns k ≡ true → P k
by_among P [] h k m = absurd (never (sym m))
by_among P (n ∷ ns) h k m =
    ⊎_elim (λ e. subst P (sym (eqb-true k n e)) h.0) (λ e. by_among P ns h.1 k e) (or_cases (eqb k n) (among ns k) m)

-- of each of some kinds two functions say the same where their lists of answers are equal, which antt computes
pub same_among : {A : Type 0} (f g : ℕ → A) (ns : List ℕ) → map f ns ≡ map g ns → (k : ℕ) → among ns k ≡ true → f k ≡ g k
same_among {A} f g ns h k m = by_among (λ (n : ℕ). f n ≡ g n) ns (each_same ns h) k m
  where
    each_same : (ns : List ℕ) → map f ns ≡ map g ns → EachOf (λ (n : ℕ). f n ≡ g n) ns
    each_same [] h = tt
    each_same (n ∷ ns) h = (cc, each_same ns (cc))

-- a kind that is another than each of some is none of them
none_among : (k : ℕ) (ns : List ℕ) → EachOf (λ (n : ℕ). k ≡ n → ⊥) ns → among ns k ≡ false
none_among k [] h = refl
none_among k (n ∷ ns) h = rw (ne_eqb k n h.0) (none_among k ns h.1)

-- and where a match has those kinds as its arms, in their order, the last arm knows it: as pairs to the left
abbrev pub Behind : (ℕ → Type 0) → Type 0 → List ℕ → Type 0
Behind P A [] = A
Behind P A (n ∷ ns) = Behind P (A × P n) ns

behind_each : (P : ℕ → Type 0) (A : Type 0) (ns : List ℕ) → Behind P A ns → A × EachOf P ns
behind_each P A [] h = (h, tt)
behind_each P A (n ∷ ns) h = let w = behind_each P (A × P n) ns h in (w.0.0, (w.0.1, w.1))

pub none_matched : (A : Type 0) (k : ℕ) (ns : List ℕ) → Behind (λ (n : ℕ). k ≡ n → ⊥) A ns → among ns k ≡ false
none_matched A k ns h = none_among k ns (behind_each (λ (n : ℕ). k ≡ n → ⊥) A ns h).1

-- a test that passes at each of some kinds
abbrev passes : (ℕ → Bool) → List ℕ → Bool
passes f [] = true
passes f (n ∷ ns) = f n && passes f ns

among_passes : (f : ℕ → Bool) (ns : List ℕ) → passes f ns ≡ true → (k : ℕ) → among ns k ≡ true → f k ≡ true
among_passes f ns h k m = by_among (λ (n : ℕ). f n ≡ true) ns (all_pass ns h) k m
  where
    all_pass : (ns : List ℕ) → passes f ns ≡ true → EachOf (λ (n : ℕ). f n ≡ true) ns
    all_pass [] h = tt
    all_pass (n ∷ ns) h = let w = and_both (f n) (passes f ns) h in (w.0, all_pass ns w.1)

-- but for AddLea64, Mul64 and Mulx64, what is none of a destination and a source is a lane instruction
two_or_lane : ℕ → Bool
two_or_lane k = is_two k || (eqb k 0x03 || (eqb k 0x08 || (eqb k 0x09 || between 0x0f 0x18 k)))

pub lane_kinds :
    (k : ℕ) → is_ins k ≡ true → is_two k ≡ false → (k ≡ 0x03 → ⊥) → (k ≡ 0x08 → ⊥) → (k ≡ 0x09 → ⊥) →
    (0x0f ≤ k) × (k < 0x19)
unfolding two_or_lane
lane_kinds k is none lea mul mulx =
    let w = between_true 0x01 last_ins k is in
    let t = or_right _ _ (within two_or_lane last_ins 0x01 refl k w.0 (omega arith)) none in
    let l = or_right _ _ (or_right _ _ (or_right _ _ t (ne_eqb k 0x03 lea)) (ne_eqb k 0x08 mul)) (ne_eqb k 0x09 mulx) in
    let v = between_true 0x0f 0x18 k l in
    (v.0, omega arith)

-- a kind that is n is of n's family
pub in_family : (ns : List ℕ) (n : ℕ) → among ns n ≡ true → (k : ℕ) → k ≡ n → among ns k ≡ true
in_family ns n h k e = rw e h

pub inserts_kind : (k : ℕ) → 0x16 ≤ k → k < 0x18 → is_inserts k ≡ true
inserts_kind k l m = within is_inserts 2 0x16 refl k l m

-- ---- what holds of each instruction of a family holds of the one of a kind
-- two functions of the instructions of a destination and a source are the same where they are at each kind, which antt computes
pub same_two :
    {A : Type 0} (f : Instruction → A) (g : ℕ → A) (dst src : Operand) →
    map (λ k. f (ins_of k [] (dst ∷ src ∷ []))) twos ≡ map g twos → (k : ℕ) → is_two k ≡ true → f (two_ins k dst src) ≡ g k
unfolding two_ins
same_two f g dst src e k h = same_among (λ k. f (two_ins k dst src)) g twos e k h

pub by_quads_ins :
    (P : ℕ → Instruction → Type 0) (dst src : ℕ) → P 0x0f (Paddd dst src) → P 0x10 (Pxor dst src) → P 0x14 (Pcmpeqd dst src) →
    (k : ℕ) → is_quads k ≡ true → P k (quads_ins k dst src)
unfolding quads_ins
by_quads_ins P dst src p q r k h = by_among (λ (k : ℕ). P k (quads_ins k dst src)) quads (p ▹ q ▹ r ▹ tt) k h

pub by_shifts_ins :
    (P : ℕ → Instruction → Type 0) (dst amount : ℕ) → P 0x11 (Pslld dst amount) → P 0x12 (Psrld dst amount) →
    (k : ℕ) → is_shifts k ≡ true → P k (shifts_ins k dst amount)
unfolding shifts_ins
by_shifts_ins P dst amount p q k h = by_among (λ (k : ℕ). P k (shifts_ins k dst amount)) shifts (p ▹ q ▹ tt) k h

pub by_inserts_ins :
    (P : ℕ → Instruction → Type 0) (dst : ℕ) (src : Operand) (index : ℕ) → P 0x16 (Pinsrd dst src index) → P 0x17 (Pinsrq dst src index) →
    (k : ℕ) → is_inserts k ≡ true → P k (inserts_ins k dst src index)
unfolding inserts_ins
by_inserts_ins P dst src index p q k h = by_among (λ (k : ℕ). P k (inserts_ins k dst src index)) inserts (p ▹ q ▹ tt) k h

-- ---- the shape of the kinds of a family
shape_among :
    (ns : List ℕ) (size count : ℕ) (fields : List Field) → passes (shaped size count fields) ns ≡ true →
    (k : ℕ) → among ns k ≡ true → Shape k size count fields
shape_among ns size count fields h k m = shape_of k size count fields (among_passes (shaped size count fields) ns h k m)

-- ---- what stands at a place, as an instruction of a family, with n operands behind its body
-- the place behind n operands
abbrev pub after : ℕ → List ℕ → ℕ → ℕ
after zero bs at = at
after (suc n) bs at = after n bs (behind bs at)

pub record Stood (bs : List ℕ) (at : ℕ) (i : Instruction) (n from : ℕ) : Type 0 where
  pub operands : OperandsFrom n bs from
  pub says : ins_at bs at ≡ i
  pub ends : (e : ℕ) → Stands is_ins bs at e → e ≡ after n bs from

operands_from : (n : ℕ) (bs : List ℕ) (at e : ℕ) → Operands n bs at e → e ≤ length bs → OperandsFrom n bs at
operands_from zero bs at e o l = omega (arith, o)
operands_from (suc n) bs at e o l = (inside _ bs at e (length bs) l o.0, operands_from n bs (behind bs at) e o.1 l)

ends_after : (n : ℕ) (bs : List ℕ) (at e : ℕ) → Operands n bs at e → after n bs at ≡ e
ends_after zero bs at e o = o
ends_after (suc n) bs at e o = ends_after n bs (behind bs at) e o.1

-- the kind byte lies before the end
pub ins_inside : {bs : List ℕ} {at e : ℕ} → Stands is_ins bs at e → at + 1 ≤ e
unfolding behind
ins_inside st = omega (arith, st.head.inside)

module _ (bs : List ℕ) (at e : ℕ) (st : Stands is_ins bs at e) (l : e ≤ length bs) where
  abbrev one : Operand
  one = operand_at bs (at + 1)

  abbrev two : Operand
  two = operand_at bs (behind bs (at + 1))

  abbrev three : Operand
  three = operand_at bs (behind bs (behind bs (at + 1)))

  -- an instruction of a kind of some shape, its operands from a place on
  module _ (k size count : ℕ) (fields : List Field) (shape : Shape k size count fields) (q : byte_at bs at ≡ k)
      (from : ℕ) (place : at + 1 + size ≡ from) where
    behind_is : behind bs at ≡ from
    unfolding behind
    behind_is = rw (q, shape.sized, place)

    there : (f : ℕ) → Stands is_ins bs at f → Operands count bs from f
    there f s = rw (q, shape.counted, behind_is) at s.operands

    stood : Stood bs at (ins_of k (bytes_at size bs (at + 1)) (operands_at count bs from)) count from
    unfolding ins_at
    stood =
        record {
          operands = operands_from count bs from e (there e st) l;
          says = rw (q, shape.sized, shape.counted, behind_is);
          ends = λ f s. sym (ends_after count bs from f (there f s));
        }

    fields_fit : Fields fields bs at
    fields_fit = rw (q, shape.judged) at st.head.fields

  -- ---- no body
  behind_kind : at + 1 + 0 ≡ at + 1
  behind_kind = omega arith

  pub two_stood : (k : ℕ) → is_two k ≡ true → byte_at bs at ≡ k → Stood bs at (two_ins k one two) 2 (at + 1)
  unfolding two_ins operands_at shaped same same_field body_length operand_count judged_fields
  two_stood k w q = stood k 0 2 [] (shape_among twos 0 2 [] refl k w) q (at + 1) behind_kind

  pub lea_stood : byte_at bs at ≡ 0x03 → Stood bs at (AddLea64 one two three) 3 (at + 1)
  unfolding operands_at shaped same same_field body_length operand_count judged_fields
  lea_stood q = stood 0x03 0 3 [] (shape_of 0x03 0 3 [] refl) q (at + 1) behind_kind

  pub mul_stood : byte_at bs at ≡ 0x08 → Stood bs at (Mul64 one) 1 (at + 1)
  unfolding operands_at shaped same same_field body_length operand_count judged_fields
  mul_stood q = stood 0x08 0 1 [] (shape_of 0x08 0 1 [] refl) q (at + 1) behind_kind

  pub mulx_stood : byte_at bs at ≡ 0x09 → Stood bs at (Mulx64 one two three) 3 (at + 1)
  unfolding operands_at shaped same same_field body_length operand_count judged_fields
  mulx_stood q = stood 0x09 0 3 [] (shape_of 0x09 0 3 [] refl) q (at + 1) behind_kind

  -- ---- a body of bytes: the first is an xmm number, and in some the second
  abbrev one_field : List Field
  one_field = register 1 ∷ []

  abbrev two_fields : List Field
  two_fields = register 1 ∷ register 2 ∷ []

  abbrev byte : ℕ → ℕ
  byte i = byte_at bs (at + i)

  pub record OneXmm (i : Instruction) (n from : ℕ) : Type 0 where
    pub stood : Stood bs at i n from
    pub xmm : byte_at bs (at + 1) < 16

  pub record TwoXmms (i : Instruction) (n from : ℕ) : Type 0 where
    pub stood : Stood bs at i n from
    pub xmm : byte_at bs (at + 1) < 16
    pub other : byte_at bs (at + 2) < 16

  -- the bytes of a body of two and of three
  second : at + 1 + 1 ≡ at + 2
  second = omega arith

  third : at + 2 + 1 ≡ at + 3
  third = omega arith

  module _ (k count : ℕ) (q : byte_at bs at ≡ k) where
    one_xmm :
        Shape k 2 count one_field → OneXmm (ins_of k (byte 1 ∷ byte 2 ∷ []) (operands_at count bs (at + 3))) count (at + 3)
    one_xmm shape =
        let place : at + 1 + 2 ≡ at + 3 = omega arith in
        let fits = fields_fit k 2 count one_field shape q (at + 3) place in
        record { stood = rw second at (stood k 2 count one_field shape q (at + 3) place); xmm = omega (arith, fits.0) }

    two_xmms :
        Shape k 2 count two_fields → TwoXmms (ins_of k (byte 1 ∷ byte 2 ∷ []) (operands_at count bs (at + 3))) count (at + 3)
    two_xmms shape =
        let place : at + 1 + 2 ≡ at + 3 = omega arith in
        let fits = fields_fit k 2 count two_fields shape q (at + 3) place in
        record {
          stood = rw second at (stood k 2 count two_fields shape q (at + 3) place);
          xmm = omega (arith, fits.0);
          other = omega (arith, fits.1.0);
        }

    two_and_imm8 :
        Shape k 3 count two_fields → TwoXmms (ins_of k (byte 1 ∷ byte 2 ∷ byte 3 ∷ []) (operands_at count bs (at + 4))) count (at + 4)
    two_and_imm8 shape =
        let place : at + 1 + 3 ≡ at + 4 = omega arith in
        let fits = fields_fit k 3 count two_fields shape q (at + 4) place in
        record {
          stood = rw (second, third) at (stood k 3 count two_fields shape q (at + 4) place);
          xmm = omega (arith, fits.0);
          other = omega (arith, fits.1.0);
        }

  pub quads_stood :
      (k : ℕ) → is_quads k ≡ true → byte_at bs at ≡ k → TwoXmms (quads_ins k (byte 1) (byte 2)) 0 (at + 3)
  unfolding quads_ins operands_at shaped same same_field body_length operand_count judged_fields
  quads_stood k h q = two_xmms k 0 q (shape_among quads 2 0 two_fields refl k h)

  pub shifts_stood : (k : ℕ) → is_shifts k ≡ true → byte_at bs at ≡ k → OneXmm (shifts_ins k (byte 1) (byte 2)) 0 (at + 3)
  unfolding shifts_ins operands_at shaped same same_field body_length operand_count judged_fields
  shifts_stood k h q = one_xmm k 0 q (shape_among shifts 2 0 one_field refl k h)

  pub shuffle_stood : byte_at bs at ≡ 0x13 → TwoXmms (Pshufd (byte 1) (byte 2) (byte 3)) 0 (at + 4)
  unfolding operands_at shaped same same_field body_length operand_count judged_fields
  shuffle_stood q = two_and_imm8 0x13 0 q (shape_of 0x13 3 0 two_fields refl)

  pub word_shift_stood : byte_at bs at ≡ 0x18 → TwoXmms (VPSLLDQ (byte 1) (byte 2) (byte 3)) 0 (at + 4)
  unfolding operands_at shaped same same_field body_length operand_count judged_fields
  word_shift_stood q = two_and_imm8 0x18 0 q (shape_of 0x18 3 0 two_fields refl)

  pub extract_stood : byte_at bs at ≡ 0x15 → OneXmm (Pextrq (operand_at bs (at + 3)) (byte 1) (byte 2)) 1 (at + 3)
  unfolding operands_at shaped same same_field body_length operand_count judged_fields
  extract_stood q = one_xmm 0x15 1 q (shape_of 0x15 2 1 one_field refl)

  pub inserts_stood :
      (k : ℕ) → is_inserts k ≡ true → byte_at bs at ≡ k → OneXmm (inserts_ins k (byte 1) (operand_at bs (at + 3)) (byte 2)) 1 (at + 3)
  unfolding inserts_ins operands_at shaped same same_field body_length operand_count judged_fields
  inserts_stood k h q = one_xmm k 1 q (shape_among inserts 2 1 one_field refl k h)
