-- What the bytes of a comparison and of a code say, whichever code it is. Assumes nothing.
use Prim.Native.Nat.{ℕ, ◌+◌, ◌≤◌, ◌<◌}
use mathlib.Core.Path.{◌≡◌, refl}
use mathlib.Core.Bool.{true}
use mathlib.Core.List.{List, [], ◌∷◌}
use native.Mathlib.Omega.{arith}
use lib.ListN.{length}
use Rattle.code.specs.declared.tree.Ocmp.{Ocmp}
use Rattle.code.specs.declared.tree.Ocmp.TheVariants.{OEq, ONe, OLe, OGe, OLt, OGt}
use Rattle.code.specs.Tree.{Code, Ins, Block, IfElse, While, Codes, ⟨⟩, ◌∷ᶜ◌}
use Rattle.code.specs.Layout.{ocmp_of}
use Rattle.code.specs.Records.{is_ins, is_ocmp, operand_count, byte_at, number_at, operand_at, behind, operands_at, ins_at, ocmp_at}
use Rattle.code.specs.Spells.{Operands, Stands, Spells, SpellsAll}
use Rattle.code.proofs.Passing.{between_true}
use Rattle.code.proofs.Sound.{stands_past}
use Rattle.code.proofs.Complete.{code_past, codes_le}
use Rattle.code.proofs.KindLaws.{ins_below}
use Rattle.code.proofs.Layouts.{ocmp_counts}
use Rattle.code.proofs.Frames.{TwoOperands, two_operands}

-- a comparison: no body, two operands
module _ (bs : List ℕ) (at m : ℕ) (s : Stands is_ocmp bs at m) where
  no_body : behind bs at ≡ at + 1
  unfolding behind
  no_body = omega (arith, (ocmp_counts (byte_at bs at) s.head.kind).0)

  two : operand_count (byte_at bs at) ≡ 2
  two = (ocmp_counts (byte_at bs at) s.head.kind).1

  pub ocmp_operands : Operands 2 bs (at + 1) m
  ocmp_operands = rw (two, no_body) at s.operands

  says : ocmp_at bs at ≡ ocmp_of (byte_at bs at) (operand_at bs (at + 1) ∷ operand_at bs (behind bs (at + 1)) ∷ [])
  unfolding ocmp_at operands_at
  says = rw (two, no_body)

pub record OcmpFrame (bs : List ℕ) (at m : ℕ) : Type 0 where
  pub starts : at < length bs
  pub operands : TwoOperands bs (at + 1) m
  pub eq : byte_at bs at ≡ 0x30 → ocmp_at bs at ≡ OEq (operand_at bs (at + 1)) (operand_at bs (behind bs (at + 1)))
  pub ne : byte_at bs at ≡ 0x31 → ocmp_at bs at ≡ ONe (operand_at bs (at + 1)) (operand_at bs (behind bs (at + 1)))
  pub le : byte_at bs at ≡ 0x32 → ocmp_at bs at ≡ OLe (operand_at bs (at + 1)) (operand_at bs (behind bs (at + 1)))
  pub ge : byte_at bs at ≡ 0x33 → ocmp_at bs at ≡ OGe (operand_at bs (at + 1)) (operand_at bs (behind bs (at + 1)))
  pub lt : byte_at bs at ≡ 0x34 → ocmp_at bs at ≡ OLt (operand_at bs (at + 1)) (operand_at bs (behind bs (at + 1)))
  pub gt : byte_at bs at ≡ 0x35 → ocmp_at bs at ≡ OGt (operand_at bs (at + 1)) (operand_at bs (behind bs (at + 1)))
  pub low : 0x30 ≤ byte_at bs at
  pub high : byte_at bs at ≤ 0x35

pub ocmp_frame : (bs : List ℕ) (at m : ℕ) → Stands is_ocmp bs at m → m ≤ length bs → OcmpFrame bs at m
ocmp_frame bs at m s l =
    let k = between_true 0x30 0x35 (byte_at bs at) s.head.kind in
    let is = says bs at m s in
    record {
      starts = omega (arith, stands_past is_ocmp bs at m s);
      operands = two_operands bs (at + 1) m l (ocmp_operands bs at m s);
      eq = λ h. rw h at is;
      ne = λ h. rw h at is;
      le = λ h. rw h at is;
      ge = λ h. rw h at is;
      lt = λ h. rw h at is;
      gt = λ h. rw h at is;
      low = k.0;
      high = k.1;
    }

-- a code, by its kind byte: the wrong codes are dealt with here, once
pub record IfThere (c : Code) (bs : List ℕ) (at e : ℕ) : Type 0 where
  pub test : Ocmp
  pub yes_part : Code
  pub no_part : Code
  pub mid : ℕ
  pub is : c ≡ IfElse at (at + 9) test yes_part no_part
  pub says : test ≡ ocmp_at bs (at + 9)
  pub stands : Stands is_ocmp bs (at + 9) mid
  pub ends : e ≡ mid + number_at 4 bs (at + 1) + number_at 4 bs (at + 5)
  pub yes_spelled : Spells yes_part bs mid (mid + number_at 4 bs (at + 1))
  pub no_spelled : Spells no_part bs (mid + number_at 4 bs (at + 1)) e

pub record WhileThere (c : Code) (bs : List ℕ) (at e : ℕ) : Type 0 where
  pub test : Ocmp
  pub body : Code
  pub mid : ℕ
  pub is : c ≡ While at (at + 5) test body
  pub says : test ≡ ocmp_at bs (at + 5)
  pub stands : Stands is_ocmp bs (at + 5) mid
  pub ends : e ≡ mid + number_at 4 bs (at + 1)
  pub spelled : Spells body bs mid e

pub record BlockThere (c : Code) (bs : List ℕ) (at e : ℕ) : Type 0 where
  pub codes : Codes
  pub is : c ≡ Block at codes
  pub spelled : SpellsAll codes bs (at + 5) e

pub record InsThere (c : Code) (bs : List ℕ) (at e : ℕ) : Type 0 where
  pub is : c ≡ Ins at (ins_at bs at)
  pub kind : is_ins (byte_at bs at) ≡ true
  pub stands : Stands is_ins bs at e

ins_low : (bs : List ℕ) (at e : ℕ) → Stands is_ins bs at e → byte_at bs at < 0x20
ins_low bs at e s = ins_below (byte_at bs at) s.head.kind

pub ins_there : (c : Code) (bs : List ℕ) (at e : ℕ) → Spells c bs at e → byte_at bs at < 0x20 → InsThere c bs at e
unfolding Spells
ins_there (Ins p i) bs at e s k = record { is = rw (s.place, s.says); kind = s.stands.head.kind; stands = s.stands }
ins_there (Block p cs) bs at e s k = absurd (omega arith)
ins_there (IfElse p q c a b) bs at e s k = absurd (omega arith)
ins_there (While p q c b) bs at e s k = absurd (omega arith)

pub block_there : (c : Code) (bs : List ℕ) (at e : ℕ) → Spells c bs at e → byte_at bs at ≡ 0x20 → BlockThere c bs at e
unfolding Spells
block_there (Ins p i) bs at e s k = absurd (omega (arith, ins_low bs at e s.stands))
block_there (Block p cs) bs at e s k = record { codes = cs; is = rw s.0.place; spelled = s.1 }
block_there (IfElse p q c a b) bs at e s k = absurd (omega arith)
block_there (While p q c b) bs at e s k = absurd (omega arith)

pub if_there : (c : Code) (bs : List ℕ) (at e : ℕ) → Spells c bs at e → byte_at bs at ≡ 0x21 → IfThere c bs at e
unfolding Spells
if_there (Ins p i) bs at e s k = absurd (omega (arith, ins_low bs at e s.stands))
if_there (Block p cs) bs at e s k = absurd (omega arith)
if_there (IfElse p q c a b) bs at e s k =
    record {
      test = c;
      yes_part = a;
      no_part = b;
      mid = s.0;
      is = rw (s.2.place, s.1.place);
      says = s.1.says;
      stands = s.1.stands;
      ends = s.2.ends;
      yes_spelled = s.3;
      no_spelled = s.4;
    }
if_there (While p q c b) bs at e s k = absurd (omega arith)

pub while_there :
    (c : Code) (bs : List ℕ) (at e : ℕ) → Spells c bs at e → byte_at bs at ≡ 0x22 → WhileThere c bs at e
unfolding Spells
while_there (Ins p i) bs at e s k = absurd (omega (arith, ins_low bs at e s.stands))
while_there (Block p cs) bs at e s k = absurd (omega arith)
while_there (IfElse p q c a b) bs at e s k = absurd (omega arith)
while_there (While p q c b) bs at e s k =
    record {
      test = c;
      body = b;
      mid = s.0;
      is = rw (s.2.place, s.1.place);
      says = s.1.says;
      stands = s.1.stands;
      ends = s.2.ends;
      spelled = s.3;
    }

-- the frame of a code: what its kind byte leaves, and where it ends
pub record Frame (bs : List ℕ) (at e : ℕ) : Type 0 where
  pub past : at < e
  pub kinds : (0x20 ≤ byte_at bs at) → (byte_at bs at ≡ 0x20 → ⊥) → (byte_at bs at ≡ 0x21 → ⊥) → byte_at bs at ≡ 0x22
  pub ins : byte_at bs at < 0x20 → Stands is_ins bs at e
  pub choice :
      byte_at bs at ≡ 0x21 →
      (m : ℕ) × Stands is_ocmp bs (at + 9) m × (at + 9 < m) × (e ≡ m + number_at 4 bs (at + 1) + number_at 4 bs (at + 5))
  pub loop :
      byte_at bs at ≡ 0x22 →
      (m : ℕ) × Stands is_ocmp bs (at + 5) m × (at + 5 < m) × (e ≡ m + number_at 4 bs (at + 1))

code_kinds :
    (c : Code) (bs : List ℕ) (at e : ℕ) → Spells c bs at e →
    0x20 ≤ byte_at bs at → (byte_at bs at ≡ 0x20 → ⊥) → (byte_at bs at ≡ 0x21 → ⊥) → byte_at bs at ≡ 0x22
unfolding Spells
code_kinds (Ins p i) bs at e s l x y = absurd (omega (arith, ins_low bs at e s.stands))
code_kinds (Block p cs) bs at e s l x y = absurd (x s.0.kind)
code_kinds (IfElse p q c a b) bs at e s l x y = absurd (y s.2.kind)
code_kinds (While p q c b) bs at e s l x y = s.2.kind

pub frame : (c : Code) (bs : List ℕ) (at e : ℕ) → Spells c bs at e → Frame bs at e
frame c bs at e s =
    record {
      past = code_past c bs at e s;
      kinds = code_kinds c bs at e s;
      ins = λ k. (ins_there c bs at e s k).stands;
      choice = λ k.
          let w = if_there c bs at e s k in
          (w.mid, w.stands, stands_past is_ocmp bs (at + 9) w.mid w.stands, w.ends);
      loop = λ k.
          let w = while_there c bs at e s k in
          (w.mid, w.stands, stands_past is_ocmp bs (at + 5) w.mid w.stands, w.ends);
    }

-- the first code of a list that is not at its end
pub record First (cs : Codes) (bs : List ℕ) (at e : ℕ) : Type 0 where
  pub first : Code
  pub rest : Codes
  pub mid : ℕ
  pub is : cs ≡ first ∷ᶜ rest
  pub spelled : Spells first bs at mid
  pub spelled_rest : SpellsAll rest bs mid e
  pub past : at < mid
  pub within : mid ≤ e

pub first_there : (cs : Codes) (bs : List ℕ) (at e : ℕ) → SpellsAll cs bs at e → at < e → First cs bs at e
unfolding SpellsAll
first_there ⟨⟩ bs at e s l = absurd (omega arith)
first_there (c ∷ᶜ cs) bs at e s l =
    record {
      first = c;
      rest = cs;
      mid = s.0;
      is = refl;
      spelled = s.1;
      spelled_rest = s.2;
      past = code_past c bs at s.0 s.1;
      within = codes_le cs bs s.0 e s.2;
    }

pub none_there : (cs : Codes) (bs : List ℕ) (at e : ℕ) → SpellsAll cs bs at e → e ≤ at → cs ≡ ⟨⟩
unfolding SpellsAll
none_there ⟨⟩ bs at e s l = refl
none_there (c ∷ᶜ cs) bs at e s l =
    absurd (omega (arith, code_past c bs at s.0 s.1, codes_le cs bs s.0 e s.2))

-- a structure has at least its kind byte and one length
pub structure_long : (c : Code) (bs : List ℕ) (at e : ℕ) → Spells c bs at e → 0x20 ≤ byte_at bs at → at + 5 ≤ e
unfolding Spells
structure_long (Ins p i) bs at e s k = absurd (omega (arith, ins_low bs at e s.stands))
structure_long (Block p cs) bs at e s k = omega arith
structure_long (IfElse p q c a b) bs at e s k = omega (arith, stands_past is_ocmp bs (at + 9) s.0 s.1.stands)
structure_long (While p q c b) bs at e s k = omega (arith, stands_past is_ocmp bs (at + 5) s.0 s.1.stands)

-- one code is a list of one
pub list_of_one : (c : Code) (bs : List ℕ) (at e : ℕ) → Spells c bs at e → SpellsAll (c ∷ᶜ ⟨⟩) bs at e
unfolding SpellsAll
list_of_one c bs at e s = (e, s, refl)
