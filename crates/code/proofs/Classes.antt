-- What a class says of the kind byte: the classes are ranges that lie apart. Assumes nothing.
use Prim.Native.Nat.{ℕ}
use mathlib.Core.Path.{◌≡◌, refl, sym, ◌∙◌}
use mathlib.Core.Bool.{Bool, true, false, ◌||◌, cond}
use native.Mathlib.Omega.{arith}
use denote.Enum.Declared.{tag_of, declared}
use Rattle.code.specs.Records.{is_ins, is_structure, is_code, is_ocmp, is_operand}
use Rattle.code.specs.Kinds.{class, is_used}
use Rattle.code.specs.declared.kinds.Class.{Class}
use Rattle.code.specs.declared.kinds.Class.TheVariants.{Instruction, Structure, Comparison, Operand, Unused}
use Rattle.code.specs.contracts.kinds.Class as declared_class
use Rattle.code.proofs.Passing.{clash}
use Rattle.code.proofs.KindLaws.{class_ins, class_structure, class_ocmp, class_operand}

-- the number of a class, in the order of its declaration
abbrev pub tag : Class → ℕ
tag a = tag_of (declared declared_class.enum) a

-- from a class to its range
picked : Bool → Bool → Bool → Bool → Class
picked a b c d = cond a Instruction (cond b Structure (cond c Comparison (cond d Operand Unused)))

pick_ins : (a b c d : Bool) → picked a b c d ≡ Instruction → a ≡ true
unfolding picked
pick_ins true b c d h = refl
pick_ins false true c d h = clash (cc)
pick_ins false false true d h = clash (cc)
pick_ins false false false true h = clash (cc)
pick_ins false false false false h = clash (cc)

pick_structure : (a b c d : Bool) → picked a b c d ≡ Structure → b ≡ true
unfolding picked
pick_structure true b c d h = clash (cc)
pick_structure false true c d h = refl
pick_structure false false true d h = clash (cc)
pick_structure false false false true h = clash (cc)
pick_structure false false false false h = clash (cc)

pick_ocmp : (a b c d : Bool) → picked a b c d ≡ Comparison → c ≡ true
unfolding picked
pick_ocmp true b c d h = clash (cc)
pick_ocmp false true c d h = clash (cc)
pick_ocmp false false true d h = refl
pick_ocmp false false false true h = clash (cc)
pick_ocmp false false false false h = clash (cc)

pick_operand : (a b c d : Bool) → picked a b c d ≡ Operand → d ≡ true
unfolding picked
pick_operand true b c d h = clash (cc)
pick_operand false true c d h = clash (cc)
pick_operand false false true d h = clash (cc)
pick_operand false false false true h = refl
pick_operand false false false false h = clash (cc)

module _ (k : ℕ) (r : Class) (of : r ≡ class k) where
  pub ins_kind : r ≡ Instruction → is_ins k ≡ true
  unfolding class picked
  ins_kind h = pick_ins (is_ins k) (is_structure k) (is_ocmp k) (is_operand k) (sym of ∙ h)

  pub structure_kind : r ≡ Structure → is_structure k ≡ true
  unfolding class picked
  structure_kind h = pick_structure (is_ins k) (is_structure k) (is_ocmp k) (is_operand k) (sym of ∙ h)

  pub ocmp_kind : r ≡ Comparison → is_ocmp k ≡ true
  unfolding class picked
  ocmp_kind h = pick_ocmp (is_ins k) (is_structure k) (is_ocmp k) (is_operand k) (sym of ∙ h)

  pub operand_kind : r ≡ Operand → is_operand k ≡ true
  unfolding class picked
  operand_kind h = pick_operand (is_ins k) (is_structure k) (is_ocmp k) (is_operand k) (sym of ∙ h)

  -- and back: another class, and the kind is not of the range
  denied : (b : Bool) (c : Class) (n : ℕ) → tag c ≡ n → (b ≡ true → class k ≡ c) → (tag r ≡ n → ⊥) → b ≡ false
  denied true c n e h g = absurd (g (let x = h refl in let y : r ≡ c = of ∙ x in rw y e))
  denied false c n e h g = refl

  pub not_operand : (tag r ≡ 3 → ⊥) → is_operand k ≡ false
  not_operand g = denied (is_operand k) Operand 3 refl (class_operand k) g

  pub not_ocmp : (tag r ≡ 2 → ⊥) → is_ocmp k ≡ false
  not_ocmp g = denied (is_ocmp k) Comparison 2 refl (class_ocmp k) g

  pub not_code : (tag r ≡ 0 → ⊥) → (tag r ≡ 1 → ⊥) → is_code k ≡ false
  not_code f g =
      let i : is_ins k ≡ false = denied (is_ins k) Instruction 0 refl (class_ins k) f in
      let s : is_structure k ≡ false = denied (is_structure k) Structure 1 refl (class_structure k) g in
      rw (i, s)

-- the used kinds
or_here : (a b : Bool) → a ≡ true → (a || b) ≡ true
or_here a b h = rw h

or_there : (a b : Bool) → b ≡ true → (a || b) ≡ true
or_there true b h = refl
or_there false b h = h

pub code_used : (k : ℕ) → is_code k ≡ true → is_used k ≡ true
code_used k h = or_here (is_code k) (is_ocmp k || is_operand k) h

pub ins_is_code : (k : ℕ) → is_ins k ≡ true → is_code k ≡ true
ins_is_code k h = or_here (is_ins k) (is_structure k) h

pub structure_is_code : (k : ℕ) → is_structure k ≡ true → is_code k ≡ true
structure_is_code k h = or_there (is_ins k) (is_structure k) h

pub ocmp_used : (k : ℕ) → is_ocmp k ≡ true → is_used k ≡ true
ocmp_used k h = or_there (is_code k) (is_ocmp k || is_operand k) (or_here (is_ocmp k) (is_operand k) h)

pub operand_used : (k : ℕ) → is_operand k ≡ true → is_used k ≡ true
operand_used k h = or_there (is_code k) (is_ocmp k || is_operand k) (or_there (is_ocmp k) (is_operand k) h)

-- a class that is not this one has not its tag
pub no_3 : (r : Class) → (r ≡ Operand → ⊥) → tag r ≡ 3 → ⊥
no_3 Instruction f e = omega arith
no_3 Structure f e = omega arith
no_3 Comparison f e = omega arith
no_3 Operand f e = f refl
no_3 Unused f e = omega arith

pub no_2 : (r : Class) → (r ≡ Comparison → ⊥) → tag r ≡ 2 → ⊥
no_2 Instruction f e = omega arith
no_2 Structure f e = omega arith
no_2 Comparison f e = f refl
no_2 Operand f e = omega arith
no_2 Unused f e = omega arith

pub no_0 : (r : Class) → (r ≡ Instruction → ⊥) → tag r ≡ 0 → ⊥
no_0 Instruction f e = f refl
no_0 Structure f e = omega arith
no_0 Comparison f e = omega arith
no_0 Operand f e = omega arith
no_0 Unused f e = omega arith

pub no_1 : (r : Class) → (r ≡ Structure → ⊥) → tag r ≡ 1 → ⊥
no_1 Instruction f e = omega arith
no_1 Structure f e = f refl
no_1 Comparison f e = omega arith
no_1 Operand f e = omega arith
no_1 Unused f e = omega arith
