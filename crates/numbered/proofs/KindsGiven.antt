-- The kind says which instruction or comparison the numbers give. Assumes nothing.
use Prim.Native.Nat.{ℕ, ◌≤◌}
use mathlib.Core.Path.{◌≡◌, sym, ap}
use mathlib.Core.Bool.{Bool, true}
use mathlib.Core.List.{List, [], ◌∷◌}
use native.Mathlib.Omega.{arith}
use borrow.Author.Tests.{leb-true}
use Rattle.std.proofs.lemmas.Bool.{and_parts}
use lib.Dec.{leb}
use Rattle.machine.specs.declared.Operand.{Operand}
use Rattle.code.specs.declared.kinds.Class.{Class}
use Rattle.code.specs.declared.kinds.Class.TheVariants.{Instruction, Comparison}
use Rattle.code.specs.declared.tree.Instruction.{Instruction as Ins}
use Rattle.code.specs.declared.tree.Ocmp.{Ocmp}
use Rattle.code.specs.Layout.{ins_of, ocmp_of}
use Rattle.std.specs.Prelude.{Some}
use Rattle.code.specs.Records.{is_ins, is_ocmp, operand_count}
use Rattle.code.specs.Kinds.{class}
use Rattle.code.proofs.KindLaws.{counts}
use Rattle.code.proofs.Classes.{ins_kind, ocmp_kind}
use Rattle.numbered.specs.declared.operands.Numbers.{Numbers}
use Rattle.numbered.specs.Given.{operand_of, operands_of, is_instruction, is_comparison}
use Rattle.numbered.specs.Values.{instruction_given, comparison_given}

pub ocmp_range : (k : ℕ) → is_ocmp k ≡ true → (0x30 ≤ k) × (k ≤ 0x35)
ocmp_range k h =
    let e = and_parts (leb 0x30 k) (leb k 0x35) h in
    (leb-true 0x30 k e.0, leb-true k 0x35 e.1)

pub ins_range : (k : ℕ) → is_ins k ≡ true → (0x01 ≤ k) × (k ≤ 0x1b)
ins_range k h =
    let e = and_parts (leb 0x01 k) (leb k 0x1b) h in
    (leb-true 0x01 k e.0, leb-true k 0x1b e.1)

-- ---- whether numbers are an instruction's or a comparison's

module _ (n : Numbers) {r : Class} (of : r ≡ class n.kind) where
  pub few_ins : {count : ℕ} → r ≡ Instruction → count ≡ operand_count n.kind → count ≤ 3
  few_ins h e =
      let range = (ins_range n.kind (ins_kind n.kind r of h)).1 in
      omega (arith, (counts n.kind (omega arith)).1)

  pub few_ocmp : {count : ℕ} → r ≡ Comparison → count ≡ operand_count n.kind → count ≤ 3
  few_ocmp h e =
      let range = (ocmp_range n.kind (ocmp_kind n.kind r of h)).1 in
      omega (arith, (counts n.kind (omega arith)).1)

-- ---- what they give
module _ (n : Numbers) where
  pub gives_comparison :
      {t : Bool} {a b : Operand} {c : Ocmp} → t ≡ is_comparison n → t ≡ true → a ≡ operand_of n 0 → b ≡ operand_of n 1
      → ((os : List Operand) → c ≡ ocmp_of n.kind (a ∷ b ∷ os)) → Some c ≡ comparison_given n
  unfolding comparison_given
  gives_comparison {t} e h p q f =
      rw (sym e, h, sym p, sym q) (ap Some (f (operand_of n 2 ∷ [])))

  -- what is made of the kind, the body and the operands is what they give
  pub gives :
      {t : Bool} {i : Ins} → t ≡ is_instruction n → t ≡ true → i ≡ ins_of n.kind n.body (operands_of n)
      → Some i ≡ instruction_given n
  unfolding instruction_given
  gives {t} e h f = rw (sym e, h) (ap Some f)

  pub of_operands :
      {a b c : Operand} {i : Ins} → a ≡ operand_of n 0 → b ≡ operand_of n 1 → c ≡ operand_of n 2
      → ((bytes : List ℕ) → i ≡ ins_of n.kind bytes (a ∷ b ∷ c ∷ [])) → i ≡ ins_of n.kind n.body (operands_of n)
  of_operands p q u f = rw (sym p, sym q, sym u) (f n.body)

  pub of_both :
      {a : Operand} {i : Ins} → a ≡ operand_of n 0
      → ((os : List Operand) → i ≡ ins_of n.kind n.body (a ∷ os)) → i ≡ ins_of n.kind n.body (operands_of n)
  of_both p f = rw (sym p) (f (operand_of n 1 ∷ operand_of n 2 ∷ []))
