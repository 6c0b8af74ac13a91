-- What a comparison's record says, of the words of its two operands: the six kinds are taken once. Assumes nothing.
use Prim.Native.Nat.{ℕ, ◌+◌, ◌≤◌, ◌<◌}
use mathlib.Core.Path.{◌≡◌, refl, subst, ◌∙◌}
use mathlib.Core.Bool.{Bool, true, ◌&&◌, cond}
use mathlib.Core.List.{List, [], ◌∷◌}
use native.Mathlib.Omega.{arith}
use lib.ListN.{length}
use Rattle.machine.specs.Operands.{unread_number}
use Rattle.machine.specs.declared.Operand.{Operand}
use Rattle.machine.proofs.OperandLaws.{wild_or_above, unread_here, unread_later}
use Rattle.code.specs.Records.{is_ocmp, byte_at, behind, operand_at, ocmp_at}
use Rattle.code.specs.Spells.{Stands}
use Rattle.code.proofs.KindLaws.{each, ◌▹◌}
use Rattle.code.proofs.CodeFrames.{ocmp_operands, ocmp_frame}
use Rattle.eval.specs.Config.{Env, Config}
use Rattle.eval.specs.Instructions.{valid_operand, eval_operand, valid_ocmp, ocmp_number, eval_ocmp}
use Rattle.eval.specs.Promises.{Loads, comparison, Compares}
use Rattle.eval.specs.declared.operand.Loaded.{Loaded}
use Rattle.eval.proofs.OperandLaws.{passes, fails, above_one}

-- one record stands at a place, so that it lies inside the bytes wherever it is said to end
pub stands_inside :
    (bs : List ℕ) (at e : ℕ) → Stands is_ocmp bs at e → e ≤ length bs → (m : ℕ) → Stands is_ocmp bs at m → m ≤ length bs
stands_inside bs at e h l m k =
    omega (arith, (ocmp_operands bs at e h).1.1, (ocmp_operands bs at m k).1.1)

module _ (env : Env) (s : Config) (bs : List ℕ) (at e : ℕ) (stands : Stands is_ocmp bs at e) (inside : e ≤ length bs) where
  abbrev one : Operand
  one = operand_at bs (at + 1)

  abbrev other : Operand
  other = operand_at bs (behind bs (at + 1))

  -- which operands can be read
  abbrev valid : Operand → Bool
  valid o = valid_operand env o s

  -- what is said of the kind k
  abbrev Said : ℕ → Type 0
  Said k =
      byte_at bs at ≡ k →
      (valid_ocmp env (ocmp_at bs at) s ≡ valid_operand env one s && valid_operand env other s)
      × (ocmp_number env (ocmp_at bs at) s ≡ unread_number valid s.regs (one ∷ other ∷ []))
      × (eval_ocmp env (ocmp_at bs at) s ≡ comparison k (eval_operand env one s) (eval_operand env other s))

  said : Said (byte_at bs at)
  unfolding valid_ocmp ocmp_number eval_ocmp comparison
  said =
      let w = ocmp_frame bs at e stands inside in
      each Said 6 0x30
      ((λ h. (rw (w.eq h), rw (w.eq h), rw (w.eq h)))
      ▹ (λ h. (rw (w.ne h), rw (w.ne h), rw (w.ne h)))
      ▹ (λ h. (rw (w.le h), rw (w.le h), rw (w.le h)))
      ▹ (λ h. (rw (w.ge h), rw (w.ge h), rw (w.ge h)))
      ▹ (λ h. (rw (w.lt h), rw (w.lt h), rw (w.lt h)))
      ▹ (λ h. (rw (w.gt h), rw (w.gt h), rw (w.gt h)))
      ▹ tt)
      (byte_at bs at) w.low (omega (arith, w.high))

  -- the answer of a check that fails is its number
  pub first_unread :
      (a : Loaded) → Loads env s one (behind bs (at + 1)) a → (a.number ≡ 0 → ⊥) →
      Compares env s (ocmp_at bs at) e (record { how = a.number; next = 0 })
  first_unread a la h =
      let w = fails (valid_operand env one s) a.number _ la.number h in
      record {
        how = rw ((said refl).0, (said refl).1, unread_here valid s.regs one (other ∷ []) w.0, w.0) w.1;
        next = λ l. absurd (omega (arith, l, w.1, wild_or_above 31 one s.regs (omega arith)));
      }

  pub first_above : (a : Loaded) → Loads env s one (behind bs (at + 1)) a → (a.number ≡ 0 → ⊥) → 1 < a.number
  first_above a la h =
      let w = fails (valid_operand env one s) a.number _ la.number h in
      omega (arith, w.1, wild_or_above 31 one s.regs (omega arith))

  module _ (a b : Loaded) (la : Loads env s one (behind bs (at + 1)) a)
      (lb : Loads env s (operand_at bs a.next) (behind bs a.next) b) (x : a.number ≡ 0) where
    second : Loads env s other (behind bs (behind bs (at + 1))) b
    second = subst (λ (z : ℕ). Loads env s (operand_at bs z) (behind bs z) b) la.next lb

    ends_there : b.next ≡ e
    ends_there = second.next ∙ (ocmp_frame bs at e stands inside).operands.ends

    one_read : valid_operand env one s ≡ true
    one_read = passes (valid_operand env one s) a.number _ la.number (above_one (wild_or_above 31 one s.regs (omega arith))) x

    pub second_unread : (b.number ≡ 0 → ⊥) → Compares env s (ocmp_at bs at) e (record { how = b.number; next = 0 })
    second_unread h =
        let w = fails (valid_operand env other s) b.number _ second.number h in
        let number = unread_later valid s.regs one (other ∷ []) one_read ∙ unread_here valid s.regs other [] w.0 in
        record {
          how = rw ((said refl).0, (said refl).1, number, one_read, w.0) w.1;
          next = λ l. absurd (omega (arith, l, w.1, wild_or_above 31 other s.regs (omega arith)));
        }

    pub second_above : (b.number ≡ 0 → ⊥) → 1 < b.number
    second_above h =
        let w = fails (valid_operand env other s) b.number _ second.number h in
        omega (arith, w.1, wild_or_above 31 other s.regs (omega arith))

    pub compared :
        b.number ≡ 0 →
        (h : Bool) → comparison (byte_at bs at) a.word b.word ≡ h →
        Compares env s (ocmp_at bs at) e (record { how = cond h 1 0; next = b.next })
    compared y h k =
        let other_read = passes (valid_operand env other s) b.number _ second.number (above_one (wild_or_above 31 other s.regs (omega arith))) y in
        record {
          how = rw ((said refl).0, one_read, other_read, (said refl).2, ← (la.word x), ← (second.word y), k);
          next = λ _. ends_there;
        }
