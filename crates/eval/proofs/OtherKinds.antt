-- No kind outside a family comes to its function: each kind of the family is one that was told apart. Assumes nothing.
use Prim.Native.Nat.{ℕ, ◌≤◌, ◌<◌}
use mathlib.Core.Path.{◌≡◌, refl}
use mathlib.Core.Bool.{true, false}
use native.Mathlib.Omega.{arith}
use borrow.Author.Tests.{ne_eqb}
use Rattle.machine.specs.declared.Operand.TheVariants.{OConst}
use Rattle.code.specs.Records.{is_ocmp}
use Rattle.code.specs.Families.{is_quads, is_shifts, is_inserts}
use Rattle.code.proofs.Passing.{between_true}
use Rattle.code.proofs.KindLaws.{each, ◌▹◌}
use Rattle.code.proofs.Families.{by_quads_ins, by_shifts_ins, by_inserts_ins}
use Rattle.eval.specs.Instructions.{checks_amount}

-- a kind is another than this one
abbrev Not : ℕ → ℕ → Type 0
Not n k = k ≡ n → ⊥

pub no_quads : (k : ℕ) → is_quads k ≡ true → Not 0x0f k → Not 0x10 k → Not 0x14 k → ⊥
no_quads k h =
    by_quads_ins (λ k i. Not 0x0f k → Not 0x10 k → Not 0x14 k → ⊥) 0 0 (λ f _ _. f refl) (λ _ f _. f refl) (λ _ _ f. f refl) k h

pub no_shifts : (k : ℕ) → is_shifts k ≡ true → Not 0x11 k → Not 0x12 k → ⊥
no_shifts k h = by_shifts_ins (λ k i. Not 0x11 k → Not 0x12 k → ⊥) 0 0 (λ f _. f refl) (λ _ f. f refl) k h

pub no_inserts : (k : ℕ) → is_inserts k ≡ true → Not 0x16 k → Not 0x17 k → ⊥
no_inserts k h = by_inserts_ins (λ k i. Not 0x16 k → Not 0x17 k → ⊥) 0 (OConst 0) 0 (λ f _. f refl) (λ _ f. f refl) k h

pub no_ocmp :
    (k : ℕ) → is_ocmp k ≡ true → Not 0x30 k → Not 0x31 k → Not 0x32 k → Not 0x33 k → Not 0x34 k → Not 0x35 k → ⊥
no_ocmp k h a b c d e f = let w = between_true 0x30 0x35 k h in omega (arith, w.0, w.1)

-- which kinds are those of the shifts
pub shift_kinds : (k : ℕ) → 0x0d ≤ k → k < 0x0f → checks_amount k ≡ true
shift_kinds = each (λ (k : ℕ). checks_amount k ≡ true) 2 0x0d (refl ▹ refl ▹ tt)

pub no_shift : (k : ℕ) → Not 0x0d k → Not 0x0e k → checks_amount k ≡ false
no_shift k f g = rw (ne_eqb k 0x0d f, ne_eqb k 0x0e g)

-- the kinds of lanes that are none up to 12, and none up to 15
past_12 : (k : ℕ) → 0x0f ≤ k → Not 0x0f k → Not 0x10 k → Not 0x11 k → Not 0x12 k → 0x13 ≤ k
past_12 k l a b c d = omega arith

from_13 : (k : ℕ) → 0x13 ≤ k → Not 0x13 k → Not 0x14 k → Not 0x15 k → 0x16 ≤ k
from_13 k l a b c = omega arith

pub past_15 :
    (k : ℕ) → 0x0f ≤ k → Not 0x0f k → Not 0x10 k → Not 0x11 k → Not 0x12 k → Not 0x13 k → Not 0x14 k → Not 0x15 k → 0x16 ≤ k
past_15 k l a b c d = from_13 k (past_12 k l a b c d)
