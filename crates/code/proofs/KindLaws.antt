-- The kinds: each law holds at every byte, by the ranges of the definition or by one test that antt computes.
-- Assumes nothing.
use Prim.Native.Nat.{ℕ, zero, suc, ◌+◌, ◌*◌, ◌/◌, ◌%◌, ◌≤◌, ◌<◌}
use mathlib.Core.Path.{◌≡◌, refl, ap, subst}
use mathlib.Core.Bool.{Bool, true, false, not, ◌&&◌, ◌||◌}
use mathlib.Core.List.{List, [], ◌∷◌}
use mathlib.Core.Logic.{◌⊎◌, inl, inr, ⊎_elim}
use native.Mathlib.Nat.{eq-or-lt_of_le}
use native.Mathlib.Omega.{arith}
use borrow.Author.Tests.{lt-leb, ne_eqb, leb-true, eqb-true, not-true}
use lib.Dec.{eqb, leb}
use Rattle.code.specs.Layout.{Field, register, scale, last_ins}
use Rattle.code.specs.Records.{between, is_ins, is_structure, is_code, is_ocmp, is_operand, body_length, operand_count, judged_fields}
use Rattle.code.specs.Kinds.{class, is_used, entry_of, fields_to, LastField}
use Rattle.code.specs.declared.kinds.Class.TheVariants.{Instruction, Structure, Comparison, Operand, Unused}
use Rattle.code.proofs.Passing.{clash, and_both, or_right, or_none, between_true}

-- a test that passes at each of n numbers from low on
abbrev pub all_from : (ℕ → Bool) → ℕ → ℕ → Bool
all_from f low zero = true
all_from f low (suc n) = f low && all_from f (suc low) n

pub within : (f : ℕ → Bool) (n low : ℕ) → all_from f low n ≡ true → (k : ℕ) → low ≤ k → k < low + n → f k ≡ true
within f zero low h k l m = absurd (omega arith)
within f (suc n) low h k l m =
    let w = and_both (f low) (all_from f (suc low) n) h in
    ⊎_elim
    (λ e. subst (λ (x : ℕ). f x ≡ true) e w.0)
    (λ e. within f n (suc low) w.1 k (omega arith) (omega arith))
    (eq-or-lt_of_le l)

-- what holds of n numbers from low on
abbrev pub Each : (ℕ → Type 0) → ℕ → ℕ → Type 0
Each P low zero = Unit {0}
Each P low (suc n) = P low × Each P (suc low) n

pub ◌▹◌ : {A B : Type 0} → A → B → A × B
a ▹ b = (a, b)

infixr 5 ◌▹◌
pub each : (P : ℕ → Type 0) (n low : ℕ) → Each P low n → (k : ℕ) → low ≤ k → k < low + n → P k
each P zero low h k l m = absurd (omega arith)
each P (suc n) low h k l m =
    ⊎_elim (λ e. subst P e h.0) (λ e. each P n (suc low) h.1 k (omega arith) (omega arith)) (eq-or-lt_of_le l)

-- what a function says of n numbers from low on, and two that say the same
abbrev pub answers : {A : Type 0} → (ℕ → A) → ℕ → ℕ → List A
answers f low zero = []
answers f low (suc n) = f low ∷ answers f (suc low) n

pub same_within :
    {A : Type 0} (f g : ℕ → A) (n low : ℕ) → answers f low n ≡ answers g low n → (k : ℕ) → low ≤ k → k < low + n → f k ≡ g k
same_within {A} f g n low h k l m = each (λ (x : ℕ). f x ≡ g x) n low (each_same n low h) k l m
  where
    each_same : (n low : ℕ) → answers f low n ≡ answers g low n → Each (λ (x : ℕ). f x ≡ g x) low n
    each_same zero low h = tt
    each_same (suc n) low h = (cc, each_same n (suc low) (cc))

and_none : (a b : Bool) → b ≡ false → (a && b) ≡ false
and_none true b h = h
and_none false b h = refl

pub outside : (low high k : ℕ) → (k < low) ⊎ (high < k) → between low high k ≡ false
outside low high k (inl h) = rw (lt-leb low k h)
outside low high k (inr h) = and_none (leb low k) (leb k high) (lt-leb k high h)

-- the instructions stand below the structures
pub ins_below : (k : ℕ) → is_ins k ≡ true → k < 0x20
ins_below k h = omega (arith, (between_true 0x01 last_ins k h).1)

pub no_ins : (k : ℕ) → 0x20 ≤ k → is_ins k ≡ false
no_ins k l = outside 0x01 last_ins k (inr (omega arith))

-- the class of each range, and of the gaps between them
pub class_ins : (k : ℕ) → is_ins k ≡ true → class k ≡ Instruction
unfolding class
class_ins k h = rw h

pub class_structure : (k : ℕ) → is_structure k ≡ true → class k ≡ Structure
unfolding class
class_structure k h = rw (no_ins k (between_true 0x20 0x22 k h).0, h)

pub class_ocmp : (k : ℕ) → is_ocmp k ≡ true → class k ≡ Comparison
unfolding class
class_ocmp k h =
    let w = between_true 0x30 0x35 k h in
    rw (no_ins k (omega arith), outside 0x20 0x22 k (inr (omega arith)), h)

pub class_operand : (k : ℕ) → is_operand k ≡ true → class k ≡ Operand
unfolding class
class_operand k h =
    let w = between_true 0x40 0x44 k h in
    rw (no_ins k (omega arith), outside 0x20 0x22 k (inr (omega arith)), outside 0x30 0x35 k (inr (omega arith)), h)

pub class_gap : (low n k : ℕ) → all_from (λ x. not (is_used x)) low n ≡ true → low ≤ k → k < low + n → class k ≡ Unused
unfolding class
class_gap low n k h l m =
    let used = or_none (is_code k) (is_ocmp k || is_operand k) (not-true (is_used k) (within (λ x. not (is_used x)) n low h k l m)) in
    let code = or_none (is_ins k) (is_structure k) used.0 in
    let rest = or_none (is_ocmp k) (is_operand k) used.1 in
    rw (code.0, code.1, rest.0, rest.1)

-- both counts fit their places in an entry
small : ℕ → Bool
small k = leb (body_length k) 12 && leb (operand_count k) 3

pub counts : (k : ℕ) → k < 256 → (body_length k ≤ 12) × (operand_count k ≤ 3)
unfolding small body_length operand_count
counts k l =
    let w = and_both _ _ (within small 256 0 refl k (omega arith) (omega arith)) in
    (leb-true (body_length k) 12 w.0, leb-true (operand_count k) 3 w.1)

-- an entry of a used kind, taken apart
pub entry_body : (k r : ℕ) → k < 256 → is_used k ≡ true → r ≡ entry_of k → (r / 4 ≡ body_length k) × (r / 4 < 64)
unfolding entry_of
entry_body k r l u h =
    let w = counts k l in
    let e : r ≡ 4 * body_length k + operand_count k = rw (h, u) in
    omega arith

pub entry_count : (k r : ℕ) → k < 256 → is_used k ≡ true → r ≡ entry_of k → r % 4 ≡ operand_count k
unfolding entry_of
entry_count k r l u h =
    let w = counts k l in
    let e : r ≡ 4 * body_length k + operand_count k = rw (h, u) in
    omega arith

-- the judged fields of a range of kinds, by a test of each
unfoldable pub same_field : Field → Field → Bool
same_field (register m) (register n) = eqb m n
same_field (register m) (scale n) = false
same_field (scale m) (register n) = false
same_field (scale m) (scale n) = eqb m n

same_field_true : (x y : Field) → same_field x y ≡ true → x ≡ y
unfolding same_field
same_field_true (register m) (register n) h = ap register (eqb-true m n h)
same_field_true (register m) (scale n) h = clash (cc)
same_field_true (scale m) (register n) h = clash (cc)
same_field_true (scale m) (scale n) h = ap scale (eqb-true m n h)

unfoldable pub same : List Field → List Field → Bool
same [] [] = true
same [] (y ∷ ys) = false
same (x ∷ xs) [] = false
same (x ∷ xs) (y ∷ ys) = same_field x y && same xs ys

pub same_true : (xs ys : List Field) → same xs ys ≡ true → xs ≡ ys
unfolding same
same_true [] [] h = refl
same_true [] (y ∷ ys) h = clash (cc)
same_true (x ∷ xs) [] h = clash (cc)
same_true (x ∷ xs) (y ∷ ys) h =
    let w = and_both (same_field x y) (same xs ys) h in
    let e : x ≡ y = same_field_true x y w.0 in
    let f : xs ≡ ys = same_true xs ys w.1 in
    cc

unfoldable pub last_is : ℕ → ℕ → Bool
last_is r k = same (judged_fields k) (fields_to r) && leb r (body_length k)

last_of : (r k : ℕ) → last_is r k ≡ true → LastField k r
unfolding last_is
last_of r k h =
    let w = and_both _ _ h in
    record { fields = same_true (judged_fields k) (fields_to r) w.0; inside = leb-true r (body_length k) w.1 }

pub last_in : (r low n k : ℕ) → all_from (last_is r) low n ≡ true → low ≤ k → k < low + n → LastField k r
last_in r low n k h l m = last_of r k (within (last_is r) n low h k l m)

pub last_at : (r k x : ℕ) → last_is r x ≡ true → k ≡ x → LastField k r
last_at r k x h e = last_of r k (rw e h)

-- above 17 only four kinds have judged fields
unfoldable pub last_or : ℕ → Bool
last_or k = eqb k 0x18 || (eqb k 0x41 || (eqb k 0x43 || (eqb k 0x44 || last_is 0 k)))

pub last_none :
    (k : ℕ) → 0x18 ≤ k → k < 256 → (k ≡ 0x18 → ⊥) → (k ≡ 0x41 → ⊥) → (k ≡ 0x43 → ⊥) → (k ≡ 0x44 → ⊥) → LastField k 0
unfolding last_or last_is same same_field judged_fields body_length
last_none k l m a b c d =
    last_of 0 k
    (or_right _ _
    (or_right _ _ (or_right _ _ (or_right _ _ (within last_or 232 0x18 refl k l (omega arith)) (ne_eqb k 0x18 a)) (ne_eqb k 0x41 b)) (ne_eqb k 0x43 c))
    (ne_eqb k 0x44 d))
