-- What a reading went through that got something: every test on the way passed. Assumes nothing.
use Prim.Native.Nat.{ℕ, ◌+◌, ◌≤◌}
use mathlib.Core.Path.{◌≡◌, refl}
use mathlib.Core.Bool.{Bool, true, false, not, ◌&&◌, ◌||◌, cond}
use mathlib.Core.List.{List, [], ◌∷◌}
use mathlib.Core.Logic.{◌⊎◌, inl, inr}
use native.Mathlib.Omega.{arith}
use borrow.Author.Tests.{ltb-false, leb-true, le-ltb, le-leb, not-false}
use lib.Dec.{ltb, leb}
use Rattle.machine.specs.Operands.{is_scale}
use Rattle.code.specs.Layout.{Field, register, scale}
use Rattle.code.specs.Records.{between, byte_at, signed_at}
use Rattle.code.specs.Reader.{Read, got, trouble, followed, unless, with_fields}
use Rattle.code.specs.Spells.{Fields}

-- an equation of two different constructors, of which `cc` makes 0 ≡ 1, says anything
pub clash : {A : Type 0} → ◌≡◌ {A = ℕ} 0 1 → A
clash z = absurd (omega arith)

module _ {A : Type 0} where
  pub got_same : (a b : A) (m n : ℕ) → got a m ≡ got b n → (a ≡ b) × (m ≡ n)
  got_same a b m n h = (cc, cc)

  pub passed : (t : Bool) (n p : ℕ) (k : Read A) (a : A) (m : ℕ) → unless t n p k ≡ got a m → (t ≡ false) × (k ≡ got a m)
  passed true n p k a m h = clash (cc)
  passed false n p k a m h = (refl, h)

  pub either : (t : Bool) (x y r : Read A) → cond t x y ≡ r → ((t ≡ true) × (x ≡ r)) ⊎ ((t ≡ false) × (y ≡ r))
  either true x y r h = inl (refl, h)
  either false x y r h = inr (refl, h)

  pub fields_passed :
      (fs : List Field) (bs : List ℕ) (at : ℕ) (k : Read A) (a : A) (m : ℕ) →
      with_fields fs bs at k ≡ got a m → Fields fs bs at × (k ≡ got a m)
  unfolding with_fields
  fields_passed [] bs at k a m h = (tt, h)
  fields_passed (register f ∷ fs) bs at k a m h =
      let w = passed (ltb 15 (byte_at bs (at + f))) 4 (at + f) (with_fields fs bs at k) a m h in
      let r = fields_passed fs bs at k a m w.1 in
      ((ltb-false _ _ w.0, r.0), r.1)
  fields_passed (scale f ∷ fs) bs at k a m h =
      let w = passed (not (is_scale (signed_at 2 bs (at + f)))) 7 (at + f) (with_fields fs bs at k) a m h in
      let r = fields_passed fs bs at k a m w.1 in
      ((not-false _ w.0, r.0), r.1)

  pub fields_pass : (fs : List Field) (bs : List ℕ) (at : ℕ) (k : Read A) → Fields fs bs at → with_fields fs bs at k ≡ k
  unfolding with_fields
  fields_pass [] bs at k h = refl
  fields_pass (register f ∷ fs) bs at k h =
      rw (le-ltb 15 (byte_at bs (at + f)) h.0) (fields_pass fs bs at k h.1)
  fields_pass (scale f ∷ fs) bs at k h = rw h.0 (fields_pass fs bs at k h.1)

pub went_on :
    {A B : Type 0} (r : Read A) (k : A → ℕ → Read B) (b : B) (n : ℕ) →
    followed r k ≡ got b n → (a : A) × (m : ℕ) × (r ≡ got a m) × (k a m ≡ got b n)
unfolding followed
went_on (got a m) k b n h = (a, m, refl, h)
went_on (trouble x p) k b n h = clash (cc)

-- Booleans
pub and_both : (a b : Bool) → (a && b) ≡ true → (a ≡ true) × (b ≡ true)
and_both true b h = (refl, h)
and_both false b h = clash (cc)

pub or_right : (a b : Bool) → (a || b) ≡ true → a ≡ false → b ≡ true
or_right true b h k = clash (cc)
or_right false b h k = h

pub or_none : (a b : Bool) → (a || b) ≡ false → (a ≡ false) × (b ≡ false)
or_none true b h = clash (cc)
or_none false b h = (refl, h)

pub never : true ≡ false → ⊥
never h = clash (cc)

-- the kinds of a range
pub between_true : (low high k : ℕ) → between low high k ≡ true → (low ≤ k) × (k ≤ high)
between_true low high k h =
    let w = and_both (leb low k) (leb k high) h in
    (leb-true _ _ w.0, leb-true _ _ w.1)

pub true_between : (low high k : ℕ) → low ≤ k → k ≤ high → between low high k ≡ true
true_between low high k l h = rw (le-leb low k l, le-leb k high h)
