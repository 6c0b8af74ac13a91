-- What a call knows that was taken, and what is answered.
use Prim.Native.Nat.{ℕ, zero, suc, ◌≤◌, ◌<◌}
use mathlib.Core.Path.{◌≡◌, refl, sym, ap, ◌∙◌}
use mathlib.Core.Bool.{Bool, true, false, ◌&&◌}
use mathlib.Core.List.{List}
use Rattle.std.specs.Prelude.{Result, Err}
use Rattle.std.proofs.lemmas.Bool.{and_parts}
use native.Mathlib.Omega.{arith}
use borrow.Author.Tests.{leb-true, ne_eqb}
use lib.Dec.{leb}
use Rattle.machine.proofs.RuleLaws.{number_pos}
use Rattle.builder.specs.declared.build.Build.{Build}
use Rattle.builder.specs.Calls.{first_of}
use Rattle.builder.specs.declared.refusal.BuildRefusal.{BuildRefusal}
use Rattle.builder.specs.declared.refusal.BuildRefusal.TheVariants.{Misfit, Field, TooDeep, NoRoom}
use Rattle.builder.specs.Building.{number_of, unless, judge, outcome, left, answered}

-- no refusal has the number 0
pub some_number : (r : BuildRefusal) → number_of r ≡ 0 → ⊥
some_number Misfit e = omega (arith, e)
some_number (Field rule) e = number_pos rule e
some_number TooDeep e = omega (arith, e)
some_number NoRoom e = omega (arith, e)

-- what is known of a taken call
pub record Taken (fits : Bool) (depth bytes room : ℕ) : Type 0 where
  pub it_fits : fits ≡ true
  pub shallow : depth ≤ 32
  pub in_room : bytes ≤ room
  pub in_all : bytes ≤ 16384

pub first_zero : (n m : ℕ) → first_of n m ≡ 0 → (n ≡ 0) × (m ≡ 0)
unfolding first_of
first_zero zero m e = (refl, e)
first_zero (suc n) m e = absurd (omega (arith, e))

unless_zero : (t : Bool) (n next : ℕ) → 0 < n → unless t n next ≡ 0 → (t ≡ true) × (next ≡ 0)
unfolding unless
unless_zero true n next h e = (refl, e)
unless_zero false n next h e = absurd (omega (arith, h, e))

pub was_taken :
    (fits : Bool) (trouble depth bytes room : ℕ) {r : ℕ} → r ≡ judge fits trouble depth bytes room → r ≡ 0 → Taken fits depth bytes room
unfolding judge
was_taken fits trouble depth bytes room e z =
    let a = unless_zero fits 51 _ (omega arith) (sym e ∙ z) in
    let b = first_zero trouble _ a.1 in
    let c = unless_zero (leb depth 32) 53 _ (omega arith) b.1 in
    let d = unless_zero (leb bytes room && leb bytes 16384) 52 _ (omega arith) c.1 in
    let h = and_parts (leb bytes room) (leb bytes 16384) d.0 in
    record {
      it_fits = a.0;
      shallow = leb-true depth 32 c.0;
      in_room = leb-true bytes room h.0;
      in_all = leb-true bytes 16384 h.1;
    }

-- the same judgement of equal things
pub same_judge :
    (fits its : Bool) (trouble depth d bytes n room : ℕ) {r : ℕ} → fits ≡ its → depth ≡ d → bytes ≡ n
    → r ≡ judge fits trouble depth bytes room → r ≡ judge its trouble d n room
same_judge fits its trouble depth d bytes n room e f g h =
    h
    ∙ ap (λ (t : Bool). judge t trouble depth bytes room) e
    ∙ ap (λ (x : ℕ). judge its trouble x bytes room) f
    ∙ ap (λ (x : ℕ). judge its trouble d x room) g

-- ---- what is answered
module _ (b next : Build) (entry written : List ℕ) {n : ℕ} where
  pub taken_as : {now : Build} {exit : List ℕ} → 0 ≡ n → exit ≡ written → now ≡ next → outcome 0 now exit ≡ answered n b next entry written
  taken_as z e f = rw (sym z, e, f) refl

  pub refused_as :
      {r : Result Build BuildRefusal} {e : BuildRefusal} {exit : List ℕ} → r ≡ Err e → number_of e ≡ n → exit ≡ entry
      → left b r exit ≡ answered n b next entry written
  refused_as {e} is z s = rw (is, s, sym z, ne_eqb (number_of e) 0 (some_number e)) refl
