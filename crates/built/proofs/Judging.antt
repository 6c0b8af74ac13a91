-- The numbers of the refusals, each by the conditions before it: one law of a condition, put in a row three times, and one of the trouble in the
-- fields between the first and the second. Assumes nothing.
use Prim.Native.Nat.{ℕ, zero, suc, ◌≤◌, ◌<◌}
use mathlib.Core.Path.{◌≡◌, refl}
use mathlib.Core.Bool.{Bool, true, false, ◌&&◌, false≢true}
use native.Mathlib.Omega.{arith}
use borrow.Author.Tests.{leb-true, le-leb}
use lib.Dec.{leb}
use Rattle.builder.specs.Calls.{first_of}
use Rattle.builder.specs.Building.{unless, judge}
use Rattle.built.specs.Claims.{Exactly}
use Rattle.std.proofs.lemmas.Bool.{and_parts}

-- ---- one condition, a test p of P: its number n, and what follows
module _ {P : Type 0} where
  -- its number is answered exactly where it is not met
  here : (p : Bool) (n next : ℕ) → Exactly (p ≡ true) P → (next ≡ n → ⊥) → Exactly (unless p n next ≡ n) (P → ⊥)
  unfolding unless
  here true n next t k = (λ e. absurd (k e), λ f. absurd (f (t.0 refl)))
  here false n next t k = (λ e h. false≢true (t.1 h), λ f. refl)

  -- another number exactly where it is met and what follows answers so
  there : (p : Bool) (n next m : ℕ) {A : Type 0} → Exactly (p ≡ true) P → (n ≡ m → ⊥) → Exactly (next ≡ m) A → Exactly (unless p n next ≡ m) (P × A)
  unfolding unless
  there true n next m t k f = (λ e. (t.0 refl, f.0 e), λ h. f.1 h.1)
  there false n next m t k f = (λ e. absurd (k e), λ h. absurd (false≢true (t.1 h.0)))

  -- and the number behind the last condition exactly where that is met
  past : (p : Bool) (n m : ℕ) → Exactly (p ≡ true) P → (n ≡ m → ⊥) → Exactly (unless p n m ≡ m) P
  unfolding unless
  past true n m t k = (λ e. t.0 refl, λ h. refl)
  past false n m t k = (λ e. absurd (k e), λ h. absurd (false≢true (t.1 h)))

-- a number that neither the condition nor what follows answers
neither : (p : Bool) (n next m : ℕ) → (n ≡ m → ⊥) → (next ≡ m → ⊥) → unless p n next ≡ m → ⊥
unfolding unless
neither true n next m k l e = l e
neither false n next m k l e = k e

-- ---- the trouble t in the fields, 0 or another number up to 7, and what follows
-- such a number is answered exactly where it is the trouble
its_number : (t next m : ℕ) → 0 < m → (next ≡ m → ⊥) → Exactly (first_of t next ≡ m) (t ≡ m)
unfolding first_of
its_number zero next m h k = (λ e. absurd (k e), λ e. absurd (omega (arith, h, e)))
its_number (suc n) next m h k = (λ e. e, λ e. e)

-- another exactly where there is no trouble and what follows answers so
no_trouble :
    (t next m : ℕ) {A : Type 0} → t ≤ 7 → (m ≤ 7 → m ≡ 0) → Exactly (next ≡ m) A → Exactly (first_of t next ≡ m) ((t ≡ 0) × A)
unfolding first_of
no_trouble zero next m l h f = (λ e. (refl, f.0 e), λ w. f.1 w.1)
no_trouble (suc n) next m l h f =
    (λ e. absurd (let z = h (omega (arith, l, e)) in omega (arith, e, z)), λ w. absurd (omega (arith, w.0)))

-- a number above 7 that what follows does not answer
above : (t next m : ℕ) → t ≤ 7 → 7 < m → (next ≡ m → ⊥) → first_of t next ≡ m → ⊥
unfolding first_of
above zero next m l h k e = k e
above (suc n) next m l h k e = omega (arith, l, h, e)

-- the tests
itself : (p : Bool) → Exactly (p ≡ true) (p ≡ true)
itself p = (λ h. h, λ h. h)

at_most : (a b : ℕ) → Exactly (leb a b ≡ true) (a ≤ b)
at_most a b = (leb-true a b, le-leb a b)

at_most_both : (a b c : ℕ) → Exactly (leb a b && leb a c ≡ true) ((a ≤ b) × (a ≤ c))
at_most_both a b c =
    (λ h. let w = and_parts (leb a b) (leb a c) h in (leb-true a b w.0, leb-true a c w.1), λ h. rw (le-leb a b h.0, le-leb a c h.1))

-- conditions in a row
pub three : {X P Q R : Type 0} → Exactly X (P × (Q × R)) → Exactly X (P × Q × R)
three w = (λ x. let h = w.0 x in (h.0, h.1.0, h.1.1), λ h. w.1 (h.0, (h.1, h.2)))

pub four : {X P Q R S : Type 0} → Exactly X (P × (Q × (R × S))) → Exactly X (P × Q × R × S)
four w = (λ x. let h = w.0 x in (h.0, h.1.0, h.1.1.0, h.1.1.1), λ h. w.1 (h.0, (h.1, (h.2, h.3))))

-- ---- the conditions and the trouble in their order
module _ (fits : Bool) (trouble depth bytes room : ℕ) (small : trouble ≤ 7) where
  -- the answer
  abbrev answered : ℕ
  answered = judge fits trouble depth bytes room

  -- the last condition, and what follows each before it
  abbrev short : Bool
  short = leb bytes room && leb bytes 16384

  abbrev if_shallow : ℕ
  if_shallow = unless short 52 0

  abbrev if_right : ℕ
  if_right = unless (leb depth 32) 53 if_shallow

  abbrev if_fits : ℕ
  if_fits = first_of trouble if_right

  is_short : Exactly (short ≡ true) ((bytes ≤ room) × (bytes ≤ 16384))
  is_short = at_most_both bytes room 16384

  -- what follows the fields answers neither 51 nor a number up to 7 but 0
  not_behind : (m : ℕ) → (53 ≡ m → ⊥) → (52 ≡ m → ⊥) → (0 ≡ m → ⊥) → if_right ≡ m → ⊥
  not_behind m h k l = neither (leb depth 32) 53 if_shallow m h (neither short 52 0 m k l)

  module _ (m : ℕ) where
    -- a later number is answered where the earlier conditions are met
    behind_fits : {A : Type 0} → (51 ≡ m → ⊥) → Exactly (if_fits ≡ m) A → Exactly (answered ≡ m) ((fits ≡ true) × A)
    unfolding judge
    behind_fits k w = there fits 51 if_fits m (itself fits) k w

    behind_fields : {A : Type 0} → (m ≤ 7 → m ≡ 0) → Exactly (if_right ≡ m) A → Exactly (if_fits ≡ m) ((trouble ≡ 0) × A)
    behind_fields h w = no_trouble trouble if_right m small h w

    behind_depth : {A : Type 0} → (53 ≡ m → ⊥) → Exactly (if_shallow ≡ m) A → Exactly (if_right ≡ m) ((depth ≤ 32) × A)
    behind_depth k w = there (leb depth 32) 53 if_shallow m (at_most depth 32) k w

    -- the number of a field
    pub judged_field : 0 < m → m ≤ 7 → Exactly (answered ≡ m) ((fits ≡ true) × (trouble ≡ m))
    judged_field h l =
        behind_fits (omega (arith, l)) (its_number trouble if_right m h (not_behind m (omega (arith, l)) (omega (arith, l)) (omega (arith, h))))

  pub judged_51 : Exactly (answered ≡ 51) (fits ≡ true → ⊥)
  unfolding judge
  judged_51 =
      here fits 51 if_fits (itself fits)
      (above trouble if_right 51 small (omega arith) (not_behind 51 (omega arith) (omega arith) (omega arith)))

  pub judged_53 : Exactly (answered ≡ 53) ((fits ≡ true) × (trouble ≡ 0) × (depth ≤ 32 → ⊥))
  judged_53 =
      three (behind_fits 53 (omega arith) (behind_fields 53 (omega arith)
      (here (leb depth 32) 53 if_shallow (at_most depth 32) (neither short 52 0 53 (omega arith) (omega arith)))))

  pub judged_52 : Exactly (answered ≡ 52) ((fits ≡ true) × (trouble ≡ 0) × (depth ≤ 32) × ((bytes ≤ room) × (bytes ≤ 16384) → ⊥))
  judged_52 =
      four (behind_fits 52 (omega arith) (behind_fields 52 (omega arith) (behind_depth 52 (omega arith) (here short 52 0 is_short (omega arith)))))

  pub judged_0 : Exactly (answered ≡ 0) ((fits ≡ true) × (trouble ≡ 0) × (depth ≤ 32) × ((bytes ≤ room) × (bytes ≤ 16384)))
  judged_0 =
      four (behind_fits 0 (omega arith) (behind_fields 0 (λ l. refl) (behind_depth 0 (omega arith) (past short 52 0 is_short (omega arith)))))
