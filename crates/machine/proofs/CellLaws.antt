-- Checking cells. The check goes cell by cell and carries the end of the one before, so each law is one step of it: a cell that
-- breaks no rule is well formed, starts at the running end or behind it and ends at 2^64 or before.
use Rattle.std.proofs.Common.{◌≡◌, ℕ, suc, ◌+◌, ◌-◌, ◌/◌, ◌^◌, ◌<◌, ◌≤◌, Bool, true, false, cond, not, ◌||◌, eqb, ltb, leb, List, ◌∷◌, length, get_or, drop, sym, refl, ◌∙◌, add-one, arith, drop_of_length-le, drop-cons, ltb-false, le-ltb, lt-ltb, eq-eqb, ne_eqb, eqb-true, le-leb, leb-false}
use Rattle.std.specs.Prelude.{Option, Some, None}
use mathlib.Core.Path.{subst⁻¹}
use borrow.Author.Tests.{lt-leb}
use Rattle.machine.specs.Cells.{Verdict, accepted, refused, is_tag, cell_rule, check_from, check_cells, SameLengths}

-- ---- tags
-- what holds of the four tags holds of a tag
pub by_tag : (P : ℕ → Type 0) → P 8 → P 16 → P 32 → P 64 → (t : ℕ) → is_tag t ≡ true → P t
unfolding is_tag
by_tag P a b c d t e = go (eqb t 8) refl (eqb t 16) refl (eqb t 32) refl (eqb t 64) refl e
  where
    go : (p : Bool) → eqb t 8 ≡ p → (q : Bool) → eqb t 16 ≡ q → (r : Bool) → eqb t 32 ≡ r → (s : Bool) → eqb t 64 ≡ s → p || q || r || s ≡ true → P t
    go true ep q eq r er s es e = subst⁻¹ P (eqb-true t 8 ep) a
    go false ep true eq r er s es e = subst⁻¹ P (eqb-true t 16 eq) b
    go false ep false eq true er s es e = subst⁻¹ P (eqb-true t 32 er) c
    go false ep false eq false er true es e = subst⁻¹ P (eqb-true t 64 es) d
    go false ep false eq false er false es e = absurd (let z : ◌≡◌ {A = ℕ} 0 1 = cc in omega arith)

pub no_tag : (t : ℕ) → (t ≡ 8 → ⊥) → (t ≡ 16 → ⊥) → (t ≡ 32 → ⊥) → (t ≡ 64 → ⊥) → is_tag t ≡ false
unfolding is_tag
no_tag t a b c d = rw (ne_eqb t 8 a, ne_eqb t 16 b, ne_eqb t 32 c, ne_eqb t 64 d)

-- ---- one cell
-- a cell that breaks no rule, where the one before ends at `last`
pub record GoodCell (last a t v : ℕ) : Type 0 where
  pub tag : is_tag t ≡ true
  pub fits : v < 2 ^ t
  pub from : last ≤ a
  pub within : a + t / 8 ≤ 2 ^ 64

pub good_of : (last a t v : ℕ) → cell_rule last a t v ≡ 0 → GoodCell last a t v
unfolding cell_rule
good_of last a t v e = go (is_tag t) refl (leb (2 ^ t) v) refl (ltb a last) refl (ltb (2 ^ 64) (a + t / 8)) refl e
  where
    go : (p : Bool) → is_tag t ≡ p → (q : Bool) → leb (2 ^ t) v ≡ q → (r : Bool) → ltb a last ≡ r → (s : Bool) → ltb (2 ^ 64) (a + t / 8) ≡ s
        → ◌≡◌ {A = ℕ} (cond (not p) 13 (cond q 14 (cond (r || s) 15 0))) 0 → GoodCell last a t v
    go true ep false eq false er false es e =
        record { tag = ep; fits = leb-false (2 ^ t) v eq; from = ltb-false a last er; within = ltb-false (2 ^ 64) (a + t / 8) es }
    go false ep q eq r er s es e = absurd (omega arith)
    go true ep true eq r er s es e = absurd (omega arith)
    go true ep false eq true er s es e = absurd (omega arith)
    go true ep false eq false er true es e = absurd (omega arith)

pub rule_of_good : (last a t v : ℕ) → GoodCell last a t v → cell_rule last a t v ≡ 0
unfolding cell_rule
rule_of_good last a t v g =
    rw (g.tag, lt-leb (2 ^ t) v g.fits, le-ltb a last g.from, le-ltb (2 ^ 64) (a + t / 8) g.within)

-- ---- the rule that the code finds, from the largest value of the tag
-- that value, if the tag is one
abbrev pub largest : ℕ → Option ℕ
largest t = cond (is_tag t) (Some (2 ^ t - 1)) None

-- the largest value of a tag
pub record Largest (t top : ℕ) : Type 0 where
  pub tag : is_tag t ≡ true
  pub is : top ≡ 2 ^ t - 1

pub largest_some : (t top : ℕ) → Some top ≡ largest t → Largest t top
largest_some t top e = go (is_tag t) refl e
  where
    go : (b : Bool) → is_tag t ≡ b → Some top ≡ cond b (Some (2 ^ t - 1)) None → Largest t top
    go true p q = record { tag = p; is = cc }
    go false p q = absurd (let z : ◌≡◌ {A = ℕ} 0 1 = cc in omega arith)

pub largest_none : (t : ℕ) → None ≡ largest t → is_tag t ≡ false
largest_none t e = go (is_tag t) refl e
  where
    go : (b : Bool) → is_tag t ≡ b → None ≡ cond b (Some (2 ^ t - 1)) None → is_tag t ≡ false
    go true p q = absurd (let z : ◌≡◌ {A = ℕ} 0 1 = cc in omega arith)
    go false p q = p

above_one : (t : ℕ) → is_tag t ≡ true → 1 < 2 ^ t
above_one = by_tag (λ (k : ℕ). 1 < 2 ^ k) (omega arith) (omega arith) (omega arith) (omega arith)

pub bytes_pos : (t : ℕ) → is_tag t ≡ true → 1 ≤ t / 8
bytes_pos = by_tag (λ (k : ℕ). 1 ≤ k / 8) (omega arith) (omega arith) (omega arith) (omega arith)

module _ (last a t v : ℕ) where
  pub rule_13 : is_tag t ≡ false → 13 ≡ cell_rule last a t v
  unfolding cell_rule
  rule_13 e = rw e

  module _ (top : ℕ) (l : Largest t top) where
    pub rule_14 : top < v → 14 ≡ cell_rule last a t v
    unfolding cell_rule
    rule_14 h = rw (l.tag, le-leb (2 ^ t) v (omega (arith, l.is, above_one t l.tag)))

    fits : v ≤ top → leb (2 ^ t) v ≡ false
    fits h = lt-leb (2 ^ t) v (omega (arith, l.is, above_one t l.tag))

    pub rule_15_before : v ≤ top → ltb a last ≡ true → 15 ≡ cell_rule last a t v
    unfolding cell_rule
    rule_15_before h e = rw (l.tag, fits h, e)

    pub rule_15_end : v ≤ top → a < 2 ^ 64 → ltb a last ≡ false → 2 ^ 64 - 1 - a < t / 8 - 1 → 15 ≡ cell_rule last a t v
    unfolding cell_rule
    rule_15_end h k e g = rw (l.tag, fits h, e, lt-ltb (2 ^ 64) (a + t / 8) (omega arith))

    pub rule_none : v ≤ top → a < 2 ^ 64 → ltb a last ≡ false → t / 8 - 1 ≤ 2 ^ 64 - 1 - a → 0 ≡ cell_rule last a t v
    unfolding cell_rule
    rule_none h k e g = rw (l.tag, fits h, e, le-ltb (2 ^ 64) (a + t / 8) (omega (arith, bytes_pos t l.tag)))

-- ---- the cells in turn
pub check_on : (i last a t v : ℕ) (xs ts vs : List ℕ) → cell_rule last a t v ≡ 0
    → check_from i last (a ∷ xs) (t ∷ ts) (v ∷ vs) ≡ check_from (suc i) (a + t / 8) xs ts vs
unfolding check_from
check_on i last a t v xs ts vs e = rw (eq-eqb (cell_rule last a t v) 0 e)

pub check_stop : (i last a t v : ℕ) (xs ts vs : List ℕ) → (cell_rule last a t v ≡ 0 → ⊥)
    → check_from i last (a ∷ xs) (t ∷ ts) (v ∷ vs) ≡ refused (cell_rule last a t v) i
unfolding check_from
check_stop i last a t v xs ts vs n = rw (ne_eqb (cell_rule last a t v) 0 n)

-- at an index of the lists
module _ (xs ts vs : List ℕ) (same : SameLengths xs ts vs) (i last : ℕ) (h : i < length xs) where
  parts : check_from i last (drop i xs) (drop i ts) (drop i vs)
      ≡ check_from i last (get_or xs i 0 ∷ drop (suc i) xs) (get_or ts i 0 ∷ drop (suc i) ts) (get_or vs i 0 ∷ drop (suc i) vs)
  parts =
      rw
      (drop-cons xs i 0 h, drop-cons ts i 0 (omega (arith, same.tags)), drop-cons vs i 0 (omega (arith, same.values)))

  pub from_next : (n : ℕ) → n ≡ get_or xs i 0 + get_or ts i 0 / 8 → cell_rule last (get_or xs i 0) (get_or ts i 0) (get_or vs i 0) ≡ 0
      → check_from i last (drop i xs) (drop i ts) (drop i vs) ≡ check_from (i + 1) n (drop (i + 1) xs) (drop (i + 1) ts) (drop (i + 1) vs)
  from_next n e z =
      parts ∙ check_on i last (get_or xs i 0) (get_or ts i 0) (get_or vs i 0) (drop (suc i) xs) (drop (suc i) ts) (drop (suc i) vs) z
      ∙ rw (e, add-one i)

  pub from_stop : (cell_rule last (get_or xs i 0) (get_or ts i 0) (get_or vs i 0) ≡ 0 → ⊥)
      → check_from i last (drop i xs) (drop i ts) (drop i vs) ≡ refused (cell_rule last (get_or xs i 0) (get_or ts i 0) (get_or vs i 0)) i
  from_stop n = parts ∙ check_stop i last (get_or xs i 0) (get_or ts i 0) (get_or vs i 0) (drop (suc i) xs) (drop (suc i) ts) (drop (suc i) vs) n

pub from_end : (i last : ℕ) (xs ts vs : List ℕ) → length xs ≤ i → check_from i last (drop i xs) (drop i ts) (drop i vs) ≡ accepted
unfolding check_from
from_end i last xs ts vs h = rw (drop_of_length-le xs h)

-- ---- checking them all
module _ (xs ts vs : List ℕ) where
  pub tags_differ : (length ts ≡ length xs → ⊥) → refused 11 0 ≡ check_cells xs ts vs
  unfolding check_cells
  tags_differ n = rw (ne_eqb (length xs) (length ts) (λ e. n (sym e)))

  pub values_differ : length ts ≡ length xs → (length vs ≡ length xs → ⊥) → refused 11 0 ≡ check_cells xs ts vs
  unfolding check_cells
  values_differ e n = rw (eq-eqb (length xs) (length ts) (sym e), ne_eqb (length xs) (length vs) (λ q. n (sym q)))

  pub too_many : SameLengths xs ts vs → 1024 < length xs → refused 12 0 ≡ check_cells xs ts vs
  unfolding check_cells
  too_many s h = rw (eq-eqb (length xs) (length ts) (sym s.tags), eq-eqb (length xs) (length vs) (sym s.values), lt-ltb 1024 (length xs) h)

  pub check_all : SameLengths xs ts vs → length xs ≤ 1024 → check_cells xs ts vs ≡ check_from 0 0 xs ts vs
  unfolding check_cells
  check_all s h = rw (eq-eqb (length xs) (length ts) (sym s.tags), eq-eqb (length xs) (length vs) (sym s.values), le-ltb 1024 (length xs) h)

  -- what the code answers, whose end at first is a number of two words
  pub from_first : (v : Verdict) (n : ℕ) → v ≡ check_from 0 n xs ts vs → n ≡ 0 → SameLengths xs ts vs → length xs ≤ 1024 → v ≡ check_cells xs ts vs
  from_first v n a e s h = a ∙ rw e (sym (check_all s h))
