-- What it is for cells to be accepted: equal lengths, at most 1,024, in order and apart, with tags and with values that fit. `check_cells`
-- says accepted exactly of these, by induction over the cells with the running end; a store of a word to a 64-bit cell keeps them so.
use Rattle.std.proofs.Common.{◌≡◌, ℕ, zero, suc, ◌+◌, ◌/◌, ◌^◌, ◌<◌, ◌≤◌, Bool, true, false, eqb, ltb, List, [], ◌∷◌, length, get_or, set, ℤ, sym, refl, ◌∙◌, le_of_suc-le-suc, not-suc-le-zero, arith, length-set, get_or-set_other, get_or-set_same, ltb-false, ltb-true, eqb-true}
use mathlib.Core.Option.{some}
use borrow.Author.Tests.{eqb-false}
use Rattle.machine.specs.Cells.{accepted, refused, is_tag, cell_rule, check_from, check_cells, SameLengths, Ascending, Searchable, Ordered, find_cell}
use Rattle.machine.proofs.CellLaws.{by_tag, GoodCell, good_of, rule_of_good, check_on, check_stop, tags_differ, values_differ, too_many, check_all}
use Rattle.machine.proofs.FindLaws.{find_hit}

-- cells that follow an end
pub record Follow (last : ℕ) (xs ts vs : List ℕ) : Type 0 where
  pub ordered : Ordered last xs ts
  pub tagged : (i : ℕ) → i < length ts → is_tag (get_or ts i 0) ≡ true
  pub fitting : (i : ℕ) → i < length vs → get_or vs i 0 < 2 ^ get_or ts i 0

-- accepted cells
pub record Accepted (xs ts vs : List ℕ) : Type 0 where
  pub same : SameLengths xs ts vs
  pub few : length xs ≤ 1024
  pub ordered : Ordered 0 xs ts
  pub tagged : (i : ℕ) → i < length ts → is_tag (get_or ts i 0) ≡ true
  pub fitting : (i : ℕ) → i < length vs → get_or vs i 0 < 2 ^ get_or ts i 0

pub same_tail : (a t v : ℕ) (xs ts vs : List ℕ) → SameLengths (a ∷ xs) (t ∷ ts) (v ∷ vs) → SameLengths xs ts vs
same_tail a t v xs ts vs s = record { tags = omega (arith, s.tags); values = omega (arith, s.values) }

not_accepted : (n i : ℕ) → refused n i ≡ accepted → ⊥
not_accepted n i e = let z : ◌≡◌ {A = ℕ} 0 1 = cc in omega arith

follow_cons : (last a t v : ℕ) (xs ts vs : List ℕ) → GoodCell last a t v → Follow (a + t / 8) xs ts vs → Follow last (a ∷ xs) (t ∷ ts) (v ∷ vs)
follow_cons last a t v xs ts vs g f = record { ordered = (g.from, f.ordered); tagged = tagged; fitting = fitting }
  where
    tagged : (i : ℕ) → i < suc (length ts) → is_tag (get_or (t ∷ ts) i 0) ≡ true
    tagged zero h = g.tag
    tagged (suc i) h = f.tagged i (le_of_suc-le-suc h)

    fitting : (i : ℕ) → i < suc (length vs) → get_or (v ∷ vs) i 0 < 2 ^ get_or (t ∷ ts) i 0
    fitting zero h = g.fits
    fitting (suc i) h = f.fitting i (le_of_suc-le-suc h)

follow_of : (i last : ℕ) (xs ts vs : List ℕ) → SameLengths xs ts vs → last ≤ 2 ^ 64 → check_from i last xs ts vs ≡ accepted → Follow last xs ts vs
follow_of i last [] [] [] s h e = record { ordered = h; tagged = λ k l. absurd (not-suc-le-zero l); fitting = λ k l. absurd (not-suc-le-zero l) }
follow_of i last [] (t ∷ ts) vs s h e = absurd (omega (arith, s.tags))
follow_of i last [] [] (v ∷ vs) s h e = absurd (omega (arith, s.values))
follow_of i last (a ∷ xs) [] vs s h e = absurd (omega (arith, s.tags))
follow_of i last (a ∷ xs) (t ∷ ts) [] s h e = absurd (omega (arith, s.values))
follow_of i last (a ∷ xs) (t ∷ ts) (v ∷ vs) s h e =
    go (eqb (cell_rule last a t v) 0) refl (follow_of (suc i) (a + t / 8) xs ts vs (same_tail a t v xs ts vs s))
  where
    go : (b : Bool) → eqb (cell_rule last a t v) 0 ≡ b
        → (a + t / 8 ≤ 2 ^ 64 → check_from (suc i) (a + t / 8) xs ts vs ≡ accepted → Follow (a + t / 8) xs ts vs)
        → Follow last (a ∷ xs) (t ∷ ts) (v ∷ vs)
    go true p f =
        let r : cell_rule last a t v ≡ 0 = eqb-true (cell_rule last a t v) 0 p in
        let g = good_of last a t v r in
        follow_cons last a t v xs ts vs g
        (f g.within (sym (check_on i last a t v xs ts vs r) ∙ e))
    go false p f =
        absurd
        (not_accepted (cell_rule last a t v) i (sym (check_stop i last a t v xs ts vs (eqb-false (cell_rule last a t v) 0 p)) ∙ e))

pub ordered_le : (last : ℕ) (xs ts : List ℕ) → Ordered last xs ts → last ≤ 2 ^ 64
ordered_le last [] ts h = h
ordered_le last (a ∷ xs) [] h = absurd h
ordered_le last (a ∷ xs) (t ∷ ts) h = omega (arith, h.0, ordered_le (a + t / 8) xs ts h.1)

follow_ok : (i last : ℕ) (xs ts vs : List ℕ) → Follow last xs ts vs → check_from i last xs ts vs ≡ accepted
unfolding check_from
follow_ok i last [] ts vs f = refl
follow_ok i last (a ∷ xs) [] vs f = refl
follow_ok i last (a ∷ xs) (t ∷ ts) [] f = refl
follow_ok i last (a ∷ xs) (t ∷ ts) (v ∷ vs) f =
    check_on i last a t v xs ts vs
    (rule_of_good last a t v
    (record {
      tag = f.tagged 0 (omega arith);
      fits = f.fitting 0 (omega arith);
      from = f.ordered.0;
      within = ordered_le (a + t / 8) xs ts f.ordered.1;
    }))
    ∙ follow_ok (suc i) (a + t / 8) xs ts vs
    (record { ordered = f.ordered.1; tagged = λ k h. f.tagged (suc k) (omega arith); fitting = λ k h. f.fitting (suc k) (omega arith) })

-- what follows from no 11, and from no 12
pub lengths_of : (xs ts vs : List ℕ) → (check_cells xs ts vs ≡ refused 11 0 → ⊥) → SameLengths xs ts vs
lengths_of xs ts vs n = go (eqb (length ts) (length xs)) refl (eqb (length vs) (length xs)) refl
  where
    go : (b : Bool) → eqb (length ts) (length xs) ≡ b → (c : Bool) → eqb (length vs) (length xs) ≡ c → SameLengths xs ts vs
    go true p true q = record { tags = eqb-true (length ts) (length xs) p; values = eqb-true (length vs) (length xs) q }
    go false p c q = absurd (n (sym (tags_differ xs ts vs (eqb-false (length ts) (length xs) p))))
    go true p false q =
        absurd (n (sym (values_differ xs ts vs (eqb-true (length ts) (length xs) p) (eqb-false (length vs) (length xs) q))))

pub few_of : (xs ts vs : List ℕ) → SameLengths xs ts vs → (check_cells xs ts vs ≡ refused 12 0 → ⊥) → length xs ≤ 1024
few_of xs ts vs s n = go (ltb 1024 (length xs)) refl
  where
    go : (b : Bool) → ltb 1024 (length xs) ≡ b → length xs ≤ 1024
    go true p = absurd (n (sym (too_many xs ts vs s (ltb-true 1024 (length xs) p))))
    go false p = ltb-false 1024 (length xs) p

-- ---- accepted cells are these, and these are accepted
pub accepted_of : (xs ts vs : List ℕ) → check_cells xs ts vs ≡ accepted → Accepted xs ts vs
accepted_of xs ts vs e =
    let s = lengths_of xs ts vs (λ r. not_accepted 11 0 (sym r ∙ e)) in
    let l = few_of xs ts vs s (λ r. not_accepted 12 0 (sym r ∙ e)) in
    let f = follow_of 0 0 xs ts vs s (omega arith) (sym (check_all xs ts vs s l) ∙ e) in
    record { same = s; few = l; ordered = f.ordered; tagged = f.tagged; fitting = f.fitting }

pub of_accepted : (xs ts vs : List ℕ) → Accepted xs ts vs → check_cells xs ts vs ≡ accepted
of_accepted xs ts vs a =
    check_all xs ts vs a.same a.few
    ∙ follow_ok 0 0 xs ts vs (record { ordered = a.ordered; tagged = a.tagged; fitting = a.fitting })

-- ---- where accepted cells lie
tag_bytes : (t : ℕ) → is_tag t ≡ true → 1 ≤ t / 8
tag_bytes = by_tag (λ (t : ℕ). 1 ≤ t / 8) (omega arith) (omega arith) (omega arith) (omega arith)

-- a cell starts at the end before it or behind, and ends at 2^64 or before
pub lies : (last : ℕ) (xs ts : List ℕ) → Ordered last xs ts → (i : ℕ) → i < length xs → (last ≤ get_or xs i 0) × (get_or xs i 0 + get_or ts i 0 / 8 ≤ 2 ^ 64)
lies last [] ts o i h = absurd (not-suc-le-zero h)
lies last (a ∷ xs) [] o i h = absurd o
lies last (a ∷ xs) (t ∷ ts) o zero h = (o.0, ordered_le (a + t / 8) xs ts o.1)
lies last (a ∷ xs) (t ∷ ts) o (suc i) h =
    let r = lies (a + t / 8) xs ts o.1 i (le_of_suc-le-suc h) in
    (omega (arith, o.0, r.0), r.1)

-- a cell ends where a later one starts, or before
pub ends_before : (last : ℕ) (xs ts : List ℕ) → Ordered last xs ts → (i j : ℕ) → i < j → j < length xs → get_or xs i 0 + get_or ts i 0 / 8 ≤ get_or xs j 0
ends_before last [] ts o i j h k = absurd (not-suc-le-zero k)
ends_before last (a ∷ xs) [] o i j h k = absurd o
ends_before last (a ∷ xs) (t ∷ ts) o i zero h k = absurd (not-suc-le-zero h)
ends_before last (a ∷ xs) (t ∷ ts) o zero (suc j) h k = (lies (a + t / 8) xs ts o.1 j (le_of_suc-le-suc k)).0
ends_before last (a ∷ xs) (t ∷ ts) o (suc i) (suc j) h k = ends_before (a + t / 8) xs ts o.1 i j (le_of_suc-le-suc h) (le_of_suc-le-suc k)

pub ascending_of : (xs ts vs : List ℕ) → Accepted xs ts vs → Ascending xs
ascending_of xs ts vs a i j h k =
    omega
    (arith, ends_before 0 xs ts a.ordered i j h k, tag_bytes (get_or ts i 0) (a.tagged i (omega (arith, a.same.tags))))

pub searchable_of : (xs ts vs : List ℕ) → Accepted xs ts vs → Searchable xs ts
searchable_of xs ts vs a = record { tags = a.same.tags; ascending = ascending_of xs ts vs a }

-- accepted cells do not wrap: each ends at 2^64 or before
pub cells_within : (xs ts vs : List ℕ) → check_cells xs ts vs ≡ accepted → (i : ℕ) → i < length xs → get_or xs i 0 + get_or ts i 0 / 8 ≤ 2 ^ 64
cells_within xs ts vs e i h = (lies 0 xs ts (accepted_of xs ts vs e).ordered i h).1

-- accepted cells do not overlap: a place that lies in two cells lies in one
pub cells_apart : (xs ts vs : List ℕ) → check_cells xs ts vs ≡ accepted → (i j x : ℕ) → i < length xs → j < length xs
    → get_or xs i 0 ≤ x → x < get_or xs i 0 + get_or ts i 0 / 8 → get_or xs j 0 ≤ x → x < get_or xs j 0 + get_or ts j 0 / 8 → i ≡ j
cells_apart xs ts vs e i j x hi hj li ri lj rj = go (ltb i j) refl (ltb j i) refl
  where
    o : Ordered 0 xs ts
    o = (accepted_of xs ts vs e).ordered

    go : (b : Bool) → ltb i j ≡ b → (c : Bool) → ltb j i ≡ c → i ≡ j
    go true p c q = absurd (omega (arith, ends_before 0 xs ts o i j (ltb-true i j p) hj))
    go false p true q = absurd (omega (arith, ends_before 0 xs ts o j i (ltb-true j i q) hi))
    go false p false q = omega (arith, ltb-false i j p, ltb-false j i q)

-- ---- a store to a 64-bit cell
pub store_fits : (xs ts vs : List ℕ) (i v : ℕ) → get_or ts i 0 ≡ 64 → v < 2 ^ 64 → Accepted xs ts vs → Accepted xs ts (set vs i v)
store_fits xs ts vs i v t h a =
    record {
      same = record { tags = a.same.tags; values = rw length-set a.same.values };
      few = a.few;
      ordered = a.ordered;
      tagged = a.tagged;
      fitting = fitting;
    }
  where
    fitting : (k : ℕ) → k < length (set vs i v) → get_or (set vs i v) k 0 < 2 ^ get_or ts k 0
    fitting k l = go (eqb k i) refl
      where
        short : k < length vs
        short = rw length-set at l

        go : (b : Bool) → eqb k i ≡ b → get_or (set vs i v) k 0 < 2 ^ get_or ts k 0
        go true p =
            let e : k ≡ i = eqb-true k i p in
            rw (e, get_or-set_same vs i v 0 (omega (arith, short)), t) h
        go false p = rw (get_or-set_other vs i k v 0 (eqb-false k i p)) (a.fitting k short)

pub store_accepted : (xs ts vs : List ℕ) (z : ℤ) (i v : ℕ) → find_cell xs ts z ≡ some i → v < 2 ^ 64 → Accepted xs ts vs → Accepted xs ts (set vs i v)
store_accepted xs ts vs z i v e h a = store_fits xs ts vs i v (find_hit xs ts z i e).tag h a
