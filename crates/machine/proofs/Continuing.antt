-- Request 2026-05: checking goes on from the end that it left. By induction over the front part: what it leaves for the rest is an index and an end,
-- and both are parameters of `check_from`.
use Rattle.std.proofs.Common.{◌≡◌, ℕ, zero, suc, ◌+◌, ◌/◌, ◌<◌, ◌≤◌, min, Bool, true, false, cond, eqb, List, [], ◌∷◌, ◌++◌, length, take, drop, sym, refl, ap, ◌∙◌, add-zero, add-suc, suc-add, zero-add, arith, length-append, length-take, take_at, drop_at}
use native.Mathlib.Nat.{min-le_right}
use Rattle.machine.specs.Cells.{Verdict, accepted, refused, cell_rule, check_from, check_cells, SameLengths}
use Rattle.machine.specs.Continuing.{end_from, end_left, and_then, Continuing}
use Rattle.machine.proofs.CellLaws.{GoodCell, rule_of_good, check_on, check_all}
use Rattle.machine.proofs.Accepting.{same_tail, lengths_of, few_of, accepted_of}

-- any part of the cells, from any index and end on: its first k and the others
split : (i last k : ℕ) (xs ts vs : List ℕ) → SameLengths xs ts vs
    → and_then (check_from i last (take k xs) (take k ts) (take k vs))
    (check_from (i + k) (end_from last (take k xs) (take k ts)) (drop k xs) (drop k ts) (drop k vs))
    ≡ check_from i last xs ts vs
unfolding check_from end_from
split i last zero xs ts vs s = rw add-zero
split i last (suc k) [] ts vs s = refl
split i last (suc k) (a ∷ xs) [] vs s = absurd (omega (arith, s.tags))
split i last (suc k) (a ∷ xs) (t ∷ ts) [] s = absurd (omega (arith, s.values))
split i last (suc k) (a ∷ xs) (t ∷ ts) (v ∷ vs) s =
    go (eqb (cell_rule last a t v) 0) (split (suc i) (a + t / 8) k xs ts vs (same_tail a t v xs ts vs s))
  where
    front : Verdict
    front = check_from (suc i) (a + t / 8) (take k xs) (take k ts) (take k vs)

    rest : ℕ → Verdict
    rest n = check_from n (end_from (a + t / 8) (take k xs) (take k ts)) (drop k xs) (drop k ts) (drop k vs)

    all : Verdict
    all = check_from (suc i) (a + t / 8) xs ts vs

    go : (b : Bool) → and_then front (rest (suc i + k)) ≡ all
        → let broken = refused (cell_rule last a t v) i in and_then (cond b front broken) (rest (i + suc k)) ≡ cond b all broken
    go true e = rw add-suc (rw suc-add at e)
    go false e = refl

-- the front part alone is three lists of one length, and few cells, where all of them are
as_many : (k : ℕ) (xs ys : List ℕ) → length ys ≡ length xs → length (take k ys) ≡ length (take k xs)
as_many k xs ys e = length-take k ys ∙ ap (λ (n : ℕ). min k n) e ∙ sym (length-take k xs)

same_front : (k : ℕ) (xs ts vs : List ℕ) → SameLengths xs ts vs → SameLengths (take k xs) (take k ts) (take k vs)
same_front k xs ts vs s = record { tags = as_many k xs ts s.tags; values = as_many k xs vs s.values }

few_front : (k : ℕ) (xs : List ℕ) → length xs ≤ 1024 → length (take k xs) ≤ 1024
few_front k xs h = rw length-take (omega (arith, min-le_right k (length xs)))

split_all : (xs ts vs : List ℕ) → SameLengths xs ts vs → length xs ≤ 1024 → (k : ℕ)
    → and_then (check_cells (take k xs) (take k ts) (take k vs))
    (check_from k (end_left (take k xs) (take k ts)) (drop k xs) (drop k ts) (drop k vs))
    ≡ check_cells xs ts vs
unfolding end_left
split_all xs ts vs s h k =
    ap (λ (v : Verdict). and_then v (rest k)) (check_all (take k xs) (take k ts) (take k vs) (same_front k xs ts vs s) (few_front k xs h))
    ∙ ap (λ (n : ℕ). and_then (check_from 0 0 (take k xs) (take k ts) (take k vs)) (rest n)) (sym (zero-add k))
    ∙ split 0 0 k xs ts vs s ∙ sym (check_all xs ts vs s h)
  where
    rest : ℕ → Verdict
    rest n = check_from n (end_from 0 (take k xs) (take k ts)) (drop k xs) (drop k ts) (drop k vs)

-- the end behind one cell more
end_behind : (last : ℕ) (xs ts : List ℕ) (a t : ℕ) → length ts ≡ length xs → end_from last (xs ++ a ∷ []) (ts ++ t ∷ []) ≡ a + t / 8
unfolding end_from
end_behind last [] [] a t e = refl
end_behind last [] (u ∷ ts) a t e = absurd (omega (arith, e))
end_behind last (b ∷ xs) [] a t e = absurd (omega (arith, e))
end_behind last (b ∷ xs) (u ∷ ts) a t e = end_behind (b + u / 8) xs ts a t (omega (arith, e))

-- one cell more, behind cells that are accepted
module _ (xs ts vs : List ℕ) (a t v : ℕ) (acc : check_cells xs ts vs ≡ accepted) (fewer : length xs < 1024) where
  same : SameLengths xs ts vs
  same = (accepted_of xs ts vs acc).same

  as_long : (ys : List ℕ) (b : ℕ) → length ys ≡ length xs → length (ys ++ b ∷ []) ≡ length (xs ++ a ∷ [])
  as_long ys b e = length-append ys (b ∷ []) ∙ ap (λ (n : ℕ). n + 1) e ∙ sym (length-append xs (a ∷ []))

  longer : SameLengths (xs ++ a ∷ []) (ts ++ t ∷ []) (vs ++ v ∷ [])
  longer = record { tags = as_long ts t same.tags; values = as_long vs v same.values }

  one_more : GoodCell (end_left xs ts) a t v → check_cells (xs ++ a ∷ []) (ts ++ t ∷ []) (vs ++ v ∷ []) ≡ accepted
  unfolding check_from
  one_more g =
      sym (split_all (xs ++ a ∷ []) (ts ++ t ∷ []) (vs ++ v ∷ []) longer (rw length-append (omega arith)) (length xs))
      ∙ rw (
        take_at xs (a ∷ []) _ refl,
        take_at ts (t ∷ []) _ same.tags,
        take_at vs (v ∷ []) _ same.values,
        drop_at xs (a ∷ []) _ refl,
        drop_at ts (t ∷ []) _ same.tags,
        drop_at vs (v ∷ []) _ same.values,
        acc,
      )
      (check_on (length xs) (end_left xs ts) a t v [] [] [] (rule_of_good (end_left xs ts) a t v g))

-- ---- request 2026-05
pub continuing : Continuing
unfolding end_left end_from
continuing =
    record {
      at_first = refl;
      behind = λ xs ts a t e. end_behind 0 xs ts a t e;
      goes_on = λ xs ts vs no_11 no_12 k. let s = lengths_of xs ts vs no_11 in split_all xs ts vs s (few_of xs ts vs s no_12) k;
      to_the_end = λ xs ts vs a t v acc fewer tag fits from ends.
          one_more xs ts vs a t v acc fewer (record { tag = tag; fits = fits; from = from; within = omega (arith, ends) });
    }
