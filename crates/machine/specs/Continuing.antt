-- The claims of request 2026-05, in one record: `Continuing`. Checking cells keeps the end of the cell before as a running value, so that it can be
-- broken off behind any cell and gone on with from the end it left. The rules, and checking from an index and an end, stand in Cells.antt.
use Rattle.std.specs.Prelude.{◌≡◌, ℕ, ◌+◌, ◌/◌, ◌^◌, ◌<◌, ◌≤◌, true, List, [], ◌∷◌, ◌++◌, length, take, drop, ◌≢◌}
use Rattle.machine.specs.Cells.{Verdict, accepted, refused, is_tag, check_from, check_cells}

-- the running end behind cells, where it was `last` before them
unfoldable pub end_from : ℕ → List ℕ → List ℕ → ℕ
end_from last [] ts = last
end_from last (a ∷ xs) [] = last
end_from last (a ∷ xs) (t ∷ ts) = end_from (a + t / 8) xs ts

-- the end that checking cells leaves: it is 0 at first
unfoldable pub end_left : List ℕ → List ℕ → ℕ
end_left xs ts = end_from 0 xs ts

-- a verdict and, if it is accepted, the next
abbrev pub and_then : Verdict → Verdict → Verdict
and_then accepted w = w
and_then (refused n i) w = refused n i

-- ---- the claims
pub record Continuing : Type 0 where
  -- the end that no cells leave is 0
  pub at_first : end_left [] [] ≡ 0
  -- the end that cells leave is that of the last
  pub behind : (xs ts : List ℕ) (a t : ℕ) → length ts ≡ length xs → end_left (xs ++ a ∷ []) (ts ++ t ∷ []) ≡ a + t / 8
  -- cells that are not refused with 11 or 12 have the verdict of the first k and, behind accepted ones, of the others, from index k and the end left on
  pub goes_on : (xs ts vs : List ℕ) → (check_cells xs ts vs ≢ refused 11 0) → (check_cells xs ts vs ≢ refused 12 0) → (k : ℕ)
      → and_then (check_cells (take k xs) (take k ts) (take k vs))
      (check_from k (end_left (take k xs) (take k ts)) (drop k xs) (drop k ts) (drop k vs))
      ≡ check_cells xs ts vs
  -- a last cell that ends at 2^64 is accepted
  pub to_the_end : (xs ts vs : List ℕ) (a t v : ℕ) → check_cells xs ts vs ≡ accepted → length xs < 1024
      → is_tag t ≡ true → v < 2 ^ t → end_left xs ts ≤ a → a + t / 8 ≡ 2 ^ 64
      → check_cells (xs ++ a ∷ []) (ts ++ t ∷ []) (vs ++ v ∷ []) ≡ accepted
