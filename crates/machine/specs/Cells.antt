-- The lent cells: three lists, checked, searched, stored to.
use Rattle.std.specs.Prelude.{◌≡◌, ℕ, suc, ◌+◌, ◌/◌, ◌^◌, ◌<◌, ◌≤◌, Bool, true, false, cond, not, ◌&&◌, ◌||◌, List, [], ◌∷◌, length, ℤ, pos, negsuc, ◌==◌, nat_le, nat_lt, slice_index, slice_set, Option as Maybe, Some, None, Result, Ok, Err}
use Rattle.std.proofs.Math.Option.{Option, none, some}
use Rattle.machine.specs.Operands.{wild}
use Rattle.machine.specs.Rules.{rule_number}
use Rattle.machine.specs.declared.refusal.Refusal.{Refusal}
use Rattle.machine.specs.declared.NoCell.{NoCell}
use Rattle.machine.specs.declared.NoCell.TheVariants.{Absent, Wild}

-- what a check says: accepted, or a number with a place or an index
pub data Verdict : Type 0 where
  accepted : Verdict
  refused : ℕ → ℕ → Verdict

-- the number and place of each answer
abbrev pub verdict : Result Unit Refusal → Verdict
verdict (Ok _) = accepted
verdict (Err refusal) = refused (rule_number refusal.rule) refusal.place

-- the widths that a cell may have
unfoldable pub is_tag : ℕ → Bool
is_tag t = t == 8 || t == 16 || t == 32 || t == 64

-- the rule that a cell breaks, tried in this order, where the cell before ends at `last`; 0 where it breaks none
unfoldable pub cell_rule : ℕ → ℕ → ℕ → ℕ → ℕ
cell_rule last a t v =
    cond (not (is_tag t)) 13 (cond (nat_le (2 ^ t) v) 14 (cond (nat_lt a last || nat_lt (2 ^ 64) (a + t / 8)) 15 0))

-- the first cell to break a rule, from index i on, where the cell before ends at `last`
unfoldable pub check_from : ℕ → ℕ → List ℕ → List ℕ → List ℕ → Verdict
check_from i last [] ts vs = accepted
check_from i last (a ∷ xs) [] vs = accepted
check_from i last (a ∷ xs) (t ∷ ts) [] = accepted
check_from i last (a ∷ xs) (t ∷ ts) (v ∷ vs) =
    cond (cell_rule last a t v == 0) (check_from (suc i) (a + t / 8) xs ts vs) (refused (cell_rule last a t v) i)

-- three lists of one length
pub record SameLengths (xs ts vs : List ℕ) : Type 0 where
  pub tags : length ts ≡ length xs
  pub values : length vs ≡ length xs

-- Checking cells
unfoldable pub check_cells : List ℕ → List ℕ → List ℕ → Verdict
check_cells xs ts vs =
    cond (not (length xs == length ts && length xs == length vs)) (refused 11 0)
    (cond (nat_lt 1024 (length xs)) (refused 12 0) (check_from 0 0 xs ts vs))

-- whether two whole numbers are equal
unfoldable pub eqℤ : ℤ → ℤ → Bool
eqℤ (pos a) (pos b) = a == b
eqℤ (pos a) (negsuc b) = false
eqℤ (negsuc a) (pos b) = false
eqℤ (negsuc a) (negsuc b) = a == b

-- an index counted one further
abbrev pub later : Option ℕ → Option ℕ
later none = none
later (some i) = some (suc i)

-- addresses that ascend
abbrev pub Ascending : List ℕ → Type 0
Ascending xs = (i j : ℕ) → i < j → j < length xs → slice_index xs i < slice_index xs j

-- the part that a search has left, from low to high: an index with the address z lies in it
pub record Part (xs : List ℕ) (z low high : ℕ) : Type 0 where
  pub more : low < high
  pub within : high ≤ length xs
  pub only : (k : ℕ) → k < length xs → slice_index xs k ≡ z → (low ≤ k) × (k < high)

-- what a search asks of the cells; accepted ones have it
pub record Searchable (xs ts : List ℕ) : Type 0 where
  pub tags : length ts ≡ length xs
  pub ascending : Ascending xs

-- the index of the 64-bit cell at an exact address
unfoldable pub find_cell : List ℕ → List ℕ → ℤ → Option ℕ
find_cell [] ts z = none
find_cell (a ∷ xs) [] z = none
find_cell (a ∷ xs) (t ∷ ts) z = cond (eqℤ (pos a) z) (cond (t == 64) (some 0) none) (later (find_cell xs ts z))

-- what a search says
abbrev pub index_of : Maybe ℕ → Option ℕ
index_of (Some i) = some i
index_of None = none

-- what an exact address leads to: the index of the 64-bit cell there, and whether the address is wild
abbrev pub leads : List ℕ → List ℕ → ℤ → Option ℕ × Bool
leads xs ts z = (find_cell xs ts z, wild z)

-- what the search for an operand's cell says of that
abbrev pub led_to : Result ℕ NoCell → Option ℕ × Bool
led_to (Ok i) = (some i, false)
led_to (Err Absent) = (none, false)
led_to (Err Wild) = (none, true)

-- the value of the cell at an index, 0 where there is none
abbrev pub cell_value : List ℕ → Option ℕ → ℕ
cell_value vs none = 0
cell_value vs (some i) = slice_index vs i

-- the values with v in the cell at an index, where there is one
abbrev pub set_cell : List ℕ → Option ℕ → ℕ → List ℕ
set_cell vs none v = vs
set_cell vs (some i) v = slice_set vs i v

-- whether there is a cell
abbrev pub is_cell : Option ℕ → Bool
is_cell none = false
is_cell (some i) = true

-- cells in order, from an end on: each starts where the one before has ended, or behind it, and the last ends at 2^64 or before
abbrev pub Ordered : ℕ → List ℕ → List ℕ → Type 0
Ordered last [] ts = last ≤ 2 ^ 64
Ordered last (a ∷ xs) [] = ⊥
Ordered last (a ∷ xs) (t ∷ ts) = (last ≤ a) × Ordered (a + t / 8) xs ts
