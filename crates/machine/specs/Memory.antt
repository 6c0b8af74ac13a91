-- The source's memory: `Map.t int mem_entry`, made of the cells.
use Rattle.std.specs.Prelude.{◌≡◌, ℕ, Bool, true, false, cond, List, [], ◌∷◌, ℤ, pos, ◌==◌}
use Rattle.machine.specs.Cells.{eqℤ}

-- `mem_entry`
pub data MemEntry : Type 0 where
  Mem8 Mem16 Mem32 Mem64 : ℕ → MemEntry

-- `memory`
abbrev pub Memory : Type 0
Memory = ℤ → MemEntry

-- whether an entry is a Mem64
abbrev pub is_mem64 : MemEntry → Bool
is_mem64 (Mem8 v) = false
is_mem64 (Mem16 v) = false
is_mem64 (Mem32 v) = false
is_mem64 (Mem64 v) = true

-- `valid_mem64`
unfoldable pub valid_mem64 : ℤ → Memory → Bool
valid_mem64 addr m = is_mem64 (m addr)

-- `store_mem64`
unfoldable pub store_mem64 : ℤ → ℕ → Memory → Memory
store_mem64 addr v m x = cond (eqℤ addr x) (Mem64 v) (m x)

-- the clause of `load_mem64`: at a Mem64 it gives its value, and elsewhere anything
abbrev pub LoadsMem64 : (ℤ → Memory → ℕ) → Type 0
LoadsMem64 load = (addr : ℤ) (m : Memory) (v : ℕ) → m addr ≡ Mem64 v → load addr m ≡ v

-- the entry of a cell
unfoldable pub entry : ℕ → ℕ → MemEntry
entry t v = cond (t == 64) (Mem64 v) (cond (t == 32) (Mem32 v) (cond (t == 16) (Mem16 v) (Mem8 v)))

-- the map of the cells: Mem8 of 0 where none is listed
unfoldable pub memory_of : List ℕ → List ℕ → List ℕ → Memory
memory_of [] ts vs z = Mem8 0
memory_of (a ∷ xs) [] vs z = Mem8 0
memory_of (a ∷ xs) (t ∷ ts) [] z = Mem8 0
memory_of (a ∷ xs) (t ∷ ts) (v ∷ vs) z = cond (eqℤ (pos a) z) (entry t v) (memory_of xs ts vs z)
