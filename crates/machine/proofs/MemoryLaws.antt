-- The cells and the source's memory. The map of the cells has a Mem64 exactly where a 64-bit cell is found, with its value, and a store of
-- the source there is the map of the cells with that value stored: all by induction over the cells.
use Rattle.std.proofs.Common.{◌≡◌, ℕ, ◌≤◌, Bool, true, false, cond, eqb, List, [], ◌∷◌, length, get_or, set, ℤ, pos, sym, refl, ◌∙◌, le_of_suc-le-suc, not-suc-le-zero}
use mathlib.Core.Path.{fun_ext}
use mathlib.Core.Option.{Option, none, some}
use Rattle.machine.specs.Cells.{eqℤ, later, find_cell, is_cell}
use Rattle.machine.specs.Memory.{MemEntry, Mem8, Mem16, Mem32, Mem64, Memory, is_mem64, valid_mem64, store_mem64, LoadsMem64, entry, memory_of}
use Rattle.machine.proofs.FindLaws.{eqℤ_true, eqℤ_refl, At, hit, miss, at_of}

entry_64 : (t v : ℕ) → eqb t 64 ≡ true → entry t v ≡ Mem64 v
unfolding entry
entry_64 t v e = rw e

is_entry_64 : (t v : ℕ) → is_mem64 (entry t v) ≡ eqb t 64
unfolding entry
is_entry_64 t v = go (eqb t 64) (eqb t 32) (eqb t 16)
  where
    go : (a b c : Bool) → is_mem64 (cond a (Mem64 v) (cond b (Mem32 v) (cond c (Mem16 v) (Mem8 v)))) ≡ a
    go true b c = refl
    go false true c = refl
    go false false true = refl
    go false false false = refl

-- ---- a 64-bit entry is a 64-bit cell
pub valid_is_cell : (xs ts vs : List ℕ) (z : ℤ) → length xs ≤ length vs → valid_mem64 z (memory_of xs ts vs) ≡ is_cell (find_cell xs ts z)
unfolding valid_mem64 memory_of find_cell
valid_is_cell [] ts vs z h = refl
valid_is_cell (a ∷ xs) [] vs z h = refl
valid_is_cell (a ∷ xs) (t ∷ ts) [] z h = absurd (not-suc-le-zero h)
valid_is_cell (a ∷ xs) (t ∷ ts) (v ∷ vs) z h = go (eqℤ (pos a) z) (find_cell xs ts z) (valid_is_cell xs ts vs z (le_of_suc-le-suc h))
  where
    here : (c : Bool) → c ≡ is_cell (cond c (some 0) none)
    here true = refl
    here false = refl

    go : (b : Bool) (o : Option ℕ) → is_mem64 (memory_of xs ts vs z) ≡ is_cell o
        → is_mem64 (cond b (entry t v) (memory_of xs ts vs z)) ≡ is_cell (cond b (cond (eqb t 64) (some 0) none) (later o))
    go true o e = is_entry_64 t v ∙ here (eqb t 64)
    go false none e = e
    go false (some j) e = e

-- ---- its value
at_memory : (xs ts vs : List ℕ) (z : ℤ) (i : ℕ) → At xs ts z i → length xs ≤ length vs → memory_of xs ts vs z ≡ Mem64 (get_or vs i 0)
unfolding memory_of
at_memory xs ts [] z i (hit e q) h = absurd (not-suc-le-zero h)
at_memory xs ts (v ∷ vs) z i (hit {t = t} e q) h = rw e (entry_64 t v q)
at_memory xs ts [] z i (miss e r) h = absurd (not-suc-le-zero h)
at_memory xs ts (v ∷ vs) z i (miss {i = j} {xs = ys} {ts = us} e r) h = rw e (at_memory ys us vs z j r (le_of_suc-le-suc h))

pub memory_at : (xs ts vs : List ℕ) (z : ℤ) (i : ℕ) → find_cell xs ts z ≡ some i → length xs ≤ length vs → memory_of xs ts vs z ≡ Mem64 (get_or vs i 0)
memory_at xs ts vs z i e = at_memory xs ts vs z i (at_of xs ts z i e)

-- what a load gives there, whichever load it is
pub load_at : (load : ℤ → Memory → ℕ) → LoadsMem64 load → (xs ts vs : List ℕ) (z : ℤ) (i : ℕ) → find_cell xs ts z ≡ some i → length xs ≤ length vs
    → load z (memory_of xs ts vs) ≡ get_or vs i 0
load_at load loads xs ts vs z i e h = loads z (memory_of xs ts vs) (get_or vs i 0) (memory_at xs ts vs z i e h)

-- ---- a store
at_store : (xs ts vs : List ℕ) (z : ℤ) (i v : ℕ) → At xs ts z i → length xs ≤ length vs
    → (x : ℤ) → store_mem64 z v (memory_of xs ts vs) x ≡ memory_of xs ts (set vs i v) x
unfolding memory_of store_mem64
at_store xs ts [] z i v (hit e q) h x = absurd (not-suc-le-zero h)
at_store xs ts (w ∷ vs) z i v (hit {a = a} {t = t} {xs = ys} {ts = us} e q) h x =
    rw (entry_64 t v q, ← (eqℤ_true (pos a) z e)) (go (eqℤ (pos a) x))
  where
    go : (b : Bool) → cond b (Mem64 v) (cond b (entry t w) (memory_of ys us vs x)) ≡ cond b (Mem64 v) (memory_of ys us vs x)
    go true = refl
    go false = refl
at_store xs ts [] z i v (miss e r) h x = absurd (not-suc-le-zero h)
at_store xs ts (w ∷ vs) z i v (miss {a = a} {t = t} {i = j} {xs = ys} {ts = us} e r) h x =
    go (eqℤ z x) refl (eqℤ (pos a) x) refl (at_store ys us vs z j v r (le_of_suc-le-suc h) x)
  where
    go : (b : Bool) → eqℤ z x ≡ b → (c : Bool) → eqℤ (pos a) x ≡ c → cond b (Mem64 v) (memory_of ys us vs x) ≡ memory_of ys us (set vs j v) x
        → cond b (Mem64 v) (cond c (entry t w) (memory_of ys us vs x)) ≡ cond c (entry t w) (memory_of ys us (set vs j v) x)
    go true p true q f =
        let u : z ≡ pos a = eqℤ_true z x p ∙ sym (eqℤ_true (pos a) x q) in
        let n : true ≡ false = cc (eqℤ_refl (pos a)) in
        cc
    go true p false q f = f
    go false p true q f = refl
    go false p false q f = f

pub memory_store : (xs ts vs : List ℕ) (z : ℤ) (i v : ℕ) → find_cell xs ts z ≡ some i → length xs ≤ length vs
    → store_mem64 z v (memory_of xs ts vs) ≡ memory_of xs ts (set vs i v)
memory_store xs ts vs z i v e h = fun_ext (at_store xs ts vs z i v (at_of xs ts z i e) h)

-- ---- some load meets the clause of `load_mem64`: the one that gives 0 elsewhere
pub load_or_0 : ℤ → Memory → ℕ
load_or_0 addr m = value (m addr)
  where
    value : MemEntry → ℕ
    value (Mem8 v) = 0
    value (Mem16 v) = 0
    value (Mem32 v) = 0
    value (Mem64 v) = v

pub loads_or_0 : LoadsMem64 load_or_0
unfolding load_or_0
loads_or_0 addr m v e = rw e
