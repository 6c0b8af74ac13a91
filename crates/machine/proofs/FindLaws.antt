-- Finding a cell. `find_cell` takes the first cell at an address; addresses that ascend are all different, so it is the only one.
use Rattle.std.proofs.Common.{◌≡◌, ℕ, zero, suc, ◌<◌, Bool, true, false, cond, eqb, List, [], ◌∷◌, length, get_or, ℤ, pos, negsuc, sym, refl, ap, ◌∙◌, subst, le_of_suc-le-suc, not-suc-le-zero, arith, eq-eqb, eqb-true}
use mathlib.Core.Option.{Option, none, some}
use Rattle.machine.specs.Cells.{eqℤ, later, find_cell, Searchable}

-- ---- the test of an address
pub eqℤ_true : (a b : ℤ) → eqℤ a b ≡ true → a ≡ b
unfolding eqℤ
eqℤ_true (pos a) (pos b) e = ap pos (eqb-true a b e)
eqℤ_true (pos a) (negsuc b) e = cc
eqℤ_true (negsuc a) (pos b) e = cc
eqℤ_true (negsuc a) (negsuc b) e = ap negsuc (eqb-true a b e)

pub eqℤ_refl : (a : ℤ) → eqℤ a a ≡ true
unfolding eqℤ
eqℤ_refl (pos a) = eq-eqb a a refl
eqℤ_refl (negsuc a) = eq-eqb a a refl

pub eqℤ_false : (a b : ℤ) → (a ≡ b → ⊥) → eqℤ a b ≡ false
eqℤ_false a b n = go (eqℤ a b) refl
  where
    go : (t : Bool) → eqℤ a b ≡ t → eqℤ a b ≡ false
    go true e = absurd (n (eqℤ_true a b e))
    go false e = e

-- ---- where a cell is found, and where none is
pub find_none : (xs ts : List ℕ) (z : ℤ) → ((k : ℕ) → k < length xs → pos (get_or xs k 0) ≡ z → ⊥) → find_cell xs ts z ≡ none
unfolding find_cell
find_none [] ts z f = refl
find_none (a ∷ xs) [] z f = refl
find_none (a ∷ xs) (t ∷ ts) z f =
    rw (eqℤ_false (pos a) z (f 0 (omega arith)), find_none xs ts z (λ k h. f (suc k) (omega arith)))

pub find_first : (xs ts : List ℕ) (z : ℤ) (i : ℕ) → i < length xs → length ts ≡ length xs → pos (get_or xs i 0) ≡ z
    → ((k : ℕ) → k < i → pos (get_or xs k 0) ≡ z → ⊥) → find_cell xs ts z ≡ cond (eqb (get_or ts i 0) 64) (some i) none
unfolding find_cell
find_first [] ts z i h s e f = absurd (not-suc-le-zero h)
find_first (a ∷ xs) [] z i h s e f = absurd (omega arith)
find_first (a ∷ xs) (t ∷ ts) z zero h s e f = rw (e, eqℤ_refl z)
find_first (a ∷ xs) (t ∷ ts) z (suc i) h s e f =
    rw (eqℤ_false (pos a) z (f 0 (omega arith)), find_first xs ts z i (le_of_suc-le-suc h) (omega arith) e (λ k l. f (suc k) (omega arith)))
    (go (eqb (get_or ts i 0) 64))
  where
    go : (b : Bool) → later (cond b (some i) none) ≡ cond b (some (suc i)) none
    go true = refl
    go false = refl

-- ---- what the code answers
module _ (xs ts : List ℕ) (a i : ℕ) (only : (k : ℕ) → k < length xs → get_or xs k 0 ≡ a → k ≡ i) where
  pub find_elsewhere : (get_or xs i 0 ≡ a → ⊥) → find_cell xs ts (pos a) ≡ none
  find_elsewhere n = find_none xs ts (pos a) λ k h e. let q : get_or xs k 0 ≡ a = cc in n (ap (λ (j : ℕ). get_or xs j 0) (sym (only k h q)) ∙ q)

  pub find_here : i < length xs → length ts ≡ length xs → get_or xs i 0 ≡ a → find_cell xs ts (pos a) ≡ cond (eqb (get_or ts i 0) 64) (some i) none
  find_here h s e =
      find_first xs ts (pos a) i h s (ap pos e) λ k l q. let r : get_or xs k 0 ≡ a = cc in omega (arith, only k (omega arith) r)

-- ---- what a find says
-- the first cell at z, a 64-bit one, stands at i
pub data At : List ℕ → List ℕ → ℤ → ℕ → Type 0 where
  hit : {a t : ℕ} {xs ts : List ℕ} {z : ℤ} → eqℤ (pos a) z ≡ true → eqb t 64 ≡ true → At (a ∷ xs) (t ∷ ts) z zero
  miss : {a t i : ℕ} {xs ts : List ℕ} {z : ℤ} → eqℤ (pos a) z ≡ false → At xs ts z i → At (a ∷ xs) (t ∷ ts) z (suc i)

pub at_of : (xs ts : List ℕ) (z : ℤ) (i : ℕ) → find_cell xs ts z ≡ some i → At xs ts z i
unfolding find_cell
at_of [] ts z i e = absurd (let n : ◌≡◌ {A = ℕ} 0 1 = cc in omega arith)
at_of (a ∷ xs) [] z i e = absurd (let n : ◌≡◌ {A = ℕ} 0 1 = cc in omega arith)
at_of (a ∷ xs) (t ∷ ts) z i e = go (eqℤ (pos a) z) refl (eqb t 64) refl (find_cell xs ts z) (at_of xs ts z) i e
  where
    go : (b : Bool) → eqℤ (pos a) z ≡ b → (c : Bool) → eqb t 64 ≡ c → (o : Option ℕ) → ((j : ℕ) → o ≡ some j → At xs ts z j)
        → (i : ℕ) → cond b (cond c (some 0) none) (later o) ≡ some i → At (a ∷ xs) (t ∷ ts) z i
    go true p true q o f i e = let n : 0 ≡ i = cc in subst (λ k. At (a ∷ xs) (t ∷ ts) z k) n (hit p q)
    go true p false q o f i e = absurd (let n : ◌≡◌ {A = ℕ} 0 1 = cc in omega arith)
    go false p c q none f i e = absurd (let n : ◌≡◌ {A = ℕ} 0 1 = cc in omega arith)
    go false p c q (some j) f i e = let n : suc j ≡ i = cc in subst (λ k. At (a ∷ xs) (t ∷ ts) z k) n (miss p (f j refl))

pub record Hit (xs ts : List ℕ) (z : ℤ) (i : ℕ) : Type 0 where
  pub inside : i < length xs
  pub tagged : i < length ts
  pub address : pos (get_or xs i 0) ≡ z
  pub tag : get_or ts i 0 ≡ 64

pub hit_of : (xs ts : List ℕ) (z : ℤ) (i : ℕ) → At xs ts z i → Hit xs ts z i
hit_of xs ts z i (hit {a = a} {t = t} e q) =
    record { inside = omega arith; tagged = omega arith; address = eqℤ_true (pos a) z e; tag = eqb-true t 64 q }
hit_of xs ts z i (miss {i = j} {xs = ys} {ts = us} e r) =
    let h = hit_of ys us z j r in
    record { inside = omega (arith, h.inside); tagged = omega (arith, h.tagged); address = h.address; tag = h.tag }

-- a cell that is found is in the lists, at that address, and has the tag 64
pub find_hit : (xs ts : List ℕ) (z : ℤ) (i : ℕ) → find_cell xs ts z ≡ some i → Hit xs ts z i
find_hit xs ts z i e = hit_of xs ts z i (at_of xs ts z i e)

-- where none is found, no 64-bit cell stands at that address
pub find_miss : (xs ts : List ℕ) (z : ℤ) → Searchable xs ts → find_cell xs ts z ≡ none → (k : ℕ) → k < length xs → pos (get_or xs k 0) ≡ z →
    get_or ts k 0 ≡ 64 → ⊥
find_miss xs ts z s e k h p t =
    let f = find_first xs ts z k h s.tags p (λ j l q. let r : get_or xs j 0 ≡ get_or xs k 0 = cc in omega (arith, s.ascending j k l h)) in
    let g : cond (eqb (get_or ts k 0) 64) (some k) none ≡ some k = rw (eq-eqb (get_or ts k 0) 64 t) in
    let n : ◌≡◌ {A = ℕ} 0 1 = cc in
    omega arith
