-- Stores into a buffer: bytes behind the build, and the length of a part that is closed. Assumes nothing.
use Prim.Native.Nat.{ℕ, suc, ◌+◌, ◌≤◌}
use mathlib.Core.Path.{◌≡◌, refl, sym, ◌∙◌}
use mathlib.Core.List.{List, [], ◌∷◌, ◌++◌, append_assoc}
use native.Mathlib.Omega.{arith}
use lib.ListN.{length, take, drop, set, length-append, length-drop, take-append-drop}
use lib.Seq.{sets, sets-eq, take_at, drop_at, drop-drop, drop-set-lt, length-take-le}
use Rattle.code.specs.Writer.{bytes_of, bytes_of_ocmp, bytes_of_code, bytes_of_codes}
use Rattle.code.proofs.Held.{length_bytes}
use Rattle.built.specs.Sketch.{Open, block, true_part, while_part, false_part, Sketch, ◌▷◌, bytes_of_open, bytes_so_far}
use Rattle.built.proofs.Parts.{field, size}

-- ---- lists
module _ (p old new q : List ℕ) (same : length old ≡ length new) where
  sets_between : (i : ℕ) → length p ≡ i → sets (p ++ (old ++ q)) i new ≡ p ++ (new ++ q)
  sets_between i e =
      sets-eq new (p ++ (old ++ q)) i (simp length-append (omega arith))
      ∙ rw (take_at p (old ++ q) i e, ← append_assoc p old q, drop_at (p ++ old) q (i + length new) (simp length-append (omega arith)), append_assoc)

-- what is stored before n leaves what stands behind
pub drop_sets : (n i : ℕ) (vs l : List ℕ) → i + length vs ≤ n → drop n (sets l i vs) ≡ drop n l
drop_sets n i [] l h = refl
drop_sets n i (v ∷ vs) l h = drop_sets n (suc i) vs (set l i v) (omega arith) ∙ drop-set-lt n l i v (omega arith)

-- bytes in front of what a buffer was before
abbrev pub fronted : List ℕ → List ℕ → List ℕ
fronted bs buffer = bs ++ drop (length bs) buffer

pub appended : (bs vs buffer : List ℕ) → length bs + length vs ≤ length buffer → sets (fronted bs buffer) (length bs) vs ≡ fronted (bs ++ vs) buffer
appended bs vs buffer h =
    let n = length vs in
    let rest = drop (length bs) buffer in
    let old = take n rest in
    let k : length old ≡ n = length-take-le n rest (simp length-drop (omega arith)) in
    let w = sets_between bs old vs (drop n rest) k (length bs) refl in
    rw (take-append-drop n rest) at w ∙ rw (drop-drop n (length bs) buffer, length-append, append_assoc)

-- ---- the length of an open part

-- the bytes of its structure before that length
before : Open → List ℕ
before (block cs) = 0x20 ∷ []
before (true_part c cs) = 0x21 ∷ []
before (while_part c cs) = 0x22 ∷ []
before (false_part c a cs) = 0x21 ∷ bytes_of 4 (length (bytes_of_code a))

-- and behind it
behind : Open → List ℕ
behind (block cs) = bytes_of_codes cs
behind (true_part c cs) = bytes_of 4 0 ++ (bytes_of_ocmp c ++ bytes_of_codes cs)
behind (while_part c cs) = bytes_of_ocmp c ++ bytes_of_codes cs
behind (false_part c a cs) = bytes_of_ocmp c ++ (bytes_of_code a ++ bytes_of_codes cs)

-- the structure with that length filled in
unfoldable pub filled : ℕ → Open → List ℕ
unfolding before behind
filled n o = before o ++ (bytes_of 4 n ++ behind o)

unfilled : (o : Open) → filled 0 o ≡ bytes_of_open o
unfolding filled before behind bytes_of_open
unfilled (block cs) = refl
unfilled (true_part c cs) = refl
unfilled (while_part c cs) = refl
unfilled (false_part c a cs) = refl

field_before : (at : ℕ) (o : Open) → at + length (before o) ≡ field at o
unfolding before
field_before at (block cs) = refl
field_before at (true_part c cs) = refl
field_before at (while_part c cs) = refl
field_before at (false_part c a cs) = omega (arith, length_bytes 4 (length (bytes_of_code a)))

-- as many bytes
pub filled_length : (n : ℕ) (o : Open) → length (filled n o) ≡ length (bytes_of_open o)
unfolding filled
filled_length n o = rw (← unfilled o) (simp (length-append, length_bytes))

-- a number stored at that length fills it in, whatever stands behind
pub fills :
    (s : Sketch) (o : Open) (n : ℕ) (rest : List ℕ)
    → sets (bytes_so_far (s ▷ o) ++ rest) (field (size s) o) (bytes_of 4 n) ≡ bytes_so_far s ++ filled n o ++ rest
unfolding bytes_so_far filled before behind
fills s o n rest =
    let w = sets_between (bytes_so_far s ++ before o) (bytes_of 4 0) (bytes_of 4 n) (behind o ++ rest) (length_bytes 4 0 ∙ sym (length_bytes 4 n))
    (field (size s) o) (simp length-append (field_before (size s) o)) in
    rw (← unfilled o) (simp append_assoc (simp append_assoc at w))
