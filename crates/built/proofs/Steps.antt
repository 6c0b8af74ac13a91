-- What each call does to a sketch, with the places where records land, and that the calls of a code add that code, placed. Assumes nothing.
use Prim.Native.Nat.{ℕ, ◌+◌}
use mathlib.Core.Path.{◌≡◌, refl, ap}
use mathlib.Core.List.{List, [], ◌∷◌, ◌++◌, append-nil, append_assoc}
use native.Mathlib.Omega.{arith}
use lib.ListN.{length, length-append}
use Rattle.code.specs.Tree.{Code, Ins, Block, IfElse, While, Codes, ⟨⟩, ◌∷ᶜ◌}
use Rattle.code.specs.Writer.{bytes_of_ocmp, bytes_of_code, bytes_of_codes, place_code, place_codes}
use Rattle.code.proofs.Placing.{same_bytes}
use Rattle.code.proofs.Joining.{join, join_none, join_assoc, join_bytes}
use Rattle.builder.specs.Calls.{Call, open_block, open_if_else, open_while, add, close}
use Rattle.built.specs.Sketch.{Open, block, true_part, while_part, false_part, Sketch, codes, ◌▷◌, bytes_of_open, bytes_so_far, calls_of_code, calls_of_codes, calls_of_open, calls_so_far}
use Rattle.built.proofs.Parts.{inside, start, size, size_open}

-- a code behind those of an open part
unfoldable pub put : Open → Code → Open
put (block cs) d = block (join cs (d ∷ᶜ ⟨⟩))
put (true_part c cs) d = true_part c (join cs (d ∷ᶜ ⟨⟩))
put (while_part c cs) d = while_part c (join cs (d ∷ᶜ ⟨⟩))
put (false_part c a cs) d = false_part c a (join cs (d ∷ᶜ ⟨⟩))

-- a code behind those of the innermost open part
unfoldable pub add_code : Sketch → Code → Sketch
add_code (codes cs) d = codes (join cs (d ∷ᶜ ⟨⟩))
add_code (s ▷ o) d = s ▷ put o d

-- the innermost part is closed, if it has its code
unfoldable pub closed : Sketch → Open → Sketch
closed s (block cs) = add_code s (Block (size s) cs)
closed s (true_part c ⟨⟩) = s ▷ true_part c ⟨⟩
closed s (true_part c (a ∷ᶜ cs)) = s ▷ false_part c a ⟨⟩
closed s (while_part c ⟨⟩) = s ▷ while_part c ⟨⟩
closed s (while_part c (b ∷ᶜ cs)) = add_code s (While (size s) (size s + 5) c b)
closed s (false_part c a ⟨⟩) = s ▷ false_part c a ⟨⟩
closed s (false_part c a (b ∷ᶜ cs)) = add_code s (IfElse (size s) (size s + 9) c a b)

-- what a call makes of a sketch
unfoldable pub next : Call → Sketch → Sketch
next open_block s = s ▷ block ⟨⟩
next (open_if_else c) s = s ▷ true_part c ⟨⟩
next (open_while c) s = s ▷ while_part c ⟨⟩
next (add i) s = add_code s (Ins (size s) i)
next close (codes cs) = codes cs
next close (s ▷ o) = closed s o

-- and calls in a row
unfoldable pub steps : List Call → Sketch → Sketch
steps [] s = s
steps (c ∷ cs) s = steps cs (next c s)

steps_append : (xs ys : List Call) (s : Sketch) → steps (xs ++ ys) s ≡ steps ys (steps xs s)
unfolding steps
steps_append [] ys s = refl
steps_append (x ∷ xs) ys s = steps_append xs ys (next x s)

-- ---- codes that are joined
join_calls : (cs ds : Codes) → calls_of_codes (join cs ds) ≡ calls_of_codes cs ++ calls_of_codes ds
unfolding join calls_of_codes
join_calls ⟨⟩ ds = refl
join_calls (c ∷ᶜ cs) ds = rw (join_calls cs ds, append_assoc)

-- ---- a code that is added
last_bytes : (cs : Codes) (d : Code) → bytes_of_codes (join cs (d ∷ᶜ ⟨⟩)) ≡ bytes_of_codes cs ++ bytes_of_code d
unfolding bytes_of_codes
last_bytes cs d = rw (join_bytes cs (d ∷ᶜ ⟨⟩), append-nil)

last_calls : (cs : Codes) (d : Code) → calls_of_codes (join cs (d ∷ᶜ ⟨⟩)) ≡ calls_of_codes cs ++ calls_of_code d
unfolding calls_of_codes
last_calls cs d = rw (join_calls cs (d ∷ᶜ ⟨⟩), append-nil)

put_bytes : (o : Open) (d : Code) → bytes_of_open (put o d) ≡ bytes_of_open o ++ bytes_of_code d
unfolding put bytes_of_open
put_bytes (block cs) d = simp (last_bytes, append_assoc)
put_bytes (true_part c cs) d = simp (last_bytes, append_assoc)
put_bytes (while_part c cs) d = simp (last_bytes, append_assoc)
put_bytes (false_part c a cs) d = simp (last_bytes, append_assoc)

put_calls : (o : Open) (d : Code) → calls_of_open (put o d) ≡ calls_of_open o ++ calls_of_code d
unfolding put calls_of_open
put_calls (block cs) d = simp last_calls
put_calls (true_part c cs) d = simp last_calls
put_calls (while_part c cs) d = simp last_calls
put_calls (false_part c a cs) d = simp (last_calls, append_assoc)

pub add_bytes : (s : Sketch) (d : Code) → bytes_so_far (add_code s d) ≡ bytes_so_far s ++ bytes_of_code d
unfolding add_code bytes_so_far
add_bytes (codes cs) d = last_bytes cs d
add_bytes (s ▷ o) d = rw (put_bytes o d, append_assoc)

pub add_calls : (s : Sketch) (d : Code) → calls_so_far (add_code s d) ≡ calls_so_far s ++ calls_of_code d
unfolding add_code calls_so_far
add_calls (codes cs) d = last_calls cs d
add_calls (s ▷ o) d = rw (put_calls o d, append_assoc)

-- ---- the calls of a code add it, placed

-- where the first code of an open part lands
pub from_none : (s : Sketch) (o : Open) → inside o ≡ ⟨⟩ → size (s ▷ o) ≡ start (size s) o
unfolding bytes_of_codes
from_none s o e = omega (arith, size_open s o, ap (λ (cs : Codes). length (bytes_of_codes cs)) e)

-- and where the next one lands
pub placed_size : (s : Sketch) (c : Code) (at : ℕ) → size (add_code s (place_code at c)) ≡ size s + length (bytes_of_code c)
placed_size s c at = rw (add_bytes s (place_code at c), same_bytes c at) (length-append (bytes_so_far s) (bytes_of_code c))

mutual
  unfolding calls_of_code calls_of_codes place_code place_codes steps next closed add_code put join

  pub code_added : (c : Code) (s : Sketch) → steps (calls_of_code c) s ≡ add_code s (place_code (size s) c)
  code_added (Ins p i) s = refl
  code_added (Block p cs) s = rw (steps_append (calls_of_codes cs) (close ∷ []) (s ▷ block ⟨⟩), codes_added cs ⟨⟩ s, from_none s (block ⟨⟩) refl)
  code_added (IfElse p q c a b) s =
      let at = size s + 9 + length (bytes_of_ocmp c) in
      let o = true_part c ⟨⟩ in
      let a' = place_code at a in
      let o' = false_part c a' ⟨⟩ in
      let rest = calls_of_code b ++ close ∷ [] in
      rw (
        steps_append (calls_of_code a) (close ∷ rest) (s ▷ o),
        code_added a (s ▷ o),
        from_none s o refl,
        steps_append (calls_of_code b) (close ∷ []) (s ▷ o'),
        code_added b (s ▷ o'),
        from_none s o' refl,
        same_bytes a at,
      )
  code_added (While p q c b) s =
      let o = while_part c ⟨⟩ in
      rw (steps_append (calls_of_code b) (close ∷ []) (s ▷ o), code_added b (s ▷ o), from_none s o refl)

  pub codes_added : (cs ds : Codes) (s : Sketch) → steps (calls_of_codes cs) (s ▷ block ds) ≡ s ▷ block (join ds (place_codes (size (s ▷ block ds)) cs))
  codes_added ⟨⟩ ds s = rw (join_none ds)
  codes_added (c ∷ᶜ cs) ds s =
      let c' = place_code (size (s ▷ block ds)) c in
      let ds' = join ds (c' ∷ᶜ ⟨⟩) in
      rw (
        steps_append (calls_of_code c) (calls_of_codes cs) (s ▷ block ds),
        code_added c (s ▷ block ds),
        codes_added cs ds' s,
        placed_size (s ▷ block ds) c (size (s ▷ block ds)),
        join_assoc,
      )
