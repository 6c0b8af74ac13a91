-- The calls of every code within the limits are in order, one after the other, and so they are taken. Assumes nothing.
use Prim.Native.Nat.{ℕ, suc, ◌+◌, ◌≤◌, ◌<◌}
use mathlib.Core.Path.{◌≡◌, refl, sym, ap, subst}
use mathlib.Core.Bool.{true, cond}
use mathlib.Core.List.{List, [], ◌∷◌, ◌++◌}
use native.Mathlib.Omega.{arith}
use lib.Dec.{eqb}
use lib.ListN.{length, length-append}
use Rattle.code.specs.declared.tree.Instruction.{Instruction}
use Rattle.code.specs.declared.tree.Ocmp.{Ocmp}
use Rattle.code.specs.Tree.{Code, Ins, Block, IfElse, While, Codes, ⟨⟩, ◌∷ᶜ◌}
use Rattle.code.specs.Spells.{Nests, NestsAll}
use Rattle.code.specs.WellFormed.{WfCode, WfCodes}
use Rattle.code.specs.Writer.{bytes_of_ocmp, bytes_of_code, bytes_of_codes, place_code, place_codes}
use Rattle.code.proofs.Held.{length_bytes}
use Rattle.code.proofs.Placing.{same_bytes, same_bytes_all}
use Rattle.code.proofs.Joining.{join}
use Rattle.builder.specs.declared.build.Build.{Build}
use Rattle.builder.specs.Building.{build_after, buffer_after}
use Rattle.builder.specs.Calls.{Call, open_block, open_if_else, open_while, add, close, bytes_of_call}
use Rattle.built.specs.Sketch.{Open, block, true_part, while_part, false_part, Sketch, ◌▷◌, calls_of_code, calls_of_codes, parts_open, code_fits, close_fits, none, some}
use Rattle.built.specs.Claims.{after, taken}
use Rattle.built.proofs.Parts.{size, size_open}
use Rattle.built.proofs.Steps.{put, add_code, closed, next, steps, from_none, placed_size, code_added, codes_added}
use Rattle.built.proofs.Fields.{WfCall}
use Rattle.built.proofs.Fine.{fits_at, depth_at, Fine, adds, next_size}
use Rattle.built.proofs.Calling.{either}
use Rattle.built.proofs.Taking.{same_length}
use Rattle.built.proofs.Running.{Stands, in_order, stands_next}

-- calls in a row, each in order
unfoldable pub AllFine : ℕ → List Call → Sketch → Type 0
AllFine room [] s = Unit {0}
AllFine room (c ∷ calls) s = Fine room c s × AllFine room calls (next c s)

module _ (room : ℕ) where
  fine_append : (xs ys : List Call) (s : Sketch) → AllFine room xs s → AllFine room ys (steps xs s) → AllFine room (xs ++ ys) s
  unfolding AllFine steps
  fine_append [] ys s f g = g
  fine_append (x ∷ xs) ys s f g = (f.0, fine_append xs ys (next x s) f.1 g)

-- ---- the bytes of a code by those of its parts
ins_length : (p : ℕ) (i : Instruction) → length (bytes_of_code (Ins p i)) ≡ length (bytes_of_call (add i))
unfolding bytes_of_code bytes_of_call
ins_length p i = refl

block_length : (p : ℕ) (cs : Codes) → length (bytes_of_code (Block p cs)) ≡ 5 + length (bytes_of_codes cs)
unfolding bytes_of_code
block_length p cs = simp (length-append, length_bytes) (omega arith)

if_length :
    (p q : ℕ) (c : Ocmp) (a b : Code)
    → length (bytes_of_code (IfElse p q c a b)) ≡ 9 + length (bytes_of_ocmp c) + length (bytes_of_code a) + length (bytes_of_code b)
unfolding bytes_of_code
if_length p q c a b = simp (length-append, length_bytes) (omega arith)

while_length : (p q : ℕ) (c : Ocmp) (b : Code) → length (bytes_of_code (While p q c b)) ≡ 5 + length (bytes_of_ocmp c) + length (bytes_of_code b)
unfolding bytes_of_code
while_length p q c b = simp (length-append, length_bytes) (omega arith)

codes_length : (c : Code) (cs : Codes) → length (bytes_of_codes (c ∷ᶜ cs)) ≡ length (bytes_of_code c) + length (bytes_of_codes cs)
unfolding bytes_of_codes
codes_length c cs = length-append (bytes_of_code c) (bytes_of_codes cs)

-- ---- within a bound that the buffer and the limit allow
module _ (room bound : ℕ) (in_room : bound ≤ room) (in_limit : bound ≤ 16384) where
  add_fine :
      (c : Call) (s : Sketch) → adds c ≡ true → code_fits s ≡ true → WfCall c → parts_open s < 32 → size s + length (bytes_of_call c) ≤ bound → Fine room c s
  unfolding fits_at depth_at
  add_fine c s a f w d l = record { fits = rw a f; wf = w; shallow = rw a (omega arith); in_room = omega arith; in_limit = omega arith }

  close_fine : (s : Sketch) (o : Open) → close_fits (s ▷ o) ≡ true → parts_open s < 32 → size (s ▷ o) ≤ bound → Fine room close (s ▷ o)
  unfolding fits_at depth_at parts_open WfCall bytes_of_call
  close_fine s o f d l = record { fits = f; wf = tt; shallow = omega arith; in_room = omega arith; in_limit = omega arith }

  -- a code in a part that lacks it, and then the close of that part
  part_fine :
      (c : Code) (s : Sketch) (o : Open) (rest : List Call) → parts_open s < 32 → size (s ▷ o) + length (bytes_of_code c) ≤ bound
      → AllFine room (calls_of_code c) (s ▷ o) → let o' = put o (place_code (size (s ▷ o)) c) in
      close_fits (s ▷ o') ≡ true → AllFine room rest (closed s o') → AllFine room (calls_of_code c ++ close ∷ rest) (s ▷ o)
  unfolding AllFine next add_code
  part_fine c s o rest d l f g h =
      let at = size (s ▷ o) in
      let shuts = close_fine s (put o (place_code at c)) g d (omega (arith, placed_size (s ▷ o) c at)) in
      fine_append room (calls_of_code c) (close ∷ rest) (s ▷ o) f (rw (code_added c (s ▷ o)) (shuts, h))

  mutual
    unfolding calls_of_code calls_of_codes WfCode WfCodes Nests NestsAll AllFine WfCall parts_open code_fits close_fits next closed add_code put join none some

    pub code_fine :
        (c : Code) (s : Sketch) (d : ℕ) → code_fits s ≡ true → WfCode c → Nests c d → parts_open s + d ≤ 32
        → size s + length (bytes_of_code c) ≤ bound → AllFine room (calls_of_code c) s
    code_fine (Ins p i) s d f w n k l = (add_fine (add i) s refl f w (omega arith) (omega (arith, ins_length p i)), tt)
    code_fine (Block p cs) s d f w n k l =
        let e = n.1 in
        let o = block ⟨⟩ in
        let z = block_length p cs in
        let h = from_none s o refl in
        let cs' = place_codes (size (s ▷ o)) cs in
        let m : size (s ▷ block cs') ≤ bound = omega (arith, size_open s (block cs'), ap length (same_bytes_all cs (size (s ▷ o)))) in (
          add_fine open_block s refl f tt (omega arith) (omega (arith, next_size open_block s refl)),
          fine_append room (calls_of_codes cs) (close ∷ []) (s ▷ o) (codes_fine cs ⟨⟩ s n.0 w n.2 (omega arith) (omega arith))
              (rw (codes_added cs ⟨⟩ s) (close_fine s (block cs') refl (omega arith) m, tt)),
        )
    code_fine (IfElse p q c a b) s d f w n k l =
        let e = n.1 in
        let o = true_part c ⟨⟩ in
        let o' = false_part c (place_code (size (s ▷ o)) a) ⟨⟩ in
        let z = if_length p q c a b in
        let h = from_none s o refl in
        let h' = from_none s o' refl in
        let g = ap length (same_bytes a (size (s ▷ o))) in
        let fine_a = code_fine a (s ▷ o) n.0 refl w.1 n.2 (omega arith) (omega arith) in
        let fine_b = code_fine b (s ▷ o') n.0 refl w.2 n.3 (omega arith) (omega arith) in (
          add_fine (open_if_else c) s refl f w.0 (omega arith) (omega (arith, next_size (open_if_else c) s refl)),
          part_fine a s o (calls_of_code b ++ close ∷ []) (omega arith) (omega arith) fine_a refl
              (part_fine b s o' [] (omega arith) (omega arith) fine_b refl tt),
        )
    code_fine (While p q c b) s d f w n k l =
        let e = n.1 in
        let o = while_part c ⟨⟩ in
        let z = while_length p q c b in
        let h = from_none s o refl in
        let fine_b = code_fine b (s ▷ o) n.0 refl w.1 n.2 (omega arith) (omega arith) in (
          add_fine (open_while c) s refl f w.0 (omega arith) (omega (arith, next_size (open_while c) s refl)),
          part_fine b s o [] (omega arith) (omega arith) fine_b refl tt,
        )

    codes_fine :
        (cs ds : Codes) (s : Sketch) (d : ℕ) → WfCodes cs → NestsAll cs d → parts_open s + suc d ≤ 32
        → size (s ▷ block ds) + length (bytes_of_codes cs) ≤ bound → AllFine room (calls_of_codes cs) (s ▷ block ds)
    codes_fine ⟨⟩ ds s d w n k l = tt
    codes_fine (c ∷ᶜ cs) ds s d w n k l =
        let o = block ds in
        let at = size (s ▷ o) in
        let z = codes_length c cs in
        let h = placed_size (s ▷ o) c at in
        fine_append room (calls_of_code c) (calls_of_codes cs) (s ▷ o) (code_fine c (s ▷ o) d refl w.0 n.0 (omega arith) (omega arith))
        (rw (code_added c (s ▷ o)) (codes_fine cs (join ds (place_code at c ∷ᶜ ⟨⟩)) s d w.1 n.1 (omega arith) (omega arith)))

-- ---- calls in order are taken
pub all_taken :
    {before : List ℕ} (calls : List Call) (s : Sketch) (b : Build) (buffer : List ℕ) → Stands before s b buffer → AllFine (length before) calls s
    → (taken calls b buffer ≡ calls) × Stands before (steps calls s) (after calls b buffer).build (after calls b buffer).buffer
unfolding taken after steps AllFine
all_taken [] s b buffer st f = (refl, st)
all_taken {before} (c ∷ calls) s b buffer st f =
    let g = subst (λ (n : ℕ). Fine n c s) (sym (same_length st.written)) f.0 in
    let w = all_taken calls (next c s) (build_after c b) (buffer_after c b buffer) (stands_next c s b st g) f.1 in
    either c b buffer
    (λ o.
    let rest = taken calls o.build o.buffer in
    let end = after calls o.build o.buffer in
    (cond (eqb o.answer 0) (c ∷ rest) rest ≡ c ∷ calls) × Stands before (steps calls (next c s)) end.build end.buffer)
    (λ e. (ap (◌∷◌ c) w.0, w.1))
    (λ k. absurd (k (in_order c s b st g)))
