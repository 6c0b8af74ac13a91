-- Calls in a row: what stands before them stands behind them, for the sketch that the taken ones make. Assumes nothing.
use Prim.Native.Nat.{ℕ, ◌+◌}
use mathlib.Core.Path.{◌≡◌, sym, ◌∙◌}
use mathlib.Core.Bool.{cond}
use mathlib.Core.List.{List, [], ◌∷◌, ◌++◌, append-nil, append_assoc}
use native.Mathlib.Omega.{arith}
use borrow.Author.Tests.{ne_eqb}
use lib.Dec.{eqb}
use lib.ListN.{length}
use Rattle.builder.specs.declared.build.Build.{Build}
use Rattle.builder.specs.Calls.{Call, open_block, open_if_else, open_while, add, close, bytes_of_call, call_trouble, CallTyped}
use Rattle.builder.specs.Building.{call_fits, depth_of, refusal, build_after, buffer_after, Outcome}
use Rattle.built.specs.Sketch.{Sketch, calls_so_far}
use Rattle.built.specs.Claims.{after, taken, AllTyped}
use Rattle.built.proofs.Steps.{next, steps}
use Rattle.built.proofs.Sound.{Sound, sound_depth}
use Rattle.built.proofs.Fields.{call_wf, wf_call, call_small}
use Rattle.built.proofs.Fine.{fits_at, depth_at, Fine, next_sound, next_calls}
use Rattle.built.proofs.Kept.{Kept, code_kept, close_kept}
use Rattle.built.proofs.Judging.{judged_0}
use Rattle.built.proofs.Calling.{number, either}
use Rattle.built.proofs.Taking.{Written, next_kept, next_written}

-- a sketch stands in build and buffer
pub record Stands (before : List ℕ) (s : Sketch) (b : Build) (buffer : List ℕ) : Type 0 where
  pub sound : Sound s
  pub kept : Kept s b
  pub written : Written before s buffer

module _ (s : Sketch) (b : Build) (h : Sound s) (k : Kept s b) where
  fits_same : (c : Call) → call_fits c b ≡ fits_at c s
  unfolding call_fits fits_at
  fits_same open_block = code_kept b s k (sound_depth s h)
  fits_same (open_if_else c) = code_kept b s k (sound_depth s h)
  fits_same (open_while c) = code_kept b s k (sound_depth s h)
  fits_same (add i) = code_kept b s k (sound_depth s h)
  fits_same close = close_kept b s k (sound_depth s h)

  depth_same : (c : Call) → depth_of c b ≡ depth_at c s
  unfolding depth_of depth_at
  depth_same open_block = rw k.depth
  depth_same (open_if_else c) = rw k.depth
  depth_same (open_while c) = rw k.depth
  depth_same (add i) = rw k.depth
  depth_same close = k.depth

module _ {before buffer : List ℕ} (c : Call) (s : Sketch) (b : Build) (st : Stands before s b buffer) where
  -- a call that is taken is in order
  fine : CallTyped c → number c b buffer ≡ 0 → Fine (length buffer) c s
  unfolding refusal
  fine f e =
      let bytes = b.length + length (bytes_of_call c) in
      let j = (judged_0 (call_fits c b) (call_trouble c) (depth_of c b) bytes (length buffer) (call_small c)).0 e in
      let l = st.kept.bytes in
      record {
        fits = sym (fits_same s b st.sound st.kept c) ∙ j.0;
        wf = call_wf c f j.1;
        shallow = let d = j.2 in omega (arith, depth_same s b st.sound st.kept c);
        in_room = let m = j.3.0 in omega arith;
        in_limit = let m = j.3.1 in omega arith;
      }

  -- one that is in order is taken
  pub in_order : Fine (length buffer) c s → number c b buffer ≡ 0
  unfolding refusal
  in_order f =
      let bytes = b.length + length (bytes_of_call c) in
      let l = st.kept.bytes in
      let d = f.shallow in
      let m = f.in_room in
      let n = f.in_limit in
      (judged_0 (call_fits c b) (call_trouble c) (depth_of c b) bytes (length buffer) (call_small c)).1
      (fits_same s b st.sound st.kept c ∙ f.fits, wf_call c f.wf, omega (arith, depth_same s b st.sound st.kept c), (omega arith, omega arith))

  pub stands_next : Fine (length buffer) c s → Stands before (next c s) (build_after c b) (buffer_after c b buffer)
  stands_next f =
      record {
        sound = next_sound c s st.sound f;
        kept = next_kept c s b st.sound f st.kept;
        written = next_written c s b st.sound f st.kept st.written;
      }

-- what calls leave, of which these were taken
pub record Runs (before : List ℕ) (s : Sketch) (calls : List Call) (o : Outcome) : Type 0 where
  pub stands : Stands before (steps calls s) o.build o.buffer
  pub history : calls_so_far (steps calls s) ≡ calls_so_far s ++ calls

pub runs :
    {before : List ℕ} (calls : List Call) (s : Sketch) (b : Build) (buffer : List ℕ) → AllTyped calls → Stands before s b buffer
    → Runs before s (taken calls b buffer) (after calls b buffer)
unfolding taken after AllTyped steps
runs [] s b buffer f st = record { stands = st; history = sym (append-nil (calls_so_far s)) }
runs {before} (c ∷ calls) s b buffer f st =
    either c b buffer
    (λ o. let rest = taken calls o.build o.buffer in Runs before s (cond (eqb o.answer 0) (c ∷ rest) rest) (after calls o.build o.buffer))
    (λ e.
    let g = fine c s b st f.0 e in
    let r = runs calls (next c s) (build_after c b) (buffer_after c b buffer) f.1 (stands_next c s b st g) in
    record { stands = r.stands; history = r.history ∙ rw (next_calls c s st.sound g, append_assoc) })
    (λ k. rw (ne_eqb (number c b buffer) 0 k) (runs calls s b buffer f.1 st))
