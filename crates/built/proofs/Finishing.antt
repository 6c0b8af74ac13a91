-- What the calls build, begun empty: the sketch that the taken ones make, and the code where it is finished. Assumes nothing.
use Prim.Native.Nat.{ℕ, ◌<◌}
use mathlib.Core.Path.{◌≡◌, refl, sym, ap, subst, ◌∙◌}
use mathlib.Core.List.{List, append-nil}
use native.Mathlib.Omega.{arith}
use lib.ListN.{length, take, drop}
use lib.Seq.{take-append_seam, drop-append_seam}
use Rattle.code.specs.Tree.{Code, ⟨⟩, ◌∷ᶜ◌}
use Rattle.code.specs.Reader.{got, parse, verdict_of, check_code}
use Rattle.code.specs.Spells.{NestsAll}
use Rattle.code.specs.WellFormed.{WfCodes}
use Rattle.code.specs.Writer.{bytes_of_code, bytes_of_codes, place_code}
use Rattle.code.proofs.Placing.{same_bytes}
use Rattle.code.proofs.Joining.{join}
use Rattle.code.proofs.ReadBack.{code_bytes}
use Rattle.code.proofs.Reading.{writing}
use Rattle.builder.specs.declared.build.Build.{Build}
use Rattle.builder.specs.Calls.{Call}
use Rattle.builder.specs.Building.{empty}
use Rattle.built.specs.Sketch.{Sketch, codes, ◌▷◌, bytes_so_far, calls_of_code, calls_of_codes, calls_so_far, parts_open}
use Rattle.built.specs.Claims.{AllTyped, IsFinished, end, taken_calls, front, SoFar, Finished, Builds}
use Rattle.built.proofs.Parts.{size}
use Rattle.built.proofs.Steps.{add_code, steps, code_added}
use Rattle.built.proofs.Sound.{Sound, legal_none, sound_depth}
use Rattle.built.proofs.Kept.{Tracks, code_kept, close_kept}
use Rattle.built.proofs.Running.{Stands, Runs, runs}

-- nothing was built
pub stands_empty : (buffer : List ℕ) → Stands buffer (codes ⟨⟩) empty buffer
unfolding bytes_so_far bytes_of_codes parts_open Tracks
stands_empty buffer =
    record {
      sound = (tt, legal_none 32);
      kept = record { bytes = refl; depth = refl; tracks = omega arith };
      written = record { bytes = refl; in_buffer = omega arith; in_limit = omega arith };
    }

-- the bytes of a sketch are the front of the buffer
front_is : {before buffer : List ℕ} {s : Sketch} {b : Build} → Stands before s b buffer → take b.length buffer ≡ bytes_so_far s
front_is {before} {buffer} {s} st = rw (st.kept.bytes, st.written.bytes) (take-append_seam (bytes_so_far s) (drop (size s) before))

behind_is : {before buffer : List ℕ} {s : Sketch} {b : Build} → Stands before s b buffer → drop b.length buffer ≡ drop b.length before
behind_is {before} {buffer} {s} st = rw (st.kept.bytes, st.written.bytes) (drop-append_seam (bytes_so_far s) (drop (size s) before))

-- a single code, with nothing open
abbrev alone : Code → Sketch
alone c = codes (c ∷ᶜ ⟨⟩)

alone_bytes : (c : Code) → bytes_so_far (alone c) ≡ bytes_of_code c
unfolding bytes_so_far bytes_of_codes
alone_bytes c = append-nil (bytes_of_code c)

-- a sketch of some bytes with nothing open
is_alone : (s : Sketch) → Sound s → parts_open s ≡ 0 → 0 < size s → (c : Code) × (s ≡ alone c)
unfolding parts_open bytes_so_far bytes_of_codes
is_alone (codes ⟨⟩) h d l = absurd (omega arith)
is_alone (codes (c ∷ᶜ ⟨⟩)) h d l = (c, refl)
is_alone (codes (c ∷ᶜ a ∷ᶜ cs)) h d l = absurd h.0
is_alone (s ▷ o) h d l = absurd (omega arith)

-- the calls of a code, begun empty, build it alone, with its places
pub built_alone : (c : Code) → steps (calls_of_code c) (codes ⟨⟩) ≡ alone (place_code 0 c)
unfolding add_code join bytes_so_far bytes_of_codes
built_alone c = code_added c (codes ⟨⟩)

-- what stands for a single code is finished, with its bytes
pub is_finished :
    {before buffer : List ℕ} {b : Build} (c : Code) → Stands before (alone (place_code 0 c)) b buffer
    → IsFinished b × (take b.length buffer ≡ bytes_of_code c)
unfolding parts_open
is_finished c st =
    let e = alone_bytes (place_code 0 c) ∙ same_bytes c 0 in
    let l = st.kept.bytes in
    ((st.kept.depth, omega (arith, ap length e, code_bytes c)), front_is st ∙ e)

-- ---- the claims of calls in a row
module _ (calls : List Call) (buffer : List ℕ) (fit : AllTyped calls) where
  abbrev was_taken : List Call
  was_taken = taken_calls calls buffer

  abbrev sketch : Sketch
  sketch = steps was_taken (codes ⟨⟩)

  ran : Runs buffer (codes ⟨⟩) was_taken (end calls buffer)
  ran = runs calls (codes ⟨⟩) empty buffer fit (stands_empty buffer)

  -- its calls
  history : calls_so_far sketch ≡ was_taken
  unfolding calls_so_far calls_of_codes
  history = ran.history

  so_far : SoFar calls buffer sketch
  so_far =
      let st = ran.stands in
      let b = (end calls buffer).build in
      let d = sound_depth sketch st.sound in
      record {
        its_calls = history;
        its_bytes = front_is st;
        its_length = st.kept.bytes;
        behind = behind_is st;
        its_depth = st.kept.depth;
        its_codes = code_kept b sketch st.kept d;
        its_closes = close_kept b sketch st.kept d;
      }

  -- whatever code has these calls, the sketch is it, placed
  same_alone : (d : Code) → calls_of_code d ≡ was_taken → sketch ≡ alone (place_code 0 d)
  same_alone d e = ap (λ cs. steps cs (codes ⟨⟩)) (sym e) ∙ built_alone d

  module _ (c : Code) (is : sketch ≡ alone c) where
    its_calls : calls_of_code c ≡ was_taken
    unfolding calls_so_far calls_of_codes
    its_calls = sym (append-nil (calls_of_code c)) ∙ ap calls_so_far (sym is) ∙ history

    no_other : (d : Code) → calls_of_code d ≡ was_taken → place_code 0 d ≡ c
    no_other d e = let w = same_alone d e in cc

    stands_alone : Stands buffer (alone c) (end calls buffer).build (end calls buffer).buffer
    stands_alone = subst (λ s. Stands buffer s (end calls buffer).build (end calls buffer).buffer) is ran.stands

    its_bytes : front calls buffer ≡ bytes_of_code c
    its_bytes = front_is stands_alone ∙ alone_bytes c

    reads_back : parse (front calls buffer) ≡ got c (length (front calls buffer))
    unfolding WfCodes NestsAll
    reads_back =
        let l = stands_alone.sound.1 in
        let few = stands_alone.written.in_limit in
        rw its_bytes
        ((writing c).read_back_placed l.wf.0 l.nests.0 (omega (arith, ap length (alone_bytes c)))
        ∙ rw (no_other c its_calls))

    is_the_code : Finished calls buffer c
    unfolding check_code verdict_of
    is_the_code =
        record { its_calls = its_calls; no_other = no_other; its_bytes = its_bytes; is_accepted = rw reads_back; reads_back = reads_back }

  pub builds : Builds calls buffer
  builds =
      record {
        so_far = (sketch, so_far);
        finished =
            λ f.
            let st = ran.stands in
            let l = f.1 in
            let w = is_alone sketch st.sound (sym st.kept.depth ∙ f.0) (rw (← st.kept.bytes) l) in
            (w.0, is_the_code w.0 w.1);
        one_string = λ c e. is_finished c (stands_alone (place_code 0 c) (same_alone c e));
      }
