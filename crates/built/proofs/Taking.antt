-- What stands between a sketch and the build and buffer that calls have left: it holds after each call that is in order. Assumes nothing.
use Prim.Native.Nat.{ℕ, ◌+◌, ◌-◌, ◌≤◌, ◌<◌}
use mathlib.Core.Path.{◌≡◌, refl, sym, ◌∙◌}
use mathlib.Core.Bool.{true, cond, false≢true}
use mathlib.Core.List.{List}
use native.Mathlib.Omega.{arith}
use lib.Dec.{eqb}
use lib.ListN.{length, drop, length-append, length-drop}
use lib.Seq.{sets}
use Rattle.code.specs.Tree.{Code, Ins, Block, IfElse, While, ⟨⟩, ◌∷ᶜ◌}
use Rattle.code.specs.Writer.{bytes_of, bytes_of_codes}
use Rattle.builder.specs.declared.build.Build.{Build}
use Rattle.builder.specs.Calls.{Call, open_block, open_if_else, open_while, add, close, bytes_of_call}
use Rattle.builder.specs.Building.{kind_of, field_of, start_of, longer, opened, turned, shut, build_after, buffer_after}
use Rattle.built.specs.Sketch.{Open, block, true_part, while_part, false_part, Sketch, codes, ◌▷◌, bytes_so_far, parts_open, close_fits}
use Rattle.built.proofs.Parts.{inside, kind, field, size}
use Rattle.built.proofs.Steps.{add_code, closed, next, from_none}
use Rattle.built.proofs.Sound.{Sound, Ready, ready_block, ready_true, ready_while, ready_false, ready}
use Rattle.built.proofs.Filling.{fronted, appended, fills}
use Rattle.built.proofs.Closing.{closed_bytes, closed_size}
use Rattle.built.proofs.Fine.{fits_at, depth_at, Fine, adds, next_bytes, next_size}
use Rattle.built.proofs.Kept.{tracks_open, tracks_add, add_depth, Kept, innermost, outer_kept, kind_kept, field_kept, inside_kept}

-- ---- the build
opened_kept :
    (s : Sketch) (o : Open) (b : Build) (n : ℕ) → inside o ≡ ⟨⟩ → field (size s) o ≡ size s + 1 → size (s ▷ o) ≡ size s + n → parts_open s < 32
    → Kept s b → Kept (s ▷ o) (opened (kind o) b n)
unfolding parts_open
opened_kept s o b n e f l d k =
    let m = k.bytes in
    let q = k.depth in
    record {
      bytes = omega arith;
      depth = omega arith;
      tracks =
          tracks_open b.parts b.fields b.starts b.depth (kind o) (b.length + 1) (b.length + n) s o q (omega arith) refl (omega arith)
          (omega (arith, from_none s o e)) k.tracks;
    }

added_kept : (s : Sketch) (c : Code) (b : Build) (n : ℕ) → size (add_code s c) ≡ size s + n → Kept s b → Kept (add_code s c) (longer b n)
added_kept s c b n l k =
    let m = k.bytes in
    record {
      bytes = omega arith;
      depth = k.depth ∙ sym (add_depth s c);
      tracks = tracks_add b.parts b.fields b.starts s c k.tracks;
    }

module _ (s : Sketch) (o : Open) (b : Build) (k : Kept (s ▷ o) b) where
  shut_kept : (c : Code) → size (add_code s c) ≡ size (s ▷ o) → Kept (add_code s c) (shut b)
  shut_kept c l =
      let m = k.bytes in
      record {
        bytes = omega arith;
        depth = innermost s o b k ∙ sym (add_depth s c);
        tracks = tracks_add b.parts b.fields b.starts s c (outer_kept s o b k);
      }

  turned_kept :
      (o' : Open) → size (s ▷ o') ≡ size (s ▷ o) → inside o' ≡ ⟨⟩ → kind o' ≡ 2 → field (size s) o' ≡ field (size s) o + 4 → parts_open s < 32
      → Kept (s ▷ o') (turned b)
  unfolding parts_open
  turned_kept o' l e t f d =
      let m = k.bytes in
      let i = innermost s o b k in
      record {
        bytes = omega arith;
        depth = k.depth;
        tracks =
            tracks_open b.parts b.fields b.starts (b.depth - 1) 2 (field_of b + 4) b.length s o' i (omega arith) (sym t)
            (omega (arith, field_kept s o b k)) (omega (arith, from_none s o' e)) (outer_kept s o b k);
      }

closed_kept :
    (s : Sketch) {o : Open} (b : Build) → Ready o → parts_open s < 32 → Kept (s ▷ o) b → kind_of b ≡ kind o → size (closed s o) ≡ size (s ▷ o)
    → Kept (closed s o) (cond (eqb (kind_of b) 1) (turned b) (shut b))
unfolding closed
closed_kept s b (ready_block {cs}) d k e l = rw e (shut_kept s (block cs) b k (Block (size s) cs) l)
closed_kept s b (ready_true {c} {a}) d k e l = rw e (turned_kept s (true_part c (a ∷ᶜ ⟨⟩)) b k (false_part c a ⟨⟩) l refl refl (omega arith) d)
closed_kept s b (ready_while {c} {a}) d k e l = rw e (shut_kept s (while_part c (a ∷ᶜ ⟨⟩)) b k (While (size s) (size s + 5) c a) l)
closed_kept s b (ready_false {c} {a} {b = a'}) d k e l =
    rw e (shut_kept s (false_part c a (a' ∷ᶜ ⟨⟩)) b k (IfElse (size s) (size s + 9) c a a') l)

pub next_kept : {room : ℕ} (c : Call) (s : Sketch) (b : Build) → Sound s → Fine room c s → Kept s b → Kept (next c s) (build_after c b)
unfolding next build_after fits_at depth_at close_fits
next_kept open_block s b h f k =
    let l = f.shallow in
    opened_kept s (block ⟨⟩) b (length (bytes_of_call open_block)) refl refl (next_size open_block s refl) (omega arith) k
next_kept (open_if_else c) s b h f k =
    let l = f.shallow in
    opened_kept s (true_part c ⟨⟩) b (length (bytes_of_call (open_if_else c))) refl refl (next_size (open_if_else c) s refl) (omega arith) k
next_kept (open_while c) s b h f k =
    let l = f.shallow in
    opened_kept s (while_part c ⟨⟩) b (length (bytes_of_call (open_while c))) refl refl (next_size (open_while c) s refl) (omega arith) k
next_kept (add i) s b h f k = added_kept s (Ins (size s) i) b (length (bytes_of_call (add i))) (next_size (add i) s refl) k
next_kept close (codes cs) b h f k = absurd (false≢true f.fits)
next_kept close (s ▷ o) b h f k =
    let r = ready s o h.1.few f.fits in
    closed_kept s b r h.1.shallow k (kind_kept s o b k) (closed_size s r)

-- ---- the buffer

-- a buffer holds a sketch's bytes, and behind them what it was before
pub record Written (before : List ℕ) (s : Sketch) (buffer : List ℕ) : Type 0 where
  pub bytes : buffer ≡ fronted (bytes_so_far s) before
  pub in_buffer : size s ≤ length before
  pub in_limit : size s ≤ 16384

pub same_length : {before buffer : List ℕ} {s : Sketch} → Written before s buffer → length buffer ≡ length before
same_length {before} {buffer} {s} w = let l = w.in_buffer in rw w.bytes (simp (length-append, length-drop) (omega arith))

added_written :
    {before buffer : List ℕ} (c : Call) (s : Sketch) (b : Build) → adds c ≡ true → Fine (length buffer) c s → Kept s b → Written before s buffer
    → Written before (next c s) (sets buffer b.length (bytes_of_call c))
added_written {before} {buffer} c s b n f k w =
    let vs = bytes_of_call c in
    let l = next_size c s n in
    let m = f.in_room in
    let q = same_length w in
    record {
      bytes = rw (w.bytes, k.bytes, next_bytes c s n) (appended (bytes_so_far s) vs before (omega arith));
      in_buffer = omega arith;
      in_limit = let y = f.in_limit in omega arith;
    }

closed_written :
    {before buffer : List ℕ} (s : Sketch) {o : Open} (b : Build) → Ready o → Kept (s ▷ o) b → Written before (s ▷ o) buffer
    → Written before (closed s o) (sets buffer (field_of b) (bytes_of 4 (b.length - start_of b)))
closed_written {before} {buffer} s {o} b r k w =
    let n = length (bytes_of_codes (inside o)) in
    let l = closed_size s r in
    record {
      bytes = rw (w.bytes, field_kept s o b k, inside_kept s o b k, ← l, fills s o n (drop (size (closed s o)) before), closed_bytes s r);
      in_buffer = let m = w.in_buffer in omega arith;
      in_limit = let m = w.in_limit in omega arith;
    }

pub next_written :
    {before buffer : List ℕ} (c : Call) (s : Sketch) (b : Build) → Sound s → Fine (length buffer) c s → Kept s b → Written before s buffer
    → Written before (next c s) (buffer_after c b buffer)
unfolding next buffer_after fits_at close_fits
next_written open_block s b h f k w = added_written open_block s b refl f k w
next_written (open_if_else c) s b h f k w = added_written (open_if_else c) s b refl f k w
next_written (open_while c) s b h f k w = added_written (open_while c) s b refl f k w
next_written (add i) s b h f k w = added_written (add i) s b refl f k w
next_written close (codes cs) b h f k w = absurd (false≢true f.fits)
next_written close (s ▷ o) b h f k w = closed_written s b (ready s o h.1.few f.fits) k w
