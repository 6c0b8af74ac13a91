-- A call that is in order at a sketch: it leaves a sound one, with this call behind the others, and its bytes. Assumes nothing.
use Prim.Native.Nat.{ℕ, ◌+◌, ◌≤◌}
use mathlib.Core.Path.{◌≡◌, refl, ap, ◌∙◌}
use mathlib.Core.Bool.{Bool, true, false, cond, false≢true}
use mathlib.Core.List.{[], ◌∷◌, ◌++◌, append-nil}
use native.Mathlib.Omega.{arith}
use lib.ListN.{length, length-append}
use Rattle.code.specs.Tree.{Ins}
use Rattle.code.specs.Spells.{Nests, NestsAll}
use Rattle.code.specs.WellFormed.{WfCode, WfCodes}
use Rattle.code.specs.Writer.{bytes_of_code, bytes_of_codes}
use Rattle.builder.specs.Calls.{Call, open_block, open_if_else, open_while, add, close, bytes_of_call}
use Rattle.built.specs.Sketch.{Sketch, codes, ◌▷◌, bytes_of_open, bytes_so_far, calls_of_code, calls_of_codes, calls_of_open, calls_so_far, parts_open, code_fits, close_fits}
use Rattle.built.proofs.Parts.{size}
use Rattle.built.proofs.Steps.{next, add_bytes, add_calls}
use Rattle.built.proofs.Sound.{Sound, legal_none, ready, sound_add, sound_close}
use Rattle.built.proofs.Closing.{closed_calls}
use Rattle.built.proofs.Fields.{WfCall}

-- it adds to the code: every call but a close
abbrev pub adds : Call → Bool
adds open_block = true
adds (open_if_else c) = true
adds (open_while c) = true
adds (add i) = true
adds close = false

-- whether it fits
unfoldable pub fits_at : Call → Sketch → Bool
fits_at c s = cond (adds c) (code_fits s) (close_fits s)

-- the depth at which it works
unfoldable pub depth_at : Call → Sketch → ℕ
depth_at c s = cond (adds c) (parts_open s + 1) (parts_open s)

-- in order, in a buffer of `room` bytes
pub record Fine (room : ℕ) (c : Call) (s : Sketch) : Type 0 where
  pub fits : fits_at c s ≡ true
  pub wf : WfCall c
  pub shallow : depth_at c s ≤ 32
  pub in_room : size s + length (bytes_of_call c) ≤ room
  pub in_limit : size s + length (bytes_of_call c) ≤ 16384

pub next_sound : {room : ℕ} (c : Call) (s : Sketch) → Sound s → Fine room c s → Sound (next c s)
unfolding next fits_at depth_at WfCall WfCode WfCodes Nests NestsAll close_fits
next_sound open_block s h f = (h, record { fits = f.fits; shallow = let l = f.shallow in omega arith; few = tt; legal = legal_none _ })
next_sound (open_if_else c) s h f =
    (h, record { fits = f.fits; shallow = let l = f.shallow in omega arith; few = tt; legal = (f.wf, legal_none _) })
next_sound (open_while c) s h f =
    (h, record { fits = f.fits; shallow = let l = f.shallow in omega arith; few = tt; legal = (f.wf, legal_none _) })
next_sound (add i) s h f =
    let l = f.shallow in
    sound_add s (Ins (size s) i) h f.fits (record { wf = (f.wf, tt); nests = (omega arith, tt) })
next_sound close (codes cs) h f = absurd (false≢true f.fits)
next_sound close (s ▷ o) h f = sound_close s h (ready s o h.1.few f.fits)

pub next_calls : {room : ℕ} (c : Call) (s : Sketch) → Sound s → Fine room c s → calls_so_far (next c s) ≡ calls_so_far s ++ c ∷ []
unfolding next fits_at close_fits calls_so_far calls_of_open calls_of_code calls_of_codes
next_calls open_block s h f = refl
next_calls (open_if_else c) s h f = refl
next_calls (open_while c) s h f = refl
next_calls (add i) s h f = add_calls s (Ins (size s) i)
next_calls close (codes cs) h f = absurd (false≢true f.fits)
next_calls close (s ▷ o) h f = closed_calls s (ready s o h.1.few f.fits)

-- a call that adds to the code adds its bytes
pub next_bytes : (c : Call) (s : Sketch) → adds c ≡ true → bytes_so_far (next c s) ≡ bytes_so_far s ++ bytes_of_call c
unfolding next bytes_so_far bytes_of_open bytes_of_call bytes_of_code bytes_of_codes
next_bytes open_block s n = simp append-nil
next_bytes (open_if_else c) s n = simp append-nil
next_bytes (open_while c) s n = simp append-nil
next_bytes (add i) s n = add_bytes s (Ins (size s) i)
next_bytes close s n = absurd (false≢true n)

pub next_size : (c : Call) (s : Sketch) → adds c ≡ true → size (next c s) ≡ size s + length (bytes_of_call c)
next_size c s n = ap length (next_bytes c s n) ∙ length-append (bytes_so_far s) (bytes_of_call c)
