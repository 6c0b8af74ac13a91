-- The claims of request 2026-01. Assumes nothing.
use Prim.Native.Nat.{ℕ, ◌≤◌}
use mathlib.Core.Path.{◌≡◌, refl, subst}
use mathlib.Core.List.{List}
use native.Mathlib.Omega.{arith}
use lib.ListN.{length}
use Rattle.code.specs.Tree.{Code, ⟨⟩}
use Rattle.code.specs.Spells.{Nests}
use Rattle.code.specs.WellFormed.{WfCode}
use Rattle.code.specs.Writer.{bytes_of_code, bytes_of_codes}
use Rattle.builder.specs.Building.{empty}
use Rattle.built.specs.Sketch.{codes, bytes_so_far, calls_of_code, parts_open, none, code_fits}
use Rattle.built.specs.Claims.{IsFinished, end, taken_calls, front, Builder}
use Rattle.built.proofs.Calling.{judged}
use Rattle.built.proofs.Running.{Stands}
use Rattle.built.proofs.Every.{code_fine, all_taken}
use Rattle.built.proofs.Finishing.{stands_empty, built_alone, is_finished, builds}

-- every code within the limits can be built
every_code :
    (c : Code) (buffer : List ℕ) → WfCode c → Nests c 32 → length (bytes_of_code c) ≤ 16384 → length (bytes_of_code c) ≤ length buffer
    → (taken_calls (calls_of_code c) buffer ≡ calls_of_code c)
    × IsFinished (end (calls_of_code c) buffer).build
    × (front (calls_of_code c) buffer ≡ bytes_of_code c)
unfolding code_fits none parts_open bytes_so_far bytes_of_codes
every_code c buffer w n l m =
    let calls = calls_of_code c in
    let ended = end calls buffer in
    let f = code_fine (length buffer) (length (bytes_of_code c)) m l c (codes ⟨⟩) 32 refl w n (omega arith) (omega arith) in
    let r = all_taken calls (codes ⟨⟩) empty buffer (stands_empty buffer) f in
    let d = is_finished c (subst (λ s. Stands buffer s ended.build ended.buffer) (built_alone c) r.1) in
    (r.0, d.0, d.1)

pub builder : Builder
builder = record { judged = judged; builds = builds; every_code = every_code }
