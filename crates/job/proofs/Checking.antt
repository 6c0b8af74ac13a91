-- Which way checking a job goes, and what an accepted job has.
use Prim.Native.Nat.{ℕ, ◌≤◌, ◌<◌}
use mathlib.Core.Path.{◌≡◌, refl}
use mathlib.Core.Bool.{Bool, true, false, cond}
use mathlib.Core.List.{List}
use native.Mathlib.Omega.{arith}
use lib.Dec.{ltb}
use lib.ListN.{length}
use borrow.Author.Tests.{lt-ltb, le-ltb, ltb-false}
use Rattle.machine.specs.Cells.{Verdict, accepted, refused}
use Rattle.job.specs.Job.{count_of, code_at, check_job, Complete}

module _ (bs : List ℕ) where
  pub too_long : 34198 < length bs → check_job bs ≡ refused 42 0
  unfolding check_job
  too_long h = simp (lt-ltb 34198 (length bs) h)

  pub too_short : length bs ≤ 34198 → length bs < 406 → check_job bs ≡ refused 41 0
  unfolding check_job
  too_short l h = simp (le-ltb 34198 (length bs) l, lt-ltb (length bs) 406 h)

  pub too_many : length bs ≤ 34198 → 406 ≤ length bs → 1024 < count_of bs → check_job bs ≡ refused 12 0
  unfolding check_job
  too_many l s h = simp (le-ltb 34198 (length bs) l, le-ltb (length bs) 406 s, lt-ltb 1024 (count_of bs) h)

  pub cut_short :
      length bs ≤ 34198 → 406 ≤ length bs → count_of bs ≤ 1024 → length bs < code_at bs → check_job bs ≡ refused 41 0
  unfolding check_job
  cut_short l s m h =
      simp (
        le-ltb 34198 (length bs) l,
        le-ltb (length bs) 406 s,
        le-ltb 1024 (count_of bs) m,
        lt-ltb (length bs) (code_at bs) h,
      )

  pub all_there :
      length bs ≤ 34198 → 406 ≤ length bs → count_of bs ≤ 1024 → code_at bs ≤ length bs → check_job bs ≡ accepted
  unfolding check_job
  all_there l s m h =
      simp (
        le-ltb 34198 (length bs) l,
        le-ltb (length bs) 406 s,
        le-ltb 1024 (count_of bs) m,
        le-ltb (length bs) (code_at bs) h,
      )

-- a test that would refuse has failed
passed : (b : Bool) (n : ℕ) (v : Verdict) → cond b (refused n 0) v ≡ accepted → (b ≡ false) × (v ≡ accepted)
passed true n v e = absurd (let z : ◌≡◌ {A = ℕ} 0 1 = cc in omega arith)
passed false n v e = (refl, e)

-- an accepted job has its header and its cells
pub complete : (bs : List ℕ) → check_job bs ≡ accepted → Complete bs
unfolding check_job
complete bs e =
    let long = passed (ltb 34198 (length bs)) 42 _ e in
    let short = passed (ltb (length bs) 406) 41 _ long.1 in
    let many = passed (ltb 1024 (count_of bs)) 12 _ short.1 in
    let cut = passed (ltb (length bs) (code_at bs)) 41 _ many.1 in
    record {
      header = ltb-false _ _ short.0;
      few = ltb-false _ _ many.0;
      cells = ltb-false _ _ cut.0;
    }
