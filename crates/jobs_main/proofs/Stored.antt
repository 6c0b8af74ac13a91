-- What the program runs is the row's run.
use Rattle.std.proofs.Common.{◌≡◌, ℕ, List, [], ◌∷◌, replicate}
use mathlib.Core.Option.{some}
use Rattle.code.specs.Records.{number_at}
use Rattle.eval.specs.declared.answer.Evaluation.{Evaluation}
use Rattle.eval.specs.FlagRule.{flag_rule}
use Rattle.eval.specs.Promises.{environment, held}
use Rattle.eval.specs.Running.{run_of}
use Rattle.jobs_main.specs.Sums.{evaluation_at, kernel, sum_run}

pub same_run : (row : List ℕ) (a b flags fill : ℕ) (e : Evaluation)
    → a ≡ number_at 8 row 2 → b ≡ number_at 8 row 10 → flags ≡ number_at 8 row 18 → fill ≡ number_at 8 row 26 → e ≡ evaluation_at row
    → run_of (kernel row) (environment [] [] fill (flag_rule e)) 0 (some 1) (held (a ∷ b ∷ replicate 14 0) (replicate 64 0) flags [])
    ≡ sum_run row
same_run row a b flags fill e p q f g h = rw (p, q, f, g, h)
