-- The stored sums, and what it means that the definition gives what is stored.
use Rattle.std.specs.Prelude.{◌≡◌, ℕ, cond, List, [], ◌∷◌, replicate, ◌==◌, slice_index_or}
use Rattle.std.proofs.Math.Option.{some}
use Rattle.code.specs.Records.{byte_at, number_at}
use Rattle.eval.specs.declared.answer.Evaluation.{Evaluation}
use Rattle.eval.specs.declared.answer.Evaluation.TheVariants.{Base, Board}
use Rattle.eval.specs.FlagRule.{flag_rule}
use Rattle.eval.specs.Config.{Config, done}
use Rattle.eval.specs.Counted.{Ended, ended_of}
use Rattle.eval.specs.declared.answer.Run.{Run}
use Rattle.eval.specs.Promises.{environment, held}
use Rattle.eval.specs.Running.{run_of}

-- the evaluation of a row
abbrev pub evaluation_at : List ℕ → Evaluation
evaluation_at row = cond (byte_at row 1 == 0) Base Board

-- its instruction, from Rbx to Rax
abbrev pub kernel : List ℕ → List ℕ
kernel row = byte_at row 0 ∷ 0x41 ∷ 0x00 ∷ 0x41 ∷ 0x01 ∷ []

-- Rax, Rbx and flags, all else 0, and no cells
abbrev pub start : List ℕ → Config
start row = held (number_at 8 row 2 ∷ number_at 8 row 10 ∷ replicate 14 0) (replicate 64 0) (number_at 8 row 18) []

-- its run, of one step
abbrev pub sum_run : List ℕ → Ended
sum_run row = run_of (kernel row) (environment [] [] (number_at 8 row 26) (flag_rule (evaluation_at row))) 0 (some 1) (start row)

-- a Run says what its end is; it has no cells, and so it does not matter which values are handed back
pub record Says (row : List ℕ) (r : Run) : Type 0 where
  pub values : List ℕ
  pub end_is : ended_of r values ≡ sum_run row

-- it is done, with the word and the flags that are stored
pub record IsStored (row : List ℕ) : Type 0 where
  pub is_done : (sum_run row).end.how ≡ done
  pub word : slice_index_or (sum_run row).end.config.regs 0 0 ≡ number_at 8 row 34
  pub flags : (sum_run row).end.config.flags ≡ number_at 8 row 42
