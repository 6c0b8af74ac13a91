-- The job program: what it prints of the bytes that it reads.
use Rattle.std.specs.Prelude.{ℕ, zero, suc, ◌+◌, ◌*◌, ◌≤◌, cond, ◌≡◌, List, [], ◌∷◌, ◌++◌, ltb, length, drop}
use Rattle.std.proofs.Math.Option.{some}
use Rattle.machine.specs.Cells.{Verdict}
use Rattle.machine.specs.Cells.{accepted as job_accepted, refused as job_refused}
use Rattle.code.specs.Records.{number_at}
use Rattle.machine.specs.declared.State.{State}
use Rattle.eval.specs.FlagRule.{flag_rule}
use Rattle.eval.specs.Config.{Env, Config, config, refused}
use Rattle.eval.specs.Counted.{nothing_counted, Ended, ended}
use Rattle.eval.specs.declared.answer.Setting.{Setting}
use Rattle.eval.specs.declared.answer.Evaluation.TheVariants.{Base}
use Rattle.eval.specs.Running.{run_of}
use Rattle.job.specs.Text.{render}

-- n numbers of `size` bytes each, `stride` bytes apart
unfoldable pub numbers : ℕ → ℕ → ℕ → List ℕ → ℕ → List ℕ
numbers size stride zero bs at = []
numbers size stride (suc n) bs at = number_at size bs at ∷ numbers size stride n bs (at + stride)

-- the fuel
abbrev pub fuel_of : List ℕ → ℕ
fuel_of bs = number_at 4 bs 0

-- the fill word
abbrev pub fill_of : List ℕ → ℕ
fill_of bs = number_at 8 bs 4

-- the step limit of every job, the largest: 2^64 - 1
abbrev pub largest_limit : ℕ
largest_limit = 18446744073709551615

-- the number of cells
abbrev pub count_of : List ℕ → ℕ
count_of bs = number_at 2 bs 404

-- what is constant in the run: the cells, each of address 8 bytes, tag 1, value 8; the fill word; and F*'s flag rule, which every job has
abbrev pub env_of : List ℕ → Env
env_of bs =
    record {
      addresses = numbers 8 17 (count_of bs) bs 406;
      tags = numbers 1 17 (count_of bs) bs 414;
      fill = fill_of bs;
      rule = flag_rule Base;
    }

-- the state that the run starts from
abbrev pub state_of : List ℕ → State
state_of bs = record { regs = numbers 8 8 16 bs 20; xmms = numbers 4 4 64 bs 148; flags = number_at 8 bs 12 }

-- what the job names for the run beside code, cells and start
abbrev pub setting_of : List ℕ → Setting
setting_of bs = record { fill = fill_of bs; fuel = fuel_of bs; limit = largest_limit; evaluation = Base }

-- the start, with the cells' values
abbrev pub start_of : List ℕ → Config
start_of bs = config (state_of bs) (numbers 8 17 (count_of bs) bs 415)

-- where the cells end and the code begins
abbrev pub code_at : List ℕ → ℕ
code_at bs = 406 + 17 * count_of bs

-- the code
abbrev pub code_of : List ℕ → List ℕ
code_of bs = drop (code_at bs) bs

-- Checking a job: 42, 41, 12, 41 in this order, all at place 0
unfoldable pub check_job : List ℕ → Verdict
check_job bs =
    cond (ltb 34198 (length bs)) (job_refused 42 0)
    (cond (ltb (length bs) 406) (job_refused 41 0)
    (cond (ltb 1024 (count_of bs)) (job_refused 12 0)
    (cond (ltb (length bs) (code_at bs)) (job_refused 41 0) job_accepted)))

-- a job that has its header, no more cells than may be, and the cells whole
pub record Complete (bs : List ℕ) : Type 0 where
  pub header : 406 ≤ length bs
  pub few : count_of bs ≤ 1024
  pub cells : code_at bs ≤ length bs

-- lists that are as long as the job's cells are many
abbrev pub Room : List ℕ → List ℕ → List ℕ → List ℕ → Type 0
Room bs addresses tags values = (length addresses ≡ count_of bs) × (length tags ≡ count_of bs) × (length values ≡ count_of bs)

-- lists that hold the job's cells, with the values vs
abbrev pub Holding : List ℕ → List ℕ → List ℕ → List ℕ → List ℕ → Type 0
Holding bs vs addresses tags values = (addresses ≡ (env_of bs).addresses) × (tags ≡ (env_of bs).tags) × (values ≡ vs)

-- the end of an accepted job: the run's
abbrev pub run_of_job : List ℕ → Ended
run_of_job bs = run_of (code_of bs) (env_of bs) (fuel_of bs) (some largest_limit) (start_of bs)

-- the end of a job that was checked
unfoldable pub end_checked : Verdict → List ℕ → Ended
end_checked job_accepted bs = run_of_job bs
end_checked (job_refused n p) bs = ended (refused n p) (start_of bs) nothing_counted

-- the end of a job
abbrev pub end_of_job : List ℕ → Ended
end_of_job bs = end_checked (check_job bs) bs

-- what is printed of an end of a job
abbrev pub printed : List ℕ → Ended → List ℕ
printed bs e = render (env_of bs).addresses (env_of bs).tags e

-- what the job program prints
unfoldable pub output : List ℕ → List ℕ
output bs = printed bs (end_of_job bs)

-- the lent lists after a job: an accepted one leaves its cells at the front, one that is turned away nothing
unfoldable pub lent_list : Verdict → List ℕ → List ℕ → List ℕ
lent_list job_accepted xs l = xs ++ drop (length xs) l
lent_list (job_refused n p) xs l = l

-- what a job leaves in the lent lists: addresses and tags as read, values as the run leaves them
pub record Lists (bs addresses tags values addresses' tags' values' : List ℕ) : Type 0 where
  pub of_addresses : addresses' ≡ lent_list (check_job bs) (env_of bs).addresses addresses
  pub of_tags : tags' ≡ lent_list (check_job bs) (env_of bs).tags tags
  pub of_values : values' ≡ lent_list (check_job bs) (run_of_job bs).end.config.values values
