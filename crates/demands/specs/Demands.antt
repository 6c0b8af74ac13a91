-- The three demands, whole, of Running: of `run_of`, which the contract of `run` names. `Claim` says of which inputs they hold.
use Rattle.std.specs.Prelude.{ℕ, ◌≡◌, List, ℤ, length}
use Rattle.std.proofs.Math.Option.{Option}
use Rattle.machine.specs.Registers.{IsState}
use Rattle.machine.specs.Cells.{Verdict, accepted, check_cells}
use Rattle.machine.specs.Cells.{refused as cells_refused}
use Rattle.machine.specs.Memory.{Memory, LoadsMem64}
use Rattle.machine.specs.Bytes.{ByteMemory, Agree}
use Rattle.machine.specs.declared.State.{State}
use Rattle.code.specs.declared.tree.Instruction.{Instruction}
use Rattle.code.specs.Tree.{Code}
use Rattle.code.specs.Reader.{got, parse, check_code}
use Rattle.code.specs.WellFormed.{Bytes}
use Rattle.eval.specs.Config.{Env, Config, config, ends, done, fault, refused, NotStopped}
use Rattle.eval.specs.Counted.{nothing_counted, Ended, ended}
use Rattle.eval.specs.Instructions.{run_ins}
use Rattle.eval.specs.Running.{run_of}
use Rattle.stores.specs.OnlyStores.{OnlyStores}
use Rattle.source.specs.Upstream.{Upstream}
use Rattle.source.specs.Correspondence.{IntToNat64, Corresponds, Correspondence}
use Rattle.bytemachine.specs.Follows.{FollowsOf}

module _ (code : List ℕ) (env : Env) (fuel : ℕ) (limit : Option ℕ) (s : Config) where
  -- what Running gives: a total function, so every run ends, and `run` is proved to return it
  abbrev pub ran : Ended
  ran = run_of code env fuel limit s

  -- what checking the cells says
  abbrev pub cells : Verdict
  cells = check_cells env.addresses env.tags s.values

  -- the first demand. Addresses and tags are constant in a run: they stand in `env`, and no end has others
  pub record Demand1 : Type 0 where
    -- bad code is refused with the number and place of its check, then bad cells; start and cells are as they were, and no step was made
    pub bad_code : (n p : ℕ) → check_code code ≡ cells_refused n p → ran ≡ ended (refused n p) s nothing_counted
    pub bad_cells : (n i : ℕ) → check_code code ≡ accepted → cells ≡ cells_refused n i → ran ≡ ended (refused n i) s nothing_counted
    -- nothing else is refused: accepted code is read to a tree, and runs over accepted cells
    pub runs : check_code code ≡ accepted → cells ≡ accepted → (n p : ℕ) (t : Config) → ran.end ≡ ends (refused n p) t → ⊥
    pub is_read : check_code code ≡ accepted → (c : Code) × (parse code ≡ got c (length code))
    -- a value changes only by the store of an instruction that completed, in a run that is stopped too
    pub only_stores : (c : Code) → parse code ≡ got c (length code) → cells ≡ accepted → OnlyStores env limit c fuel s ran.end.config.values
    -- an instruction that faults has written nothing
    pub fault_writes_nothing : (p : ℕ) (i : Instruction) (u t : Config) (n q : ℕ) → run_ins env p i u ≡ ends (fault n q) t → t ≡ u

  -- the second demand
  pub record Demand2 : Type 0 where
    -- a run that is not stopped and the source say the same of the tree that was read, for every `load_mem64` and `int_to_nat64` that meet their clauses
    pub corresponds : (load_mem64 : ℤ → Memory → ℕ) → LoadsMem64 load_mem64 → (int_to_nat64 : ℤ → ℕ) → IntToNat64 int_to_nat64
        → (c : Code) → parse code ≡ got c (length code) → cells ≡ accepted → NotStopped ran.end.how
        → Corresponds load_mem64 int_to_nat64 env c s fuel ran.end
    -- a run that is not refused is one of code that was read and of accepted cells
    pub judged : ((n p : ℕ) → ran.end.how ≡ refused n p → ⊥) → (c : Code) × (parse code ≡ got c (length code)) × (cells ≡ accepted)
    -- the log is the source's, ok stays clear, and some `load_mem64` and `int_to_nat64` meet their clauses
    pub correspondence : Correspondence
    -- the source with F*'s flag rule is F*'s text, where it is written another way; of request 2026-02's three instructions F* has none
    pub text : (load_mem64 : ℤ → Memory → ℕ) (int_to_nat64 : ℤ → ℕ) (fill : ℕ) → Upstream load_mem64 int_to_nat64 fill

  -- the third demand
  pub record Demand3 : Type 0 where
    -- the byte machine over every memory that agrees with the cells as lent, beside every Done run
    pub follows : (t : Config) (m : ByteMemory) → Agree env.addresses env.tags s.values m → ran.end ≡ ends done t
        → FollowsOf code env fuel limit s t m

  -- all three
  pub record Demands : Type 0 where
    pub demand1 : Demand1
    pub demand2 : Demand2
    pub demand3 : Demand3

-- they hold of every run, by any flag rule, with any limit and with none: code is bytes and a start is a state, which every value of the parameters' types is
abbrev pub Claim : Type 0
Claim =
    (code : List ℕ) (env : Env) (fuel : ℕ) (limit : Option ℕ) (start : State) (values : List ℕ) → Bytes code → IsState start
    → Demands code env fuel limit (config start values)
