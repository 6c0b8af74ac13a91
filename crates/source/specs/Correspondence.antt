-- The second demand: the run that stops at the first failed check, against the source that runs on.
use Rattle.std.specs.Prelude.{ℕ, ◌<◌, ◌^◌, ◌≡◌, true, false, List, ℤ, pos}
use Rattle.std.proofs.Math.Option.{Option, none, some}
use Rattle.machine.specs.Cells.{accepted, check_cells}
use Rattle.machine.specs.Memory.{Memory, Mem64, LoadsMem64, memory_of}
use Rattle.code.specs.Tree.{Code}
use Rattle.code.specs.WellFormed.{Bytes, WfCode}
use Rattle.code.specs.Reader.{got, parse}
use Rattle.eval.specs.FlagRule.{FlagRule}
use Rattle.eval.specs.Config.{Env, Config, End, ends, done, fault, spent, NotStopped}
use Rattle.eval.specs.Counted.{nothing_counted}
use Rattle.eval.specs.Running.{run_code, run_of}
use Rattle.source.specs.Source.{State, eval_code}
use Rattle.source.specs.Log.{Event, failed, starved, first_bad, log_code}

-- the clause of `int_to_nat64`: a word stays as it is
abbrev pub IntToNat64 : (ℤ → ℕ) → Type 0
IntToNat64 int_to_nat64 = (n : ℕ) → n < 2 ^ 64 → int_to_nat64 (pos n) ≡ n

-- the state of the source for a configuration of a run: ok is set, and memory is the whole map of the cells
abbrev pub state_of : Env → Config → State
state_of env s =
    record { ok = true; regs = s.regs; xmms = s.xmms; flags = s.flags; mem = memory_of env.addresses env.tags s.values }

module _ (load_mem64 : ℤ → Memory → ℕ) (int_to_nat64 : ℤ → ℕ) (env : Env) (c : Code) (s : Config) where
  -- what the source, with the run's flag rule, returns of code c from s, with fuel f
  abbrev pub source : ℕ → Option State
  source f = eval_code load_mem64 int_to_nat64 env.fill env.rule c f (state_of env s)

  -- the first bad event that it meets
  abbrev pub bad_event : ℕ → Option Event
  bad_event f = first_bad (log_code load_mem64 int_to_nat64 env.fill env.rule c f (state_of env s)).0

  -- what the source with fuel f and the end r of a run say of each other
  pub record Corresponds (f : ℕ) (r : End) : Type 0 where
    -- the run is done where the source returns a state with ok set; that is the run's end
    pub done_source : (t : Config) → r ≡ ends done t → source f ≡ some (state_of env t)
    pub source_done : (u : State) → source f ≡ some u → u.ok ≡ true → (t : Config) × (r ≡ ends done t) × (u ≡ state_of env t)
    -- the run is done where there is no bad event
    pub done_log : (t : Config) → r ≡ ends done t → bad_event f ≡ none
    pub log_done : bad_event f ≡ none → (t : Config) × (r ≡ ends done t)
    -- where the run is a fault, the source returns a state with ok set at no fuel
    pub fault_never : (n p : ℕ) (t : Config) → r ≡ ends (fault n p) t → (g : ℕ) (u : State) → source g ≡ some u → u.ok ≡ false
    -- the run is a fault where the first bad event is a failed check: its number, its place, and what stood just before
    pub fault_log : (n p : ℕ) (t : Config) → r ≡ ends (fault n p) t → bad_event f ≡ some (failed n p (state_of env t))
    pub log_fault : (n p : ℕ) (u : State) → bad_event f ≡ some (failed n p u) → (t : Config) × (r ≡ ends (fault n p) t) × (u ≡ state_of env t)
    -- the run is spent where the first bad event is a loop without fuel: its place, and what stood just before
    pub spent_log : (p : ℕ) (t : Config) → r ≡ ends (spent p) t → bad_event f ≡ some (starved p (state_of env t))
    pub log_spent : (p : ℕ) (u : State) → bad_event f ≡ some (starved p u) → (t : Config) × (r ≡ ends (spent p) t) × (u ≡ state_of env t)

-- all that the second demand says of run and source
pub record Correspondence : Type 0 where
  -- the log without its events is the source
  pub erased : (load_mem64 : ℤ → Memory → ℕ) (int_to_nat64 : ℤ → ℕ) (fill : ℕ) (rule : FlagRule) (c : Code) (f : ℕ) (s : State)
      → (log_code load_mem64 int_to_nat64 fill rule c f s).1 ≡ eval_code load_mem64 int_to_nat64 fill rule c f s
  -- run and source agree, for every `load_mem64` and `int_to_nat64` that meet their clauses, over accepted cells, where the run is not stopped: a tree
  -- within its bounds,
  pub tree : (load_mem64 : ℤ → Memory → ℕ) → LoadsMem64 load_mem64 → (int_to_nat64 : ℤ → ℕ) → IntToNat64 int_to_nat64
      → (env : Env) (s : Config) → check_cells env.addresses env.tags s.values ≡ accepted
      → (c : Code) → WfCode c → (f : ℕ) (limit : Option ℕ) → NotStopped (run_code env limit c f s nothing_counted).end.how
      → Corresponds load_mem64 int_to_nat64 env c s f (run_code env limit c f s nothing_counted).end
  -- and Running, of bytes that are read to that tree
  pub running : (load_mem64 : ℤ → Memory → ℕ) → LoadsMem64 load_mem64 → (int_to_nat64 : ℤ → ℕ) → IntToNat64 int_to_nat64
      → (env : Env) (s : Config) → check_cells env.addresses env.tags s.values ≡ accepted
      → (code : List ℕ) → Bytes code → (c : Code) (next : ℕ) → parse code ≡ got c next
      → (f : ℕ) (limit : Option ℕ) → NotStopped (run_of code env f limit s).end.how
      → Corresponds load_mem64 int_to_nat64 env c s f (run_of code env f limit s).end
  -- a start with ok clear never ends with it set
  pub ok_stays_clear : (load_mem64 : ℤ → Memory → ℕ) (int_to_nat64 : ℤ → ℕ) (fill : ℕ) (rule : FlagRule) (c : Code) (f : ℕ) (s u : State)
      → eval_code load_mem64 int_to_nat64 fill rule c f s ≡ some u → s.ok ≡ false → u.ok ≡ false
  -- some `load_mem64` meets its clause, and gives words where memory holds words
  pub some_load : (load_mem64 : ℤ → Memory → ℕ) × LoadsMem64 load_mem64
      × ((addr : ℤ) (m : Memory) → ((v : ℕ) → m addr ≡ Mem64 v → v < 2 ^ 64) → load_mem64 addr m < 2 ^ 64)
  -- some `int_to_nat64` meets its clause, and gives words
  pub some_int : (int_to_nat64 : ℤ → ℕ) × IntToNat64 int_to_nat64 × ((z : ℤ) → int_to_nat64 z < 2 ^ 64)
