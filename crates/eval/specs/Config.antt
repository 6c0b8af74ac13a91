-- What a run works on, and how it ends.
use Rattle.std.specs.Prelude.{ℕ, ◌≡◌, Bool, true, false, List}
use Rattle.machine.specs.declared.State.{State}
use Rattle.eval.specs.FlagRule.{FlagRule}
use Rattle.eval.specs.declared.answer.Answer.{Answer}
use Rattle.eval.specs.declared.answer.Answer.TheVariants.{Done, Fault, Stopped, Spent, Refused}

-- what is constant in a run: the cells' addresses and tags, the fill word, and the flag rule
pub record Env : Type 0 where
  pub addresses : List ℕ
  pub tags : List ℕ
  pub fill : ℕ
  pub rule : FlagRule

-- an environment with another flag rule
abbrev pub with_rule : FlagRule → Env → Env
with_rule rule env = record { addresses = env.addresses; tags = env.tags; fill = env.fill; rule = rule }

-- what changes in a run: registers, xmm words, flags, and the cells' values
pub record Config : Type 0 where
  pub regs : List ℕ
  pub xmms : List ℕ
  pub flags : ℕ
  pub values : List ℕ

-- a state with the cells' values
abbrev pub config : State → List ℕ → Config
config s values = record { regs = s.regs; xmms = s.xmms; flags = s.flags; values = values }

-- a configuration with other registers
abbrev pub with_regs : List ℕ → Config → Config
with_regs regs s = record { regs = regs; xmms = s.xmms; flags = s.flags; values = s.values }

-- with other xmm words
abbrev pub with_xmms : List ℕ → Config → Config
with_xmms xmms s = record { regs = s.regs; xmms = xmms; flags = s.flags; values = s.values }

-- with other flags
abbrev pub with_flags : ℕ → Config → Config
with_flags flags s = record { regs = s.regs; xmms = s.xmms; flags = flags; values = s.values }

-- with other cell values
abbrev pub with_values : List ℕ → Config → Config
with_values values s = record { regs = s.regs; xmms = s.xmms; flags = s.flags; values = values }

-- how a run ends: done; a fault, stopped or refused, each with number and place; spent, with the place of the While
pub data Outcome : Type 0 where
  done : Outcome
  fault : ℕ → ℕ → Outcome
  stopped : ℕ → ℕ → Outcome
  spent : ℕ → Outcome
  refused : ℕ → ℕ → Outcome

-- an outcome that is not Stopped
abbrev pub NotStopped : Outcome → Type 0
NotStopped o = (n p : ℕ) → o ≡ stopped n p → ⊥

-- the number and place of each answer
abbrev pub outcome : Answer → Outcome
outcome Done = done
outcome (Fault n p) = fault n p
outcome (Stopped n p) = stopped n p
outcome (Spent p) = spent p
outcome (Refused n p) = refused n p

-- an outcome, and what it leaves
pub record End : Type 0 where
  pub how : Outcome
  pub config : Config

-- the end of an outcome that leaves s
abbrev pub ends : Outcome → Config → End
ends o s = record { how = o; config = s }

-- goes on where a check passes; else a fault with its number and place, and s as it was before
unfoldable pub check : Bool → ℕ → ℕ → Config → End → End
check true n p s k = k
check false n p s k = ends (fault n p) s
