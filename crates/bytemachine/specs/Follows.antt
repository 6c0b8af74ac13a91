-- The third demand: what the byte machine makes of code whose run is Done.
use Rattle.std.specs.Prelude.{ℕ, ◌≤◌, ◌^◌, ◌≡◌, List}
use Rattle.std.proofs.Math.Option.{Option, some}
use Rattle.machine.specs.Registers.{Rsp, reg_at, WordsBelow}
use Rattle.machine.specs.Bytes.{ByteMemory, Agree, Outside64}
use Rattle.code.specs.Tree.{Code}
use Rattle.code.specs.Reader.{got, parse}
use Rattle.eval.specs.Config.{Env, Config}
use Rattle.eval.specs.Counted.{nothing_counted}
use Rattle.eval.specs.Running.{run_code, run_of}
use Rattle.bytemachine.specs.ByteMachine.{BState, exec}

-- what every start meets: sixteen registers of 64 bits, and sixteen times four words of 32
pub record IsStart (s : Config) : Type 0 where
  pub regs_words : WordsBelow 16 (2 ^ 64) s.regs
  pub xmms_words : WordsBelow 64 (2 ^ 32) s.xmms

-- the machine's start: that of the run, over a memory
abbrev pub over_bytes : Config → ByteMemory → BState
over_bytes s m = record { regs = s.regs; xmms = s.xmms; flags = s.flags; bytes = m }

-- the machine, with the run's flag rule, from the start s over the memory m, beside a run from s that is done with t: that it is, the third demand asks
-- before this
pub record Follows (env : Env) (limit : Option ℕ) (c : Code) (fuel : ℕ) (s t : Config) (m : ByteMemory) : Type 0 where
  -- the machine ends
  pub end : BState
  pub ends : exec env.fill env.rule c fuel (over_bytes s m) ≡ some end
  -- with the same registers, xmm words and flags
  pub regs : end.regs ≡ t.regs
  pub xmms : end.xmms ≡ t.xmms
  pub flags : end.flags ≡ t.flags
  -- its bytes agree with the cells at the run's end, whatever their tags
  pub agree : Agree env.addresses env.tags t.values end.bytes
  -- and every byte outside the 64-bit cells is as before
  pub outside : (x : ℕ) → Outside64 env.addresses env.tags x → end.bytes x ≡ m x
  -- Rsp of both is as in the start
  pub rsp_run : reg_at t.regs Rsp ≡ reg_at s.regs Rsp
  pub rsp_machine : reg_at end.regs Rsp ≡ reg_at s.regs Rsp
  -- at every larger fuel both have the same end
  pub more_run : (g : ℕ) → fuel ≤ g → run_code env limit c g s nothing_counted ≡ run_code env limit c fuel s nothing_counted
  pub more_machine : (g : ℕ) → fuel ≤ g → exec env.fill env.rule c g (over_bytes s m) ≡ some end

-- the same of Running: the code that was read is what the machine takes
pub record FollowsOf (code : List ℕ) (env : Env) (fuel : ℕ) (limit : Option ℕ) (s t : Config) (m : ByteMemory) : Type 0 where
  pub tree : Code
  pub next : ℕ
  pub is_read : parse code ≡ got tree next
  pub follows : Follows env limit tree fuel s t m
  pub more_of : (g : ℕ) → fuel ≤ g → run_of code env g limit s ≡ run_of code env fuel limit s
