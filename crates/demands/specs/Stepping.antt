-- The claims of request 2026-04, in one record: `Stepping`. Steps are instructions that completed and comparisons that could be made. That an answer has
-- the definition's number of them is the contract of `run`; what of the demands holds of every run, and what only of those that no limit stopped, they say.
use Rattle.std.specs.Prelude.{ℕ, suc, ◌+◌, ◌*◌, ◌^◌, ◌≤◌, ◌<◌, max, ◌≡◌, true, false, cond, List}
use Rattle.std.proofs.Math.Option.{Option, none, some}
use Rattle.code.specs.declared.tree.Instruction.{Instruction}
use Rattle.code.specs.declared.tree.Ocmp.{Ocmp}
use Rattle.code.specs.Layout.{ocmp_layout}
use Rattle.code.specs.Tree.{Code, Ins, Block, IfElse, While, Codes, ⟨⟩, ◌∷ᶜ◌}
use Rattle.code.specs.Reader.{got, parse}
use Rattle.eval.specs.Config.{Env, Config, Outcome, done, fault, stopped, spent, refused, End, ends, NotStopped}
use Rattle.eval.specs.declared.answer.Watch.{Watch}
use Rattle.eval.specs.Watch.{watched}
use Rattle.eval.specs.Counted.{Counted, ended, Part, used_up, count, step}
use Rattle.eval.specs.Instructions.{run_ins, eval_ocmp}
use Rattle.eval.specs.Running.{run_ocmp, decide, run_code, run_of}
use Rattle.demands.specs.Somewhere.{Somewhere}

unfoldable mutual
  -- how many codes a code is made of, itself too: instructions, Blocks, IfElses and Whiles
  pub codes : Code → ℕ
  codes (Ins p i) = 1
  codes (Block p cs) = suc (codes_in cs)
  codes (IfElse p q c a b) = suc (codes a + codes b)
  codes (While p q c b) = suc (codes b)

  -- those of a list
  pub codes_in : Codes → ℕ
  codes_in ⟨⟩ = 0
  codes_in (c ∷ᶜ cs) = codes c + codes_in cs

unfoldable mutual
  -- how deep its Whiles are nested: a lone While is 1
  pub whiles : Code → ℕ
  whiles (Ins p i) = 0
  whiles (Block p cs) = whiles_in cs
  whiles (IfElse p q c a b) = max (whiles a) (whiles b)
  whiles (While p q c b) = suc (whiles b)

  -- those of a list
  pub whiles_in : Codes → ℕ
  whiles_in ⟨⟩ = 0
  whiles_in (c ∷ᶜ cs) = max (whiles c) (whiles_in cs)

-- an instruction or a comparison stands at p in a code, and n is 37
abbrev pub StopsAt : Code → ℕ → ℕ → Type 0
StopsAt c p n = Somewhere (λ q i. (q ≡ p) × (n ≡ 37)) (λ q o. (q ≡ p) × (n ≡ 37)) c

-- how many instructions and comparisons a run has tried: its steps, and one more where it ends in a fault
unfoldable pub tried : Outcome → Counted → ℕ
tried done k = k.steps
tried (fault n p) k = suc k.steps
tried (stopped n p) k = k.steps
tried (spent p) k = k.steps
tried (refused n p) k = k.steps

-- an instruction or a comparison at a place that is done, or fails where it stands and has changed nothing
pub data DoneOrFails (p : ℕ) (s : Config) (e : End) : Type 0 where
  is_done : (t : Config) → e ≡ ends done t → DoneOrFails p s e
  fails : (n : ℕ) → e ≡ ends (fault n p) s → DoneOrFails p s e

-- ---- the claims
pub record Stepping : Type 0 where
  -- an instruction or a comparison is done, and then a step, or it fails, and then it is none; with the limit used up it is not tried
  pub instruction : (env : Env) (p : ℕ) (i : Instruction) (s : Config) → DoneOrFails p s (run_ins env p i s)
  pub comparison : (env : Env) (q : ℕ) (c : Ocmp) (s : Config) → DoneOrFails q s (run_ocmp env q c s)
  pub counts : (limit : Option ℕ) (p : ℕ) (sees : Watch → Watch) (act : Config → End) (s t : Config) (k : Counted) → used_up limit k ≡ false
      → act s ≡ ends done t
      → step limit p sees act s k ≡ ended done t (count done sees k)
  pub one_more : (sees : Watch → Watch) (k : Counted) → (count done sees k).steps ≡ k.steps + 1
  pub counts_none : (limit : Option ℕ) (p : ℕ) (sees : Watch → Watch) (act : Config → End) (s t : Config) (k : Counted) (n q : ℕ) → used_up limit k ≡ false
      → act s ≡ ends (fault n q) t → step limit p sees act s k ≡ ended (fault n q) t k
  pub stops : (limit : Option ℕ) (p : ℕ) (sees : Watch → Watch) (act : Config → End) (s : Config) (k : Counted) → used_up limit k ≡ true
      → step limit p sees act s k ≡ ended (stopped 37 p) s k
  -- a comparison is a step whichever way it decides on: that of an IfElse, and that of a While, the one that ends it too
  pub decides : (env : Env) (limit : Option ℕ) (q : ℕ) (c : Ocmp) (f g : Part) (s t : Config) (k : Counted) → used_up limit k ≡ false
      → run_ocmp env q c s ≡ ends done t
      → decide env limit q c f g s k ≡ cond (eval_ocmp env c s) f g t (count done (watched env.rule (ocmp_layout c).kind q) k)
  -- no fuel comes before the limit
  pub spent_first : (env : Env) (limit : Option ℕ) (p q : ℕ) (c : Ocmp) (b : Code) (s : Config) (k : Counted)
      → run_code env limit (While p q c b) 0 s k ≡ ended (spent p) s k
  -- the bound, with n codes, Whiles d deep and fuel F: n * (F + 1) ^ d; and the limit is one
  pub bounded : (code : List ℕ) (env : Env) (fuel : ℕ) (limit : Option ℕ) (s : Config) (c : Code) (next : ℕ) → parse code ≡ got c next
      → (run_of code env fuel limit s).counted.steps ≤ codes c * (fuel + 1) ^ whiles c
  pub within : (code : List ℕ) (env : Env) (fuel l : ℕ) (s : Config) → (run_of code env fuel (some l) s).counted.steps ≤ l
  -- a run that the limit did not stop is the one without a limit, and the one under any larger limit
  pub not_met : (code : List ℕ) (env : Env) (fuel l : ℕ) (s : Config) → NotStopped (run_of code env fuel (some l) s).end.how
      → run_of code env fuel (some l) s ≡ run_of code env fuel none s
  pub larger : (code : List ℕ) (env : Env) (fuel l m : ℕ) (s : Config) → l ≤ m → NotStopped (run_of code env fuel (some l) s).end.how
      → run_of code env fuel (some m) s ≡ run_of code env fuel (some l) s
  -- a run without a limit is never Stopped
  pub never : (code : List ℕ) (env : Env) (fuel : ℕ) (s : Config) → NotStopped (run_of code env fuel none s).end.how
  -- a limit stops exactly the runs that try more than it, after as many steps
  pub stopped_when : (code : List ℕ) (env : Env) (fuel l : ℕ) (s : Config)
      → let u = run_of code env fuel none s in l < tried u.end.how u.counted
      → let e = run_of code env fuel (some l) s in (p : ℕ) × (t : Config) × (e.end ≡ ends (stopped 37 p) t) × (e.counted.steps ≡ l)
  pub stopped_only : (code : List ℕ) (env : Env) (fuel l n p : ℕ) (s : Config) → (run_of code env fuel (some l) s).end.how ≡ stopped n p
      → let u = run_of code env fuel none s in l < tried u.end.how u.counted
  -- so a limit of all that is tried leaves the run as it is: the steps of one that ends Done or Spent, and one more for a Fault
  pub enough : (code : List ℕ) (env : Env) (fuel l : ℕ) (s : Config)
      → let u = run_of code env fuel none s in tried u.end.how u.counted ≤ l
      → run_of code env fuel (some l) s ≡ run_of code env fuel none s
  -- a limit of the steps of a Fault stops at its place, with the state and cells that the Fault has
  pub before_fault : (code : List ℕ) (env : Env) (fuel l n p : ℕ) (s t : Config)
      → let u = run_of code env fuel none s in u.end ≡ ends (fault n p) t → u.counted.steps ≡ l
      → let e = run_of code env fuel (some l) s in (e.end ≡ ends (stopped 37 p) t) × (e.counted.steps ≡ l)
  -- the number is 37, and the place that of an instruction or a comparison
  pub placed : (code : List ℕ) (env : Env) (fuel : ℕ) (limit : Option ℕ) (n p : ℕ) (s : Config) → (run_of code env fuel limit s).end.how ≡ stopped n p
      → (c : Code) × (next : ℕ) × (parse code ≡ got c next) × StopsAt c p n
