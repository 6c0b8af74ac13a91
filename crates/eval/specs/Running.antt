-- Running: accepted code over accepted cells, from a start, with a fill word, a flag rule, fuel and a step limit.
use Rattle.std.specs.Prelude.{ℕ, zero, suc, cond, List}
use Rattle.std.proofs.Math.Option.{Option}
use Rattle.machine.specs.Cells.{Verdict, check_cells}
use Rattle.machine.specs.Cells.{accepted as cells_accepted, refused as cells_refused}
use Rattle.code.specs.declared.tree.Instruction.{Instruction}
use Rattle.code.specs.declared.tree.Ocmp.{Ocmp}
use Rattle.code.specs.Layout.{layout, ocmp_layout}
use Rattle.code.specs.Tree.{Code, Ins, Block, IfElse, While, Codes, ⟨⟩, ◌∷ᶜ◌}
use Rattle.code.specs.Reader.{Read, got, trouble, parse}
use Rattle.eval.specs.Config.{Env, Config, with_flags, End, ends, done, spent, refused, check}
use Rattle.eval.specs.Instructions.{run_ins, valid_ocmp, ocmp_number, eval_ocmp}
use Rattle.eval.specs.Watch.{watched}
use Rattle.eval.specs.Counted.{nothing_counted, Ended, ended, Part, and_then, step}

-- a comparison at a place: 31 or 36 where an operand cannot be read; one that passes sets flags to the fill word
unfoldable pub run_ocmp : Env → ℕ → Ocmp → Config → End
run_ocmp env q c s = check (valid_ocmp env c s) (ocmp_number env c s) q s (ends done (with_flags env.fill s))

module _ (env : Env) (limit : Option ℕ) where
  -- an instruction at a place as a step, of its own kind
  abbrev pub step_ins : ℕ → Instruction → Part
  step_ins p i = step limit p (watched env.rule (layout i).kind p) (run_ins env p i)

  -- a comparison at a place as a step
  abbrev pub step_ocmp : ℕ → Ocmp → Part
  step_ocmp q c = step limit q (watched env.rule (ocmp_layout c).kind q) (run_ocmp env q c)

  -- a comparison at a place is a step, and then the way that it decides on is taken
  unfoldable pub decide : ℕ → Ocmp → Part → Part → Part
  decide q c yes_way no_way s k = and_then (step_ocmp q c s k) (cond (eval_ocmp env c s) yes_way no_way)

  -- the rounds of a While: fuel is tested first, and body and next round each get one less
  unfoldable pub rounds : (ℕ → Part) → ℕ → ℕ → Ocmp → ℕ → Part
  rounds body p q c zero s k = ended (spent p) s k
  rounds body p q c (suc fuel) s k = decide q c (λ t l. and_then (body fuel t l) (rounds body p q c fuel)) (ended done) s k

  unfoldable mutual
    -- a code, with fuel
    pub run_code : Code → ℕ → Part
    run_code (Ins p i) fuel s k = step_ins p i s k
    run_code (Block p cs) fuel s k = run_codes cs fuel s k
    run_code (IfElse p q c a b) fuel s k = decide q c (run_code a fuel) (run_code b fuel) s k
    run_code (While p q c b) fuel s k = rounds (run_code b) p q c fuel s k

    -- a list of codes
    pub run_codes : Codes → ℕ → Part
    run_codes ⟨⟩ fuel s k = ended done s k
    run_codes (c ∷ᶜ cs) fuel s k = and_then (run_code c fuel s k) (run_codes cs fuel)

-- the run of what was read, where the cells are accepted
unfoldable pub run_checked : Env → Verdict → Code → ℕ → Option ℕ → Config → Ended
run_checked env cells_accepted c fuel limit s = run_code env limit c fuel s nothing_counted
run_checked env (cells_refused n i) c fuel limit s = ended (refused n i) s nothing_counted

-- the run of a reading: refused as code checking does, then as cell checking does; no step is made
unfoldable pub run_read : Env → Read Code → ℕ → Option ℕ → Config → Ended
run_read env (trouble n p) fuel limit s = ended (refused n p) s nothing_counted
run_read env (got c next) fuel limit s =
    run_checked env (check_cells env.addresses env.tags s.values) c fuel limit s

-- Running
unfoldable pub run_of : List ℕ → Env → ℕ → Option ℕ → Config → Ended
run_of code env fuel limit s = run_read env (parse code) fuel limit s
