-- The stores that a run makes to its cells: those of the instructions that it completes, in order.
use Rattle.std.specs.Prelude.{ℕ, zero, suc, cond, List, [], ◌∷◌, ◌++◌, set}
use Rattle.std.proofs.Math.Option.{Option, none, some}
use Rattle.machine.specs.declared.Operand.{Operand}
use Rattle.machine.specs.declared.Operand.TheVariants.{OConst, OReg, OMem}
use Rattle.code.specs.declared.tree.Instruction.{Instruction}
use Rattle.code.specs.declared.tree.Ocmp.{Ocmp}
use Rattle.code.specs.Tree.{Code, Ins, Block, IfElse, While, Codes, ⟨⟩, ◌∷ᶜ◌}
use Rattle.eval.specs.Config.{Env, Config, Outcome, done, fault, stopped, spent, refused}
use Rattle.eval.specs.Instructions.{cell_of, update_operand, act, eval_ocmp}
use Rattle.eval.specs.Counted.{Counted, Part}
use Rattle.eval.specs.Running.{step_ins, step_ocmp, run_code}

-- a value for the cell at an index
pub record Store : Type 0 where
  pub index : ℕ
  pub value : ℕ

-- values with stores made to them, in order
unfoldable pub with_stores : List Store → List ℕ → List ℕ
with_stores [] vs = vs
with_stores (w ∷ ws) vs = with_stores ws (set vs w.index w.value)

-- the store of v to the cell that was found
unfoldable pub to_cell : Option ℕ → ℕ → List Store
to_cell none v = []
to_cell (some i) v = record { index = i; value = v } ∷ []

-- an instruction that a run has completed, and the configuration before it
pub record Completed : Type 0 where
  pub instruction : Instruction
  pub before : Config

-- what comes behind a part of a run: nothing, unless that part is done
unfoldable pub if_done : Outcome → List Completed → List Completed
if_done done l = l
if_done (fault n p) l = []
if_done (stopped n p) l = []
if_done (spent p) l = []
if_done (refused n p) l = []

-- the instructions that a part of a run completes, from a configuration and from what was counted before it
abbrev pub Completes : Type 0
Completes = Config → Counted → List Completed

module _ (env : Env) where
  -- the store of v to a destination: a memory operand's cell, and no store where it is a register
  unfoldable pub store : Operand → ℕ → Config → List Store
  store (OConst n) v s = []
  store (OReg r) v s = []
  store (OMem m) v s = to_cell (cell_of env m s) v

  -- the stores of words to destinations, each resolved in the configuration that the writes before it leave
  unfoldable pub stores_to : List (Operand × ℕ) → Config → List Store
  stores_to [] s = []
  stores_to (w ∷ ws) s = store w.0 w.1 s ++ stores_to ws (update_operand env w.0 w.1 s)

  -- the stores of an instruction: those of the words that it writes
  unfoldable pub stores : Instruction → Config → List Store
  stores i s = stores_to (act env i s).words s

  -- the stores of completed instructions, in order
  unfoldable pub stores_of : List Completed → List Store
  stores_of [] = []
  stores_of (d ∷ ds) = stores d.instruction d.before ++ stores_of ds

module _ (env : Env) (limit : Option ℕ) where
  -- those of the way that a comparison decides on: none where it is not done
  unfoldable pub way : ℕ → Ocmp → Completes → Completes → Completes
  way q c yes_way no_way s k =
      let e = step_ocmp env limit q c s k in
      if_done e.end.how (cond (eval_ocmp env c s) yes_way no_way e.end.config e.counted)

  -- those of the rounds of a While
  unfoldable pub completed_rounds : (ℕ → Part) → (ℕ → Completes) → ℕ → Ocmp → ℕ → Completes
  completed_rounds body inside q c zero s k = []
  completed_rounds body inside q c (suc fuel) s k =
      way q c
      (λ t l.
      let e = body fuel t l in
      inside fuel t l ++ if_done e.end.how (completed_rounds body inside q c fuel e.end.config e.counted))
      (λ t l. []) s k

  unfoldable mutual
    -- those of a code, in order
    pub completed : Code → ℕ → Completes
    completed (Ins p i) fuel s k = if_done (step_ins env limit p i s k).end.how (record { instruction = i; before = s } ∷ [])
    completed (Block p cs) fuel s k = completed_all cs fuel s k
    completed (IfElse p q c a b) fuel s k = way q c (completed a fuel) (completed b fuel) s k
    completed (While p q c b) fuel s k = completed_rounds (run_code env limit b) (completed b) q c fuel s k

    -- those of a list of codes
    pub completed_all : Codes → ℕ → Completes
    completed_all ⟨⟩ fuel s k = []
    completed_all (c ∷ᶜ cs) fuel s k =
        let e = run_code env limit c fuel s k in
        completed c fuel s k ++ if_done e.end.how (completed_all cs fuel e.end.config e.counted)
