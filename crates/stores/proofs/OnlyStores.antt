-- The first demand: the trace of a run gives its end values; a store is to a 64-bit cell because the search finds no other.
use mathlib.Core.Path.{◌≡◌, refl, sym, ◌∙◌, ap}
use mathlib.Core.List.{List, [], ◌∷◌, ◌++◌}
use mathlib.Core.Option.{Option, none, some}
use Prim.Native.Nat.{ℕ}
use native.Mathlib.Omega.{arith}
use lib.ListN.{get_or, set, length, length-set}
use lib.Seq.{get_or-set_other}
use Rattle.machine.specs.Operands.{eval_maddr}
use Rattle.machine.specs.Cells.{accepted, check_cells, find_cell}
use Rattle.machine.proofs.FindLaws.{find_hit}
use Rattle.machine.specs.declared.Operand.{Operand}
use Rattle.machine.specs.declared.Operand.TheVariants.{OConst, OReg, OMem}
use Rattle.code.specs.declared.tree.Instruction.{Instruction}
use Rattle.code.specs.Tree.{Code}
use Rattle.code.specs.Reader.{got, parse}
use Rattle.eval.specs.Config.{Env, Config, End, ends, fault, refused}
use Rattle.eval.specs.Instructions.{cell_of, update_operand, act, run_ins}
use Rattle.eval.specs.Counted.{nothing_counted}
use Rattle.eval.specs.Running.{run_code, run_checked, run_read, run_of}
use Rattle.stores.specs.Stores.{Store, with_stores, to_cell, store, stores_to, stores, stores_of, Completed, completed}
use Rattle.stores.specs.OnlyStores.{To64, OnlyStores}
use Rattle.stores.proofs.Made.{made_ins, traced}

to_64_append : (ts : List ℕ) (a b : List Store) → To64 ts a → To64 ts b → To64 ts (a ++ b)
to_64_append ts [] b h k = k
to_64_append ts (w ∷ a) b h k = (h.0, to_64_append ts a b h.1 k)

kept : (ts : List ℕ) (ws : List Store) → To64 ts ws → (vs : List ℕ) (i : ℕ) → (get_or ts i 0 ≡ 64 → ⊥) → get_or (with_stores ws vs) i 0 ≡ get_or vs i 0
unfolding with_stores
kept ts [] h vs i n = refl
kept ts (w ∷ ws) h vs i n =
    kept ts ws h.1 (set vs w.index w.value) i n
    ∙ get_or-set_other vs w.index i w.value 0 (λ e. n (ap (λ k. get_or ts k 0) e ∙ h.0))

made_length : (ws : List Store) (vs : List ℕ) → length (with_stores ws vs) ≡ length vs
unfolding with_stores
made_length [] vs = refl
made_length (w ∷ ws) vs = made_length ws (set vs w.index w.value) ∙ length-set vs w.index w.value

module _ (env : Env) where
  store_64 : (o : Operand) (v : ℕ) (s : Config) → To64 env.tags (store env o v s)
  unfolding store to_cell cell_of
  store_64 (OConst n) v s = tt
  store_64 (OReg r) v s = tt
  store_64 (OMem m) v s = go (find_cell env.addresses env.tags (eval_maddr m s.regs)) refl
    where
      go : (k : Option ℕ) → find_cell env.addresses env.tags (eval_maddr m s.regs) ≡ k → To64 env.tags (to_cell k v)
      go none e = tt
      go (some i) e = ((find_hit env.addresses env.tags _ i e).tag, tt)

  written_64 : (ws : List (Operand × ℕ)) (s : Config) → To64 env.tags (stores_to env ws s)
  unfolding stores_to
  written_64 [] s = tt
  written_64 (w ∷ ws) s =
      to_64_append env.tags (store env w.0 w.1 s) _ (store_64 w.0 w.1 s) (written_64 ws (update_operand env w.0 w.1 s))

  stores_64 : (i : Instruction) (s : Config) → To64 env.tags (stores env i s)
  unfolding stores
  stores_64 i s = written_64 (act env i s).words s

  all_64 : (l : List Completed) → To64 env.tags (stores_of env l)
  unfolding stores_of
  all_64 [] = tt
  all_64 (d ∷ l) =
      to_64_append env.tags (stores env d.instruction d.before) (stores_of env l) (stores_64 d.instruction d.before) (all_64 l)

  -- whatever the outcome of a code's run
  pub only_stores : (limit : Option ℕ) (c : Code) (fuel : ℕ) (s : Config)
      → OnlyStores env limit c fuel s (run_code env limit c fuel s nothing_counted).end.config.values
  only_stores limit c fuel s =
      let m = (traced env limit c fuel s nothing_counted).made in
      let all = all_64 (completed env limit c fuel s nothing_counted) in
      record {
        made = m;
        to_64 = all;
        others = λ i n. ap (λ vs. get_or vs i 0) m ∙ kept env.tags _ all s.values i n;
        as_many = ap length m ∙ made_length _ s.values;
      }

  -- an instruction that faults has written nothing
  pub fault_writes_nothing : (p : ℕ) (i : Instruction) (s t : Config) (n q : ℕ) → run_ins env p i s ≡ ends (fault n q) t → t ≡ s
  fault_writes_nothing p i s t n q e =
      sym (ap (λ (x : End). x.config) e)
      ∙ (made_ins env p i s).nothing (λ h. let z : ◌≡◌ {A = ℕ} 0 1 = cc (ap (λ (x : End). x.how) e) in omega arith)

  -- accepted code over accepted cells is never refused
  pub never_refused : (limit : Option ℕ) (c : Code) (fuel : ℕ) (s t : Config) (n p : ℕ)
      → (run_code env limit c fuel s nothing_counted).end ≡ ends (refused n p) t → ⊥
  never_refused limit c fuel s t n p e = rw e at (traced env limit c fuel s nothing_counted).judged

-- Running of code that is read, over accepted cells, is the run of its tree
pub runs_tree : (code : List ℕ) (env : Env) (fuel : ℕ) (limit : Option ℕ) (s : Config) (c : Code) (next : ℕ) → parse code ≡ got c next
    → check_cells env.addresses env.tags s.values ≡ accepted → run_of code env fuel limit s ≡ run_code env limit c fuel s nothing_counted
unfolding run_of run_read run_checked
runs_tree code env fuel limit s c next r k = rw (r, k)
