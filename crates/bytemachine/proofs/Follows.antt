-- The third demand: the machine follows a run that is done, from the memory with the cells laid over it, which is the memory itself since it
-- agrees with them. At a larger fuel the run is done with the same end, and the machine follows it there too.
use mathlib.Core.Path.{◌≡◌, refl, sym, ◌∙◌, ap}
use mathlib.Core.Option.{Option, none, some}
use mathlib.Core.List.{List}
use Prim.Native.Nat.{ℕ, ◌≤◌}
use lib.ListN.{length, get_or}
use native.Mathlib.Omega.{arith}
use Rattle.machine.specs.Cells.{Verdict, accepted, check_cells}
use Rattle.machine.specs.Cells.{refused as cells_refused}
use Rattle.machine.specs.Bytes.{ByteMemory, Agree}
use Rattle.machine.specs.Registers.{IsState}
use Rattle.machine.specs.declared.State.{State}
use Rattle.machine.proofs.Accepting.{accepted_of}
use Rattle.machine.proofs.ByteLaws.{over, agree_over, over_agree, over_outside}
use Rattle.code.specs.Tree.{Code}
use Rattle.code.specs.Reader.{Read, got, trouble, parse}
use Rattle.code.specs.WellFormed.{Bytes, WfCode}
use Rattle.code.proofs.Accepted.{parse_wf}
use Rattle.eval.specs.Config.{Env, Config, config, Outcome, End, ends, done, stopped, spent, refused}
use Rattle.eval.specs.Counted.{nothing_counted, Ended}
use Rattle.eval.specs.Running.{run_code, run_checked, run_read, run_of}
use Rattle.eval.proofs.Larger.{more_fuel, no_limit}
use Rattle.stores.proofs.OnlyStores.{only_stores, runs_tree}
use Rattle.bytemachine.specs.ByteMachine.{exec}
use Rattle.bytemachine.specs.Follows.{IsStart, over_bytes, Follows, FollowsOf}
use Rattle.bytemachine.proofs.Operands.{Kept, lay}
use Rattle.bytemachine.proofs.Runs.{Reaches, both_code}

module _ (env : Env) (limit : Option ℕ) (c : Code) (fuel : ℕ) (s t : Config) (m : ByteMemory) (fits : WfCode c) (start : IsStart s)
    (cells : check_cells env.addresses env.tags s.values ≡ accepted) (agrees : Agree env.addresses env.tags s.values m)
    (is_done : (run_code env limit c fuel s nothing_counted).end ≡ ends done t) where
  kept : Kept env s
  kept = record { regs_words = start.regs_words; xmms_words = start.xmms_words; cells = accepted_of _ _ _ cells }

  laid : over env.addresses env.tags s.values m ≡ m
  laid = agree_over 0 env.addresses env.tags s.values m kept.cells.ordered agrees

  -- it is neither spent nor stopped
  other : (o : Outcome) → (o ≡ done → ⊥) → (run_code env limit c fuel s nothing_counted).end.how ≡ o → ⊥
  other o is_not e = is_not (sym e ∙ ap (λ (x : End). x.how) is_done)

  more : (g : ℕ) → fuel ≤ g → run_code env limit c g s nothing_counted ≡ run_code env limit c fuel s nothing_counted
  more g le = more_fuel env limit c fuel g le s nothing_counted (λ p. other (spent p) (λ z. let y : ◌≡◌ {A = ℕ} 0 1 = cc in omega arith))

  -- so without a limit, and at every larger fuel, it ends as it does
  unlimited : (g : ℕ) → fuel ≤ g → (run_code env none c g s nothing_counted).end ≡ ends done t
  unlimited g le =
      ap (λ (x : Ended). x.end)
      (no_limit env c g s nothing_counted limit
      (λ n p e.
      other (stopped n p) (λ z. let y : ◌≡◌ {A = ℕ} 0 1 = cc in omega arith) (ap (λ (x : Ended). x.end.how) (sym (more g le)) ∙ e))
      ∙ more g le)
      ∙ is_done

  reached : (g : ℕ) → fuel ≤ g → Reaches env m (exec env.fill env.rule c g (lay env m s)) s t
  reached g le = both_code env m c g fits s t nothing_counted kept (unlimited g le)

  machine : (g : ℕ) → fuel ≤ g → exec env.fill env.rule c g (over_bytes s m) ≡ some (lay env m t)
  machine g le = ap (λ (b : ByteMemory). exec env.fill env.rule c g (over_bytes s b)) (sym laid) ∙ (reached g le).same

  pub follows : Follows env limit c fuel s t m
  follows =
      let values = ap (λ (x : End). x.config.values) is_done in
      let stored = only_stores env limit c fuel s in
      let ordered = kept.cells.ordered in
      record {
        end = lay env m t;
        ends = machine fuel (omega arith);
        regs = refl;
        xmms = refl;
        flags = refl;
        agree = over_agree 0 env.addresses env.tags s.values t.values m ordered
            (ap length (sym values) ∙ stored.as_many) (λ k l n. ap (λ vs. get_or vs k 0) (sym values) ∙ stored.others k n) agrees;
        outside = over_outside 0 env.addresses env.tags t.values m ordered;
        rsp_run = (reached fuel (omega arith)).rsp;
        rsp_machine = (reached fuel (omega arith)).rsp;
        more_run = more;
        more_machine = machine;
      }

-- every value of the type State is a start
pub start_of : (s : State) (values : List ℕ) → IsState s → IsStart (config s values)
start_of s values h = record { regs_words = h.regs_words; xmms_words = h.xmms_words }

-- a run that is done was neither refused for its code nor for its cells
record Ran (code : List ℕ) (env : Env) (fuel : ℕ) (limit : Option ℕ) (s t : Config) : Type 0 where
  tree : Code
  next : ℕ
  is_read : parse code ≡ got tree next
  cells : check_cells env.addresses env.tags s.values ≡ accepted
  ran : (run_code env limit tree fuel s nothing_counted).end ≡ ends done t

ran_of : (code : List ℕ) (env : Env) (fuel : ℕ) (limit : Option ℕ) (s t : Config)
    → (run_of code env fuel limit s).end ≡ ends done t → Ran code env fuel limit s t
unfolding run_of run_read run_checked
ran_of code env fuel limit s t = go (parse code) refl
  where
    not_done : (n p : ℕ) → ends (refused n p) s ≡ ends done t → ⊥
    not_done n p e = let h : refused n p ≡ done = ap (λ (x : End). x.how) e in let z : ◌≡◌ {A = ℕ} 0 1 = cc in omega arith

    checked : (c : Code) (next : ℕ) → parse code ≡ got c next → (v : Verdict) → check_cells env.addresses env.tags s.values ≡ v
        → (run_checked env v c fuel limit s).end ≡ ends done t → Ran code env fuel limit s t
    checked c next r accepted v e = record { tree = c; next = next; is_read = r; cells = v; ran = e }
    checked c next r (cells_refused n i) v e = absurd (not_done n i e)

    go : (r : Read Code) → parse code ≡ r → (run_read env r fuel limit s).end ≡ ends done t → Ran code env fuel limit s t
    go (trouble n p) r e = absurd (not_done n p e)
    go (got c next) r e = checked c next r (check_cells env.addresses env.tags s.values) refl e

pub follows_of : (code : List ℕ) (env : Env) (fuel : ℕ) (limit : Option ℕ) (s t : Config) (m : ByteMemory) → Bytes code → IsStart s
    → Agree env.addresses env.tags s.values m → (run_of code env fuel limit s).end ≡ ends done t → FollowsOf code env fuel limit s t m
follows_of code env fuel limit s t m bytes start agrees e =
    let r = ran_of code env fuel limit s t e in
    let fits = parse_wf code bytes r.tree r.next r.is_read in
    let d = follows env limit r.tree fuel s t m fits start r.cells agrees r.ran in
    let tree : (g : ℕ) → run_of code env g limit s ≡ run_code env limit r.tree g s nothing_counted =
    λ g. runs_tree code env g limit s r.tree r.next r.is_read r.cells
    in
    record {
      tree = r.tree;
      next = r.next;
      is_read = r.is_read;
      follows = d;
      more_of = λ g le. tree g ∙ d.more_run g le ∙ sym (tree fuel);
    }
