-- The demands of Running, from those of trees: code that is accepted is read to a tree within its bounds, and its run over accepted cells is
-- the run of that tree.
use Prim.Native.Nat.{ℕ}
use mathlib.Core.Path.{◌≡◌, refl, sym, ◌∙◌, ap, subst⁻¹}
use mathlib.Core.List.{List}
use mathlib.Core.Option.{Option}
use lib.ListN.{length}
use Rattle.machine.specs.Cells.{Verdict, accepted}
use Rattle.machine.specs.Cells.{refused as cells_refused}
use Rattle.code.specs.Tree.{Code}
use Rattle.code.specs.Reader.{Read, got, trouble, parse, verdict_of, check_code}
use Rattle.code.specs.WellFormed.{Bytes}
use Rattle.code.proofs.Reading.{reading}
use Rattle.eval.specs.Config.{Env, Config, config, ends, refused}
use Rattle.eval.specs.Counted.{nothing_counted, Ended, ended}
use Rattle.eval.specs.Running.{run_checked, run_read, run_of}
use Rattle.stores.specs.OnlyStores.{OnlyStores}
use Rattle.stores.proofs.OnlyStores.{only_stores, fault_writes_nothing, never_refused, runs_tree}
use Rattle.source.proofs.Correspondence.{correspondence}
use Rattle.source.proofs.Upstream.{text}
use Rattle.bytemachine.specs.Follows.{IsStart}
use Rattle.bytemachine.proofs.Follows.{follows_of, start_of}
use Rattle.demands.specs.Demands.{ran, cells, Demand1, Demand2, Demand3, Claim}

read_refused : (r : Read Code) (n p : ℕ) → verdict_of r ≡ cells_refused n p → r ≡ trouble n p
unfolding verdict_of
read_refused (got c next) n p e = cc
read_refused (trouble m q) n p e = cc

module _ (code : List ℕ) (bytes : Bytes code) (env : Env) (fuel : ℕ) (limit : Option ℕ) (s : Config) where
  bad_code : (n p : ℕ) → check_code code ≡ cells_refused n p → ran code env fuel limit s ≡ ended (refused n p) s nothing_counted
  unfolding run_of run_read check_code
  bad_code n p e = rw (read_refused (parse code) n p e)

  bad_cells : (n i : ℕ) → check_code code ≡ accepted → cells code env fuel limit s ≡ cells_refused n i
      → ran code env fuel limit s ≡ ended (refused n i) s nothing_counted
  unfolding run_of run_read run_checked
  bad_cells n i e k = rw (((reading code).accepts e).1, k)

  stores : (c : Code) → parse code ≡ got c (length code) → cells code env fuel limit s ≡ accepted
      → OnlyStores env limit c fuel s (ran code env fuel limit s).end.config.values
  stores c r k =
      subst⁻¹ (λ (x : Ended). OnlyStores env limit c fuel s x.end.config.values) (runs_tree code env fuel limit s c (length code) r k)
      (only_stores env limit c fuel s)

  runs : check_code code ≡ accepted → cells code env fuel limit s ≡ accepted → (n p : ℕ) (t : Config)
      → (ran code env fuel limit s).end ≡ ends (refused n p) t → ⊥
  runs e k n p t h =
      let r = (reading code).accepts e in
      never_refused env limit r.0 fuel s t n p (ap (λ (x : Ended). x.end) (sym (runs_tree code env fuel limit s r.0 (length code) r.1 k)) ∙ h)

  first : Demand1 code env fuel limit s
  first = record {
    bad_code = bad_code;
    bad_cells = bad_cells;
    runs = runs;
    is_read = (reading code).accepts;
    only_stores = stores;
    fault_writes_nothing = fault_writes_nothing env;
  }

  -- what checking said of code and cells that are not refused
  judged : ((n p : ℕ) → (ran code env fuel limit s).end.how ≡ refused n p → ⊥)
      → (c : Code) × (parse code ≡ got c (length code)) × (cells code env fuel limit s ≡ accepted)
  judged h = go (check_code code) refl (cells code env fuel limit s) refl
    where
      go : (v : Verdict) → check_code code ≡ v → (w : Verdict) → cells code env fuel limit s ≡ w
          → (c : Code) × (parse code ≡ got c (length code)) × (cells code env fuel limit s ≡ accepted)
      go accepted e accepted k = let r = (reading code).accepts e in (r.0, r.1, k)
      go accepted e (cells_refused n i) k = absurd (h n i (ap (λ (x : Ended). x.end.how) (bad_cells n i e k)))
      go (cells_refused n p) e w k = absurd (h n p (ap (λ (x : Ended). x.end.how) (bad_code n p e)))

  second : Demand2 code env fuel limit s
  second = record {
    corresponds = λ load loads int ints c r k. correspondence.running load loads int ints env s k code bytes c (length code) r fuel limit;
    judged = judged;
    correspondence = correspondence;
    text = text;
  }

  third : IsStart s → Demand3 code env fuel limit s
  third start = record { follows = λ t m agrees e. follows_of code env fuel limit s t m bytes start agrees e }

pub demands : Claim
demands code env fuel limit start values bytes state =
    let s = config start values in
    record {
      demand1 = first code bytes env fuel limit s;
      demand2 = second code bytes env fuel limit s;
      demand3 = third code bytes env fuel limit s (start_of start values state);
    }
