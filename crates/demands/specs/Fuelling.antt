-- The claims of request 2026-09, in one record: `Fuelling`. Least fuel is `least_fuel_of` (crates/least/specs/Report.antt), which tries one fuel after the
-- other. That `least_fuel`, which makes one run, gives it is that function's contract.
use Rattle.std.specs.Prelude.{ℕ, ◌≤◌, ◌<◌, ◌≡◌, List}
use Rattle.std.proofs.Math.Option.{Option}
use Rattle.machine.specs.Cells.{accepted, check_cells}
use Rattle.machine.specs.Cells.{refused as cells_refused}
use Rattle.code.specs.Reader.{check_code}
use Rattle.eval.specs.Config.{Env, Config, Outcome, spent, refused}
use Rattle.eval.specs.Counted.{nothing_counted, Ended, ended}
use Rattle.eval.specs.Running.{run_of}
use Rattle.eval.specs.LeastFuel.{least_fuel}
use Rattle.least.specs.Report.{least, cap_spent, not_run, Reported, least_fuel_of}

-- an end that is Spent
abbrev pub IsSpent : Ended → Type 0
IsSpent e = (p : ℕ) × (e.end.how ≡ spent p)

-- one that is refused
abbrev pub IsRefused : Ended → Type 0
IsRefused e = (n : ℕ) × (p : ℕ) × (e.end.how ≡ refused n p)

module _ (code : List ℕ) (env : Env) (limit : Option ℕ) (s : Config) where
  -- the run with some fuel: code, cells, fill word, evaluation, limit and start are the same at every fuel
  abbrev pub with_fuel : ℕ → Ended
  with_fuel fuel = run_of code env fuel limit s

  module _ (cap : ℕ) where
    -- f is the least fuel at or below the cap with which the run is not Spent
    pub record IsLeast (f : ℕ) : Type 0 where
      pub at_most : f ≤ cap
      pub not_spent : IsSpent (with_fuel f) → ⊥
      pub below : (g : ℕ) → g < f → IsSpent (with_fuel g)

    -- what is reported, and what is left and counted
    abbrev pub answered : Reported
    answered = least_fuel_of code env cap limit s

    -- the claims, of one code, start and cap
    pub record FuellingOf : Type 0 where
      -- a fuel that is reported is the least, and answer, state, cells, steps and watch are those of the run with it
      pub is_least : (f : ℕ) (o : Outcome) → answered.how ≡ least f o → IsLeast f
      pub its_end : (f : ℕ) (o : Outcome) → answered.how ≡ least f o → with_fuel f ≡ ended o answered.config answered.counted
      -- with more fuel than the least the run has the same end
      pub above : (f : ℕ) → IsLeast f → (g : ℕ) → f ≤ g → with_fuel g ≡ with_fuel f
      -- the least is reported, where there is one and code and cells are not refused
      pub reports : (f : ℕ) → IsLeast f → (IsRefused (with_fuel f) → ⊥) → answered.how ≡ least f (with_fuel f).end.how
      -- 61 exactly when the run at the cap is Spent, with that place
      pub is_61 : (n p : ℕ) → answered.how ≡ cap_spent n p → (n ≡ 61) × ((with_fuel cap).end.how ≡ spent p)
      pub spent_61 : (p : ℕ) → (with_fuel cap).end.how ≡ spent p → answered.how ≡ cap_spent 61 p
      -- state, cells, steps and watch are those of the run at the cap: so they are after 61, and else they are those of both runs
      pub at_cap : (answered.config ≡ (with_fuel cap).end.config) × (answered.counted ≡ (with_fuel cap).counted)
      -- bad code is refused first, then bad cells, as in running: start and cells are as they were, and nothing was counted; nothing else is refused
      pub bad_code : (n p : ℕ) → check_code code ≡ cells_refused n p → answered ≡ record { how = not_run n p; config = s; counted = nothing_counted }
      pub bad_cells : (n i : ℕ) → check_code code ≡ accepted → check_cells env.addresses env.tags s.values ≡ cells_refused n i
          → answered ≡ record { how = not_run n i; config = s; counted = nothing_counted }
      pub refuses : (n p : ℕ) → answered.how ≡ not_run n p → (with_fuel cap).end.how ≡ refused n p
      -- a larger cap changes nothing but 61
      pub larger_cap : (more : ℕ) → cap ≤ more → (f : ℕ) (o : Outcome) → answered.how ≡ least f o → least_fuel_of code env more limit s ≡ answered
      -- the fuel that a run with this cap as its fuel has needed, as `run` hands it back: the least, and all of it where there is none
      pub needed : (f : ℕ) → IsLeast f → least_fuel with_fuel cap ≡ f
      pub needed_all : IsSpent (with_fuel cap) → least_fuel with_fuel cap ≡ cap

-- ---- the claims
pub record Fuelling : Type 0 where
  -- of every code, environment, limit, start and cap
  pub each : (code : List ℕ) (env : Env) (limit : Option ℕ) (s : Config) (cap : ℕ) → FuellingOf code env limit s cap
