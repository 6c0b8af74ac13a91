-- Least fuel: the run with the least fuel at or below a cap with which it is not Spent, and what is reported of it.
use Rattle.std.specs.Prelude.{ℕ, List}
use Rattle.std.proofs.Math.Option.{Option}
use Rattle.eval.specs.Config.{Env, Config, config, Outcome, done, fault, stopped, spent, refused}
use Rattle.eval.specs.Counted.{Counted, counted, Ended}
use Rattle.eval.specs.Running.{run_of}
use Rattle.eval.specs.LeastFuel.{least_fuel}
use Rattle.least.specs.declared.Least.{Least}
use Rattle.least.specs.declared.Least.TheVariants.{Done, Fault, Stopped, CapSpent, Refused}
use Rattle.least.specs.declared.LeastRun.{LeastRun}

-- what is reported: the least fuel and the outcome of the run with it; that the cap is spent, or a refusal, each with number and place
pub data Report : Type 0 where
  least : ℕ → Outcome → Report
  cap_spent : ℕ → ℕ → Report
  not_run : ℕ → ℕ → Report

-- a report, and what the run of which it is leaves and has counted
pub record Reported : Type 0 where
  pub how : Report
  pub config : Config
  pub counted : Counted

-- the report of the run with the least fuel, f; 61 where that is Spent too, and f is the cap
abbrev pub report_of : ℕ → Outcome → Report
report_of f done = least f done
report_of f (fault n p) = least f (fault n p)
report_of f (stopped n p) = least f (stopped n p)
report_of f (spent p) = cap_spent 61 p
report_of f (refused n p) = not_run n p

-- with what that run leaves and has counted
abbrev pub reported : ℕ → Ended → Reported
reported f e = record { how = report_of f e.end.how; config = e.end.config; counted = e.counted }

-- Least fuel
unfoldable pub least_fuel_of : List ℕ → Env → ℕ → Option ℕ → Config → Reported
least_fuel_of code env cap limit s =
    let run : ℕ → Ended = λ fuel. run_of code env fuel limit s in
    let f = least_fuel run cap in
    reported f (run f)

-- the number and values of each case of a Least
abbrev pub report : Least → Report
report (Done f) = least f done
report (Fault f n p) = least f (fault n p)
report (Stopped f n p) = least f (stopped n p)
report (CapSpent n p) = cap_spent n p
report (Refused n p) = not_run n p

-- what a LeastRun and the cells' values at its end say
abbrev pub reported_of : LeastRun → List ℕ → Reported
reported_of r values = record { how = report r.least; config = config r.state values; counted = counted r.steps r.watch }
