-- The least fuel with which a run is not Spent, found by trying one fuel after the other.
use Rattle.std.specs.Prelude.{ℕ, zero, suc, Bool, true, false, cond}
use Rattle.eval.specs.Config.{Outcome, done, fault, stopped, spent, refused}
use Rattle.eval.specs.Counted.{Ended}

-- whether an outcome is Spent
unfoldable pub is_spent : Outcome → Bool
is_spent done = false
is_spent (fault n p) = false
is_spent (stopped n p) = false
is_spent (spent p) = true
is_spent (refused n p) = false

-- tries n fuels from f on: the first with which a run is not Spent; where it is with all of them, the fuel behind them
unfoldable pub first_unspent : (ℕ → Ended) → ℕ → ℕ → ℕ
first_unspent run f zero = f
first_unspent run f (suc n) = cond (is_spent (run f).end.how) (first_unspent run (suc f) n) f

-- the least fuel up to a cap with which a run is not Spent; where there is none, the cap
abbrev pub least_fuel : (ℕ → Ended) → ℕ → ℕ
least_fuel run cap = first_unspent run 0 cap
