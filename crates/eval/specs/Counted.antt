-- What is counted in a run. It stands beside what instructions change, and no instruction knows of it.
use Rattle.std.specs.Prelude.{ℕ, suc, Bool, false, cond, List, leb}
use Rattle.std.proofs.Math.Option.{Option, none, some}
use Rattle.eval.specs.Config.{Config, config, Outcome, done, fault, stopped, spent, refused, outcome, End, ends}
use Rattle.eval.specs.Watch.{nothing_open}
use Rattle.eval.specs.declared.answer.Run.{Run}
use Rattle.eval.specs.declared.answer.Watch.{Watch}

-- what is counted: the steps made, and the watch over them
pub record Counted : Type 0 where
  pub steps : ℕ
  pub watch : Watch

-- so many steps, and a watch
abbrev pub counted : ℕ → Watch → Counted
counted n w = record { steps = n; watch = w }

-- what is counted where a run begins
abbrev pub nothing_counted : Counted
nothing_counted = counted 0 nothing_open

-- the end of a run, with what it has counted
pub record Ended : Type 0 where
  pub end : End
  pub counted : Counted

-- an outcome that leaves s, with k counted
abbrev pub ended : Outcome → Config → Counted → Ended
ended o s k = record { end = ends o s; counted = k }

-- what a Run and the cells' values at its end say
abbrev pub ended_of : Run → List ℕ → Ended
ended_of r values = ended (outcome r.answer) (config r.state values) (counted r.steps r.watch)

-- a part of a run: from a configuration, and from what was counted before it
abbrev pub Part : Type 0
Part = Config → Counted → Ended

-- goes on where a run is done
unfoldable pub continue : Outcome → Config → Counted → Part → Ended
continue done s k f = f s k
continue (fault n p) s k f = ended (fault n p) s k
continue (stopped n p) s k f = ended (stopped n p) s k
continue (spent p) s k f = ended (spent p) s k
continue (refused n p) s k f = ended (refused n p) s k

-- goes on behind an end that is done
abbrev pub and_then : Ended → Part → Ended
and_then e f = continue e.end.how e.end.config e.counted f

-- whether the limit is used up: as many steps were made. Where there is no limit, it never is
unfoldable pub used_up : Option ℕ → Counted → Bool
used_up none k = false
used_up (some limit) k = leb limit k.steps

-- what is counted behind an instruction or a comparison: where it is done one step more, and the watch as `sees` makes it
unfoldable pub count : Outcome → (Watch → Watch) → Counted → Counted
count done sees k = counted (suc k.steps) (sees k.watch)
count (fault n p) sees k = k
count (stopped n p) sees k = k
count (spent p) sees k = k
count (refused n p) sees k = k

-- an instruction or a comparison at a place, as a step of a run. 37: the limit is used up, so that it is not tried
unfoldable pub step : Option ℕ → ℕ → (Watch → Watch) → (Config → End) → Part
step limit p sees act s k = cond (used_up limit k) (ended (stopped 37 p) s k) (record { end = act s; counted = count (act s).how sees k })
