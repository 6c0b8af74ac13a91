-- `evaluate` meets its contract: accepted code is run by the cycle over the lent parts of the start, and it needs all of the fuel but
-- what every loop test had to spare. Assumes nothing.
use native.Mathlib.Omega.{arith}
use Rattle.eval.proofs.RunLaws.{accepted_cells, accepted_codes, run_ran}
use Rattle.eval.proofs.NeededLaws.{needed_is}
use Rattle.eval.proofs.running.evaluate.Goals as goal

pub invariant_of-lent : goal.invariant_of-lent
invariant_of-lent c = record { searchable = (accepted_cells _ _ _ c.requires.values_value).0 }

pub eval_codes-exit-requires : goal.eval_codes-exit-requires
eval_codes-exit-requires c = record { codes_at = search accepted_codes; long = (accepted_cells _ _ _ c.requires.values_value).1 }

pub needed_fuel-requires : goal.needed_fuel-requires
needed_fuel-requires c =
    let less = c.eval_codes-exit.ensures.with_less_all in
    let begun = c.new-counter.ensures.tested in
    (less.some (omega (arith, begun)), omega (arith, begun, less.most))

pub returns : goal.returns
returns c =
    let pre = c.requires in
    let begun = c.new-counter.ensures in
    let ran = rw begun.counted at c.eval_codes-exit.ensures.evaluates_all in
    let less = rw begun.counted at c.eval_codes-exit.ensures.with_less_all in
    record {
      values_after = rw c.watch.ensures (search run_ran);
      needed_value = needed_is _ _ _ _ _ pre.code_value pre.values_value _ _ _ _ _ less begun.tested _ c.needed_fuel.ensures;
    }
