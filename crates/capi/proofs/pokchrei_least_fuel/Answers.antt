-- What is handed back in numbers and lent arrays is the report of `least_fuel`, which is the definition's. A number that names no evaluation is
-- refused, and nothing was written but what tells so.
use mathlib.Core.Path.{ap}
use Rattle.capi.specs.Told.{Ending, least_ending}
use Rattle.capi.proofs.ToldLaws.{told_nothing, told_search, search_as_given, input_given}
use Rattle.capi.proofs.pokchrei_least_fuel.Goals as goal

pub returns-in_default : goal.returns-in_default
returns-in_default c =
    let none = c.tell_none.ensures in
    let given = c.evaluation_of.ensures in
    let is = c.in_default.is in
    record {
      opened_after =
          search_as_given given is _ _ (ap (λ (x : Ending). least_ending 0 x) (told_nothing none.place_after none.steps_after none.opened_after));
      input_given = input_given given is _ _ _ tt;
    }

pub returns : goal.returns
returns c =
    let given = c.evaluation_of.ensures in
    let is = c.in-Some.is in
    let lent = c.lent_state-start.ensures in
    let least = c.tell_least-kind.ensures in
    record {
      opened_after =
          search_as_given given is _ _ (told_search least.fuel_after least.place_after c.hand_back.ensures c.tell_watch.ensures
          (rw lent at c.least_fuel-found.ensures.values_after));
      input_given = input_given given is _ _ _ (rw lent at c.least_fuel-found.ensures.input);
    }
