-- What the run at the cap answers, and the fuel that it needed, are reported. Assumes nothing.
use Rattle.least.proofs.ReportLaws.{reports}
use Rattle.least.proofs.least_fuel.Goals as goal

pub returns-clause-values_after : goal.returns-clause-values_after
returns-clause-values_after c =
    let ran = c.run-answer.ensures in
    reports _ _ _ _ _ _ _ _ ran.values_after ran.needed_value c.least_of.ensures
