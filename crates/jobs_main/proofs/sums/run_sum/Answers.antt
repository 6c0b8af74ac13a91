-- What is lent to `run` is the row's kernel, start and setting.
use Rattle.std.proofs.Common.{◌∙◌}
use Rattle.jobs_main.proofs.Stored.{same_run}
use Rattle.jobs_main.proofs.sums.run_sum.Goals as goal

pub returns : goal.returns
returns c =
    let same =
    same_run _ _ _ _ _ _ c.number8.ensures c.number8-2.ensures c.number8-3.ensures c.number8-4.ensures
    c.evaluation_at.ensures in
    record { values = _; end_is = c.run.ensures.values_after ∙ same }
