-- The lists are those of the job, so the run of what was read is the run of the job.
use Prim.Native.Nat.{◌+◌, ◌*◌}
use mathlib.Core.Path.{◌≡◌, sym, ap, ◌∙◌}
use native.Mathlib.Omega.{arith}
use Rattle.eval.specs.Counted.{Ended}
use Rattle.job.specs.Job.{count_of, code_at}
use Rattle.job.proofs.Writing.{spelled}
use Rattle.job.proofs.Outputs.{length_read, behind_cells, ran, render_run}
use Rattle.job.proofs.whole.finish.Goals as goal

pub put_run-requires : goal.put_run-requires
put_run-requires c =
    let bs = c.args.input.now in
    let xs = length_read 8 17 (count_of bs) bs 406 c.requires.holding.0 in
    let ts = length_read 1 17 (count_of bs) bs 414 c.requires.holding.1 in
    let vs = length_read 8 17 (count_of bs) bs 415 c.requires.holding.2 in
    let kept = c.run-ended.auto.values in
    record { tags_len = (ts ∙ sym xs, kept ∙ vs ∙ sym xs); room = (c.requires.blank, omega arith) }

pub returns : goal.returns
returns c =
    let bs = c.args.input.now in
    let count = c.number2 in
    let place : 406 + 17 * count.result ≡ code_at bs = omega (arith, count.ensures.0) in
    let started = c.read_state-start.ensures in
    let set = c.read_setting-setting.ensures in
    let ended = ran bs _ _ _ _ _ _ _ (behind_cells bs place) c.requires.holding started set c.run-ended.ensures.values_after in
    record {
      wrote = spelled (render_run bs _ _ _ (c.requires.holding.0, c.requires.holding.1) ended) c.put_run.ensures;
      values_after = ap (λ (e : Ended). e.end.config.values) ended;
    }
