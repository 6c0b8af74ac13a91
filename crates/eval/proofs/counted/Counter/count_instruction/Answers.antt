-- `count_instruction` meets its contract: one step more, and the watch where its kind touches it. Assumes nothing.
use mathlib.Core.Path.{refl}
use native.Mathlib.Omega.{arith}
use Rattle.eval.specs.FlagRule.{flag_rule}
use Rattle.eval.proofs.CountedLaws.{counted_so, unwatched_so, set_so}
use Rattle.eval.proofs.counted.Counter.count_instruction.Goals as goal

pub returns-then-not-touches : goal.returns-then-not-touches
returns-then-not-touches c =
    let a = c.args in
    let rule = flag_rule a.evaluation in
    record { counted_after = unwatched_so a.self.now rule a.kind a.at (c.touches.ensures.keeps_flags c.if-not-touches.true rule a.at); tested_none = refl }

pub returns-then-kind-gt6 : goal.returns-then-kind-gt6
returns-then-kind-gt6 c =
    let a = c.args in
    record {
      counted_after =
          set_so a.self.now (flag_rule a.evaluation) a.kind a.at (c.touches.ensures.sets_flags c.if-not-touches.false c.if-kind-gt6.true);
      tested_none = refl;
    }

pub watch_sum-requires : goal.watch_sum-requires
watch_sum-requires c = omega (arith, c.if-kind-gt6.false)

pub returns : goal.returns
returns c =
    let a = c.args in
    record {
      counted_after = counted_so a.self.now (flag_rule a.evaluation) a.kind a.at _ c.watch_sum.ensures.counted_after;
      tested_none = c.watch_sum.ensures.tested_none;
    }
