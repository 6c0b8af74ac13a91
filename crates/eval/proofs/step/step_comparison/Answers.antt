-- `step_comparison` meets its contract: what `compare` decides is counted where it passes its check. Assumes nothing.
use mathlib.Core.Path.{refl}
use native.Mathlib.Omega.{arith}
use borrow.Author.Rules.{rules}
use Rattle.code.specs.Records.{byte_at}
use Rattle.eval.specs.FlagRule.{flag_rule}
use Rattle.eval.proofs.StepLaws.{step_fits, ocmp_stopped, ocmp_ended, ocmp_counted}
use Rattle.eval.specs.Promises.{told}
use Rattle.eval.proofs.Asked.{told_below, refused_with, passed_on}
use Rattle.eval.proofs.step.step_comparison.Goals as goal

pub returns-then-used_up : goal.returns-then-used_up
returns-then-used_up c = record { decides = search ocmp_stopped; above = omega arith; tested_none = refl }

pub returns-in_err-decided : goal.returns-in_err-decided
returns-in_err-decided c =
    let w = c.in_err-decided in
    rw (passed_on _ _ c.from_residual.ensures.1) (record {
      decides = ocmp_ended _ _ _ _ _ _ _ c.used_up.ensures c.if-used_up.false (refused_with w.field-0.0) w.ensures.compares w.ensures.above;
      above = w.ensures.above;
      tested_none = refl;
    })

pub count_comparison-requires : goal.count_comparison-requires
count_comparison-requires c = search (rules, step_fits)

pub returns : goal.returns
returns c =
    let a = c.args in
    let bs = a.lent.now.code.now in
    let more =
    c.count_comparison.ensures.counted_after (flag_rule a.lent.now.evaluation) (byte_at bs a.at) a.at c.requires.ocmp_at.1.head.kind
    in
    let w = c.in_ok-decided in
    let d = told w.decided in
    let compares = w.ensures.compares in
    record {
      decides = ocmp_counted _ _ _ _ _ _ _ c.used_up.ensures c.if-used_up.false d compares (told_below _) _ more;
      above = omega arith;
      tested_none = c.count_comparison.ensures.tested_none;
    }
