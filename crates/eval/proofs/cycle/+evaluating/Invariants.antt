-- The measure is a falling fuel and the remaining length: a list is measured from its first code on, a structure behind its kind byte.
use Rattle.std.proofs.Common.{◌+◌, ◌-◌, length}
use mathlib.Core.Option.{some}
use Rattle.eval.specs.Config.{config}
use Rattle.eval.specs.Promises.{env_of, tally, least_tested}
use Rattle.eval.proofs.CycleLaws.{Going}
use Rattle.eval.proofs.Asked.{Testing}
use Rattle.eval.proofs.LessLaws.{GoingLess, TestingLess}
use Rattle.eval.proofs.cycle.+evaluating.Given as goal

-- a code, and a list of codes
abbrev pub decreases-eval_code : goal.decreases-eval_code
decreases-eval_code l = l.fuel + (length l.lent.now.code.now - (l.at + 1))

abbrev pub decreases-eval_codes : goal.decreases-eval_codes
decreases-eval_codes l = l.fuel + (length l.lent.now.code.now - l.from)

-- the rounds
abbrev pub invariant-eval_code-loop-counter : goal.invariant-eval_code-loop-counter
invariant-eval_code-loop-counter l =
    let env = env_of l.lent in
    let limit = some l.lent.limit in
    let first = config l.initial.state l.initial.values in
    let now = config l.state l.values in
    record {
      runs : Testing env limit l.lent.code.now l.at l.fuel first (tally l.initial.counter) l.chooses l.test l.left now (tally l.counter);
      less : TestingLess env limit l.lent.code.now l.at l.fuel first (tally l.initial.counter) (least_tested l.initial.counter)
          l.chooses l.test l.left now (tally l.counter) (least_tested l.counter);
    }

abbrev pub decreases-eval_code-loop-counter : goal.decreases-eval_code-loop-counter
decreases-eval_code-loop-counter l = l.left

-- the codes of a list
abbrev pub invariant-eval_codes-loop-next : goal.invariant-eval_codes-loop-next
invariant-eval_codes-loop-next l =
    let env = env_of l.lent in
    let limit = some l.lent.limit in
    let first = config l.initial.state l.initial.values in
    let now = config l.state l.values in
    record {
      runs : Going env limit l.lent.code.now l.from l.end l.fuel first (tally l.initial.counter) l.next now (tally l.counter);
      less : GoingLess env limit l.lent.code.now l.from l.end l.fuel first (tally l.initial.counter) (least_tested l.initial.counter)
          l.next now (tally l.counter) (least_tested l.counter);
    }

abbrev pub decreases-eval_codes-loop-next : goal.decreases-eval_codes-loop-next
decreases-eval_codes-loop-next l = l.end - l.next
