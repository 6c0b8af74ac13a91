-- `eval::cycle::way_from` meets its contract: the lengths that it reads are the definition's, and the structure lies inside the bytes, so that the
-- sums fit. Assumes nothing.
use mathlib.Core.Path.{◌≡◌, ◌∙◌}
use native.Mathlib.Omega.{arith}
use Rattle.eval.specs.Promises.{told}
use Rattle.eval.proofs.Asked.{told_one, told_zero}
use Rattle.eval.proofs.Asked.{length_fits, length_inside, behind_fits, tested_kind, second_fits, other_inside, end_fits, end_at, end_chosen, end_looped, way_holds, way_fails}
use Rattle.eval.proofs.cycle.way_from.Goals as goal
use Rattle.eval.proofs.cycle.way_from.Goals.{Joined-chooses, then-chooses, else-chooses}

-- where the structure ends
ends : (c : Joined-chooses) → c.if-chooses.end ≡ end_at c.args.code.now c.args.at c.args.chooses c.args.decided.next
ends c =
    let a = c.args in
    let size = c.number4.ensures.0 in
    elim c.if-chooses.branch [
      | then-chooses w ↦ w.end-is ∙ end_chosen _ a.at a.chooses (told a.decided) _ size _ w.number4-then-chooses.ensures.0 w.if-chooses.true
      | else-chooses w ↦ w.end-is ∙ end_looped _ a.at a.chooses (told a.decided) _ size w.if-chooses.false
    ]

pub overflow_add-at : goal.overflow_add-at
overflow_add-at c = search (length_fits, tested_kind)

pub number4-requires : goal.number4-requires
number4-requires c = search (length_inside, tested_kind)

pub overflow_add-second : goal.overflow_add-second
overflow_add-second c = search second_fits

pub overflow_add-at-then-chooses : goal.overflow_add-at-then-chooses
overflow_add-at-then-chooses c = search (behind_fits, tested_kind)

pub number4-requires-then-chooses : goal.number4-requires-then-chooses
number4-requires-then-chooses c = search other_inside

pub overflow_add-end : goal.overflow_add-end
overflow_add-end c = search end_fits

pub returns-then-decided : goal.returns-then-decided
returns-then-decided c =
    let a = c.args in
    way_holds _ a.at a.chooses (told a.decided) _ c.number4.ensures.0 _ (ends (goal.at.returns-then-decided c).Joined-chooses)
    (told_one _ c.if-decided.true)

pub returns : goal.returns
returns c =
    let a = c.args in
    let z = told_zero _ c.if-decided.false in
    way_fails _ a.at a.chooses (told a.decided) _ c.number4.ensures.0 _ (ends (goal.at.returns c).Joined-chooses) (λ y. omega (arith, y, z))
