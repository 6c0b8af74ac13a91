-- `machine::cells::check_from` meets its contract. The invariant: what is left to check, from the running end on, has the verdict of
-- all that was to be checked. One turn is one step of `check_from`.
use Rattle.std.proofs.Common.{ℕ, sym, ap, ◌∙◌}
use Rattle.machine.specs.Wide.{number}
use Rattle.machine.specs.Rules.{broken}
use Rattle.machine.specs.Cells.{refused}
use Rattle.machine.proofs.RuleLaws.{number_pos}
use Rattle.machine.proofs.CellLaws.{from_next, from_stop, from_end}
use Rattle.machine.proofs.cells.check_from.Goals as goal

pub returns-in-Some : goal.returns-in-Some
returns-in-Some c =
    let l = c.loop-place in
    let rule = sym (ap broken c.in-Some.is) ∙ c.broken_rule.ensures in
    rw c.at.ensures
    (ap (λ (n : ℕ). refused n l.place) rule
    ∙ sym
    (l.invariant
    ∙ from_stop c.args.addresses.now c.args.tags.now c.args.values.now c.requires l.place (number l.last)
    c.loop-place-test.true
    (λ e. number_pos c.in-Some.rule (rule ∙ e))))

pub loop-place-preserved : goal.loop-place-preserved
loop-place-preserved c =
    let l = c.loop-place in
    l.invariant
    ∙ from_next c.args.addresses.now c.args.tags.now c.args.values.now c.requires l.place (number l.last)
    c.loop-place-test.true
    (number c.end-last.result) c.end-last.ensures (sym c.broken_rule.ensures ∙ ap broken c.in_default.is)

pub returns : goal.returns
returns c =
    let l = c.loop-place in
    sym (l.invariant ∙ from_end l.place (number l.last) c.args.addresses.now c.args.tags.now c.args.values.now c.loop-place-test.false)
