-- `machine::cells::broken_rule` meets its contract: its tests are the rules, in their order, each one in terms of words.
use Rattle.std.proofs.Common.{sym, ◌∙◌, rules}
use Rattle.machine.specs.Wide.{number}
use Rattle.machine.proofs.CellLaws.{largest_none, largest_some, bytes_pos, rule_13, rule_14, rule_15_before, rule_15_end, rule_none}
use Rattle.machine.proofs.cells.broken_rule.Goals as goal
use Rattle.machine.proofs.cells.broken_rule.Goals.{Joined-then-is_below, then-is_below-via-then-is_below, then-is_below-via-else-is_below+then-address-bytes}

pub returns-in_default : goal.returns-in_default
returns-in_default c =
    let a = c.args in
    rule_13 (number a.last) a.address a.tag a.value (largest_none a.tag (sym c.in_default.is ∙ c.largest.ensures))

pub returns-then-top-value : goal.returns-then-top-value
returns-then-top-value c =
    let a = c.args in
    rule_14 (number a.last) a.address a.tag a.value c.in-Some.top (largest_some a.tag _ (sym c.in-Some.is ∙ c.largest.ensures)) c.if-top-value.true

pub overflow_sub-bytes : goal.overflow_sub-bytes
overflow_sub-bytes c =
    let l = largest_some c.args.tag _ (sym c.in-Some.is ∙ c.largest.ensures) in
    bytes_pos c.args.tag l.tag

pub returns-then-is_below : goal.returns-then-is_below
returns-then-is_below c =
    let a = c.args in
    let l = largest_some a.tag _ (sym c.in-Some.is ∙ c.largest.ensures) in
    elim c.then-is_below.branch [
      | then-is_below-via-then-is_below w ↦
          rule_15_before (number a.last) a.address a.tag a.value c.in-Some.top l c.if-top-value.false
          (sym c.is_below.ensures ∙ w.if-is_below.true)
      | then-is_below-via-else-is_below+then-address-bytes w ↦
          rule_15_end (number a.last) a.address a.tag a.value c.in-Some.top l c.if-top-value.false (search rules)
          (sym c.is_below.ensures ∙ w.if-is_below.false) w.if-address-bytes.true
    ]

pub returns : goal.returns
returns c =
    let a = c.args in
    rule_none (number a.last) a.address a.tag a.value c.in-Some.top (largest_some a.tag _ (sym c.in-Some.is ∙ c.largest.ensures)) c.if-top-value.false
    (search rules) (sym c.is_below.ensures ∙ c.if-is_below.false) c.if-address-bytes.false
