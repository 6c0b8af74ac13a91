-- `machine::addressing::moved` meets its contract: the sign of the offset says whether its magnitude is taken away or added.
use Rattle.std.proofs.Common.{◌≡◌, ℕ, ◌+◌, true, false, nat_abs, sym, ap, ◌∙◌, w64}
use lib.IntN.{sub_ℕ}
use Rattle.machine.specs.Operands.{in_range}
use Rattle.machine.specs.Wide.{number}
use Rattle.machine.proofs.Exact.{sign, size_of, base_plus, base_minus}
use Rattle.machine.proofs.addressing.moved.Goals as goal
use Rattle.machine.proofs.addressing.moved.Goals.{After-magnitude-size}

size : (c : After-magnitude-size) → c.magnitude-size.result ≡ nat_abs c.args.offset
size c = size_of w64 _ c.ranges.offset _ c.magnitude-size.ensures

pub returns-then-offset-lt0 : goal.returns-then-offset-lt0
returns-then-offset-lt0 c =
    let from = number c.args.from in
    c.less.ensures
    ∙ ap (λ (x : ℕ). in_range (sub_ℕ from x)) (size (goal.at.returns-then-offset-lt0 c).After-magnitude-size)
    ∙ ap in_range (sym (base_minus from c.args.offset (sign w64 _ c.ranges.offset true c.if-offset-lt0.true)))

pub returns-else-offset-lt0 : goal.returns-else-offset-lt0
returns-else-offset-lt0 c =
    let from = number c.args.from in
    let sum : number c.plus.result ≡ from + nat_abs c.args.offset = cc (c.plus.ensures, size (goal.at.returns-else-offset-lt0 c).After-magnitude-size) in
    c.less-else-offset-lt0.ensures
    ∙ ap (λ (x : ℕ). in_range (sub_ℕ x 0)) sum
    ∙ ap in_range (sym (base_plus from c.args.offset (sign w64 _ c.ranges.offset false c.if-offset-lt0.false)))
