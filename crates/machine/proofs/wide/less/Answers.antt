-- `machine::wide::less` meets its contract: the difference of the low words is the answer where the high word is its borrow, and else
-- the difference is below 0 or above 2^64 - 1.
use Rattle.std.proofs.Common.{rules}
use Rattle.machine.proofs.Exact.{level, apart}
use Rattle.machine.proofs.wide.less.Goals as goal

pub returns-then-w-high : goal.returns-then-w-high
returns-then-w-high c =
    let a = c.args in
    let low = c.minus-low in
    level a.w a.x low.result.word low.result.carry low.ensures (search rules) (search rules) c.if-w-high.true

pub returns-else-w-high : goal.returns-else-w-high
returns-else-w-high c =
    let a = c.args in
    let low = c.minus-low in
    apart a.w a.x low.result.word low.result.carry low.ensures (search rules) (search rules) c.if-w-high.false
