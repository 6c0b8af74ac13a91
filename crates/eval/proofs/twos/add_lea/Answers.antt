-- Each check that fails is the fault of the definition; where all pass, the sum is put. Assumes nothing.
use mathlib.Core.List.{[]}
use native.Mathlib.Omega.{arith}
use Rattle.eval.specs.Config.{config}
use Rattle.eval.specs.Promises.{env_of}
use Rattle.eval.proofs.Asked.{operand_starts, second_there, third_there, Operands3, sum_unread, sum_unread_second, sum_unwritten, sum_done}
use Rattle.eval.proofs.twos.add_lea.Goals as goal
use Rattle.eval.proofs.twos.add_lea.Goals.{After-load-two}

-- what was found of the operands, where both sources have been loaded
operands :
    (c : After-load-two) →
    let a = c.args in
    Operands3 (env_of a.lent.now) (config a.state.now a.values.now) a.lent.now.code.now a.at
    c.resolve-dst.result c.load-one.result c.load-two.result
operands c =
    let s = c.args.state.now in record { dst = c.resolve-dst.ensures s.flags s.xmms; one = c.load-one.ensures; two = c.load-two.ensures }

pub overflow_add-at : goal.overflow_add-at
overflow_add-at c = omega (arith, operand_starts)

pub load-one-requires : goal.load-one-requires
load-one-requires c = let next = (c.resolve-dst.ensures 0 []).next in search second_there

pub load-two-requires : goal.load-two-requires
load-two-requires c = let asked = c.requires in
    record {
      operand_bytes =
          third_there _ _ _ _ (c.resolve-dst.ensures 0 []).next c.load-one.ensures.next asked.operands_from.1.1.0;
      long = asked.long;
    }

pub returns-then-one-ne0 : goal.returns-then-one-ne0
returns-then-one-ne0 c = let w = operands (goal.at.returns-then-one-ne0 c).After-load-two in rw c.at.ensures (search sum_unread)

pub returns-then-two-ne0 : goal.returns-then-two-ne0
returns-then-two-ne0 c = let w = operands (goal.at.returns-then-two-ne0 c).After-load-two in rw c.at-then-two-ne0.ensures (search sum_unread_second)

pub returns-then-dst-gt1 : goal.returns-then-dst-gt1
returns-then-dst-gt1 c = let w = operands (goal.at.returns-then-dst-gt1 c).After-load-two in rw c.at-then-dst-gt1.ensures (search sum_unwritten)

pub put-requires : goal.put-requires
put-requires c = search (operands (goal.at.put-requires c).After-load-two).dst.bounds

pub returns : goal.returns
returns c = let w = operands (goal.at.returns c).After-load-two in search sum_done
