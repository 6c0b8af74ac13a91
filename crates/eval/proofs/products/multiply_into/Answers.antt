-- The high destination is found in the registers as the low half will leave them, before anything is written: what the cells hold has no
-- say in it. Then both halves are put, the low one first. Assumes nothing.
use mathlib.Core.List.{[]}
use native.Mathlib.Omega.{arith}
use borrow.Author.Rules.{rules}
use Rattle.eval.specs.Config.{config}
use Rattle.eval.specs.Promises.{env_of}
use Rattle.eval.proofs.Asked.{operand_starts, second_there, third_there, OperandsX, Halves, product_unread, product_unwritten, product_unresolved, product_done}
use Rattle.eval.proofs.products.multiply_into.Goals as goal
use Rattle.eval.proofs.products.multiply_into.Goals.{After-load-src, After-resolve-high}

-- what was found of the operands, where the source has been loaded
operands :
    (c : After-load-src) →
    let a = c.args in
    OperandsX (env_of a.lent.now) (config a.state.now a.values.now) a.lent.now.code.now a.at c.resolve-low.result c.load-src.result
operands c =
    let second = c.operand_behind-second in
    let s = c.args.state.now in
    record { second = second.result; is_second = second.ensures; low = c.resolve-low.ensures s.flags s.xmms; src = c.load-src.ensures }

-- with both halves of the product, where the high destination has been found
halves :
    (c : After-resolve-high) →
    let product = c.mul_wide-product.result in
    let a = c.args in
    Halves (env_of a.lent.now) (config a.state.now a.values.now) a.lent.now.code.now a.at
    c.resolve-low.result c.load-src.result product.low product.high c.resolve-high.result
halves c =
    let after = c.registers_with-after in
    let s = c.args.state.now in
    record {
      operands =
          record {
            second = c.operand_behind-second.result;
            is_second = c.operand_behind-second.ensures;
            low = c.resolve-low.ensures s.flags s.xmms;
            src = c.load-src.ensures;
          };
      found = c.if-src-ne0.false;
      valid = c.if-low-gt1.false;
      is_lo = c.mul_wide-product.ensures.low_is;
      is_hi = c.mul_wide-product.ensures.high_is;
      after = after.result;
      is_after = after.ensures;
      high = c.resolve-high.ensures s.flags s.xmms;
    }

pub overflow_add-at : goal.overflow_add-at
overflow_add-at c = omega (arith, operand_starts)

pub resolve-low-requires : goal.resolve-low-requires
resolve-low-requires c = search second_there

pub load-src-requires : goal.load-src-requires
load-src-requires c = let asked = c.requires in
    record {
      operand_bytes = third_there _ _ _ _ c.operand_behind-second.ensures (c.resolve-low.ensures 0 []).next asked.operands_from.1.1.0;
      long = asked.long;
    }

pub returns-then-src-ne0 : goal.returns-then-src-ne0
returns-then-src-ne0 c = let w = operands (goal.at.returns-then-src-ne0 c).After-load-src in rw c.at.ensures (search product_unread)

pub returns-then-low-gt1 : goal.returns-then-low-gt1
returns-then-low-gt1 c = let w = operands (goal.at.returns-then-low-gt1 c).After-load-src in rw c.at-then-low-gt1.ensures (search product_unwritten)

pub registers_with-after-requires : goal.registers_with-after-requires
registers_with-after-requires c =
    ((operands (goal.at.registers_with-after-requires c).After-load-src).low.bounds c.if-low-gt1.false).register

pub overflow_add-at-2 : goal.overflow_add-at-2
overflow_add-at-2 c = let asked = c.requires in omega (arith, operand_starts)

pub resolve-high-requires : goal.resolve-high-requires
resolve-high-requires c = let asked = c.requires in search rules

pub returns-then-high-gt1 : goal.returns-then-high-gt1
returns-then-high-gt1 c =
    let w = halves (goal.at.returns-then-high-gt1 c).After-resolve-high in
    rw c.at-then-high-gt1.ensures (search product_unresolved)

pub put-requires : goal.put-requires
put-requires c = let w = halves (goal.at.put-requires c).After-resolve-high in w.operands.low.bounds w.valid

pub put-requires-2 : goal.put-requires-2
put-requires-2 c =
    rw c.put.auto.values ((halves (goal.at.put-requires-2 c).After-resolve-high).high.bounds c.if-high-gt1.false)

pub returns : goal.returns
returns c = let w = halves (goal.at.returns c).After-resolve-high in search product_done
