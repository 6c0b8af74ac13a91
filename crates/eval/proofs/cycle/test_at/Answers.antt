-- `eval::cycle::test_at` meets its contract: neither sum reaches 2^64. Assumes nothing.
use native.Mathlib.Omega.{arith}
use Rattle.eval.proofs.cycle.test_at.Goals as goal

pub overflow_add-result : goal.overflow_add-result
overflow_add-result c = omega (arith, c.requires)

pub overflow_add-result-else-chooses : goal.overflow_add-result-else-chooses
overflow_add-result-else-chooses c = omega (arith, c.requires)

pub returns-then-chooses : goal.returns-then-chooses
returns-then-chooses c = rw c.if-chooses.true

pub returns-else-chooses : goal.returns-else-chooses
returns-else-chooses c = rw c.if-chooses.false
