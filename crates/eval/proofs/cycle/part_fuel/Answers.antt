-- `eval::cycle::part_fuel` meets its contract: a While that goes on has fuel. Assumes nothing.
use native.Mathlib.Omega.{arith}
use Rattle.eval.proofs.cycle.part_fuel.Goals as goal

pub overflow_sub-result : goal.overflow_sub-result
overflow_sub-result c = let z = c.requires c.if-chooses.false in omega (arith, z)

pub returns-then-chooses : goal.returns-then-chooses
returns-then-chooses c = rw c.if-chooses.true

pub returns-else-chooses : goal.returns-else-chooses
returns-else-chooses c = rw c.if-chooses.false
