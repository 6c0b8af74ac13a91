-- `compare` meets its contract: both operands are read where their records lie, and `holds` compares their words.
use native.Mathlib.Omega.{arith}
use Rattle.eval.proofs.Asked.{ocmp_starts, ocmp_fits, first_operand, second_operand, says_unread, says_unread_second, says, above_first, above_second}
use Rattle.eval.proofs.comparison.compare.Goals as goal

pub overflow_add-at : goal.overflow_add-at
overflow_add-at c = search ocmp_fits

pub load-a-requires : goal.load-a-requires
load-a-requires c = search first_operand

pub returns-then-a-ne0 : goal.returns-then-a-ne0
returns-then-a-ne0 c = record { compares = search says_unread; above = search above_first }

pub load-b-requires : goal.load-b-requires
load-b-requires c = let next = c.load-a.ensures.next in search second_operand

pub returns-then-b-ne0 : goal.returns-then-b-ne0
returns-then-b-ne0 c = record { compares = search says_unread_second; above = search above_second }

pub bounds-lent-at : goal.bounds-lent-at
bounds-lent-at c = search ocmp_starts

pub returns : goal.returns
returns c = record { compares = search says; above = omega arith }
