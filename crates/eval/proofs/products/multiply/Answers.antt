-- A source that cannot be read ends the run with its number; else Rax and Rdx take the two words of the product. Assumes nothing.
use native.Mathlib.Omega.{arith}
use Rattle.eval.proofs.Asked.{operand_starts, multiply_unread, multiply_done}
use Rattle.eval.proofs.products.multiply.Goals as goal

pub overflow_add-at : goal.overflow_add-at
overflow_add-at c = omega (arith, operand_starts)

pub returns-then-src-ne0 : goal.returns-then-src-ne0
returns-then-src-ne0 c = rw c.at.ensures (search multiply_unread)

pub returns : goal.returns
returns c = search multiply_done
