-- `code::kinds::operand_count` meets its contract: the operand count is its part of a used kind's entry.
-- Assumes nothing.
use native.Mathlib.Omega.{arith}
use Rattle.code.proofs.KindLaws.{entry_count}
use Rattle.code.proofs.kinds.operand_count.Goals as goal

pub returns : goal.returns
returns c = entry_count c.args.kind c.entry.result (omega arith) c.requires c.entry.ensures.0
