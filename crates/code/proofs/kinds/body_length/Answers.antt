-- `code::kinds::body_length` meets its contract: the body length is its part of a used kind's entry.
-- Assumes nothing.
use native.Mathlib.Omega.{arith}
use Rattle.code.proofs.KindLaws.{entry_body}
use Rattle.code.proofs.kinds.body_length.Goals as goal

pub returns : goal.returns
returns c = entry_body c.args.kind c.entry.result (omega arith) c.requires c.entry.ensures.0
