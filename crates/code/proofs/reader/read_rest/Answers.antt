-- `code::reader::read_rest` meets its contract: `read_body`, and then the operands that the table counts.
-- Assumes nothing.
use Rattle.code.proofs.Reaches.{stopped, rest_go, rest_stop}
use Rattle.code.proofs.reader.read_rest.Goals as goal

pub returns-in_err-next : goal.returns-in_err-next
returns-in_err-next c = stopped _ _ c.from_residual.ensures.1 _ (let was = c.in_err-next.was in search rest_stop)

pub returns : goal.returns
returns c = let was = c.in_ok-next.was in search rest_go
