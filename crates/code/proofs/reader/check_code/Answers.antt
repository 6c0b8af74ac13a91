-- `code::reader::check_code` meets its contract: the length is judged, and then all the bytes are one part.
-- Assumes nothing.
use mathlib.Core.Path.{sym, ap, ◌∙◌}
use Rattle.machine.specs.Cells.{verdict}
use Rattle.code.proofs.Reaches.{handed_on}
use Rattle.code.proofs.Parts.{check_empty, check_long, check_accepts, check_refuses}
use Rattle.code.proofs.reader.check_code.Goals as goal
use Rattle.code.proofs.reader.check_code.Goals.{then-is_empty-via-then-is_empty, then-is_empty-via-else-is_empty+then-code-gt16384}

pub returns-then-is_empty : goal.returns-then-is_empty
returns-then-is_empty c =
    rw c.at.ensures
    (elim c.then-is_empty.branch [
      | then-is_empty-via-then-is_empty w ↦ check_empty _ (sym c.is_empty.ensures ∙ w.if-is_empty.true)
      | then-is_empty-via-else-is_empty+then-code-gt16384 w ↦ check_long _ w.if-code-gt16384.true
    ])

pub returns-in_err-read_part : goal.returns-in_err-read_part
returns-in_err-read_part c =
    let some = sym c.is_empty.ensures ∙ c.if-is_empty.false in
    ap verdict (handed_on _ _ c.from_residual.ensures.1)
    ∙ check_refuses _ some c.if-code-gt16384.false _ c.read_part.ensures _ c.in_err-read_part.was

pub returns : goal.returns
returns c =
    let some = sym c.is_empty.ensures ∙ c.if-is_empty.false in
    check_accepts _ some c.if-code-gt16384.false _ c.read_part.ensures _ c.in_ok-read_part.was
