-- `code::reader::read_operand` meets its contract: a byte is left, its class is Operand, and the rest is `read_body`'s.
-- Assumes nothing.
use mathlib.Core.Path.{◌∙◌}
use Rattle.code.proofs.Classes.{operand_kind, not_operand, operand_used, no_3}
use Rattle.code.proofs.Reaches.{told, operand_short, operand_wrong, operand_right}
use Rattle.code.proofs.reader.read_operand.Goals as goal

pub returns-then-end-at : goal.returns-then-end-at
returns-then-end-at c = told _ _ _ c.at.ensures ∙ search operand_short

pub returns-in_default : goal.returns-in_default
returns-in_default c =
    let other = no_3 c.class_of.result c.in_default.not-Operand in
    told _ _ _ c.at-in_default.ensures ∙ search (operand_wrong, not_operand)

pub read_body-requires : goal.read_body-requires
read_body-requires c = search (operand_used, operand_kind)

pub returns : goal.returns
returns c = search (operand_right, operand_kind)
