-- `code::reader::read_ocmp` meets its contract: a byte is left, its class is Comparison, and the rest is `read_rest`'s.
-- Assumes nothing.
use mathlib.Core.Path.{◌∙◌}
use Rattle.code.proofs.Classes.{ocmp_kind, not_ocmp, ocmp_used, no_2}
use Rattle.code.proofs.Reaches.{told, ocmp_short, ocmp_wrong, ocmp_right}
use Rattle.code.proofs.reader.read_ocmp.Goals as goal

pub returns-then-end-at : goal.returns-then-end-at
returns-then-end-at c = told _ _ _ c.at.ensures ∙ search ocmp_short

pub returns-in_default : goal.returns-in_default
returns-in_default c =
    let other = no_2 c.class_of.result c.in_default.not-Comparison in
    told _ _ _ c.at-in_default.ensures ∙ search (ocmp_wrong, not_ocmp)

pub read_rest-requires : goal.read_rest-requires
read_rest-requires c = search (ocmp_used, ocmp_kind)

pub returns : goal.returns
returns c = search (ocmp_right, ocmp_kind)
