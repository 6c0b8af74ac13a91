-- What is written of a record is of the types. Assumes nothing.
use mathlib.Core.List.{List, [], ◌∷◌, ◌++◌, map}
use Rattle.code.specs.WellFormed.{All}
use Rattle.builder.specs.Calls.{OperandTyped, ByteTyped, RecordTyped}
use Rattle.builder.specs.declared.record.Record.{Record}
use Rattle.builder.specs.Rendered.{body_of, operands_of, layout_of}

all_append : (xs ys : List (Type 0)) → All xs → All ys → All (xs ++ ys)
all_append [] ys h k = k
all_append (A ∷ []) [] h k = h
all_append (A ∷ []) (B ∷ ys) h k = (h, k)
all_append (A ∷ B ∷ xs) ys h k = (h.0, all_append (B ∷ xs) ys h.1 k)

pub record_fits :
    (r : Record) → All (map ByteTyped (body_of r.body)) → All (map OperandTyped (operands_of r.operands)) → RecordTyped (layout_of r)
unfolding RecordTyped
record_fits r = all_append (map ByteTyped (body_of r.body)) (map OperandTyped (operands_of r.operands))
