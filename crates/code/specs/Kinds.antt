-- What a kind byte begins, and the table of kinds.
use Rattle.std.specs.Prelude.{ℕ, zero, suc, ◌+◌, ◌*◌, ◌≤◌, ◌≡◌, Bool, ◌||◌, cond, List, [], ◌∷◌}
use Rattle.code.specs.Layout.{Field, register, scale}
use Rattle.code.specs.Records.{is_ins, is_structure, is_code, is_ocmp, is_operand, body_length, operand_count, judged_fields}
use Rattle.code.specs.declared.kinds.Class.{Class}
use Rattle.code.specs.declared.kinds.Class.TheVariants.{Instruction, Structure, Comparison, Operand, Unused}

-- instruction, structure, comparison or operand; the rest are unused
unfoldable pub class : ℕ → Class
class k =
    cond (is_ins k) Instruction
    (cond (is_structure k) Structure (cond (is_ocmp k) Comparison (cond (is_operand k) Operand Unused)))

-- the used kinds
abbrev pub is_used : ℕ → Bool
is_used k = is_code k || (is_ocmp k || is_operand k)

-- the entry of a kind in the table of 256: both counts, or 255 for an unused kind
unfoldable pub entry_of : ℕ → ℕ
entry_of k = cond (is_used k) (4 * body_length k + operand_count k) 255

-- the judged fields up to the last one: none where that is 0; the first stands at 1, and where the last is behind 2, a scale at 2
abbrev pub fields_to : ℕ → List Field
fields_to zero = []
fields_to (suc zero) = register 1 ∷ []
fields_to (suc (suc zero)) = register 1 ∷ register 2 ∷ []
fields_to (suc (suc (suc n))) = register 1 ∷ scale 2 ∷ register (suc (suc (suc n))) ∷ []

-- the last judged field of a kind
pub record LastField (k last : ℕ) : Type 0 where
  pub fields : judged_fields k ≡ fields_to last
  pub inside : last ≤ body_length k
