-- What the functions of the reader ask, and what they answer: where a reading goes on, without the tree that it has read.
use Rattle.std.specs.Prelude.{ℕ, ◌≤◌, ◌<◌, ◌≡◌, Bool, true, List, length, Result, Ok, Err}
use Rattle.machine.specs.Rules.{rule_number}
use Rattle.machine.specs.declared.refusal.Refusal.{Refusal}
use Rattle.code.specs.Records.{operand_count, judged_fields, byte_at, behind}
use Rattle.code.specs.Tree.{Code}
use Rattle.code.specs.Reader.{Read, got, trouble, followed, with_body, with_fields, read_operands, read_structure, read_code}

-- a record of an allowed kind begins at `at`, in the part that ends at e
pub record Begins (allowed : ℕ → Bool) (bs : List ℕ) (e at : ℕ) : Type 0 where
  pub in_part : at < e
  pub inside : e ≤ length bs
  pub kind : allowed (byte_at bs at) ≡ true

-- a reading without what was read
unfoldable pub reached : {A : Type 0} → Read A → Read (Unit {0})
reached (got a next) = got tt next
reached (trouble n p) = trouble n p

-- the place, or the number and place, of each answer
unfoldable pub reach : Result ℕ Refusal → Read (Unit {0})
reach (Ok next) = got tt next
reach (Err refusal) = trouble (rule_number refusal.rule) refusal.place

-- a record behind its kind byte: its body and its fields
unfoldable pub rest_of_record : List ℕ → ℕ → ℕ → Read (Unit {0})
rest_of_record bs e at =
    with_body bs e at (with_fields (judged_fields (byte_at bs at)) bs at (got tt (behind bs at)))

-- a record behind its kind byte, with its operands
unfoldable pub rest_of_all : List ℕ → ℕ → ℕ → Read (Unit {0})
rest_of_all bs e at =
    followed (rest_of_record bs e at) (λ _ next. read_operands (operand_count (byte_at bs at)) bs e next)

-- a structure behind its kind byte, with d levels left for its codes
unfoldable pub structure_of : ℕ → List ℕ → ℕ → ℕ → Read Code
structure_of d bs e at = with_body bs e at (read_structure (read_code d bs) bs e at)
