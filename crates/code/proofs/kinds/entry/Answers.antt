-- `code::kinds::entry` meets its contract: the table's rule is a test of each of its 256 entries, which antt computes. The table is the
-- code's constant, so that no entry is said again here. Assumes nothing.
use Prim.Native.Nat.{ℕ, ◌<◌}
use mathlib.Core.Path.{◌≡◌, refl, ◌∙◌}
use mathlib.Core.Bool.{Bool, true}
use mathlib.Core.List.{List}
use native.Mathlib.Omega.{arith}
use Rattle.std.proofs.Common.{rules}
use borrow.Author.Tests.{eqb-true}
use lib.Dec.{eqb}
use lib.ListN.{get_or}
use Rattle.code.specs.Records.{body_length, operand_count}
use Rattle.code.specs.Kinds.{entry_of}
use Rattle.code.specs.declared.kinds.TheConstants.{TABLE}
use Rattle.code.proofs.KindLaws.{all_from, within}
use Rattle.code.proofs.kinds.entry.Goals as goal

-- what the entries of a table say where a computed test of each passes
tested : List ℕ → ℕ → Bool
tested table k = eqb (get_or table k 0) (entry_of k)

entries_say :
    (table : List ℕ) (k i r : ℕ) → r ≡ get_or table i 0 → i ≡ k → all_from (tested table) 0 256 ≡ true → k < 256 → r ≡ entry_of k
unfolding tested
entries_say table k i r e f h m =
    e ∙ rw f (eqb-true (get_or table k 0) (entry_of k) (within (tested table) 256 0 h k (omega arith) (omega arith)))

pub returns : goal.returns
unfolding tested entry_of body_length operand_count
returns c = (entries_say TABLE c.args.kind _ _ refl refl refl (omega arith), search rules)
