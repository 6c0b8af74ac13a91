-- A test of the first operands, from the first on or from the last. Assumes nothing.
use Prim.Native.Nat.{ℕ, zero, suc, ◌+◌}
use mathlib.Core.Path.{◌≡◌, refl, sym, ◌∙◌}
use mathlib.Core.Bool.{Bool, ◌&&◌}
use native.Mathlib.Omega.{arith}
use Rattle.std.specs.List.{list_all, range_with_len}
use Rattle.std.proofs.Math.Bool.{and_assoc, and-true}
use Rattle.std.proofs.Math.Nat.{add-zero, zero-add}
use Rattle.numbered.specs.declared.operands.Numbers.{Numbers}
use Rattle.numbered.specs.Given.{operand_given, operands_given}

-- a test of one number more, which stands last
last_too :
    (test : ℕ → Bool) (a count : ℕ)
    → list_all test (range_with_len a (suc count)) ≡ (list_all test (range_with_len a count) && test (a + count))
last_too test a zero = rw (add-zero a, and-true (test a)) refl
last_too test a (suc count) =
    let shifted : a + 1 + count ≡ a + suc count = omega arith in
    rw (last_too test (a + 1) count, shifted) (sym (and_assoc (test a) _ _))

-- the definition tests the last one last
pub all_given : (n : Numbers) (count : ℕ) → list_all (operand_given n) (range_with_len 0 count) ≡ operands_given count n
unfolding operands_given
all_given n zero = refl
all_given n (suc count) = last_too (operand_given n) 0 count ∙ rw (all_given n count, zero-add count) refl
