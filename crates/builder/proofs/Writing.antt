-- The bytes of a number, one by one. Assumes nothing.
use Prim.Native.Nat.{ℕ, suc, ◌+◌, ◌-◌, ◌/◌, ◌%◌, ◌≤◌, ◌<◌}
use mathlib.Core.Path.{◌≡◌, sym, ap, ◌∙◌}
use mathlib.Core.List.{List, [], ◌∷◌, ◌++◌, append_assoc, append-nil}
use native.Mathlib.Omega.{arith}
use Rattle.code.specs.Writer.{bytes_of}

-- the lowest byte, and those of what is left
pub number_step :
    (before : List ℕ) (i count rest : ℕ) → i < count
    → before ++ rest % 256 ∷ [] ++ bytes_of (count - (i + 1)) (rest / 256) ≡ before ++ bytes_of (count - i) rest
unfolding bytes_of
number_step before i count rest h =
    let less : count - i ≡ suc (count - (i + 1)) = omega arith in
    append_assoc before (rest % 256 ∷ []) _ ∙ sym (ap (λ (n : ℕ). before ++ bytes_of n rest) less)

pub number_done : (all : List ℕ) (i count rest : ℕ) → count ≤ i → all ++ bytes_of (count - i) rest ≡ all
unfolding bytes_of
number_done all i count rest h =
    let none : count - i ≡ 0 = omega arith in
    ap (λ (n : ℕ). all ++ bytes_of n rest) none ∙ append-nil all
