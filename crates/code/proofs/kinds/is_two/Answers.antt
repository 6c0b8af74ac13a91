-- `code::kinds::is_two` meets its contract: what the bits of its word say is a test of each kind, which antt computes for the word that the
-- code has. Assumes nothing.
use Prim.Native.Nat.{ℕ, ◌/◌, ◌^◌, ◌<◌}
use mathlib.Core.Path.{◌≡◌, refl}
use mathlib.Core.Bool.{Bool}
use native.Mathlib.Omega.{arith}
use lib.Bits.{bit_and}
use lib.Dec.{eqb}
use Rattle.code.specs.Families.{is_two}
use Rattle.code.proofs.KindLaws.{answers, same_within}
use Rattle.code.proofs.kinds.is_two.Goals as goal

abbrev bit : ℕ → ℕ → Bool
bit word k = eqb (bit_and (word / 2 ^ k) 1) 1

bits_say : (word k : ℕ) → answers (bit word) 0 64 ≡ answers is_two 0 64 → k < 64 → bit word k ≡ is_two k
bits_say word k h m = same_within (bit word) is_two 64 0 h k (omega arith) (omega arith)

pub returns-then-kind-lt64 : goal.returns-then-kind-lt64
returns-then-kind-lt64 c = bits_say _ c.args.kind refl (omega arith)
