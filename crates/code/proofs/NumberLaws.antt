-- The numbers that stand in code are spelled as those in memory are, by the laws of `machine`. Assumes nothing.
use Prim.Native.Nat.{ℕ, ◌+◌, ◌*◌, ◌^◌, ◌<◌}
use mathlib.Core.Path.{◌≡◌, ap, ◌∙◌}
use mathlib.Core.List.{List}
use native.Mathlib.Omega.{arith}
use Rattle.machine.specs.Bytes.{byte, spelled}
use Rattle.machine.proofs.SpellLaws.{spelled_one, spelled_cong, spelled_lt, spelled_bytes, spelled_split}
use Rattle.code.specs.Records.{byte_at, number_at}
use Rattle.code.specs.WellFormed.{Bytes}

-- ---- a number by its bytes
module _ (bs : List ℕ) (at : ℕ) where
  pub one_byte : number_at 1 bs at ≡ byte_at bs at
  unfolding number_at
  one_byte = spelled_one (λ j. byte_at bs (at + j)) ∙ ap (byte_at bs) (omega arith)

  -- m bytes, and the n behind them
  pub number_split : (m n : ℕ) → number_at (m + n) bs at ≡ number_at m bs at + 256 ^ m * number_at n bs (at + m)
  unfolding number_at
  number_split m n =
      spelled_split m n (λ j. byte_at bs (at + j))
      ∙ ap (λ (x : ℕ). spelled m (λ j. byte_at bs (at + j)) + 256 ^ m * x)
      (spelled_cong n (λ j. byte_at bs (at + (m + j))) (λ j. byte_at bs (at + m + j)) (λ j h. ap (byte_at bs) (omega arith)))

pub number_lt : (bs : List ℕ) → Bytes bs → (n at : ℕ) → number_at n bs at < 256 ^ n
unfolding number_at
number_lt bs bytes n at = spelled_lt n (λ j. byte_at bs (at + j)) (λ j. bytes (at + j))

-- bytes that are those of a number say it
pub number_is :
    (n x : ℕ) (bs : List ℕ) (at : ℕ) → x < 256 ^ n → ((j : ℕ) → j < n → byte_at bs (at + j) ≡ byte j x) → number_at n bs at ≡ x
unfolding number_at
number_is n x bs at = spelled_bytes n x (λ j. byte_at bs (at + j))
