-- An array in a struct has as many elements as its type says, each within the range of its type. Assumes nothing.
use Prim.Native.Nat.{ℕ, zero, suc, ◌<◌}
use mathlib.Core.Path.{◌≡◌}
use mathlib.Core.List.{List, [], ◌∷◌}
use lib.ListN.{length, get_or}
use base.Fml.{Fml}
use mir.Val.{Val}
use denote.Shadow.{shadow}
use denote.Array.{each}
use Rattle.machine.specs.Registers.{WordsBelow}

module _ (own : ℕ → List Val → Fml) (bound : ℕ) (some : 0 < bound) (below : (x : ℕ) (vs : List Val) → shadow (own x vs) → x < bound) where
  each_below : (xs : List ℕ) (us : List Val) → shadow (each ℕ own xs us) → (i : ℕ) → get_or xs i 0 < bound
  each_below [] us s i = some
  each_below (x ∷ xs) [] s i = absurd s
  each_below (x ∷ xs) (u ∷ us) s zero = below x (u ∷ []) s.0
  each_below (x ∷ xs) (u ∷ us) s (suc i) = each_below xs us s.1 i

  pub words_of :
      (n : ℕ) (xs : List ℕ) (us : List Val) →
      length xs ≡ n → shadow (each ℕ own xs us) → WordsBelow n bound xs
  words_of n xs us h s = record { many = h; small = each_below xs us s }
