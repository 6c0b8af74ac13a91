-- Request 2026-02: the counts of Popcnt64, Lzcnt64 and Tzcnt64, over the list of a word's n bits.
use Rattle.std.specs.Prelude.{ℕ, suc, ◌+◌, Bool, true, false, List, [], ◌∷◌, reverse}
use Rattle.words.specs.Bits.{bit, to_vec}

-- the number of ones among some bits
unfoldable pub ones : List Bool → ℕ
ones [] = 0
ones (b ∷ bs) = bit b + ones bs

-- the zeros before the first one, or all of them
unfoldable pub zeros : List Bool → ℕ
zeros [] = 0
zeros (false ∷ bs) = suc (zeros bs)
zeros (true ∷ bs) = 0

-- the number of ones of an n-bit word
unfoldable pub popcnt : ℕ → ℕ → ℕ
popcnt n x = ones (to_vec n x)

-- its leading zeros: from the highest bit down to the first one
unfoldable pub lzcnt : ℕ → ℕ → ℕ
lzcnt n x = zeros (reverse (to_vec n x))

-- its trailing zeros: from the lowest bit up to the first one
unfoldable pub tzcnt : ℕ → ℕ → ℕ
tzcnt n x = zeros (to_vec n x)
