-- TypesNative_s: the bit operations of Types_s are those of FStar.UInt at n bits.
use Rattle.std.specs.Prelude.{ℕ, zero, suc, ◌+◌, ◌*◌, ◌/◌, ◌%◌, ◌^◌, Bool, true, false, ◌&&◌, List, [], ◌∷◌, ◌==◌}
use Rattle.std.specs.Bool.{xor}

-- a bit as a number
abbrev pub bit : Bool → ℕ
bit true = 1
bit false = 0

-- `to_vec`: the n bits of x, the lowest first
unfoldable pub to_vec : ℕ → ℕ → List Bool
to_vec zero x = []
to_vec (suc n) x = (x % 2 == 1) ∷ to_vec n (x / 2)

-- `from_vec`: the number whose bits, the lowest first, these are
unfoldable pub from_vec : List Bool → ℕ
from_vec [] = 0
from_vec (b ∷ bs) = bit b + 2 * from_vec bs

-- f of each bit of the one list with that of the other
unfoldable pub map2 : (Bool → Bool → Bool) → List Bool → List Bool → List Bool
map2 f [] ys = []
map2 f (x ∷ xs) [] = []
map2 f (x ∷ xs) (y ∷ ys) = f x y ∷ map2 f xs ys

-- `iand`, FStar.UInt.logand at n bits
unfoldable pub iand : ℕ → ℕ → ℕ → ℕ
iand n x y = from_vec (map2 ◌&&◌ (to_vec n x) (to_vec n y))

-- `ixor`, FStar.UInt.logxor at n bits
unfoldable pub ixor : ℕ → ℕ → ℕ → ℕ
ixor n x y = from_vec (map2 xor (to_vec n x) (to_vec n y))

-- `ishl`, FStar.UInt.shift_left at n bits
unfoldable pub ishl : ℕ → ℕ → ℕ → ℕ
ishl n x s = (x * 2 ^ s) % 2 ^ n

-- `ishr`, FStar.UInt.shift_right at any width
unfoldable pub ishr : ℕ → ℕ → ℕ
ishr x s = x / 2 ^ s
