-- A byte memory of 2^64 places, and what it is for bytes to agree with cells.
use Rattle.std.specs.Prelude.{◌≡◌, ℕ, zero, suc, ◌+◌, ◌-◌, ◌*◌, ◌/◌, ◌%◌, ◌^◌, ◌<◌, ◌≤◌, cond, List, [], ◌∷◌, ℤ, pos, negsuc, nat_lt}

-- one byte at every address below 2^64; what stands from there on is neither read nor written
abbrev pub ByteMemory : Type 0
ByteMemory = ℕ → ℕ

-- byte j of a word, the lowest first
unfoldable pub byte : ℕ → ℕ → ℕ
byte zero v = v % 256
byte (suc j) v = byte j (v / 256)

-- an exact address modulo 2^64: negsuc n is -(n + 1)
unfoldable pub wrap : ℤ → ℕ
wrap (pos n) = n % 2 ^ 64
wrap (negsuc n) = 2 ^ 64 - 1 - n % 2 ^ 64

-- the number that n bytes spell, low first: byte j is `f j`
unfoldable pub spelled : ℕ → (ℕ → ℕ) → ℕ
spelled zero f = 0
spelled (suc n) f = f 0 + 256 * spelled n (λ j. f (suc j))

-- the number that n bytes from a up spell, each address modulo 2^64
unfoldable pub read_bytes : ℕ → ℕ → ByteMemory → ℕ
read_bytes n a m = spelled n (λ j. m ((a + j) % 2 ^ 64))

-- how far the place x lies behind a, counted on over the end of the memory; 2^64 where x is no place of it
unfoldable pub distance : ℕ → ℕ → ℕ
distance a x = cond (nat_lt x (2 ^ 64)) ((x + (2 ^ 64 - a % 2 ^ 64)) % 2 ^ 64) (2 ^ 64)

-- the memory with the eight bytes of v from a up
unfoldable pub write_bytes : ℕ → ℕ → ByteMemory → ByteMemory
write_bytes a v m x = cond (nat_lt (distance a x) 8) (byte (distance a x) v) (m x)

-- bytes agree with cells: at every cell, whatever its tag, tag/8 bytes from its address up spell its value, low first
abbrev pub Agree : List ℕ → List ℕ → List ℕ → ByteMemory → Type 0
Agree [] ts vs m = Unit {0}
Agree (a ∷ xs) [] vs m = Unit {0}
Agree (a ∷ xs) (t ∷ ts) [] m = Unit {0}
Agree (a ∷ xs) (t ∷ ts) (v ∷ vs) m = ((j : ℕ) → j < t / 8 → m (a + j) ≡ byte j v) × Agree xs ts vs m

-- a place in no 64-bit cell
abbrev pub Outside64 : List ℕ → List ℕ → ℕ → Type 0
Outside64 [] ts x = Unit {0}
Outside64 (a ∷ xs) [] x = Unit {0}
Outside64 (a ∷ xs) (t ∷ ts) x = (t ≡ 64 → a ≤ x → a + 8 ≤ x) × Outside64 xs ts x
