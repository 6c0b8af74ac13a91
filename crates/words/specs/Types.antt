-- Types_s: quads of 32-bit words, and what the lane instructions do to them.
use Rattle.std.specs.Prelude.{ℕ, ◌+◌, ◌%◌, ◌^◌, cond, ◌==◌}
use Rattle.words.specs.Words.{Two, Four, mktwo, mkfour, four_map, four_map2, two_two_to_four, four_to_two_two, nat_to_two, two_to_nat, nat_to_four, two_select, two_insert, four_select, four_insert}
use Rattle.words.specs.Bits.{ixor, ishl, ishr}
use Rattle.words.specs.Parts.{Double32, Quad32, BitsOfByte, two, four}
use Rattle.words.specs.declared.parts.Two as Pair

-- `double32`: the pair that a struct holds
abbrev pub double32 : Double32 → Two ℕ
double32 d = two d

-- the pair of pairs that a struct holds
abbrev pub two_doubles : Pair.Two Double32 → Two (Two ℕ)
two_doubles t = mktwo (double32 t.lo) (double32 t.hi)

-- `quad32`: the quad that a struct holds
abbrev pub quad32 : Quad32 → Four ℕ
quad32 q = four q

-- `bits_of_byte`: the quad that a struct holds
abbrev pub bits_of_byte : BitsOfByte → Four ℕ
bits_of_byte b = four b

-- the four two-bit parts of a byte
abbrev pub byte_to_twobits : ℕ → Four ℕ
byte_to_twobits b = nat_to_four 2 b

-- each word of x, bit by bit, with that of y
unfoldable pub quad32_xor : Four ℕ → Four ℕ → Four ℕ
quad32_xor x y = four_map2 (ixor 32) x y

-- the word that the selector, 0 to 3, names
abbrev pub select_word : Four ℕ → ℕ → ℕ
select_word q selector = four_select q selector

-- q with the word n at i, 0 to 3
abbrev pub insert_nat32 : Four ℕ → ℕ → ℕ → Four ℕ
insert_nat32 q n i = four_insert q n i

-- q with the two words of n at the pair i, 0 or 1
unfoldable pub insert_nat64 : Four ℕ → ℕ → ℕ → Four ℕ
insert_nat64 q n i = two_two_to_four (two_insert (four_to_two_two q) (nat_to_two 32 n) i)

-- Pextrq: the number of the pair i, 0 or 1
unfoldable pub extract_nat64 : Four ℕ → ℕ → ℕ
extract_nat64 q i = two_to_nat 32 (two_select (four_to_two_two q) i)

-- Paddd: each word of x and y summed modulo 2^32
unfoldable pub add_lanes : Four ℕ → Four ℕ → Four ℕ
add_lanes x y = four_map2 (λ a b. (a + b) % 2 ^ 32) x y

-- Pcmpeqd: all ones where the words of x and y are equal, 0 elsewhere
unfoldable pub equal_lanes : Four ℕ → Four ℕ → Four ℕ
equal_lanes x y = four_map2 (λ a b. cond (a == b) 0xffff_ffff 0) x y

-- Pslld: each word shifted left
unfoldable pub shl_lanes : Four ℕ → ℕ → Four ℕ
shl_lanes x s = four_map (λ a. ishl 32 a s) x

-- Psrld: each word shifted right
unfoldable pub shr_lanes : Four ℕ → ℕ → Four ℕ
shr_lanes x s = four_map (λ a. ishr a s) x

-- Pshufd: word k is the word of x that the k-th two bits of the imm8 name
unfoldable pub shuffle_lanes : Four ℕ → ℕ → Four ℕ
shuffle_lanes x imm8 = four_map (select_word x) (byte_to_twobits imm8)

-- VPSLLDQ by 4: the quad shifted left by one word
unfoldable pub shift_quad : Four ℕ → Four ℕ
shift_quad x = mkfour 0 x.lo0 x.lo1 x.hi2
