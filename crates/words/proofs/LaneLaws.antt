-- Each lane definition keeps words words: a sum, a shift left and an exclusive or are cut to 32 bits, and the others move words, shrink them
-- or write constants.
use Rattle.std.proofs.Common.{◌≡◌, ℕ, zero, suc, ◌/◌, ◌%◌, ◌^◌, ◌<◌, cond, eqb, refl, ap, ◌∙◌, mod-lt, arith, pow_pos}
use native.Mathlib.Nat.{mod-mod}
use Rattle.words.specs.Words.{Four, mkfour, four_map, nat_to_four, four_to_two_two, two_to_nat, two_select, two_insert, four_insert}
use Rattle.words.specs.Types.{select_word, extract_nat64, insert_nat32, insert_nat64, byte_to_twobits, quad32_xor, add_lanes, equal_lanes, shl_lanes, shr_lanes, shuffle_lanes, shift_quad}
use Rattle.words.proofs.BitLaws.{ixor_lt}
use Rattle.words.proofs.ShiftLaws.{ishl_lt, ishr_lt}
use Rattle.words.proofs.PartLaws.{four_select_all, two_to_nat_lt, nat_to_two_lo_lt, nat_to_two_hi_lt}

-- four 32-bit words
pub record Quad (q : Four ℕ) : Type 0 where
  pub lo0_lt : q.lo0 < 2 ^ 32
  pub lo1_lt : q.lo1 < 2 ^ 32
  pub hi2_lt : q.hi2 < 2 ^ 32
  pub hi3_lt : q.hi3 < 2 ^ 32

pub select_word_lt : (q : Four ℕ) (k : ℕ) → Quad q → select_word q k < 2 ^ 32
select_word_lt q k h = four_select_all (λ (w : ℕ). w < 2 ^ 32) q k h.lo0_lt h.lo1_lt h.hi2_lt h.hi3_lt

-- Pextrq's word is the number of the selected pair
pub extract_nat64_is : (q : Four ℕ) (i : ℕ) → extract_nat64 q i ≡ two_to_nat 32 (two_select (four_to_two_two q) i)
unfolding extract_nat64
extract_nat64_is q i = refl

pub extract_nat64_lt : (q : Four ℕ) (i : ℕ) → Quad q → extract_nat64 q i < 2 ^ 64
unfolding extract_nat64 two_select
extract_nat64_lt q zero h = two_to_nat_lt 32 _ h.lo0_lt h.lo1_lt
extract_nat64_lt q (suc i) h = two_to_nat_lt 32 _ h.hi2_lt h.hi3_lt

pub insert_nat32_quad : (q : Four ℕ) (n i : ℕ) → Quad q → n < 2 ^ 32 → Quad (insert_nat32 q n i)
unfolding four_insert
insert_nat32_quad q n zero h w = record { lo0_lt = w; lo1_lt = h.lo1_lt; hi2_lt = h.hi2_lt; hi3_lt = h.hi3_lt }
insert_nat32_quad q n (suc zero) h w = record { lo0_lt = h.lo0_lt; lo1_lt = w; hi2_lt = h.hi2_lt; hi3_lt = h.hi3_lt }
insert_nat32_quad q n (suc (suc zero)) h w = record { lo0_lt = h.lo0_lt; lo1_lt = h.lo1_lt; hi2_lt = w; hi3_lt = h.hi3_lt }
insert_nat32_quad q n (suc (suc (suc i))) h w = record { lo0_lt = h.lo0_lt; lo1_lt = h.lo1_lt; hi2_lt = h.hi2_lt; hi3_lt = w }

pub insert_nat64_quad : (q : Four ℕ) (n i : ℕ) → Quad q → Quad (insert_nat64 q n i)
unfolding insert_nat64 two_insert
insert_nat64_quad q n zero h =
    record { lo0_lt = nat_to_two_lo_lt 32 n; lo1_lt = nat_to_two_hi_lt 32 n; hi2_lt = h.hi2_lt; hi3_lt = h.hi3_lt }
insert_nat64_quad q n (suc i) h =
    record { lo0_lt = h.lo0_lt; lo1_lt = h.lo1_lt; hi2_lt = nat_to_two_lo_lt 32 n; hi3_lt = nat_to_two_hi_lt 32 n }

pub quad32_xor_quad : (x y : Four ℕ) → Quad (quad32_xor x y)
unfolding quad32_xor
quad32_xor_quad x y =
    record { lo0_lt = ixor_lt 32 _ _; lo1_lt = ixor_lt 32 _ _; hi2_lt = ixor_lt 32 _ _; hi3_lt = ixor_lt 32 _ _ }

pub add_lanes_quad : (x y : Four ℕ) → Quad (add_lanes x y)
unfolding add_lanes
add_lanes_quad x y =
    record { lo0_lt = mod-lt _ (pow_pos 32); lo1_lt = mod-lt _ (pow_pos 32); hi2_lt = mod-lt _ (pow_pos 32); hi3_lt = mod-lt _ (pow_pos 32) }

equal_word_lt : (a b : ℕ) → cond (eqb a b) 0xffff_ffff 0 < 2 ^ 32
equal_word_lt a b = grind arith

pub equal_lanes_quad : (x y : Four ℕ) → Quad (equal_lanes x y)
unfolding equal_lanes
equal_lanes_quad x y =
    record {
      lo0_lt = equal_word_lt x.lo0 y.lo0;
      lo1_lt = equal_word_lt x.lo1 y.lo1;
      hi2_lt = equal_word_lt x.hi2 y.hi2;
      hi3_lt = equal_word_lt x.hi3 y.hi3;
    }

pub shl_lanes_quad : (x : Four ℕ) (s : ℕ) → Quad (shl_lanes x s)
unfolding shl_lanes
shl_lanes_quad x s =
    record { lo0_lt = ishl_lt 32 _ s; lo1_lt = ishl_lt 32 _ s; hi2_lt = ishl_lt 32 _ s; hi3_lt = ishl_lt 32 _ s }

pub shr_lanes_quad : (x : Four ℕ) (s : ℕ) → Quad x → Quad (shr_lanes x s)
unfolding shr_lanes
shr_lanes_quad x s h =
    record { lo0_lt = ishr_lt 32 s h.lo0_lt; lo1_lt = ishr_lt 32 s h.lo1_lt; hi2_lt = ishr_lt 32 s h.hi2_lt; hi3_lt = ishr_lt 32 s h.hi3_lt }

pub shuffle_lanes_quad : (x : Four ℕ) (imm8 : ℕ) → Quad x → Quad (shuffle_lanes x imm8)
unfolding shuffle_lanes
shuffle_lanes_quad x imm8 h =
    record { lo0_lt = select_word_lt x _ h; lo1_lt = select_word_lt x _ h; hi2_lt = select_word_lt x _ h; hi3_lt = select_word_lt x _ h }

pub shift_quad_quad : (x : Four ℕ) → Quad x → Quad (shift_quad x)
unfolding shift_quad
shift_quad_quad x h = record { lo0_lt = pow_pos 32; lo1_lt = h.lo0_lt; hi2_lt = h.lo1_lt; hi3_lt = h.hi2_lt }

-- what the code shuffles by: a part of a byte is below 4 already
pub shuffle_lanes_is : (x : Four ℕ) (imm8 : ℕ) (order : Four ℕ) → order ≡ byte_to_twobits imm8
    → four_map (λ (k : ℕ). select_word x (k % 4)) order ≡ shuffle_lanes x imm8
unfolding shuffle_lanes nat_to_four
shuffle_lanes_is x imm8 order e =
    ap (four_map (λ (k : ℕ). select_word x (k % 4))) e ∙ (λ i. mkfour (word imm8 i) (word (imm8 / 4) i) (word (imm8 / 16) i) (word (imm8 / 64) i))
  where
    word : (n : ℕ) → select_word x (n % 4 % 4) ≡ select_word x (n % 4)
    word n = ap (select_word x) (mod-mod n 4)
