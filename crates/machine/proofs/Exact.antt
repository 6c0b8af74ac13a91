-- Exact addresses. A sum of signed terms is the difference of two natural numbers, what is added and what is taken away: so
-- `exact` is a `sub_ℕ`, and whether that is a word is a comparison of natural numbers.
use Rattle.std.proofs.Common.{◌≡◌, ℕ, ◌+◌, ◌-◌, ◌*◌, ◌^◌, ◌<◌, ◌≤◌, Bool, true, false, ◌||◌, T, eqb, ltb, List, ℤ, pos, negsuc, ◌+ℤ◌, nat_abs, sym, refl, ap, ◌∙◌, subst, ap₂, mul-le-mul, arith, w16, w64, SFits, to_z, of_z, ltb-false, ltb-true, le-ltb, lt-ltb, ne_eqb, le-leb}
use mathlib.Core.Bool.{false≢true}
use mathlib.Core.Option.{Option, none, some}
use borrow.Author.Tests.{lt-leb}
use lib.IntN.{sub_ℕ}
use lib.Signed.{lt_z, non_neg}
use mir.Syntax.{Width}
use mir.ValLaws.{to_z-of_z}
use Rattle.words.specs.Bits.{bit}
use Rattle.words.specs.Sums.{Subtracted}
use Rattle.words.proofs.BitLaws.{bit_lt}
use Rattle.words.proofs.Differences.{pos_sub}
use Rattle.words.proofs.SumLaws.{sub_mod_lt, subtracted_number}
use Rattle.machine.specs.Registers.{reg_at}
use Rattle.machine.specs.Operands.{in_range, wild, exact, is_scale, eval_maddr}
use Rattle.machine.specs.declared.reg.Reg.{Reg}
use Rattle.machine.specs.declared.Maddr.{Maddr}
use Rattle.machine.specs.declared.Maddr.TheVariants.{MConst, MReg, MIndex}
use Rattle.machine.specs.Wide.{number}
use Rattle.machine.specs.declared.wide.Wide.{Wide}

-- ---- whether a difference is a word
inside : (n m w : ℕ) → n ≡ m + w → w < 2 ^ 64 → in_range (sub_ℕ n m) ≡ some w
unfolding in_range wild
inside n m w e h = let d : n - m ≡ w = omega arith in rw (le-ltb n m (omega arith), d, lt-leb (2 ^ 64) w h)

under : (n m : ℕ) → n < m → in_range (sub_ℕ n m) ≡ none
unfolding in_range wild
under n m h = rw (lt-ltb n m h)

above : (n m : ℕ) → m + 2 ^ 64 ≤ n → in_range (sub_ℕ n m) ≡ none
unfolding in_range wild
above n m h = rw (le-ltb n m (omega arith), le-leb (2 ^ 64) (n - m) (omega arith))

-- ---- both signs of the offset, by the test that the code makes
pub base_plus : (base : ℕ) (o : ℤ) → lt_z o (pos 0) ≡ false → pos base +ℤ o ≡ sub_ℕ (base + nat_abs o) 0
base_plus base (pos o) p = pos_sub (base + o)
base_plus base (negsuc o) p = cc

pub base_minus : (base : ℕ) (o : ℤ) → lt_z o (pos 0) ≡ true → pos base +ℤ o ≡ sub_ℕ base (nat_abs o)
base_minus base (pos o) p = absurd (omega (arith, ltb-true o 0 p))
base_minus base (negsuc o) p = refl

-- a comparison with a bound, of a value that the machine reads back from its bits; with 0, its sign
pub under_bound : (w : Width) (bound z : ℤ) → SFits w z → (b : Bool) → lt_z (to_z w (of_z w z)) bound ≡ b → lt_z z bound ≡ b
under_bound w bound z f b = subst (λ (y : ℤ). lt_z y bound ≡ b) (to_z-of_z w z f)

pub sign : (w : Width) (z : ℤ) → SFits w z → (b : Bool) → lt_z (to_z w (of_z w z)) (pos 0) ≡ b → lt_z z (pos 0) ≡ b
sign w z f b = under_bound w (pos 0) z f b

-- and its magnitude
pub size_of : (w : Width) (z : ℤ) → SFits w z → (n : ℕ) → n ≡ nat_abs (to_z w (of_z w z)) → n ≡ nat_abs z
size_of w z f n e = e ∙ ap nat_abs (to_z-of_z w z f)

-- a scale is a small number
pub scale_small : (z : ℤ) → is_scale z ≡ true → T (non_neg z) × (nat_abs z ≤ 8)
scale_small (pos n) h = (tt, among n h)
  where
    among : (n : ℕ) → (eqb n 1 || (eqb n 2 || (eqb n 4 || eqb n 8))) ≡ true → n ≤ 8
    among n h = go (ltb 8 n) refl
      where
        go : (t : Bool) → ltb 8 n ≡ t → n ≤ 8
        go false p = ltb-false 8 n p
        go true p =
            let l = ltb-true 8 n p in
            absurd (false≢true (rw (ne_eqb n 1 (omega arith), ne_eqb n 2 (omega arith), ne_eqb n 4 (omega arith), ne_eqb n 8 (omega arith)) at h))
scale_small (negsuc n) h = absurd (false≢true h)

pub product_small : (n s i : ℕ) → n ≡ s * i → s ≤ 8 → i < 2 ^ 64 → n < 2 ^ 67
product_small n s i e h k =
    let m : i ≤ 2 ^ 64 - 1 = omega arith in
    let l : s * i ≤ 8 * (2 ^ 64 - 1) = mul-le-mul h m in
    omega arith

-- and the address of an MIndex is an offset from a sum
pub exact_is : (base index : ℕ) (s o : ℤ) → is_scale s ≡ true → exact base s index o ≡ pos (nat_abs s * index + base) +ℤ o
exact_is base index (pos s) o h = ap (λ (x : ℕ). pos x +ℤ o) (omega arith)
exact_is base index (negsuc s) o h = absurd (false≢true h)

-- ---- numbers of two words
high_small : (w : Wide) → number w < 2 ^ 68 → w.high < 2 ^ 16
high_small w h = omega arith

pub carry_fits : (w : Wide) (carry : Bool) → number w < 2 ^ 68 → w.high + bit carry < 2 ^ 64
carry_fits w carry h = go w.high (bit carry) (high_small w h) (bit_lt carry)
  where
    go : (n b : ℕ) → n < 2 ^ 16 → b < 2 → n + b < 2 ^ 64
    go n b h k = omega arith

-- less a word: the difference of the low words, where the high one is its borrow
module _ (u : Wide) (d word : ℕ) (borrow : Bool) (low : Subtracted 64 u.low d word borrow) (small : u.low < 2 ^ 64) (little : d < 2 ^ 64) where
  spelled : word + d ≡ u.low + bit borrow * 2 ^ 64
  spelled = subtracted_number 64 u.low d word borrow low small little

  word_small : word < 2 ^ 64
  word_small = rw low.word_is (sub_mod_lt 64 u.low d)

  pub level : u.high ≡ bit borrow → some word ≡ in_range (sub_ℕ (number u) d)
  level e = sym (inside (number u) d word (omega (arith, spelled)) word_small)

  pub apart : (u.high ≡ bit borrow → ⊥) → none ≡ in_range (sub_ℕ (number u) d)
  apart n = go (ltb u.high (bit borrow)) refl
    where
      go : (t : Bool) → ltb u.high (bit borrow) ≡ t → none ≡ in_range (sub_ℕ (number u) d)
      go true p = sym (under (number u) d (omega (arith, spelled, word_small, ltb-true u.high (bit borrow) p)))
      go false p = sym (above (number u) d (omega (arith, spelled, ltb-false u.high (bit borrow) p)))

-- ---- the three memory operands
module _ (m : Maddr) (regs : List ℕ) (word : Option ℕ) where
  pub at_const : (n : ℕ) → m ≡ MConst n → n < 2 ^ 64 → some n ≡ in_range (eval_maddr m regs)
  unfolding eval_maddr in_range wild
  at_const n e h = rw (e, lt-leb (2 ^ 64) n h)

  pub at_register : (r : Reg) (o : ℤ) → m ≡ MReg r o → SFits w64 o
      → word ≡ in_range (pos (reg_at regs r) +ℤ to_z w64 (of_z w64 o)) → word ≡ in_range (eval_maddr m regs)
  unfolding eval_maddr
  at_register r o e f q = rw e (q ∙ ap (λ (y : ℤ). in_range (pos (reg_at regs r) +ℤ y)) (to_z-of_z w64 o f))

  pub at_index : (b : Reg) (s : ℤ) (i : Reg) (o : ℤ) → m ≡ MIndex b s i o → SFits w16 s → SFits w64 o
      → word ≡ in_range (exact (reg_at regs b) (to_z w16 (of_z w16 s)) (reg_at regs i) (to_z w64 (of_z w64 o))) → word ≡ in_range (eval_maddr m regs)
  unfolding eval_maddr
  at_index b s i o e f g q =
      rw e (q ∙ ap₂ (λ (x y : ℤ). in_range (exact (reg_at regs b) x (reg_at regs i) y)) (to_z-of_z w16 s f) (to_z-of_z w64 o g))
