-- What is counted behind a step. What the bits of a word say of each kind is a test that antt computes, for the word that the
-- code has. Assumes nothing.
use Prim.Native.Nat.{ℕ, ◌+◌, ◌*◌, ◌/◌, ◌%◌, ◌^◌, ◌<◌}
use mathlib.Core.Path.{◌≡◌, refl, sym, ap, ◌∙◌, subst}
use mathlib.Core.Bool.{Bool, true, false, not, cond}
use mathlib.Core.List.{List, [], ◌∷◌}
use native.Mathlib.Omega.{arith}
use borrow.Author.Tests.{eq-eqb, lt-ltb, ltb-true}
use lib.Bits.{bit_and}
use lib.Dec.{eqb, ltb}
use lib.ListN.{get_or}
use Rattle.std.specs.Prelude.{is_some}
use Rattle.code.specs.Records.{is_ocmp}
use Rattle.code.proofs.KindLaws.{answers, same_within}
use Rattle.code.proofs.Passing.{between_true}
use Rattle.eval.specs.FlagRule.{FlagRule, base_rule}
use Rattle.eval.specs.Config.{done}
use Rattle.eval.specs.Watch.{Mark, Unmarked, Marked, watch, touched, open_after, reads_open, first_mark, watched}
use Rattle.eval.specs.Counted.{Counted, counted, count}
use Rattle.eval.specs.Promises.{carry_in, overflow_in, watch_of, tally, Kept, SetsFlags}
use Rattle.eval.specs.declared.answer.Watch.{Watch}
use Rattle.eval.specs.declared.counted.Counter.{Counter}

-- bit k of a word
abbrev bit : ℕ → ℕ → Bool
bit word k = eqb (bit_and (word / 2 ^ k) 1) 1

-- two functions of two numbers that say the same below two bounds
same_below :
    {A : Type 0} (f g : ℕ → ℕ → A) (n m : ℕ) → answers (λ k. answers (f k) 0 m) 0 n ≡ answers (λ k. answers (g k) 0 m) 0 n →
    (k i : ℕ) → k < n → i < m → f k i ≡ g k i
same_below f g n m h k i l j =
    same_within (f k) (g k) m 0 (same_within (λ k. answers (f k) 0 m) (λ k. answers (g k) 0 m) n 0 h k (omega arith) (omega arith)) i (omega arith)
    (omega arith)

module _ (rule : FlagRule) (word k at : ℕ) (w : Watch) where
  -- the watch, but where the bit of the kind is set
  abbrev untouched : ℕ → Watch
  untouched k = cond (bit word k) w (watched rule k at w)

  pub not_touched : answers untouched 0 32 ≡ answers (λ k. w) 0 32 → k < 32 → bit word k ≡ false → watched rule k at w ≡ w
  not_touched h l z =
      subst (λ (b : Bool). cond b w (watched rule k at w) ≡ w) z (same_within untouched (λ k. w) 32 0 h k (omega arith) (omega arith))

  -- and where it is set, behind the first six kinds
  module _ (bits : ℕ) (mark : Mark) where
    abbrev as_watched : ℕ → Watch
    as_watched k = cond (bit word k) (watched rule k at (watch_of bits mark)) w

    abbrev as_told : ℕ → Watch
    as_told k = cond (bit word k) (watch_of k mark) w

    pub sets_both :
        answers as_watched 7 25 ≡ answers as_told 7 25 → k < 32 → 6 < k → bit word k ≡ true → watched rule k at (watch_of bits mark) ≡ watch_of k mark
    sets_both h l m z =
        subst (λ (b : Bool). cond b (watched rule k at (watch_of bits mark)) w ≡ cond b (watch_of k mark) w) z
        (same_within as_watched as_told 25 7 h k (omega arith) (omega arith))

-- ---- what is open, as two bits
-- two bits at 2k, of a kind that is told in place of them
module _ (opens word : ℕ) (far : ltb word 4 ≡ false) where
  abbrev told_bits : ℕ → ℕ
  told_bits k = opens / 2 ^ (2 * k) % 4

  abbrev by_opens : ℕ → Bool × Bool
  by_opens k = (eqb (told_bits k % 2) 1, eqb (told_bits k / 2 % 2) 1)

  abbrev by_kind : ℕ → Bool × Bool
  by_kind k = (open_after (touched base_rule k).carry false, open_after (touched base_rule k).overflow false)

  pub told_as :
      answers by_opens 0 32 ≡ answers by_kind 0 32 → let r = told_bits (word % 32) in
      (r < 4) × ((eqb (r % 2) 1 ≡ carry_in word) × (eqb (r / 2 % 2) 1 ≡ overflow_in word))
  told_as h =
      let z = same_within by_opens by_kind 32 0 h (word % 32) (omega arith) (omega arith) in
      rw far (omega arith, (ap (λ (x : Bool × Bool). x.0) z, ap (λ (x : Bool × Bool). x.1) z))

-- bits that are told as they are
pub told_so : (word : ℕ) → word < 4 → (word < 4) × ((eqb (word % 2) 1 ≡ carry_in word) × (eqb (word / 2 % 2) 1 ≡ overflow_in word))
told_so word l = rw (lt-ltb word 4 l) (l, (refl, refl))

-- what two bits at 2k keep of the bits of was
module _ (rule : FlagRule) (word k was : ℕ) (l : k < 7) (m : was < 4) where
  abbrev kept_bits : ℕ → ℕ → ℕ
  kept_bits k was = bit_and was (word / 2 ^ (2 * k))

  -- whether an instruction of a kind reads a bit of was
  abbrev reads_bit : ℕ → ℕ → Bool
  reads_bit k was = reads_open k (watch (eqb (was % 2) 1) (eqb (was / 2 % 2) 1) Unmarked)

  -- whether they are two, carry and overflow are then open, and one was read where all are kept: by the bits and by the table
  abbrev by_bits : ℕ → ℕ → List Bool
  by_bits k was =
      let r = kept_bits k was in ltb r 4 ∷ eqb (r % 2) 1 ∷ eqb (r / 2 % 2) 1 ∷ cond (eqb r was) (reads_bit k was) false ∷ []

  abbrev by_table : ℕ → ℕ → List Bool
  by_table k was =
      true ∷ open_after (touched rule k).carry (eqb (was % 2) 1) ∷ open_after (touched rule k).overflow (eqb (was / 2 % 2) 1) ∷ false ∷ []

  pub keeps_as : answers (λ k. answers (by_bits k) 0 4) 0 7 ≡ answers (λ k. answers (by_table k) 0 4) 0 7 → Kept rule k was (kept_bits k was)
  unfolding reads_open
  keeps_as h =
      let z = same_below by_bits by_table 7 4 h k was l m in
      let entry : (i : ℕ) → get_or (by_bits k was) i false ≡ get_or (by_table k was) i false = λ i. ap (λ (x : List Bool). get_or x i false) z in
      record {
        below = ltb-true _ _ (entry 0);
        carry = entry 1;
        over = entry 2;
        unread = λ same mark. subst (λ (b : Bool). cond b (reads_bit k was) false ≡ false) (eq-eqb _ _ same) (entry 3);
      }

module _ (reads k was : ℕ) (l : k < 7) (m : was < 4) (mark : Mark) where
  abbrev read_bits : ℕ → ℕ → Bool
  read_bits k was = not (eqb (bit_and was (reads / 2 ^ (2 * k))) 0)

  abbrev read_table : ℕ → ℕ → Bool
  read_table k was = reads_open k (watch (eqb (was % 2) 1) (eqb (was / 2 % 2) 1) mark)

  pub reads_as :
      answers (λ k. answers (read_bits k) 0 4) 0 7 ≡ answers (λ k. answers (read_table k) 0 4) 0 7 → read_bits k was ≡ read_table k was
  reads_as h = same_below read_bits read_table 7 4 h k was l m

-- the mark, where there is none and where there is one
pub marks : (at : ℕ) (m : Mark) (b : Bool) → is_some m ≡ not b → b ≡ true → first_mark true at m ≡ Marked at
unfolding first_mark
marks at Unmarked b is h = refl
marks at (Marked q) b is h = let z : true ≡ false = is ∙ ap not h in cc

pub stays_marked : (at : ℕ) (m : Mark) (b : Bool) → is_some m ≡ not b → b ≡ false → first_mark true at m ≡ m
unfolding first_mark
stays_marked at Unmarked b is h = let z : false ≡ true = is ∙ ap not h in cc
stays_marked at (Marked q) b is h = refl

-- a comparison opens both
opens_both : (rule : FlagRule) (k at : ℕ) (w : Watch) → is_ocmp k ≡ true → watched rule k at w ≡ watch true true w.mark
unfolding touched open_after reads_open first_mark watched
opens_both rule k at w h =
    let l = between_true 0x30 0x35 k h in
    same_within (λ k. watched rule k at w) (λ k. watch true true w.mark) 6 0x30 refl k l.0 (omega (arith, l.1))

-- ---- what is counted behind a step
-- what is kept open, of the word that says what was
module _ (k : Counter) (rule : FlagRule) (kind at was bits : ℕ)
    (open_was : (eqb (was % 2) 1 ≡ carry_in k.opened) × (eqb (was / 2 % 2) 1 ≡ overflow_in k.opened)) (kept : Kept rule kind was bits) where
  abbrev w : Watch
  w = (tally k).watch

  abbrev left : Counted
  left = counted k.steps (watch_of bits k.mark)

  -- the watch, but for the mark
  kept_so : left ≡ counted k.steps (watch (open_after (touched rule kind).carry w.carry) (open_after (touched rule kind).overflow w.overflow) w.mark)
  kept_so = rw (lt-ltb bits 4 kept.below, kept.carry, kept.over, open_was.0, open_was.1)

  -- where all of it is kept, nothing changes
  pub same_so : bits ≡ was → tally k ≡ counted k.steps (watched rule kind at w)
  unfolding watched first_mark
  same_so same =
      let none : reads_open kind w ≡ false = sym (sym (kept.unread same w.mark) ∙ rw (open_was.0, open_was.1)) in
      let carry : w.carry ≡ open_after (touched rule kind).carry w.carry =
      sym open_was.0 ∙ ap (λ n. eqb (n % 2) 1) (sym same) ∙ kept.carry ∙ ap (open_after (touched rule kind).carry) open_was.0
      in
      let over : w.overflow ≡ open_after (touched rule kind).overflow w.overflow =
      sym open_was.1 ∙ ap (λ n. eqb (n / 2 % 2) 1) (sym same) ∙ kept.over ∙ ap (open_after (touched rule kind).overflow) open_was.1
      in
      rw (none, sym carry, sym over)

  -- whether it reads an open one
  module _ (r : Bool) (is : (m : Mark) → r ≡ reads_open kind (watch (eqb (was % 2) 1) (eqb (was / 2 % 2) 1) m)) where
    reads_so : r ≡ reads_open kind w
    reads_so = is w.mark ∙ rw (open_was.0, open_was.1)

    pub unread_so : r ≡ false → left ≡ counted k.steps (watched rule kind at w)
    unfolding watched first_mark
    unread_so z = rw (sym reads_so ∙ z) kept_so

    pub read_so :
        r ≡ true → (l : Counted) →
        l ≡ counted k.steps (watch left.watch.carry left.watch.overflow (first_mark true at k.mark)) → l ≡ counted k.steps (watched rule kind at w)
    unfolding watched
    read_so z l e =
        e ∙ ap (λ (b : Counted). counted b.steps (watch b.watch.carry b.watch.overflow (first_mark true at b.watch.mark))) kept_so
        ∙ rw (sym reads_so ∙ z)

module _ (k : Counter) (rule : FlagRule) (kind at : ℕ) where
  abbrev done_so : Counted → Type 0
  done_so l = l ≡ count done (watched rule kind at) (tally k)

  -- an instruction that is watched, and one that need not be
  pub counted_so : (l : Counted) → l ≡ counted (k.steps + 1) (watched rule kind at (tally k).watch) → done_so l
  unfolding count
  counted_so l e = e ∙ ap (λ n. counted n (watched rule kind at (tally k).watch)) (omega arith)

  pub unwatched_so : ((w : Watch) → watched rule kind at w ≡ w) → done_so (counted (k.steps + 1) (tally k).watch)
  unwatched_so same = counted_so _ (ap (counted (k.steps + 1)) (sym (same (tally k).watch)))

  -- one that sets both
  pub set_so : SetsFlags kind → done_so (counted (k.steps + 1) (watch_of kind k.mark))
  set_so sets = counted_so _ (ap (counted (k.steps + 1)) (sym (sets rule at k.opened k.mark)))

  -- a comparison
  pub compared_so : is_ocmp kind ≡ true → done_so (counted (k.steps + 1) (watch_of 3 k.mark))
  compared_so h = counted_so _ (ap (counted (k.steps + 1)) (sym (opens_both rule kind at (tally k).watch h)))
