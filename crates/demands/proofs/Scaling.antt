-- The claims of request 2026-08: one record by its four tests in a row, and the rest by the laws of reading, running and building.
use Prim.Native.Nat.{ℕ, ◌+◌, ◌≤◌, ◌<◌}
use mathlib.Core.Path.{◌≡◌, refl, ap}
use mathlib.Core.Bool.{Bool, true, false, not}
use mathlib.Core.List.{List}
use mathlib.Core.Option.{Option}
use native.Mathlib.Omega.{arith}
use borrow.Author.Tests.{ltb-false, le-ltb, lt-leb, not-false}
use lib.Dec.{ltb}
use lib.ListN.{length}
use Rattle.machine.specs.Cells.{accepted, refused as check_refused}
use Rattle.machine.specs.Operands.{is_scale}
use Rattle.code.specs.Tree.{Code}
use Rattle.code.specs.Records.{body_length, judged_fields, byte_at, signed_at, behind}
use Rattle.code.specs.Reader.{Read, got, trouble, unless, with_fields, read_record, verdict_of, check_code}
use Rattle.code.specs.WellFormed.{WfCode}
use Rattle.code.specs.Spells.{Nests}
use Rattle.code.specs.Writer.{bytes_of_code}
use Rattle.code.proofs.Passing.{clash, never}
use Rattle.code.proofs.Reading.{reading, writing}
use Rattle.built.specs.Claims.{Exactly}
use Rattle.built.proofs.Judging.{three, four}
use Rattle.built.proofs.Calling.{judged}
use Rattle.eval.specs.Config.{Env, Config, refused}
use Rattle.eval.specs.Counted.{nothing_counted, ended}
use Rattle.eval.specs.Running.{run_read, run_of}
use Rattle.demands.specs.Scaling.{reads, InOrder, Scaling}
use Rattle.demands.proofs.Sevens.{parse_seven}
use Rattle.demands.proofs.AsChecked.{as_checked}

-- ---- one test, which fails where P does not hold: its trouble, and what follows
module _ {P : Type 0} {k : Read (Unit {0})} (n p : ℕ) where
  -- its trouble exactly where P does not hold
  here : (t : Bool) → Exactly (t ≡ false) P → (k ≡ trouble n p → ⊥) → Exactly (unless t n p k ≡ trouble n p) (P → ⊥)
  here true is h = (λ e x. never (is.1 x), λ f. refl)
  here false is h = (λ e. absurd (h e), λ f. absurd (f (is.0 refl)))

  -- anything else exactly where P holds and what follows says so
  there : (t : Bool) → Exactly (t ≡ false) P → {A : Type 0} {r : Read (Unit {0})}
      → (trouble n p ≡ r → ⊥) → Exactly (k ≡ r) A → Exactly (unless t n p k ≡ r) (P × A)
  there true is h f = (λ e. absurd (h e), λ w. absurd (never (is.1 w.0)))
  there false is h f = (λ e. (is.0 refl, f.0 e), λ w. f.1 w.1)

  -- what stands behind the last test exactly where P holds
  last : (t : Bool) → Exactly (t ≡ false) P → (trouble n p ≡ k → ⊥) → Exactly (unless t n p k ≡ k) P
  last true is h = (λ e. absurd (h e), λ x. absurd (never (is.1 x)))
  last false is h = (λ e. is.0 refl, λ x. refl)

at_most : (a b : ℕ) → Exactly (ltb b a ≡ false) (a ≤ b)
at_most a b = (ltb-false b a, le-ltb b a)

is_right : (b : Bool) → Exactly (not b ≡ false) (b ≡ true)
is_right b = (not-false b, λ e. rw e refl)

-- troubles that differ in number or in place, and no trouble
apart : {A : Type 0} (n p m q : ℕ) → (n ≡ m → p ≡ q → ⊥) → ◌≡◌ {A = Read A} (trouble n p) (trouble m q) → ⊥
apart n p m q h e = h (cc) (cc)

not_got : {A : Type 0} (n p : ℕ) (a : A) (m : ℕ) → trouble n p ≡ got a m → ⊥
not_got n p a m e = clash (cc)

got_not : {A : Type 0} (n p : ℕ) (a : A) (m : ℕ) → got a m ≡ trouble n p → ⊥
got_not n p a m e = clash (cc)

neither : (t : Bool) (n p : ℕ) (k : Read (Unit {0})) {r : Read (Unit {0})} → (trouble n p ≡ r → ⊥) → (k ≡ r → ⊥) → unless t n p k ≡ r → ⊥
neither true n p k h j e = h e
neither false n p k h j e = j e

-- ---- the record of an MIndex
module _ (bs : List ℕ) (at e : ℕ) (k : byte_at bs at ≡ 0x44) (l : at < e) where
  -- its four tests
  abbrev over : Bool
  over = ltb e (at + 13)

  abbrev bad_base : Bool
  bad_base = ltb 15 (byte_at bs (at + 1))

  abbrev bad_scale : Bool
  bad_scale = not (is_scale (signed_at 2 bs (at + 2)))

  abbrev bad_index : Bool
  bad_index = ltb 15 (byte_at bs (at + 4))

  -- and what follows each but the first
  abbrev if_all : Read (Unit {0})
  if_all = got tt (at + 13)

  abbrev if_scale : Read (Unit {0})
  if_scale = unless bad_index 4 (at + 4) if_all

  abbrev if_base : Read (Unit {0})
  if_base = unless bad_scale 7 (at + 2) if_scale

  abbrev if_whole : Read (Unit {0})
  if_whole = unless bad_base 4 (at + 1) if_base

  opened : reads bs at e ≡ unless over 3 at if_whole
  unfolding read_record with_fields behind body_length judged_fields
  opened = let a : at + 1 + 12 ≡ at + 13 = omega arith in rw (lt-leb e at l, k, a) refl

  is_whole : Exactly (over ≡ false) (at + 13 ≤ e)
  is_whole = at_most (at + 13) e

  is_base : Exactly (bad_base ≡ false) (byte_at bs (at + 1) ≤ 15)
  is_base = at_most (byte_at bs (at + 1)) 15

  is_scaled : Exactly (bad_scale ≡ false) (is_scale (signed_at 2 bs (at + 2)) ≡ true)
  is_scaled = is_right (is_scale (signed_at 2 bs (at + 2)))

  is_index : Exactly (bad_index ≡ false) (byte_at bs (at + 4) ≤ 15)
  is_index = at_most (byte_at bs (at + 4)) 15

  module _ (n p : ℕ) where
    -- a trouble that is none of those behind
    no_index : (4 ≡ n → at + 4 ≡ p → ⊥) → if_scale ≡ trouble n p → ⊥
    no_index h = neither bad_index 4 (at + 4) if_all (apart 4 (at + 4) n p h) (got_not n p tt (at + 13))

    no_scale : (7 ≡ n → at + 2 ≡ p → ⊥) → (4 ≡ n → at + 4 ≡ p → ⊥) → if_base ≡ trouble n p → ⊥
    no_scale g h = neither bad_scale 7 (at + 2) if_scale (apart 7 (at + 2) n p g) (no_index h)

    no_base : (4 ≡ n → at + 1 ≡ p → ⊥) → (7 ≡ n → at + 2 ≡ p → ⊥) → (4 ≡ n → at + 4 ≡ p → ⊥) → if_whole ≡ trouble n p → ⊥
    no_base f g h = neither bad_base 4 (at + 1) if_base (apart 4 (at + 1) n p f) (no_scale g h)

  in_order : InOrder bs at e
  in_order =
      record {
        cut_short = rw opened (here 3 at over is_whole (no_base 3 at (λ x y. omega arith) (λ x y. omega arith) (λ x y. omega arith)));
        base =
            rw opened
            (there 3 at over is_whole (apart 3 at 4 (at + 1) (λ x y. omega arith))
            (here 4 (at + 1) bad_base is_base (no_scale 4 (at + 1) (λ x y. omega arith) (λ x y. omega arith))));
        scale =
            rw opened
            (three
            (there 3 at over is_whole (apart 3 at 7 (at + 2) (λ x y. omega arith))
            (there 4 (at + 1) bad_base is_base (apart 4 (at + 1) 7 (at + 2) (λ x y. omega arith))
            (here 7 (at + 2) bad_scale is_scaled (no_index 7 (at + 2) (λ x y. omega arith))))));
        index =
            rw opened
            (four
            (there 3 at over is_whole (apart 3 at 4 (at + 4) (λ x y. omega arith))
            (there 4 (at + 1) bad_base is_base (apart 4 (at + 1) 4 (at + 4) (λ x y. omega arith))
            (there 7 (at + 2) bad_scale is_scaled (apart 7 (at + 2) 4 (at + 4) (λ x y. omega arith))
            (here 4 (at + 4) bad_index is_index (got_not 4 (at + 4) tt (at + 13)))))));
        none =
            rw opened
            (four
            (there 3 at over is_whole (not_got 3 at tt (at + 13))
            (there 4 (at + 1) bad_base is_base (not_got 4 (at + 1) tt (at + 13))
            (there 7 (at + 2) bad_scale is_scaled (not_got 7 (at + 2) tt (at + 13))
            (last 4 (at + 4) bad_index is_index (not_got 4 (at + 4) tt (at + 13)))))));
      }

-- ---- a tree with the four scales is written to bytes that are accepted
none_lost : (c : Code) → WfCode c → Nests c 32 → length (bytes_of_code c) ≤ 16384 → check_code (bytes_of_code c) ≡ accepted
unfolding check_code verdict_of
none_lost c w n l = ap verdict_of ((writing c).read_back_placed w n l)

-- ---- a run is refused where its code is
not_run : (code : List ℕ) (env : Env) (fuel : ℕ) (limit : Option ℕ) (s : Config) (p : ℕ)
    → check_code code ≡ check_refused 7 p → run_of code env fuel limit s ≡ ended (refused 7 p) s nothing_counted
unfolding run_of run_read
not_run code env fuel limit s p h = rw ((reading code).refuses 7 p h) refl

pub scaling : Scaling
scaling =
    record {
      in_order = in_order;
      seven = λ bs p h. parse_seven bs p ((reading bs).refuses 7 p h);
      no_other = λ bs. (reading bs).well_formed;
      none_lost = none_lost;
      not_run = not_run;
      not_built = judged;
      as_checked = as_checked;
    }
