-- What less fuel would have done. Only a While looks at fuel, and the least with which one was tested is kept: with less by as much that test finds none.
-- So with less fuel one part of a run and then the next go the same way, as long as the tests of both find some. Assumes nothing.
use Prim.Native.Nat.{ℕ, ◌+◌, ◌-◌, ◌≤◌, ◌<◌}
use mathlib.Core.Path.{◌≡◌, refl}
use mathlib.Core.Bool.{Bool, true, false, true≢false}
use mathlib.Core.List.{List}
use mathlib.Core.Option.{Option}
use mathlib.Core.Logic.{⊎_elim}
use native.Mathlib.Omega.{arith}
use lib.Dec.{eqb}
use lib.ListN.{length}
use Rattle.code.specs.Records.{byte_at}
use Rattle.eval.specs.Config.{Env, Config, with_flags}
use Rattle.eval.specs.Counted.{Counted}
use Rattle.eval.specs.Promises.{StepsIns, DecidesAt, CodeAt, CodesAt, test_at, part_fuel, way_from, Runs, RunsAll, Spends, SpendsAll, tested_with, LessFuel}
use Rattle.eval.specs.Promises.{Exit}
use Rattle.std.specs.Prelude.{Ok, Err}
use Rattle.eval.specs.declared.exit.Stop.{Stop}
use Rattle.eval.specs.Promises.{Compared}
use Rattle.eval.specs.declared.cycle.Way.{Way}
use Rattle.eval.proofs.LeastLaws.{below_or_not}
use Rattle.eval.proofs.InstructionLaws.{exit}
use Rattle.eval.proofs.CycleLaws.{ins_ran, Going, going_starts, block_goes, codes_go, codes_stop, codes_spend, codes_done, spends_of}
use Rattle.eval.proofs.Asked.{Testing, testing_starts, turns_spent, turn_stopped, turns_over, Turn, Taken, taken_spends, taken_stops, taken_done, taken_goes}

-- nothing was tested
less_none : {P Q : ℕ → Type 0} {was is : ℕ} → is ≡ was → ((e : ℕ) → P e) → LessFuel P Q was is
less_none z h =
    record { most = omega (arith, z); some = λ l. omega (arith, z, l); same = λ e _. h e; spent = λ e l m. absurd (omega (arith, z, l, m)) }

-- with what follows in place of what goes the same way
less_map : {P Q R : ℕ → Type 0} {was is : ℕ} → ((e : ℕ) → P e → R e) → LessFuel P Q was is → LessFuel R Q was is
less_map f w = record { most = w.most; some = w.some; same = λ e l. f e (w.same e l); spent = w.spent }

-- one part, and then the next
less_then :
    {P Q R S T : ℕ → Type 0} {was mid is : ℕ} →
    ((e : ℕ) → P e → R e → T e) → ((e : ℕ) → P e → S e → Q e) → LessFuel P Q was mid → LessFuel R S mid is → LessFuel T Q was is
less_then {Q = Q} {mid = mid} f g w v =
    record {
      most = omega (arith, w.most, v.most);
      some = λ l. v.some (w.some l);
      same = λ e l. f e (w.same e (omega (arith, l, v.most))) (v.same e l);
      spent = λ e l m. ⊎_elim (λ n. g e (w.same e n) (v.spent e l n)) (λ n. w.spent e n m) (below_or_not e mid);
    }

-- where a round begins, a While tests its fuel
less_tested :
    {P Q : ℕ → Type 0} {was mid is : ℕ} (chooses : Bool) (left : ℕ) → (chooses ≡ false → left ≡ 0 → ⊥) → is ≡ tested_with chooses left mid →
    ((e : ℕ) → P e → chooses ≡ false → left - e ≡ 0 → Q e) → LessFuel P Q was mid →
    LessFuel (λ e. P e × (chooses ≡ false → left - e ≡ 0 → ⊥)) Q was is
less_tested true left some z out w =
    record {
      most = omega (arith, w.most, z);
      some = λ l. let m = w.some l in omega (arith, m, z);
      same = λ e l. (w.same e (omega (arith, l, z)), λ h _. absurd (true≢false h));
      spent = λ e l m. w.spent e (omega (arith, l, z)) m;
    }
less_tested {mid = mid} false left some z out w =
    record {
      most = omega (arith, w.most, z);
      some = λ l. let m = w.some l in let n = some refl in omega (arith, m, n, z);
      same = λ e l. (w.same e (omega (arith, l, z)), λ _ h. omega (arith, l, z, h));
      spent = λ e l m. ⊎_elim (λ n. out e (w.same e n) refl (omega (arith, l, z, n))) (λ n. w.spent e n m) (below_or_not e mid);
    }

-- ---- what has ended
-- a list of codes, with less fuel
abbrev AllLess : Env → Option ℕ → List ℕ → ℕ → ℕ → ℕ → Config → Counted → ℕ → Exit → Config → Counted → ℕ → Type 0
AllLess env limit bs from e fuel s k was r t l is =
    LessFuel (λ d. RunsAll env limit bs from e (fuel - d) s k r t l) (λ d. SpendsAll env limit bs from e (fuel - d) s k) was is

-- one code
abbrev OneLess : Env → Option ℕ → List ℕ → ℕ → ℕ → Config → Counted → ℕ → Exit → Config → Counted → ℕ → Type 0
OneLess env limit bs at fuel s k was r t l is =
    LessFuel (λ d. Runs env limit bs at (fuel - d) s k r t l) (λ d. Spends env limit bs at (fuel - d) s k) was is

-- ---- a list of codes: what holds at the head of the loop over them
pub record GoingLess (env : Env) (limit : Option ℕ) (bs : List ℕ) (from e fuel : ℕ) (s₀ : Config) (k₀ : Counted) (was at : ℕ) (s : Config) (k : Counted)
    (is : ℕ) : Type 0 where
  pub less : LessFuel (λ d. Going env limit bs from e (fuel - d) s₀ k₀ at s k) (λ d. SpendsAll env limit bs from e (fuel - d) s₀ k₀) was is

pub going_starts_less :
    (env : Env) (limit : Option ℕ) (bs : List ℕ) (from e fuel : ℕ) (s : Config) (k : Counted) (was : ℕ) → CodesAt bs from e →
    GoingLess env limit bs from e fuel s k was from s k was
going_starts_less env limit bs from e fuel s k was w = record { less = less_none refl (λ d. going_starts env limit bs from e (fuel - d) s k w) }

module _ {env : Env} {limit : Option ℕ} {bs : List ℕ} {from e fuel : ℕ} {s₀ : Config} {k₀ : Counted} {was at : ℕ} {s : Config} {k : Counted} {mid : ℕ}
    (g : GoingLess env limit bs from e fuel s₀ k₀ was at s k mid) where
  pub codes_done_less : e ≤ at → AllLess env limit bs from e fuel s₀ k₀ was (Ok e) s k mid
  codes_done_less l = less_map (λ d w. codes_done env limit bs from e (fuel - d) s₀ k₀ at s k w l) g.less

  pub block_goes_less : byte_at bs at ≡ 0x20 → at < e → GoingLess env limit bs from e fuel s₀ k₀ was (at + 5) s k mid
  block_goes_less kind inside =
      record { less = less_map (λ d w. block_goes env limit bs from e (fuel - d) s₀ k₀ at s k w kind inside) g.less }

  module _ (inside : at < e) {r : Exit} {t : Config} {l : Counted} {is : ℕ} where
    -- the code that is next has ended
    module _ (ran : OneLess env limit bs at fuel s k mid r t l is) where
      pub codes_go_less : (q : ℕ) → r ≡ Ok q → length t.values ≡ length s.values → GoingLess env limit bs from e fuel s₀ k₀ was q t l is
      codes_go_less q z v = record {
        less =
            less_then (λ d w x. codes_go env limit bs from e (fuel - d) s₀ k₀ at s k w r t l x inside q z v)
            (λ d w out. codes_spend env limit bs from e (fuel - d) s₀ k₀ at s k w inside out) g.less ran;
      }

      pub codes_stop_less : (st : Stop) → r ≡ Err st → AllLess env limit bs from e fuel s₀ k₀ was (Err st) t l is
      codes_stop_less st z =
          less_then (λ d w x. codes_stop env limit bs from e (fuel - d) s₀ k₀ at s k w r t l x inside st z)
          (λ d w out. codes_spend env limit bs from e (fuel - d) s₀ k₀ at s k w inside out) g.less ran

    -- it is an instruction, which tests nothing
    module _ (kind : byte_at bs at < 0x20) (ran : StepsIns env limit bs at s k r t l) (none : is ≡ mid) where
      ins_less : OneLess env limit bs at fuel s k mid r t l is
      ins_less = less_none none (λ d. ins_ran env limit bs at (fuel - d) s k r t l kind ran)

      pub ins_goes_less : (q : ℕ) → r ≡ Ok q → length t.values ≡ length s.values → GoingLess env limit bs from e fuel s₀ k₀ was q t l is
      ins_goes_less = codes_go_less ins_less

      pub ins_stops_less : (st : Stop) → r ≡ Err st → AllLess env limit bs from e fuel s₀ k₀ was (Err st) t l is
      ins_stops_less = codes_stop_less ins_less

-- ---- an IfElse or a While: what holds at the head of the loop over rounds
pub record TestingLess (env : Env) (limit : Option ℕ) (bs : List ℕ) (at fuel : ℕ) (s₀ : Config) (k₀ : Counted) (was : ℕ) (chooses : Bool) (test left : ℕ)
    (s : Config) (k : Counted) (is : ℕ) : Type 0 where
  pub less : LessFuel (λ e. Testing env limit bs at (fuel - e) s₀ k₀ chooses test (left - e) s k) (λ e. Spends env limit bs at (fuel - e) s₀ k₀) was is

-- and where a round has begun, with its fuel tested
pub record BegunLess (env : Env) (limit : Option ℕ) (bs : List ℕ) (at fuel : ℕ) (s₀ : Config) (k₀ : Counted) (was : ℕ) (chooses : Bool) (test left : ℕ)
    (s : Config) (k : Counted) (is : ℕ) : Type 0 where
  pub less :
      LessFuel (λ e. Testing env limit bs at (fuel - e) s₀ k₀ chooses test (left - e) s k × (chooses ≡ false → left - e ≡ 0 → ⊥))
      (λ e. Spends env limit bs at (fuel - e) s₀ k₀) was is

pub testing_starts_less :
    (env : Env) (limit : Option ℕ) (bs : List ℕ) (at fuel : ℕ) (s : Config) (k : Counted) (was test : ℕ) →
    CodeAt bs at → 0x21 ≤ byte_at bs at → test ≡ test_at at (eqb (byte_at bs at) 0x21) →
    TestingLess env limit bs at fuel s k was (eqb (byte_at bs at) 0x21) test fuel s k was
testing_starts_less env limit bs at fuel s k was test c kind is =
    record { less = less_none refl (λ e. testing_starts env limit bs at (fuel - e) s k test c kind is) }

module _ {env : Env} {limit : Option ℕ} {bs : List ℕ} {at fuel : ℕ} {s₀ : Config} {k₀ : Counted} {was : ℕ} {chooses : Bool} {test left : ℕ} {s : Config}
    {k : Counted} {mid : ℕ} where
  module _ (w : TestingLess env limit bs at fuel s₀ k₀ was chooses test left s k mid) where
    none_left :
        (e : ℕ) → Testing env limit bs at (fuel - e) s₀ k₀ chooses test (left - e) s k → chooses ≡ false → left - e ≡ 0 →
        Runs env limit bs at (fuel - e) s₀ k₀ (exit 1 at) s k
    none_left e v c z = turns_spent env limit bs at (fuel - e) s₀ k₀ test (left - e) s k chooses v c z

    pub turns_spent_less : chooses ≡ false → left ≡ 0 → OneLess env limit bs at fuel s₀ k₀ was (exit 1 at) s k mid
    turns_spent_less c z = less_map (λ e v. none_left e v c (omega (arith, z))) w.less

    pub begins_less :
        {is : ℕ} → (chooses ≡ false → left ≡ 0 → ⊥) → is ≡ tested_with chooses left mid →
        BegunLess env limit bs at fuel s₀ k₀ was chooses test left s k is
    begins_less some z =
        record { less = less_tested chooses left some z (λ e v c h. spends_of env limit bs at (fuel - e) s₀ k₀ s k (none_left e v c h)) w.less }

  module _ (w : BegunLess env limit bs at fuel s₀ k₀ was chooses test left s k mid) where
    module _ (x : Compared) (j : Counted) (compared : DecidesAt env limit bs test s k x j) where
      pub turn_stopped_less : 1 < x.how → OneLess env limit bs at fuel s₀ k₀ was (exit x.how test) s j mid
      turn_stopped_less h =
          less_map (λ e v. turn_stopped env limit bs at (fuel - e) s₀ k₀ test (left - e) s k x j chooses v.0 v.1 compared h) w.less

      pub turns_over_less :
          (way : Way) → way ≡ way_from bs at chooses x → x.how ≡ 0 → chooses ≡ false →
          OneLess env limit bs at fuel s₀ k₀ was (Ok way.end) (with_flags env.fill s) j mid
      turns_over_less way is z c =
          less_map (λ e v. turns_over env limit bs at (fuel - e) s₀ k₀ test (left - e) s k x j chooses v.0 v.1 compared way is z c) w.less

    -- its part
    module _ {m : ℕ} {x : Compared} {j : Counted} {way : Way} {p given : ℕ} (v : Taken env limit bs at fuel m s₀ k₀ test left s k x j way chooses p given) where
      abbrev TakenWith : ℕ → Type 0
      TakenWith e = Taken env limit bs at (fuel - e) (fuel - e + (length bs - (at + 1))) s₀ k₀ test (left - e) s k x j way chooses p (given - e)

      given_less : (e : ℕ) (b : Bool) → given ≡ part_fuel b left → given - e ≡ part_fuel b (left - e)
      given_less e true h = omega (arith, h)
      given_less e false h = omega (arith, h)

      taken_with : (e : ℕ) → Testing env limit bs at (fuel - e) s₀ k₀ chooses test (left - e) s k × (chooses ≡ false → left - e ≡ 0 → ⊥) → TakenWith e
      taken_with e u =
          let r = v.turn in
          let turn : Turn env limit bs at (fuel - e) (fuel - e + (length bs - (at + 1))) s₀ k₀ test (left - e) s k x j way chooses = record {
            head = u.0;
            some_fuel = u.1;
            compared = r.compared;
            read = r.read;
            holds = r.holds;
            way_is = r.way_is;
            long = r.long;
            measured = refl;
          } in
          record { turn = turn; begins = v.begins; fuel_is = given_less e chooses v.fuel_is }

      -- it has ended
      module _ {r : Exit} {t : Config} {l : Counted} {is : ℕ} (ran : AllLess env limit bs p way.behind given (with_flags env.fill s) j mid r t l is) where
        behind_part :
            {R : ℕ → Type 0} →
            ((e : ℕ) → TakenWith e → RunsAll env limit bs p way.behind (given - e) (with_flags env.fill s) j r t l → R e) →
            LessFuel R (λ e. Spends env limit bs at (fuel - e) s₀ k₀) was is
        behind_part f =
            less_then f (λ e u out. taken_spends env limit bs at (fuel - e) _ s₀ k₀ test (left - e) s k x j way p (given - e) chooses u out)
            (less_map taken_with w.less) ran

        pub taken_stops_less : (st : Stop) → r ≡ Err st → OneLess env limit bs at fuel s₀ k₀ was (Err st) t l is
        taken_stops_less st h =
            behind_part (λ e u ran. taken_stops env limit bs at (fuel - e) _ s₀ k₀ test (left - e) s k x j way p (given - e) r t l ran chooses u st h)

        pub taken_done_less : chooses ≡ true → (q : ℕ) → r ≡ Ok q → OneLess env limit bs at fuel s₀ k₀ was (Ok way.end) t l is
        taken_done_less c q h =
            behind_part (λ e u ran. taken_done env limit bs at (fuel - e) _ s₀ k₀ test (left - e) s k x j way p (given - e) r t l ran chooses u c q h)

        pub taken_goes_less :
            chooses ≡ false → (q : ℕ) → r ≡ Ok q → length t.values ≡ length s.values →
            TestingLess env limit bs at fuel s₀ k₀ was chooses test given t l is
        taken_goes_less c q h long = record {
          less =
              behind_part (λ e u ran. taken_goes env limit bs at (fuel - e) _ s₀ k₀ test (left - e) s k x j way p (given - e) r t l ran chooses u c q h long);
        }
