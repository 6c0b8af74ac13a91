-- How much fuel a run needed, from what less fuel would have done: all of it but what every loop test had to spare. With less than that it is spent, and
-- with as much it ends as it did. Assumes nothing.
use Prim.Native.Nat.{ℕ, ◌+◌, ◌-◌, ◌≤◌, ◌<◌}
use mathlib.Core.Path.{◌≡◌, refl, sym, ap, subst, ◌∙◌}
use mathlib.Core.Bool.{Bool, true, false, cond}
use mathlib.Core.List.{List}
use mathlib.Core.Option.{Option}
use mathlib.Core.Logic.{⊎_elim}
use native.Mathlib.Omega.{arith}
use lib.Dec.{eqb}
use lib.ListN.{length}
use Rattle.machine.specs.Cells.{accepted, verdict, check_cells}
use Rattle.std.specs.Prelude.{Result, Ok, Err}
use Rattle.machine.specs.Continuing.{and_then}
use Rattle.machine.specs.Rules.{rule_number}
use Rattle.machine.specs.declared.refusal.Refusal.{Refusal}
use Rattle.code.specs.Reader.{check_code}
use Rattle.eval.specs.FlagRule.{FlagRule}
use Rattle.eval.specs.Config.{Env, Config, fault, stopped, spent, refused}
use Rattle.eval.specs.Watch.{nothing_open}
use Rattle.eval.specs.Counted.{Counted, nothing_counted, Ended, ended}
use Rattle.eval.specs.Running.{run_of}
use Rattle.eval.specs.LeastFuel.{is_spent, least_fuel}
use Rattle.eval.specs.Promises.{environment, how, ends_spent, RunsAll, SpendsAll, LessFuel}
use Rattle.eval.specs.Promises.{Exit}
use Rattle.eval.proofs.LeastLaws.{below_or_not, least_is}
use Rattle.eval.proofs.RunLaws.{run_ran, run_spends}
use Rattle.eval.proofs.Asked.{refused_run}

-- a run that is refused needs none
refused_needs : (run : ℕ → Ended) (cap n p : ℕ) (s : Config) (k : Counted) → ended (refused n p) s k ≡ run 0 → 0 ≡ least_fuel run cap
unfolding is_spent
refused_needs run cap n p s k e =
    sym (least_is run cap 0 (omega arith) (λ g m. absurd (omega (arith, m))) (λ _. ap (λ (x : Ended). is_spent x.end.how) (sym e)))

module _ (bs addresses tags : List ℕ) (fill : ℕ) (rule : FlagRule) (fuel : ℕ) (limit : Option ℕ) (s : Config) (v : Result Unit Refusal)
    (is : verdict v ≡ and_then (check_code bs) (check_cells addresses tags s.values)) where
  abbrev runs : ℕ → Ended
  runs f = run_of bs (environment addresses tags fill rule) f limit s

  pub refused_run_needs : (y : Refusal) → v ≡ Err y → 0 ≡ least_fuel runs fuel
  refused_run_needs y e =
      refused_needs runs fuel (rule_number y.rule) y.place s nothing_counted
      (refused_run bs addresses tags fill rule 0 limit s v is y e nothing_open refl)

-- which exits are spent
spent_how : (r : Exit) → is_spent (how r) ≡ ends_spent r
unfolding is_spent
spent_how (Ok p) = refl
spent_how (Err st) = go (eqb st.number 1) (eqb st.number 37) st.number st.place
  where
    go : (b c : Bool) (n p : ℕ) → is_spent (cond b (spent p) (cond c (stopped n p) (fault n p))) ≡ b
    go true c n p = refl
    go false true n p = refl
    go false false n p = refl

module _ (bs : List ℕ) (env : Env) (fuel : ℕ) (limit : Option ℕ) (s : Config) (here : check_code bs ≡ accepted)
    (cells : check_cells env.addresses env.tags s.values ≡ accepted) (r : Exit) (t : Config) (l : Counted) (was is : ℕ)
    (less : LessFuel (λ e. RunsAll env limit bs 0 (length bs) (fuel - e) s nothing_counted r t l)
    (λ e. SpendsAll env limit bs 0 (length bs) (fuel - e) s nothing_counted) was is) (whole : was ≡ fuel + 1) where
  abbrev run : ℕ → Ended
  run f = run_of bs env f limit s

  -- with a fuel that is enough the run is spent exactly where it was, and with one that is not it is
  at_least : (f : ℕ) → f ≤ fuel → fuel - f < is → is_spent (run f).end.how ≡ is_spent (how r)
  at_least f b m =
      let back : fuel - (fuel - f) ≡ f = omega (arith, b) in
      let ran = subst (λ g. RunsAll env limit bs 0 (length bs) g s nothing_counted r t l) back (less.same (fuel - f) m) in
      ap (λ (x : Ended). is_spent x.end.how) (sym (run_ran bs env f limit s here cells r t l ran (how r) refl))

  too_little : (f : ℕ) → f ≤ fuel → is ≤ fuel - f → is_spent (run f).end.how ≡ true
  too_little f b m =
      let back : fuel - (fuel - f) ≡ f = omega (arith, b) in
      run_spends bs env f limit s here cells
      (subst (λ g. SpendsAll env limit bs 0 (length bs) g s nothing_counted) back (less.spent (fuel - f) m (omega (arith, whole))))

  pub needed_is : (n : ℕ) → n ≡ cond (ends_spent r) fuel (fuel + 1 - is) → n ≡ least_fuel run fuel
  needed_is n e = go (ends_spent r) refl e
    where
      go : (b : Bool) → ends_spent r ≡ b → n ≡ cond b fuel (fuel + 1 - is) → n ≡ least_fuel run fuel
      go true h e =
          let all : (g : ℕ) → g < n → is_spent (run g).end.how ≡ true =
          λ g m.
          let b : g ≤ fuel = omega (arith, m, e) in
          ⊎_elim (λ k. at_least g b k ∙ (spent_how r ∙ h)) (too_little g b) (below_or_not (fuel - g) is)
          in
          sym (least_is run fuel n (omega (arith, e)) all (λ m. absurd (omega (arith, m, e))))
      go false h e =
          let some = less.some (omega (arith, whole)) in
          sym (least_is run fuel n (omega (arith, e, some)) (λ g m. too_little g (omega (arith, m, e, some)) (omega (arith, m, e, some)))
          (λ m. at_least n (omega (arith, m)) (omega (arith, e, some)) ∙ (spent_how r ∙ h)))
