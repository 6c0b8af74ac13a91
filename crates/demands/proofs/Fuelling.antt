-- The claims of request 2026-09: below the least fuel every run is Spent, and from it on up to the cap each is the same, so that the run with the least fuel
-- and the run at the cap have one report. Assumes nothing.
use Prim.Native.Nat.{ℕ, ◌≤◌, ◌<◌}
use mathlib.Core.Path.{◌≡◌, refl, sym, ap, ◌∙◌}
use mathlib.Core.Bool.{Bool, true, false, true≢false}
use mathlib.Core.List.{List}
use mathlib.Core.Option.{Option}
use native.Mathlib.Omega.{arith}
use Rattle.eval.specs.Config.{Env, Config, Outcome, done, fault, stopped, spent, refused}
use Rattle.eval.specs.Counted.{nothing_counted, Ended, ended}
use Rattle.eval.specs.LeastFuel.{is_spent, least_fuel}
use Rattle.eval.proofs.RunLaws.{code_refused}
use Rattle.eval.proofs.RunLaws.{cells_refused as refused_cells}
use Rattle.eval.proofs.LeastLaws.{least_most, least_below, least_is, larger}
use Rattle.least.specs.Report.{least, cap_spent, not_run, Reported, report_of, reported, least_fuel_of}
use Rattle.least.proofs.ReportLaws.{at_cap}
use Rattle.demands.specs.Fuelling.{IsSpent, IsRefused, with_fuel, IsLeast, answered, FuellingOf, Fuelling}

-- ---- what a report says of the outcome
is_place : (o : Outcome) → is_spent o ≡ true → (p : ℕ) × (o ≡ spent p)
unfolding is_spent
is_place done h = (0, cc)
is_place (fault n p) h = (p, cc)
is_place (stopped n p) h = (p, cc)
is_place (spent p) h = (p, refl)
is_place (refused n p) h = (p, cc)

of_spent : (o : Outcome) (p : ℕ) → o ≡ spent p → is_spent o ≡ true
unfolding is_spent
of_spent o p e = ap is_spent e

unspent : (o : Outcome) → ((p : ℕ) × (o ≡ spent p) → ⊥) → is_spent o ≡ false
unspent o n = go (is_spent o) refl
  where
    go : (b : Bool) → is_spent o ≡ b → is_spent o ≡ false
    go true e = absurd (n (is_place o e))
    go false e = e

says_least : (g f : ℕ) (o q : Outcome) → report_of g o ≡ least f q → (g ≡ f) × (o ≡ q) × (is_spent o ≡ false)
unfolding is_spent
says_least g f done q e = (cc, cc, cc)
says_least g f (fault n p) q e = (cc, cc, cc)
says_least g f (stopped n p) q e = (cc, cc, cc)
says_least g f (spent p) q e = (cc, cc, cc)
says_least g f (refused n p) q e = (cc, cc, cc)

says_spent : (g n p : ℕ) (o : Outcome) → report_of g o ≡ cap_spent n p → (n ≡ 61) × (o ≡ spent p)
says_spent g n p done e = (cc, cc)
says_spent g n p (fault m q) e = (cc, cc)
says_spent g n p (stopped m q) e = (cc, cc)
says_spent g n p (spent q) e = (cc, cc)
says_spent g n p (refused m q) e = (cc, cc)

says_refused : (g n p : ℕ) (o : Outcome) → report_of g o ≡ not_run n p → o ≡ refused n p
says_refused g n p done e = cc
says_refused g n p (fault m q) e = cc
says_refused g n p (stopped m q) e = cc
says_refused g n p (spent q) e = cc
says_refused g n p (refused m q) e = cc

-- and what is said of an outcome
is_told : (f : ℕ) (o : Outcome) → ((p : ℕ) × (o ≡ spent p) → ⊥) → ((n : ℕ) × (p : ℕ) × (o ≡ refused n p) → ⊥) → report_of f o ≡ least f o
is_told f done s r = refl
is_told f (fault n p) s r = refl
is_told f (stopped n p) s r = refl
is_told f (spent p) s r = absurd (s (p, refl))
is_told f (refused n p) s r = absurd (r (n, p, refl))

module _ (code : List ℕ) (env : Env) (limit : Option ℕ) (s : Config) (cap : ℕ) where
  abbrev run : ℕ → Ended
  run = with_fuel code env limit s

  abbrev it : Reported
  it = answered code env limit s cap

  -- the report is that of the run with the least fuel, and that of the run at the cap
  tried : it ≡ reported (least_fuel run cap) (run (least_fuel run cap))
  unfolding least_fuel_of
  tried = refl

  here : it ≡ reported (least_fuel run cap) (run cap)
  here = at_cap code env cap limit s

  -- a fuel is reported
  module _ (f : ℕ) (o : Outcome) (e : it.how ≡ least f o) where
    says : (least_fuel run cap ≡ f) × ((run f).end.how ≡ o) × (is_spent (run f).end.how ≡ false)
    says =
        let told = ap (λ (r : Reported). r.how) (sym tried) ∙ e in
        let w = says_least (least_fuel run cap) f (run (least_fuel run cap)).end.how o told in
        let same = ap (λ g. (run g).end.how) (sym w.0) in
        (w.0, same ∙ w.1, ap is_spent same ∙ w.2)

    is_least : IsLeast code env limit s cap f
    is_least =
        let w = says in
        record {
          at_most = omega (arith, w.0, least_most run cap);
          not_spent = λ z. true≢false (sym (of_spent _ z.0 z.1) ∙ w.2);
          below = λ g l. is_place _ (least_below run cap g (omega (arith, l, w.0)));
        }

    its_end : run f ≡ ended o it.config it.counted
    its_end =
        let w = says in
        let x = run f in
        ap (λ (y : Outcome). ended y x.end.config x.counted) w.1
        ∙ ap (λ (r : Reported). ended o r.config r.counted) (sym (tried ∙ ap (λ g. reported g (run g)) w.0))

  -- it is the least
  module _ (f : ℕ) (w : IsLeast code env limit s cap f) where
    needed : least_fuel run cap ≡ f
    needed = least_is run cap f w.at_most (λ g l. let p = w.below g l in of_spent _ p.0 p.1) (λ _. unspent _ w.not_spent)

    above : (g : ℕ) → f ≤ g → run g ≡ run f
    above g le = larger code env limit s f g le (unspent _ w.not_spent)

    reports : (IsRefused (run f) → ⊥) → it.how ≡ least f (run f).end.how
    reports r =
        ap (λ (x : Reported). x.how) (tried ∙ ap (λ g. reported g (run g)) needed) ∙ is_told f (run f).end.how w.not_spent r

  -- the run at the cap is spent, or refused
  how_here : it.how ≡ report_of (least_fuel run cap) (run cap).end.how
  how_here = ap (λ (x : Reported). x.how) here

  refused_so : (n p : ℕ) → ended (refused n p) s nothing_counted ≡ run cap → it ≡ record { how = not_run n p; config = s; counted = nothing_counted }
  refused_so n p e = here ∙ ap (reported (least_fuel run cap)) (sym e)

  needed_all : IsSpent (run cap) → least_fuel run cap ≡ cap
  needed_all z = least_is run cap cap (omega arith) (λ g l. spent_below g l (is_spent (run g).end.how) refl) (λ l. absurd (omega (arith, l)))
    where
      spent_below : (g : ℕ) → g < cap → (b : Bool) → is_spent (run g).end.how ≡ b → is_spent (run g).end.how ≡ true
      spent_below g l true e = e
      spent_below g l false e =
          let same = larger code env limit s g cap (omega (arith, l)) e in
          sym (ap (λ (x : Ended). is_spent x.end.how) same) ∙ of_spent _ z.0 z.1

module _ (code : List ℕ) (env : Env) (limit : Option ℕ) (s : Config) (cap : ℕ) where
  larger_cap : (more : ℕ) → cap ≤ more → (f : ℕ) (o : Outcome) → (it code env limit s cap).how ≡ least f o → it code env limit s more ≡ it code env limit s cap
  larger_cap more le f o e =
      let w = is_least code env limit s cap f o e in
      let v : IsLeast code env limit s more f = record { at_most = omega (arith, w.at_most, le); not_spent = w.not_spent; below = w.below } in
      let same = needed code env limit s more f v ∙ sym (needed code env limit s cap f w) in
      tried code env limit s more ∙ ap (λ g. reported g (with_fuel code env limit s g)) same ∙ sym (tried code env limit s cap)

  each : FuellingOf code env limit s cap
  each =
      let run = with_fuel code env limit s in
      let how_here = how_here code env limit s cap in
      let here = here code env limit s cap in
      record {
        is_least = is_least code env limit s cap;
        its_end = its_end code env limit s cap;
        above = above code env limit s cap;
        reports = reports code env limit s cap;
        is_61 = λ n p e. says_spent _ n p _ (sym how_here ∙ e);
        spent_61 = λ p e. how_here ∙ ap (report_of (least_fuel run cap)) e;
        at_cap = (ap (λ (x : Reported). x.config) here, ap (λ (x : Reported). x.counted) here);
        bad_code = λ n p e. refused_so code env limit s cap n p (code_refused code env cap limit s n p e);
        bad_cells = λ n i e k. refused_so code env limit s cap n i (refused_cells code env cap limit s e n i k);
        refuses = λ n p e. says_refused _ n p _ (sym how_here ∙ e);
        larger_cap = larger_cap;
        needed = needed code env limit s cap;
        needed_all = needed_all code env limit s cap;
      }

pub fuelling : Fuelling
fuelling = record { each = each }
