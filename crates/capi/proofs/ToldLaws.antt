-- What a run and a search for the least fuel tell in numbers, with the state handed back in its lent parts, by the evaluation that is named.
use Prim.Native.Nat.{ℕ}
use mathlib.Core.Path.{◌≡◌, refl, sym, ap, subst, ◌∙◌}
use mathlib.Core.List.{List}
use Rattle.machine.specs.declared.State.{State}
use Rattle.eval.specs.Config.{Config, config, Outcome}
use Rattle.eval.specs.Counted.{counted, Ended, ended}
use Rattle.eval.specs.declared.answer.Watch.{Watch}
use Rattle.eval.specs.declared.answer.Setting.{Setting}
use Rattle.eval.specs.declared.answer.Evaluation.{Evaluation}
use Rattle.least.specs.Report.{Report, Reported}
use Rattle.std.proofs.Common.{Option}
use Rattle.capi.specs.Told.{Told, told, told_of, told_report, told_fuel, ToldWatch, watch_numbers, told_watch, Ending, ending, ending_of, LeastEnding, least_ending, least_ending_of, none_given, run_given, least_given, InputGiven}

-- an end in numbers, of what was told and handed back
told_end : {t t' : Told} {s s' : Config} {n : ℕ} {u u' : ToldWatch} → t ≡ t' → s ≡ s' → u ≡ u' → ending t s n u ≡ ending t' s' n u'
told_end {t' = t'} {s = s} {s' = s'} {n = n} {u = u} p q r =
    ap (λ (x : Told). ending x s n u) p ∙ ap (λ (x : Config). ending t' x n u) q ∙ ap (λ (x : ToldWatch). ending t' s' n x) r

handed : {lent state : State} (values : List ℕ) → lent ≡ state → config lent values ≡ config state values
handed values = ap (λ (x : State). config x values)

-- where nothing was run
pub told_nothing :
    {t : Told} {s : Config} {n : ℕ} {u : ToldWatch} → t ≡ told 3 0 0 → n ≡ 0 → u ≡ watch_numbers 0 0 0 → ending t s n u ≡ none_given s
told_nothing {t = t} {s = s} {u = u} p z r = ap (λ (x : ℕ). ending t s x u) z ∙ told_end p refl r

-- that of a run
pub told_run :
    {t : Told} {o : Outcome} {u : ToldWatch} {w : Watch} {lent state : State} {values : List ℕ} {n : ℕ} {e : Ended} →
    t ≡ told_of o → lent ≡ state → u ≡ told_watch w → ended o (config state values) (counted n w) ≡ e →
    ending t (config lent values) n u ≡ ending_of e
told_run {values = values} p q r is = told_end p (handed values q) r ∙ ap ending_of is

-- and that of a search
pub told_search :
    {f : ℕ} {h : Report} {t : Told} {u : ToldWatch} {w : Watch} {lent state : State} {values : List ℕ} {n : ℕ} {e : Reported} →
    f ≡ told_fuel h → t ≡ told_report h → lent ≡ state → u ≡ told_watch w →
    record { how = h; config = config state values; counted = counted n w } ≡ e →
    least_ending f (ending t (config lent values) n u) ≡ least_ending_of e
told_search {h = h} {t = t} {u = u} {lent = lent} {values = values} {n = n} z p q r is =
    ap (λ (x : ℕ). least_ending x (ending t (config lent values) n u)) z
    ∙ ap (λ (x : Ending). least_ending (told_fuel h) x) (told_end p (handed values q) r)
    ∙ ap least_ending_of is

-- an evaluation was named, or none
module _ {g v w : Option Evaluation} (given : v ≡ g) (is : v ≡ w) where
  pub run_as_given : (run : Evaluation → Ended) (s : Config) {x : Ending} → x ≡ run_given w run s → x ≡ run_given g run s
  run_as_given run s e = e ∙ ap (λ y. run_given y run s) (sym is ∙ given)

  pub search_as_given : (search : Evaluation → Reported) (s : Config) {x : LeastEnding} → x ≡ least_given w search s → x ≡ least_given g search s
  search_as_given search s e = e ∙ ap (λ y. least_given y search s) (sym is ∙ given)

  pub input_given : (code : List ℕ) (start : State) (setting : Evaluation → Setting) → InputGiven w code start setting → InputGiven g code start setting
  input_given code start setting = subst (λ y. InputGiven y code start setting) (sym is ∙ given)
