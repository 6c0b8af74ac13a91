-- The run at the cap is the run with the least fuel, so that its report is that one's. Assumes nothing.
use Prim.Native.Nat.{ℕ}
use mathlib.Core.Path.{◌≡◌, sym, ap, ◌∙◌}
use mathlib.Core.List.{List}
use mathlib.Core.Option.{Option}
use Rattle.eval.specs.Config.{Env, Config}
use Rattle.eval.specs.Counted.{Ended}
use Rattle.eval.specs.Running.{run_of}
use Rattle.eval.specs.LeastFuel.{least_fuel}
use Rattle.eval.proofs.LeastLaws.{least_same}
use Rattle.least.specs.Report.{Report, Reported, report_of, reported, least_fuel_of}

module _ (code : List ℕ) (env : Env) (cap : ℕ) (limit : Option ℕ) (s : Config) where
  abbrev run : ℕ → Ended
  run fuel = run_of code env fuel limit s

  -- the report that the run at the cap gives
  pub at_cap : least_fuel_of code env cap limit s ≡ reported (least_fuel run cap) (run cap)
  unfolding least_fuel_of
  at_cap = ap (reported (least_fuel run cap)) (least_same code env limit s cap)

  pub reports :
      (e : Ended) (n : ℕ) (r : Report) → e ≡ run cap → n ≡ least_fuel run cap → r ≡ report_of n e.end.how →
      record { how = r; config = e.end.config; counted = e.counted } ≡ least_fuel_of code env cap limit s
  reports e n r ran needed is =
      let told : Report → Reported = λ x. record { how = x; config = e.end.config; counted = e.counted } in
      ap told is ∙ ap (λ x. reported x e) needed ∙ ap (reported (least_fuel run cap)) ran ∙ sym at_cap
