-- Laws of the least fuel with which a run is not Spent. Below it the run is Spent; from it up to the cap it is the same, since only a Spent run has another
-- end with more fuel. Assumes nothing.
use Prim.Native.Nat.{ℕ, zero, suc, ◌+◌, ◌≤◌, ◌<◌}
use mathlib.Core.Path.{◌≡◌, refl, sym, ap, ◌∙◌}
use mathlib.Core.Bool.{Bool, true, false, cond, true≢false}
use mathlib.Core.List.{List}
use mathlib.Core.Option.{Option}
use mathlib.Core.Logic.{◌⊎◌, inl, inr, ⊎_elim}
use native.Mathlib.Nat.{eq-or-lt_of_le}
use native.Mathlib.Omega.{arith}
use borrow.Author.Tests.{ltb-true, ltb-false}
use lib.Dec.{ltb}
use Rattle.machine.specs.Cells.{Verdict, accepted, refused, check_cells}
use Rattle.code.specs.Tree.{Code}
use Rattle.code.specs.Reader.{Read, got, trouble, parse}
use Rattle.eval.specs.Config.{Env, Config, Outcome, spent}
use Rattle.eval.specs.Counted.{nothing_counted, Ended}
use Rattle.eval.specs.Running.{run_checked, run_read, run_of}
use Rattle.eval.specs.LeastFuel.{is_spent, first_unspent, least_fuel}
use Rattle.eval.proofs.Larger.{more_fuel}

pub below_or_not : (a b : ℕ) → (a < b) ⊎ (b ≤ a)
below_or_not a b = go (ltb a b) refl
  where
    go : (t : Bool) → ltb a b ≡ t → (a < b) ⊎ (b ≤ a)
    go true h = inl (ltb-true a b h)
    go false h = inr (ltb-false a b h)

module _ (run : ℕ → Ended) where
  -- n is the first of m fuels from f on with which the run is not spent, or the one behind them
  record First (f m n : ℕ) : Type 0 where
    most : n ≤ f + m
    below : (g : ℕ) → f ≤ g → g < n → is_spent (run g).end.how ≡ true
    here : n < f + m → is_spent (run n).end.how ≡ false

  tried : (f m n : ℕ) (b : Bool) → is_spent (run f).end.how ≡ b → First (suc f) m n → First f (suc m) (cond b n f)
  tried f m n true e w = record {
    most = omega (arith, w.most);
    below = λ g a l. ⊎_elim (λ z. ap (λ h. is_spent (run h).end.how) (sym z) ∙ e) (λ z. w.below g z l) (eq-or-lt_of_le a);
    here = λ l. w.here (omega (arith, l));
  }
  tried f m n false e w = record { most = omega arith; below = λ g a l. absurd (omega (arith, a, l)); here = λ _. e }

  first : (m f : ℕ) → First f m (first_unspent run f m)
  unfolding first_unspent
  first zero f = record { most = omega arith; below = λ g a l. absurd (omega (arith, a, l)); here = λ l. absurd (omega (arith, l)) }
  first (suc m) f = tried f m (first_unspent run (suc f) m) (is_spent (run f).end.how) refl (first m (suc f))

  module _ (cap : ℕ) where
    pub least_most : least_fuel run cap ≤ cap
    least_most = omega (arith, (first cap 0).most)

    pub least_below : (g : ℕ) → g < least_fuel run cap → is_spent (run g).end.how ≡ true
    least_below g l = (first cap 0).below g (omega arith) l

    least_here : least_fuel run cap < cap → is_spent (run (least_fuel run cap)).end.how ≡ false
    least_here l = (first cap 0).here (omega (arith, l))

    -- no other fuel is so
    pub least_is :
        (n : ℕ) → n ≤ cap → ((g : ℕ) → g < n → is_spent (run g).end.how ≡ true) → (n < cap → is_spent (run n).end.how ≡ false) →
        least_fuel run cap ≡ n
    least_is n b below here =
        let f = least_fuel run cap in
        let most = least_most in
        ⊎_elim (λ l. absurd (true≢false (sym (below f l) ∙ least_here (omega (arith, l, b)))))
        (λ m. ⊎_elim (λ e. sym e) (λ l. absurd (true≢false (sym (least_below n l) ∙ here (omega (arith, l, most))))) (eq-or-lt_of_le m)) (below_or_not f n)

-- ---- of a run
not_spent : (o : Outcome) → is_spent o ≡ false → (p : ℕ) → o ≡ spent p → ⊥
unfolding is_spent
not_spent o h p e = true≢false (sym (ap is_spent e) ∙ h)

module _ (code : List ℕ) (env : Env) (limit : Option ℕ) (s : Config) where
  abbrev run : ℕ → Ended
  run f = run_of code env f limit s

  -- one that is not spent is the same with more fuel
  pub larger : (f g : ℕ) → f ≤ g → is_spent (run f).end.how ≡ false → run g ≡ run f
  unfolding run_of run_read run_checked
  larger f g le h = reading (parse code) h
    where
      checked :
          (v : Verdict) (c : Code) → is_spent (run_checked env v c f limit s).end.how ≡ false →
          run_checked env v c g limit s ≡ run_checked env v c f limit s
      checked accepted c h = more_fuel env limit c f g le s nothing_counted (not_spent _ h)
      checked (refused n i) c h = refl

      reading : (r : Read Code) → is_spent (run_read env r f limit s).end.how ≡ false → run_read env r g limit s ≡ run_read env r f limit s
      reading (trouble n p) h = refl
      reading (got c next) h = checked (check_cells env.addresses env.tags s.values) c h

  -- with the least fuel it is the run at the cap
  pub least_same : (cap : ℕ) → run (least_fuel run cap) ≡ run cap
  least_same cap =
      let most = least_most run cap in
      ⊎_elim (λ e. ap run e) (λ l. sym (larger (least_fuel run cap) cap most (least_here run cap l))) (eq-or-lt_of_le most)
