-- Larger fuel, and no limit. Only a While looks at fuel, and ends the run as spent where there is none; only a step looks at the limit, and ends it as
-- stopped where that is used up. So a run that ends otherwise goes the same way with more of either.
use Prim.Native.Nat.{ℕ, zero, suc, ◌≤◌}
use mathlib.Core.Path.{◌≡◌, refl, sym, ap, subst⁻¹, ◌∙◌}
use mathlib.Core.Bool.{Bool, true, false, cond}
use mathlib.Core.Option.{Option, none}
use native.Mathlib.Nat.{le_of_suc-le-suc, not-suc-le-zero}
use native.Mathlib.Omega.{arith}
use Rattle.code.specs.declared.tree.Ocmp.{Ocmp}
use Rattle.code.specs.Tree.{Code, Ins, Block, IfElse, While, Codes, ⟨⟩, ◌∷ᶜ◌}
use Rattle.eval.specs.Config.{Env, Config, Outcome, done, fault, stopped, spent, refused, End, NotStopped}
use Rattle.eval.specs.Instructions.{eval_ocmp}
use Rattle.eval.specs.Counted.{Counted, Ended, ended, Part, continue, and_then, used_up, step}
use Rattle.eval.specs.Running.{run_ocmp, decide, rounds, run_code, run_codes}
use Rattle.eval.specs.declared.answer.Watch.{Watch}
use Rattle.eval.proofs.StepLaws.{step_stopped, step_tried}

-- a limit that leaves a step wherever another does
abbrev Looser : Option ℕ → Option ℕ → Type 0
Looser limit limit' = (k : Counted) → used_up limit k ≡ false → used_up limit' k ≡ false

-- two runs, the second with more fuel or a looser limit. SameFuel and SameLimit say which of the two is in fact the same
module _ (SameFuel SameLimit : Type 0) where
  -- an end is the end r too, but for spent with other fuel, and for stopped with another limit
  unfoldable Kept : Outcome → Config → Counted → Ended → Type 0
  Kept done t k r = r ≡ ended done t k
  Kept (fault n p) t k r = r ≡ ended (fault n p) t k
  Kept (stopped n p) t k r = SameLimit → r ≡ ended (stopped n p) t k
  Kept (spent p) t k r = SameFuel → r ≡ ended (spent p) t k
  Kept (refused n p) t k r = r ≡ ended (refused n p) t k

  abbrev Keeps : Ended → Ended → Type 0
  Keeps e r = Kept e.end.how e.end.config e.counted r

  -- so does each end of a part f, in g
  abbrev EachKeeps : Part → Part → Type 0
  EachKeeps f g = (s : Config) (k : Counted) → Keeps (f s k) (g s k)

  keeps_same : (o : Outcome) (t : Config) (k : Counted) → Kept o t k (ended o t k)
  unfolding Kept
  keeps_same done t k = refl
  keeps_same (fault n p) t k = refl
  keeps_same (stopped n p) t k = λ _. refl
  keeps_same (spent p) t k = λ _. refl
  keeps_same (refused n p) t k = refl

  keeps_then :
      (o : Outcome) (t : Config) (k : Counted) (r : Ended) (f g : Part) →
      Kept o t k r → EachKeeps f g → Keeps (continue o t k f) (and_then r g)
  unfolding Kept continue
  keeps_then done t k r f g e h = subst⁻¹ (λ x. Keeps (f t k) (and_then x g)) e (h t k)
  keeps_then (fault n p) t k r f g e h = ap (λ x. and_then x g) e
  keeps_then (stopped n p) t k r f g e h = λ same. ap (λ x. and_then x g) (e same)
  keeps_then (spent p) t k r f g e h = λ same. ap (λ x. and_then x g) (e same)
  keeps_then (refused n p) t k r f g e h = ap (λ x. and_then x g) e

  keeps_cond : (b : Bool) (f g f' g' : Part) → EachKeeps f f' → EachKeeps g g' → EachKeeps (cond b f g) (cond b f' g')
  keeps_cond true f g f' g' F G = F
  keeps_cond false f g f' g' F G = G

  module _ (limit limit' : Option ℕ) (looser : Looser limit limit') (same_limit : SameLimit → limit ≡ limit') where
    keeps_step : (p : ℕ) (sees : Watch → Watch) (act : Config → End) → EachKeeps (step limit p sees act) (step limit' p sees act)
    unfolding Kept
    keeps_step p sees act s k = go (used_up limit k) refl
      where
        go : (b : Bool) → used_up limit k ≡ b → Keeps (step limit p sees act s k) (step limit' p sees act s k)
        go true e =
            subst⁻¹ (λ x. Keeps x (step limit' p sees act s k)) (step_stopped limit p sees act s k e)
            (λ same. ap (λ l. step l p sees act s k) (sym (same_limit same)) ∙ step_stopped limit p sees act s k e)
        go false e =
            let x = act s in
            let r = step limit p sees act s k in
            subst⁻¹ (λ y. Keeps r y)
            (step_tried limit' p sees act s k (looser k e) x.how x.config refl
            ∙ sym (step_tried limit p sees act s k e x.how x.config refl))
            (keeps_same r.end.how r.end.config r.counted)

    module _ (env : Env) where
      keeps_decide :
          (q : ℕ) (c : Ocmp) (f g f' g' : Part) →
          EachKeeps f f' → EachKeeps g g' → EachKeeps (decide env limit q c f g) (decide env limit' q c f' g')
      unfolding decide
      keeps_decide q c f g f' g' F G s k =
          keeps_then _ _ _ _ _ _ (keeps_step q _ (run_ocmp env q c) s k) (keeps_cond (eval_ocmp env c s) f g f' g' F G)

      keeps_rounds :
          (body body' : ℕ → Part) → ((f g : ℕ) → f ≤ g → (SameFuel → f ≡ g) → EachKeeps (body f) (body' g)) →
          (p q : ℕ) (c : Ocmp) (f g : ℕ) → f ≤ g → (SameFuel → f ≡ g) →
          EachKeeps (rounds env limit body p q c f) (rounds env limit' body' p q c g)
      unfolding rounds Kept
      keeps_rounds body body' h p q c zero g le is s k = λ same. ap (λ n. rounds env limit' body' p q c n s k) (sym (is same))
      keeps_rounds body body' h p q c (suc f) zero le is s k = absurd (not-suc-le-zero le)
      keeps_rounds body body' h p q c (suc f) (suc g) le is s k =
          let l = le_of_suc-le-suc le in
          let less : SameFuel → f ≡ g = λ same. let e = is same in omega (arith, e) in
          keeps_decide q c _ _ _ _ (λ t j. keeps_then _ _ _ _ _ _ (h f g l less t j) (keeps_rounds body body' h p q c f g l less)) (keeps_same done) s k

      mutual
        unfolding run_code run_codes

        keeps_code : (c : Code) (f g : ℕ) → f ≤ g → (SameFuel → f ≡ g) → EachKeeps (run_code env limit c f) (run_code env limit' c g)
        keeps_code (Ins p i) f g le is s k = keeps_step p _ _ s k
        keeps_code (Block p cs) f g le is s k = keeps_codes cs f g le is s k
        keeps_code (IfElse p q c a b) f g le is s k = keeps_decide q c _ _ _ _ (keeps_code a f g le is) (keeps_code b f g le is) s k
        keeps_code (While p q c b) f g le is s k = keeps_rounds _ _ (keeps_code b) p q c f g le is s k

        keeps_codes : (cs : Codes) (f g : ℕ) → f ≤ g → (SameFuel → f ≡ g) → EachKeeps (run_codes env limit cs f) (run_codes env limit' cs g)
        keeps_codes ⟨⟩ f g le is s k = keeps_same _ _ _
        keeps_codes (c ∷ᶜ cs) f g le is s k = keeps_then _ _ _ _ _ _ (keeps_code c f g le is s k) (keeps_codes cs f g le is)

-- ---- larger fuel
not_spent_kept : (o : Outcome) (t : Config) (k : Counted) (r : Ended) → Kept ⊥ (Unit {0}) o t k r → ((p : ℕ) → o ≡ spent p → ⊥) → r ≡ ended o t k
unfolding Kept
not_spent_kept done t k r h n = h
not_spent_kept (fault m p) t k r h n = h
not_spent_kept (stopped m p) t k r h n = h tt
not_spent_kept (spent p) t k r h n = absurd (n p refl)
not_spent_kept (refused m p) t k r h n = h

-- a run that is not spent has the same end at every larger fuel
pub more_fuel :
    (env : Env) (limit : Option ℕ) (c : Code) (f g : ℕ) → f ≤ g → (s : Config) (k : Counted) →
    ((p : ℕ) → (run_code env limit c f s k).end.how ≡ spent p → ⊥) → run_code env limit c g s k ≡ run_code env limit c f s k
more_fuel env limit c f g le s k n =
    not_spent_kept _ _ _ _ (keeps_code ⊥ (Unit {0}) limit limit (λ _ h. h) (λ _. refl) env c f g le (λ z. absurd z) s k) n

-- ---- no limit
not_stopped_kept : (o : Outcome) (t : Config) (k : Counted) (r : Ended) → Kept (Unit {0}) ⊥ o t k r → NotStopped o → r ≡ ended o t k
unfolding Kept
not_stopped_kept done t k r h n = h
not_stopped_kept (fault m p) t k r h n = h
not_stopped_kept (stopped m p) t k r h n = absurd (n m p refl)
not_stopped_kept (spent p) t k r h n = h tt
not_stopped_kept (refused m p) t k r h n = h

-- a run that is not stopped has the same end without a limit
pub no_limit :
    (env : Env) (c : Code) (f : ℕ) (s : Config) (k : Counted) (limit : Option ℕ) →
    NotStopped (run_code env limit c f s k).end.how → run_code env none c f s k ≡ run_code env limit c f s k
unfolding used_up
no_limit env c f s k limit n =
    not_stopped_kept _ _ _ _ (keeps_code (Unit {0}) ⊥ limit none (λ _ _. refl) (λ z. absurd z) env c f f (omega arith) (λ _. refl) s k) n
