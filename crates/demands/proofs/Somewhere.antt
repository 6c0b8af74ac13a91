-- An end that is not done, spent or refused is that of one step of the tree: said once of every kind of end, by going through the tree. Assumes nothing.
use Prim.Native.Nat.{ℕ, zero, suc}
use mathlib.Core.Path.{◌≡◌, refl}
use mathlib.Core.Bool.{Bool, true, false, cond}
use mathlib.Core.List.{List}
use mathlib.Core.Logic.{◌⊎◌, inl, inr, ⊎_elim}
use mathlib.Core.Option.{Option}
use Rattle.machine.specs.Cells.{Verdict, accepted, check_cells}
use Rattle.machine.specs.Cells.{refused as cells_refused}
use Rattle.code.specs.declared.tree.Instruction.{Instruction}
use Rattle.code.specs.declared.tree.Ocmp.{Ocmp}
use Rattle.code.specs.Tree.{Code, Ins, Block, IfElse, While, Codes, ⟨⟩, ◌∷ᶜ◌}
use Rattle.code.specs.Reader.{Read, got, trouble, parse}
use Rattle.eval.specs.Config.{Env, Config, Outcome, done, fault, stopped, spent, refused}
use Rattle.eval.specs.Counted.{Counted, nothing_counted, Ended, ended, Part, continue, and_then}
use Rattle.eval.specs.Instructions.{eval_ocmp}
use Rattle.eval.specs.Running.{step_ins, step_ocmp, decide, rounds, run_code, run_codes, run_checked, run_read, run_of}
use Rattle.demands.specs.Somewhere.{Somewhere, SomewhereIn}

-- ends of a kind E, and what follows of the instruction or comparison whose step so ends
module _ (env : Env) (limit : Option ℕ) (E : Ended → Type 0) (A : ℕ → Instruction → Type 0) (B : ℕ → Ocmp → Type 0)
    (not_done : (s : Config) (k : Counted) → E (ended done s k) → ⊥)
    (not_spent : (p : ℕ) (s : Config) (k : Counted) → E (ended (spent p) s k) → ⊥)
    (not_refused : (n p : ℕ) (s : Config) (k : Counted) → E (ended (refused n p) s k) → ⊥)
    (of_ins : (q : ℕ) (i : Instruction) (s : Config) (k : Counted) → E (step_ins env limit q i s k) → A q i)
    (of_ocmp : (q : ℕ) (c : Ocmp) (s : Config) (k : Counted) → E (step_ocmp env limit q c s k) → B q c) where
  -- somewhere a part of a run ends so
  abbrev EndsIn : Part → Type 0
  EndsIn f = (t : Config) × (l : Counted) × E (f t l)

  -- the end of two in a row is the first one's, or the second one's
  then_ends : (e : Ended) (f : Part) → E (and_then e f) → E e ⊎ EndsIn f
  unfolding continue
  then_ends e f h = go e.end.how e.end.config e.counted h
    where
      go : (o : Outcome) (t : Config) (l : Counted) → E (continue o t l f) → E (ended o t l) ⊎ EndsIn f
      go done t l h = inr (t, l, h)
      go (fault n p) t l h = inl h
      go (stopped n p) t l h = inl h
      go (spent p) t l h = inl h
      go (refused n p) t l h = inl h

  -- it is the comparison's, or that of one of its ways
  decide_ends : (q : ℕ) (c : Ocmp) (f g : Part) (s : Config) (k : Counted) → E (decide env limit q c f g s k) → B q c ⊎ (EndsIn f ⊎ EndsIn g)
  unfolding decide
  decide_ends q c f g s k h =
      ⊎_elim (λ x. inl (of_ocmp q c s k x)) (λ x. inr (go (eval_ocmp env c s) x))
      (then_ends (step_ocmp env limit q c s k) (cond (eval_ocmp env c s) f g) h)
    where
      go : (b : Bool) → EndsIn (cond b f g) → EndsIn f ⊎ EndsIn g
      go true x = inl x
      go false x = inr x

  rounds_end : (body : ℕ → Part) (r q : ℕ) (c : Ocmp) (P : Type 0) → ((f : ℕ) → EndsIn (body f) → P)
      → (f : ℕ) (s : Config) (k : Counted) → E (rounds env limit body r q c f s k) → B q c ⊎ P
  unfolding rounds
  rounds_end body r q c P inside zero s k h = absurd (not_spent r s k h)
  rounds_end body r q c P inside (suc f) s k h =
      ⊎_elim (λ x. inl x)
      (λ x. ⊎_elim
      (λ y. ⊎_elim (λ z. inr (inside f (y.0, y.1, z))) (λ z. rounds_end body r q c P inside f z.0 z.1 z.2)
      (then_ends (body f y.0 y.1) (rounds env limit body r q c f) y.2))
      (λ y. absurd (not_done y.0 y.1 y.2))
      x)
      (decide_ends q c _ _ s k h)

  mutual
    unfolding run_code run_codes

    code_ends : (c : Code) (f : ℕ) (s : Config) (k : Counted) → E (run_code env limit c f s k) → Somewhere A B c
    code_ends (Ins q i) f s k h = of_ins q i s k h
    code_ends (Block q cs) f s k h = codes_end cs f s k h
    code_ends (IfElse r q c a b) f s k h =
        ⊎_elim (λ x. inl x)
        (λ x. inr (⊎_elim (λ y. inl (code_ends a f y.0 y.1 y.2)) (λ y. inr (code_ends b f y.0 y.1 y.2)) x))
        (decide_ends q c _ _ s k h)
    code_ends (While r q c b) f s k h =
        rounds_end (run_code env limit b) r q c (Somewhere A B b) (λ g x. code_ends b g x.0 x.1 x.2) f s k h

    codes_end : (cs : Codes) (f : ℕ) (s : Config) (k : Counted) → E (run_codes env limit cs f s k) → SomewhereIn A B cs
    codes_end ⟨⟩ f s k h = absurd (not_done s k h)
    codes_end (c ∷ᶜ cs) f s k h =
        ⊎_elim (λ x. inl (code_ends c f s k x)) (λ x. inr (codes_end cs f x.0 x.1 x.2))
        (then_ends (run_code env limit c f s k) (run_codes env limit cs f) h)

  -- Running, which so ends only where code was read and cells were accepted
  pub run_ends : (code : List ℕ) (fuel : ℕ) (s : Config) → E (run_of code env fuel limit s)
      → (c : Code) × (next : ℕ) × (parse code ≡ got c next) × Somewhere A B c
  unfolding run_of run_read run_checked
  run_ends code fuel s h = read (parse code) refl h
    where
      checked : (v : Verdict) (c : Code) → E (run_checked env v c fuel limit s) → Somewhere A B c
      checked accepted c h = code_ends c fuel s nothing_counted h
      checked (cells_refused n i) c h = absurd (not_refused n i s nothing_counted h)

      read : (r : Read Code) → parse code ≡ r → E (run_read env r fuel limit s) → (c : Code) × (next : ℕ) × (parse code ≡ got c next) × Somewhere A B c
      read (got c next) is h = (c, next, is, checked (check_cells env.addresses env.tags s.values) c h)
      read (trouble n p) is h = absurd (not_refused n p s nothing_counted h)
