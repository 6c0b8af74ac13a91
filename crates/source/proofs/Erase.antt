-- Without its log, the logged source is the source: the monad with notes keeps the state that the source's monad keeps, and each clause
-- is the source's clause.
use Prim.Native.Nat.{ℕ, zero, suc}
use mathlib.Core.Path.{◌≡◌, refl, ◌∙◌, ap}
use mathlib.Core.Bool.{Bool, true, false}
use mathlib.Core.List.{List}
use mathlib.Core.Option.{Option, none, some}
use lib.IntN.{ℤ}
use Rattle.machine.specs.Memory.{Memory}
use Rattle.code.specs.declared.tree.Ocmp.{Ocmp}
use Rattle.code.specs.Tree.{Code, Ins, Block, IfElse, While, Codes, ⟨⟩, ◌∷ᶜ◌}
use Rattle.eval.specs.FlagRule.{FlagRule}
use Rattle.source.specs.Source.{State, choose, if_some, run_ocmp, eval_while, eval_code, eval_codes}
use Rattle.source.specs.Log as Log
use Rattle.source.specs.Log.{Event, Logged, note_ocmp, log_ocmp, log_while, log_code, log_codes}
use Rattle.source.proofs.Instructions.{erase_ins}

erase_some : (log : List Event) (o : Option State) (k : State → Logged) (k' : State → Option State)
    → ((s : State) → (k s).1 ≡ k' s) → (Log.if_some log o k).1 ≡ if_some o k'
unfolding Log.if_some if_some
erase_some log none k k' h = refl
erase_some log (some s) k k' h = h s

erase_choose : (b : Bool) (f g : State → Logged) (f' g' : State → Option State)
    → ((s : State) → (f s).1 ≡ f' s) → ((s : State) → (g s).1 ≡ g' s) → (s : State) → (choose b f g s).1 ≡ choose b f' g' s
unfolding choose
erase_choose true f g f' g' F G s = F s
erase_choose false f g f' g' F G s = G s

module _ (load_mem64 : ℤ → Memory → ℕ) (int_to_nat64 : ℤ → ℕ) (fill : ℕ) (rule : FlagRule) where
  erase_ocmp : (q : ℕ) (c : Ocmp) (f g : State → Logged) (f' g' : State → Option State)
      → ((s : State) → (f s).1 ≡ f' s) → ((s : State) → (g s).1 ≡ g' s) → (s : State)
      → (log_ocmp load_mem64 int_to_nat64 fill q c f g s).1 ≡ (let r = run_ocmp load_mem64 int_to_nat64 fill s c in choose r.1 f' g' r.0)
  unfolding note_ocmp run_ocmp Log.check
  erase_ocmp q c f g f' g' F G s = erase_choose _ f g f' g' F G _

  erase_while : (p q : ℕ) (c : Ocmp) (body : ℕ → State → Logged) (body' : ℕ → State → Option State)
      → ((f : ℕ) (s : State) → (body f s).1 ≡ body' f s) → (f : ℕ) (s : State)
      → (log_while load_mem64 int_to_nat64 fill p q c body f s).1 ≡ eval_while load_mem64 int_to_nat64 fill c body' f s
  unfolding log_while eval_while
  erase_while p q c body body' h zero s = refl
  erase_while p q c body body' h (suc f) s =
      erase_ocmp q c _ _ _ _
      (λ t. erase_some _ _ _ _ (λ u. erase_choose u.ok _ _ _ _ (erase_while p q c body body' h f) (λ v. refl) u)
      ∙ ap (λ o. if_some o (λ u. choose u.ok (eval_while load_mem64 int_to_nat64 fill c body' f) some u)) (h f t))
      (λ v. refl) s

  mutual
    unfolding log_code log_codes eval_code eval_codes

    pub erase_code : (c : Code) (f : ℕ) (s : State) → (log_code load_mem64 int_to_nat64 fill rule c f s).1 ≡ eval_code load_mem64 int_to_nat64 fill rule c f s
    erase_code (Ins p i) f s = ap (λ r. some r.1) (erase_ins load_mem64 int_to_nat64 fill rule i s)
    erase_code (Block p cs) f s = erase_codes cs f s
    erase_code (IfElse p q c a b) f s = erase_ocmp q c _ _ _ _ (erase_code a f) (erase_code b f) s
    erase_code (While p q c b) f s = erase_while p q c _ _ (erase_code b) f s

    pub erase_codes : (cs : Codes) (f : ℕ) (s : State)
        → (log_codes load_mem64 int_to_nat64 fill rule cs f s).1 ≡ eval_codes load_mem64 int_to_nat64 fill rule cs f s
    erase_codes ⟨⟩ f s = refl
    erase_codes (c ∷ᶜ cs) f s =
        erase_some _ _ _ _ (erase_codes cs f) ∙ ap (λ o. if_some o (eval_codes load_mem64 int_to_nat64 fill rule cs f)) (erase_code c f s)
