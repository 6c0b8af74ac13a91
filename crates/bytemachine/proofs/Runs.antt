-- A run that is done, followed by the machine: each instruction and each comparison in turn, and every loop is met with fuel left by both.
use mathlib.Core.Path.{◌≡◌, refl, ◌∙◌, ap, ap₂, subst}
use mathlib.Core.Bool.{Bool, true, false, not, ◌&&◌, cond}
use mathlib.Core.Option.{Option, none, some}
use Prim.Native.Nat.{ℕ, zero, suc}
use native.Mathlib.Omega.{arith}
use lib.Dec.{eqb, ltb, leb}
use lib.ListN.{get_or}
use Rattle.machine.specs.Bytes.{ByteMemory}
use Rattle.machine.specs.declared.Operand.{Operand}
use Rattle.code.specs.declared.tree.Ocmp.{Ocmp}
use Rattle.code.specs.declared.tree.Ocmp.TheVariants.{OEq, ONe, OLe, OGe, OLt, OGt}
use Rattle.code.specs.Layout.{ocmp_layout}
use Rattle.code.specs.Tree.{Code, Ins, Block, IfElse, While, Codes, ⟨⟩, ◌∷ᶜ◌}
use Rattle.code.specs.WellFormed.{WfCode, WfCodes}
use Rattle.eval.specs.Config.{Env, Config, with_flags, End, ends, Outcome, done, fault, stopped, spent, refused, check}
use Rattle.eval.specs.Instructions.{valid_operand, eval_operand, valid_ocmp, ocmp_number, eval_ocmp}
use Rattle.eval.specs.Watch.{watched}
use Rattle.eval.specs.Counted.{Counted, ended, Part, continue, used_up, count, step}
use Rattle.eval.specs.Running.{run_ocmp, decide, rounds, run_code, run_codes}
use Rattle.bytemachine.specs.ByteMachine.{BState, read, test, branch, go_on, loop, exec, execs}
use Rattle.bytemachine.proofs.Operands.{Kept, with_flags_kept, lay, reads}
use Rattle.bytemachine.proofs.Instructions.{is_done, follows_ins}

both : (a b : Bool) → (a && b) ≡ true → (a ≡ true) × (b ≡ true)
both true b h = (refl, h)
both false b h = absurd (let z : ◌≡◌ {A = ℕ} 0 1 = cc in omega arith)

not_done : (o : Outcome) (s t : Config) → (o ≡ done → ⊥) → ends o s ≡ ends done t → ⊥
not_done o s t n e = n (ap (λ (x : End). x.how) e)

module _ (env : Env) (memory : ByteMemory) where
  -- the machine's state at a configuration
  abbrev at : Config → BState
  at s = lay env memory s

  -- the machine has not halted, and its state is that of t
  pub record Reaches (o : Option BState) (s t : Config) : Type 0 where
    pub same : o ≡ some (at t)
    pub kept : Kept env t
    pub rsp : get_or t.regs 7 0 ≡ get_or s.regs 7 0

  -- what one part of a run and of the machine does, another does behind it
  abbrev Both : Part → (BState → Option BState) → Type 0
  Both f g = (s t : Config) (j : Counted) → Kept env s → (f s j).end ≡ ends done t → Reaches (g (at s)) s t

  both_end : Both (ended done) some
  both_end s t j k e = subst (λ u. Reaches (some (at s)) s u) (is_done e) (record { same = refl; kept = k; rsp = refl })

  both_then : (h : Outcome) (x : Config) (j : Counted) (f : Part) (o : Option BState) (l : BState → Option BState) (s t : Config)
      → ((u : Config) → ends h x ≡ ends done u → Reaches o s u) → Both f l
      → (continue h x j f).end ≡ ends done t → Reaches (go_on env.fill o l) s t
  unfolding continue go_on
  both_then done x j f o l s t first g e =
      let a = first x refl in
      let b = g x t j a.kept e in
      record { same = ap (λ (o : Option BState). go_on env.fill o l) a.same ∙ b.same; kept = b.kept; rsp = b.rsp ∙ a.rsp }
  both_then (fault n p) x j f o l s t first g e = absurd (not_done (fault n p) x t (λ z. let y : ◌≡◌ {A = ℕ} 0 1 = cc in omega arith) e)
  both_then (stopped n p) x j f o l s t first g e = absurd (not_done (stopped n p) x t (λ z. let y : ◌≡◌ {A = ℕ} 0 1 = cc in omega arith) e)
  both_then (spent p) x j f o l s t first g e = absurd (not_done (spent p) x t (λ z. let y : ◌≡◌ {A = ℕ} 0 1 = cc in omega arith) e)
  both_then (refused n p) x j f o l s t first g e = absurd (not_done (refused n p) x t (λ z. let y : ◌≡◌ {A = ℕ} 0 1 = cc in omega arith) e)

  -- ---- comparisons
  words_read : (a b : Operand) (f : ℕ → ℕ → Bool) (s : Config) → (valid_operand env a s && valid_operand env b s) ≡ true → Kept env s
      → f (read a (at s)) (read b (at s)) ≡ f (eval_operand env a s) (eval_operand env b s)
  words_read a b f s e k =
      let v = both _ _ e in
      ap₂ f (reads env memory a s v.0 k) (reads env memory b s v.1 k)

  tests : (c : Ocmp) (s : Config) → valid_ocmp env c s ≡ true → Kept env s → test env.fill c (at s) ≡ eval_ocmp env c s
  unfolding valid_ocmp eval_ocmp test
  tests (OEq a b) s e k = words_read a b eqb s e k
  tests (ONe a b) s e k = words_read a b (λ x y. not (eqb x y)) s e k
  tests (OLe a b) s e k = words_read a b leb s e k
  tests (OGe a b) s e k = words_read a b (λ x y. leb y x) s e k
  tests (OLt a b) s e k = words_read a b ltb s e k
  tests (OGt a b) s e k = words_read a b (λ x y. ltb y x) s e k

  -- of the run without a limit, which tries each step
  both_ocmp : (q : ℕ) (c : Ocmp) (f g : Part) (l m : BState → Option BState) → Both f l → Both g m
      → Both (decide env none q c f g) (λ b. branch env.fill (test env.fill c b) l m b)
  unfolding decide run_ocmp check step used_up count continue branch
  both_ocmp q c f g l m F G s t j k e = checked (valid_ocmp env c s) refl e
    where
      after : Config
      after = with_flags env.fill s

      counts : Outcome → Counted
      counts o = count o (watched env.rule (ocmp_layout c).kind q) j

      taken : (b : Bool) → (cond b f g after (counts done)).end ≡ ends done t → Reaches (branch env.fill b l m (at s)) s t
      taken true h = let r = F after t (counts done) (with_flags_kept env.fill k) h in record { same = r.same; kept = r.kept; rsp = r.rsp }
      taken false h = let r = G after t (counts done) (with_flags_kept env.fill k) h in record { same = r.same; kept = r.kept; rsp = r.rsp }

      checked : (v : Bool) → valid_ocmp env c s ≡ v
          → (let x = check v (ocmp_number env c s) q s (ends done after) in
          (continue x.how x.config (counts x.how) (cond (eval_ocmp env c s) f g)).end ≡ ends done t)
          → Reaches (branch env.fill (test env.fill c (at s)) l m (at s)) s t
      checked true v e = rw (tests c s v k) (taken (eval_ocmp env c s) e)
      checked false v e = absurd (not_done (fault (ocmp_number env c s) q) s t (λ z. let y : ◌≡◌ {A = ℕ} 0 1 = cc in omega arith) e)

  -- ---- codes
  both_rounds : (f : ℕ → Part) (l : ℕ → BState → Option BState) → ((n : ℕ) → Both (f n) (l n))
      → (p q : ℕ) (c : Ocmp) (n : ℕ) → Both (rounds env none f p q c n) (loop env.fill l c n)
  unfolding rounds loop
  both_rounds f l h p q c zero s t j k e = absurd (not_done (spent p) s t (λ z. let y : ◌≡◌ {A = ℕ} 0 1 = cc in omega arith) e)
  both_rounds f l h p q c (suc n) s t j k e =
      both_ocmp q c _ _ _ _
      (λ u v i x d.
      both_then _ _ _ (rounds env none f p q c n) (l n (at u)) (loop env.fill l c n) u v (λ w. h n u w i x) (both_rounds f l h p q c n) d)
      both_end s t j k e

  mutual
    unfolding WfCode run_code run_codes step used_up exec execs

    pub both_code : (c : Code) (n : ℕ) → WfCode c → Both (run_code env none c n) (exec env.fill env.rule c n)
    both_code (Ins p i) n fits s t j k e =
        let r = follows_ins env memory s t k p i fits e in
        record { same = ap some r.same; kept = r.kept; rsp = r.rsp }
    both_code (Block p cs) n fits s t j k e = both_codes cs n fits s t j k e
    both_code (IfElse p q c a b) n fits s t j k e =
        both_ocmp q c _ _ _ _ (both_code a n fits.1) (both_code b n fits.2) s t j k e
    both_code (While p q c b) n fits s t j k e =
        both_rounds (run_code env none b) (exec env.fill env.rule b) (λ m. both_code b m fits.1) p q c n s t j k e

    both_codes : (cs : Codes) (n : ℕ) → WfCodes cs → Both (run_codes env none cs n) (execs env.fill env.rule cs n)
    both_codes ⟨⟩ n fits s t j k e = both_end s t j k e
    both_codes (c ∷ᶜ cs) n fits s t j k e =
        both_then _ _ _ (run_codes env none cs n) (exec env.fill env.rule c n (at s)) (execs env.fill env.rule cs n) s t
        (λ u d. both_code c n fits.0 s u j k d) (both_codes cs n fits.1) e
