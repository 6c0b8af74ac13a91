-- The second demand. What the log tells of a run (Codes) goes both ways, since an end and a first bad event are each one thing only; and a
-- fault and a done run, at whatever fuels, would meet at the larger of the two.
use Prim.Native.Nat.{ℕ, ◌≤◌, ◌<◌, ◌^◌}
use mathlib.Core.Path.{◌≡◌, refl, sym, ◌∙◌, ap, subst, subst⁻¹}
use mathlib.Core.Bool.{Bool, true, false}
use mathlib.Core.List.{List}
use mathlib.Core.Option.{Option, none, some}
use native.Mathlib.Omega.{arith}
use borrow.Author.Tests.{leb-true, leb-false}
use lib.Dec.{leb}
use lib.IntN.{ℤ, pos, negsuc}
use lib.ListN.{length}
use Rattle.machine.specs.Cells.{accepted, check_cells}
use Rattle.machine.proofs.Accepting.{accepted_of}
use Rattle.machine.specs.Bytes.{wrap}
use Rattle.machine.specs.Memory.{Memory, MemEntry, Mem8, Mem16, Mem32, Mem64, LoadsMem64}
use Rattle.code.specs.Tree.{Code}
use Rattle.code.specs.WellFormed.{WfCode}
use Rattle.code.specs.Reader.{got, parse}
use Rattle.code.proofs.Accepted.{parse_wf}
use Rattle.eval.specs.Config.{Env, Config, Outcome, done, fault, spent, End, ends, NotStopped}
use Rattle.eval.specs.Counted.{nothing_counted, Ended}
use Rattle.eval.specs.Running.{run_code, run_checked, run_read, run_of}
use Rattle.eval.proofs.Larger.{more_fuel, no_limit}
use Rattle.source.specs.Source.{State, eval_code}
use Rattle.source.specs.Log.{failed, starved, first_bad, Logged, log_code}
use Rattle.source.specs.Correspondence.{IntToNat64, state_of, Corresponds, Correspondence}
use Rattle.source.proofs.Erase.{erase_code}
use Rattle.source.proofs.Codes.{Clear, clear_code, Tells, ends_done, ends_fault, ends_spent, tells_code}

-- accepted cells have values
held : (xs ts vs : List ℕ) → check_cells xs ts vs ≡ accepted → length xs ≤ length vs
held xs ts vs e = let a = accepted_of xs ts vs e in omega (arith, a.same.values)

same_how : (r : End) (o o' : Outcome) (t t' : Config) → r ≡ ends o t → r ≡ ends o' t' → o ≡ o'
same_how r o o' t t' e f = ap (λ x. x.how) (sym e ∙ f)

same_end : (r : End) (o o' : Outcome) (t t' : Config) → r ≡ ends o t → r ≡ ends o' t' → t ≡ t'
same_end r o o' t t' e f = ap (λ x. x.config) (sym e ∙ f)

-- the end of the run without a limit
abbrev unlimited : Env → Code → ℕ → Config → End
unlimited env c f s = (run_code env none c f s nothing_counted).end

-- one answer rules out another
module _ (r : End) (n p q : ℕ) (t t' : Config) where
  not_both : r ≡ ends done t → r ≡ ends (fault n p) t' → ⊥
  not_both e f = let h = same_how r done (fault n p) t t' e f in let z : ◌≡◌ {A = ℕ} 0 1 = cc in omega arith

  not_done : r ≡ ends done t → r ≡ ends (spent q) t' → ⊥
  not_done e f = let h = same_how r done (spent q) t t' e f in let z : ◌≡◌ {A = ℕ} 0 1 = cc in omega arith

  not_spent : r ≡ ends (fault n p) t → r ≡ ends (spent q) t' → ⊥
  not_spent e f = let h = same_how r (fault n p) (spent q) t t' e f in let z : ◌≡◌ {A = ℕ} 0 1 = cc in omega arith

module _ (env : Env) (r : End) (m : Logged) where
  to_done : Tells env r m → (t : Config) → r ≡ ends done t → m.1 ≡ some (state_of env t)
  to_done (ends_done t' a h f g) t e = g ∙ ap (λ x. some (state_of env x)) (same_end r done done t' t a e)
  to_done (ends_fault n p t' a f g) t e = absurd (not_both r n p 0 t t' e a)
  to_done (ends_spent p t' a f g) t e = absurd (not_done r 0 0 p t t' e a)

  from_done : Tells env r m → (u : State) → m.1 ≡ some u → u.ok ≡ true → (t : Config) × (r ≡ ends done t) × (u ≡ state_of env t)
  from_done (ends_done t a h f g) u e k = (t, a, (cc))
  from_done (ends_fault n p t a f g) u e k = let c : u.ok ≡ false = subst Clear e g in absurd (let z : ◌≡◌ {A = ℕ} 0 1 = cc in omega arith)
  from_done (ends_spent p t a f g) u e k = let c : u.ok ≡ false = subst Clear e g in absurd (let z : ◌≡◌ {A = ℕ} 0 1 = cc in omega arith)

  to_good : Tells env r m → (t : Config) → r ≡ ends done t → first_bad m.0 ≡ none
  to_good (ends_done t' a h f g) t e = f
  to_good (ends_fault n p t' a f g) t e = absurd (not_both r n p 0 t t' e a)
  to_good (ends_spent p t' a f g) t e = absurd (not_done r 0 0 p t t' e a)

  from_good : Tells env r m → first_bad m.0 ≡ none → (t : Config) × (r ≡ ends done t)
  from_good (ends_done t a h f g) e = (t, a)
  from_good (ends_fault n p t a f g) e = absurd (let z : ◌≡◌ {A = ℕ} 0 1 = cc in omega arith)
  from_good (ends_spent p t a f g) e = absurd (let z : ◌≡◌ {A = ℕ} 0 1 = cc in omega arith)

  to_fault : Tells env r m → (n p : ℕ) (t : Config) → r ≡ ends (fault n p) t → first_bad m.0 ≡ some (failed n p (state_of env t))
  to_fault (ends_done t' a h f g) n p t e = absurd (not_both r n p 0 t' t a e)
  to_fault (ends_fault n' p' t' a f g) n p t e =
      let h = same_how r (fault n' p') (fault n p) t' t a e in
      let i : n' ≡ n = cc in
      let j : p' ≡ p = cc in
      let k : t' ≡ t = same_end r (fault n' p') (fault n p) t' t a e in
      f ∙ (λ x. some (failed (i x) (j x) (state_of env (k x))))
  to_fault (ends_spent p' t' a f g) n p t e = absurd (not_spent r n p p' t t' e a)

  from_fault : Tells env r m → (n p : ℕ) (u : State) → first_bad m.0 ≡ some (failed n p u) → (t : Config) × (r ≡ ends (fault n p) t) × (u ≡ state_of env t)
  from_fault (ends_done t a h f g) n p u e = absurd (let z : ◌≡◌ {A = ℕ} 0 1 = cc in omega arith)
  from_fault (ends_fault n' p' t a f g) n p u e =
      let i : n' ≡ n = cc in
      let j : p' ≡ p = cc in
      (t, a ∙ (λ x. ends (fault (i x) (j x)) t), (cc))
  from_fault (ends_spent p' t a f g) n p u e = absurd (let z : ◌≡◌ {A = ℕ} 0 1 = cc in omega arith)

  to_spent : Tells env r m → (p : ℕ) (t : Config) → r ≡ ends (spent p) t → first_bad m.0 ≡ some (starved p (state_of env t))
  to_spent (ends_done t' a h f g) p t e = absurd (not_done r 0 0 p t' t a e)
  to_spent (ends_fault n p' t' a f g) p t e = absurd (not_spent r n p' p t' t a e)
  to_spent (ends_spent p' t' a f g) p t e =
      let h = same_how r (spent p') (spent p) t' t a e in
      let j : p' ≡ p = cc in
      let k : t' ≡ t = same_end r (spent p') (spent p) t' t a e in
      f ∙ (λ x. some (starved (j x) (state_of env (k x))))

  from_spent : Tells env r m → (p : ℕ) (u : State) → first_bad m.0 ≡ some (starved p u) → (t : Config) × (r ≡ ends (spent p) t) × (u ≡ state_of env t)
  from_spent (ends_done t a h f g) p u e = absurd (let z : ◌≡◌ {A = ℕ} 0 1 = cc in omega arith)
  from_spent (ends_fault n p' t a f g) p u e = absurd (let z : ◌≡◌ {A = ℕ} 0 1 = cc in omega arith)
  from_spent (ends_spent p' t a f g) p u e =
      let j : p' ≡ p = cc in
      (t, a ∙ (λ x. ends (spent (j x)) t), (cc))

-- a fault at one fuel and a done run at another
never_both : (env : Env) (c : Code) (s t t' : Config) (f g n p : ℕ) → unlimited env c f s ≡ ends (fault n p) t → unlimited env c g s ≡ ends done t' → ⊥
never_both env c s t t' f g n p a b = go (leb f g) refl
  where
    -- the run with the larger fuel ends as the other does, which is not spent
    more : (f g : ℕ) → f ≤ g → (o : Outcome) (u : Config) → unlimited env c f s ≡ ends o u → ((q : ℕ) → o ≡ spent q → ⊥) → unlimited env c g s ≡ ends o u
    more f g le o u e unspent =
        ap (λ (x : Ended). x.end) (more_fuel env none c f g le s nothing_counted (λ q h. unspent q (sym (ap (λ (x : End). x.how) e) ∙ h))) ∙ e

    go : (x : Bool) → leb f g ≡ x → ⊥
    go true k =
        not_both (unlimited env c g s) n p 0 t' t b
        (more f g (leb-true f g k) (fault n p) t a (λ q h. let z : ◌≡◌ {A = ℕ} 0 1 = cc in omega arith))
    go false k =
        not_both (unlimited env c f s) n p 0 t' t
        (more g f (let h = leb-false f g k in omega arith) done t' b (λ q h. let z : ◌≡◌ {A = ℕ} 0 1 = cc in omega arith)) a

module _ (load_mem64 : ℤ → Memory → ℕ) (loads : LoadsMem64 load_mem64) (int_to_nat64 : ℤ → ℕ) (ints : IntToNat64 int_to_nat64)
    (env : Env) (s : Config) (cells : check_cells env.addresses env.tags s.values ≡ accepted) (c : Code) (fits : WfCode c) where
  tells : (f : ℕ) → Tells env (unlimited env c f s) (log_code load_mem64 int_to_nat64 env.fill env.rule c f (state_of env s))
  tells f = tells_code env load_mem64 loads int_to_nat64 ints c fits f s nothing_counted (held env.addresses env.tags s.values cells)

  erased : (f : ℕ)
      → (log_code load_mem64 int_to_nat64 env.fill env.rule c f (state_of env s)).1
      ≡ eval_code load_mem64 int_to_nat64 env.fill env.rule c f (state_of env s)
  erased f = erase_code load_mem64 int_to_nat64 env.fill env.rule c f (state_of env s)

  never : (f n p : ℕ) (t : Config) → unlimited env c f s ≡ ends (fault n p) t
      → (g : ℕ) (u : State) → eval_code load_mem64 int_to_nat64 env.fill env.rule c g (state_of env s) ≡ some u → u.ok ≡ false
  never f n p t e g u k = go u.ok refl
    where
      go : (b : Bool) → u.ok ≡ b → u.ok ≡ false
      go true l = let d = from_done env _ _ (tells g) u (erased g ∙ k) l in absurd (never_both env c s t d.0 f g n p e d.1)
      go false l = l

  agrees_unlimited : (f : ℕ) → Corresponds load_mem64 int_to_nat64 env c s f (unlimited env c f s)
  agrees_unlimited f = record {
    done_source = λ t e. sym (erased f) ∙ to_done env _ _ (tells f) t e;
    source_done = λ u e k. from_done env _ _ (tells f) u (erased f ∙ e) k;
    done_log = to_good env _ _ (tells f);
    log_done = from_good env _ _ (tells f);
    fault_never = never f;
    fault_log = to_fault env _ _ (tells f);
    log_fault = from_fault env _ _ (tells f);
    spent_log = to_spent env _ _ (tells f);
    log_spent = from_spent env _ _ (tells f);
  }

  -- a run that is not stopped is the one without a limit
  agrees : (f : ℕ) (limit : Option ℕ) → NotStopped (run_code env limit c f s nothing_counted).end.how
      → Corresponds load_mem64 int_to_nat64 env c s f (run_code env limit c f s nothing_counted).end
  agrees f limit n =
      subst (λ (x : Ended). Corresponds load_mem64 int_to_nat64 env c s f x.end) (no_limit env c f s nothing_counted limit n) (agrees_unlimited f)

-- Running of bytes that are read, over accepted cells, is the run of the tree
ran : (env : Env) (s : Config) → check_cells env.addresses env.tags s.values ≡ accepted
    → (code : List ℕ) (c : Code) (next : ℕ) → parse code ≡ got c next → (f : ℕ) (limit : Option ℕ)
    → run_of code env f limit s ≡ run_code env limit c f s nothing_counted
unfolding run_of run_read run_checked
ran env s cells code c next e f limit = rw (e, run_read, cells, run_checked)

-- a load that gives 0 off a Mem64
load : ℤ → Memory → ℕ
load z m = elim (m z) [ Mem8 v ↦ 0 | Mem16 v ↦ 0 | Mem32 v ↦ 0 | Mem64 v ↦ v ]

load_is : LoadsMem64 load
unfolding load
load_is z m v e = rw (e, load)

load_word : (z : ℤ) (m : Memory) → ((v : ℕ) → m z ≡ Mem64 v → v < 2 ^ 64) → load z m < 2 ^ 64
unfolding load
load_word z m h = go (m z) h
  where
    go : (x : MemEntry) → ((v : ℕ) → x ≡ Mem64 v → v < 2 ^ 64) → (elim x as (λ _. ℕ) [ Mem8 v ↦ 0 | Mem16 v ↦ 0 | Mem32 v ↦ 0 | Mem64 v ↦ v ]) < 2 ^ 64
    go (Mem8 v) k = omega arith
    go (Mem16 v) k = omega arith
    go (Mem32 v) k = omega arith
    go (Mem64 v) k = k v refl

-- whole numbers modulo 2^64
wrap_is : IntToNat64 wrap
unfolding wrap
wrap_is n h = omega arith

wrap_word : (z : ℤ) → wrap z < 2 ^ 64
unfolding wrap
wrap_word (pos n) = omega arith
wrap_word (negsuc n) = omega arith

pub correspondence : Correspondence
correspondence = record {
  erased = erase_code;
  tree = agrees;
  running = λ load_mem64 loads int_to_nat64 ints env s cells code bytes c next e f limit.
      subst⁻¹ (λ (x : Ended). NotStopped x.end.how → Corresponds load_mem64 int_to_nat64 env c s f x.end) (ran env s cells code c next e f limit)
      (agrees load_mem64 loads int_to_nat64 ints env s cells c (parse_wf code bytes c next e) f limit);
  ok_stays_clear = λ load_mem64 int_to_nat64 fill rule c f s u e k.
      subst Clear (erase_code load_mem64 int_to_nat64 fill rule c f s ∙ e) (clear_code load_mem64 int_to_nat64 fill rule c f s k);
  some_load = (load, load_is, load_word);
  some_int = (wrap, wrap_is, wrap_word);
}
