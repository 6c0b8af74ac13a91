-- Codes. Up to the first bad event the source is in the state of the run; from there on ok stays clear, since `let?` keeps it so, and
-- every event after it comes later in the log.
use Prim.Native.Nat.{ℕ, zero, suc}
use mathlib.Core.Path.{◌≡◌, refl, ◌∙◌, ap, subst⁻¹}
use mathlib.Core.Bool.{Bool, true, false, ◌&&◌, cond}
use mathlib.Core.List.{List, [], ◌∷◌, ◌++◌}
use mathlib.Core.Option.{Option, none, some}
use lib.IntN.{ℤ}
use Rattle.machine.specs.Memory.{Memory, LoadsMem64}
use Rattle.code.specs.declared.tree.Instruction.{Instruction}
use Rattle.code.specs.declared.tree.Ocmp.{Ocmp}
use Rattle.code.specs.Layout.{ocmp_layout}
use Rattle.code.specs.Tree.{Code, Ins, Block, IfElse, While, Codes, ⟨⟩, ◌∷ᶜ◌}
use Rattle.code.proofs.Layouts.{every_ins}
use Rattle.code.specs.WellFormed.{WfOcmp, WfCode, WfCodes}
use Rattle.eval.specs.FlagRule.{FlagRule}
use Rattle.eval.specs.Config.{Outcome, Env, Config, with_flags, End, ends, done, fault, spent}
use Rattle.eval.specs.Config as Config
use Rattle.eval.specs.Instructions as Run
use Rattle.eval.specs.Watch.{watched}
use Rattle.eval.specs.Counted.{Counted, Ended, ended, Part, continue, and_then, used_up, count, step}
use Rattle.eval.specs.Running as Running
use Rattle.source.specs.Source as Source
use Rattle.source.specs.Source.{State, St, with_ok, choose, eval_ins}
use Rattle.source.specs.Log.{Note, Event, passed, failed, starved, event, events, first_bad, Logged, after, if_some, returned, check, note_ocmp, log_ocmp, log_while, log_code, log_codes}
use Rattle.source.specs.Correspondence.{IntToNat64, state_of}
use Rattle.source.proofs.OperandLaws.{Held, valid_ocmp_is, ocmp_number_is, eval_ocmp_is}
use Rattle.source.proofs.Instructions.{first_failed, Said, finishes, stops, says_ins, erase_ins}

-- ---- ok stays clear
abbrev pub Clear : Option State → Type 0
Clear none = Unit {0}
Clear (some u) = u.ok ≡ false

abbrev pub Clears : (State → Logged) → Type 0
Clears k = (u : State) → u.ok ≡ false → Clear (k u).1

bind_clear : {A B : Type 0} (m : St A) (f : A → St B) (s : State) → s.ok ≡ false → (Source.◌>>=◌ m f s).1.ok ≡ false
unfolding Source.◌>>=◌
bind_clear m f s e = ap (λ b. b && (m s).1.ok && (f (m s).0 (m s).1).1.ok) e

clear_choose : (b : Bool) (f g : State → Logged) → Clears f → Clears g → Clears (choose b f g)
unfolding choose
clear_choose true f g F G = F
clear_choose false f g F G = G

clear_some : (log : List Event) (o : Option State) (k : State → Logged) → Clear o → Clears k → Clear (if_some log o k).1
unfolding if_some
clear_some log none k c h = tt
clear_some log (some u) k c h = h u c

module _ (load_mem64 : ℤ → Memory → ℕ) (int_to_nat64 : ℤ → ℕ) (fill : ℕ) where
  clear_ocmp : (q : ℕ) (c : Ocmp) (f g : State → Logged) → Clears f → Clears g → Clears (log_ocmp load_mem64 int_to_nat64 fill q c f g)
  unfolding note_ocmp check Source.check
  clear_ocmp q c f g F G u e = clear_choose _ f g F G _ (bind_clear _ _ u e)

  clear_while : (p q : ℕ) (c : Ocmp) (body : ℕ → State → Logged) → ((f : ℕ) → Clears (body f))
      → (f : ℕ) → Clears (log_while load_mem64 int_to_nat64 fill p q c body f)
  unfolding log_while
  clear_while p q c body h zero u e = tt
  clear_while p q c body h (suc f) u e =
      clear_ocmp q c _ _
      (λ v g. clear_some _ _ _ (h f v g) (λ w k. clear_choose w.ok _ _ (clear_while p q c body h f) (λ x l. l) w k))
      (λ v g. g) u e

  module _ (rule : FlagRule) where
    -- a state whose ok is clear is one with ok made clear, and from there each instruction computes
    ins_clear : (i : Instruction) (s : State) → s.ok ≡ false → (eval_ins load_mem64 int_to_nat64 fill rule i s).1.ok ≡ false
    unfolding eval_ins Source.◌>>=◌
    ins_clear i s e =
        ap (λ b. (eval_ins load_mem64 int_to_nat64 fill rule i (with_ok b s)).1.ok) e
        ∙ every_ins (λ i. (eval_ins load_mem64 int_to_nat64 fill rule i (with_ok false s)).1.ok) (λ i. false) (λ bytes os. refl) i

    mutual
      unfolding log_code log_codes

      pub clear_code : (c : Code) (f : ℕ) → Clears (log_code load_mem64 int_to_nat64 fill rule c f)
      clear_code (Ins p i) f u e = ap (λ r. r.1.ok) (erase_ins load_mem64 int_to_nat64 fill rule i u) ∙ ins_clear i u e
      clear_code (Block p cs) f u e = clear_codes cs f u e
      clear_code (IfElse p q c a b) f u e = clear_ocmp q c _ _ (clear_code a f) (clear_code b f) u e
      clear_code (While p q c b) f u e = clear_while p q c _ (clear_code b) f u e

      clear_codes : (cs : Codes) (f : ℕ) → Clears (log_codes load_mem64 int_to_nat64 fill rule cs f)
      clear_codes ⟨⟩ f u e = e
      clear_codes (c ∷ᶜ cs) f u e = clear_some _ _ _ (clear_code c f u e) (clear_codes cs f)

-- ---- the first bad event
good_then : (l r : List Event) → first_bad l ≡ none → first_bad (l ++ r) ≡ first_bad r
unfolding first_bad
good_then [] r e = refl
good_then (passed n p ∷ l) r e = good_then l r e
good_then (failed n p s ∷ l) r e = cc
good_then (starved p s ∷ l) r e = cc

bad_then : (l r : List Event) (x : Event) → first_bad l ≡ some x → first_bad (l ++ r) ≡ some x
unfolding first_bad
bad_then [] r x e = cc
bad_then (passed n p ∷ l) r x e = bad_then l r x e
bad_then (failed n p s ∷ l) r x e = e
bad_then (starved p s ∷ l) r x e = e

events_good : (p : ℕ) (s : State) (notes : List Note) → first_failed notes ≡ none → first_bad (events p s notes) ≡ none
unfolding first_bad events first_failed
events_good p s [] e = refl
events_good p s (x ∷ notes) e = go x.1 e (events_good p s notes)
  where
    go : (b : Bool) → cond b (first_failed notes) (some x.0) ≡ none → (first_failed notes ≡ none → first_bad (events p s notes) ≡ none)
        → first_bad (event x.0 b p s ∷ events p s notes) ≡ none
    go true e f = f e
    go false e f = cc

events_bad : (p : ℕ) (s : State) (notes : List Note) (n : ℕ) → first_failed notes ≡ some n → first_bad (events p s notes) ≡ some (failed n p s)
unfolding first_bad events first_failed
events_bad p s [] n e = cc
events_bad p s (x ∷ notes) n e = go x.1 e (events_bad p s notes n)
  where
    go : (b : Bool) → cond b (first_failed notes) (some x.0) ≡ some n → (first_failed notes ≡ some n → first_bad (events p s notes) ≡ some (failed n p s))
        → first_bad (event x.0 b p s ∷ events p s notes) ≡ some (failed n p s)
    go true e f = f e
    go false e f = let k : x.0 ≡ n = cc in ap (λ m. some (failed m p s)) k

-- ---- a run and a log
module _ (env : Env) where
  -- what a log and what the source returns say of the end of a run
  pub data Tells (r : End) (m : Logged) : Type 0 where
    ends_done : (t : Config) → r ≡ ends done t → Held env t → first_bad m.0 ≡ none → m.1 ≡ some (state_of env t) → Tells r m
    ends_fault : (n p : ℕ) (t : Config) → r ≡ ends (fault n p) t → first_bad m.0 ≡ some (failed n p (state_of env t)) → Clear m.1 → Tells r m
    ends_spent : (p : ℕ) (t : Config) → r ≡ ends (spent p) t → first_bad m.0 ≡ some (starved p (state_of env t)) → Clear m.1 → Tells r m

  abbrev pub TellAll : Part → (State → Logged) → Type 0
  TellAll f l = (t : Config) (k : Counted) → Held env t → Tells (f t k).end (l (state_of env t))

  tells_returned : TellAll (ended done) returned
  unfolding first_bad
  tells_returned t k h = ends_done t refl h refl refl

  tells_after : (l : List Event) (r : End) (m : Logged) → first_bad l ≡ none → Tells r m → Tells r (after l m)
  tells_after l r m e (ends_done t a h f g) = ends_done t a h (good_then l m.0 e ∙ f) g
  tells_after l r m e (ends_fault n p t a f g) = ends_fault n p t a (good_then l m.0 e ∙ f) g
  tells_after l r m e (ends_spent p t a f g) = ends_spent p t a (good_then l m.0 e ∙ f) g

  stopped_then : (l : List Event) (o : Option State) (k : State → Logged) (x : Event) → first_bad l ≡ some x → first_bad (if_some l o k).0 ≡ some x
  unfolding if_some
  stopped_then l none k x e = e
  stopped_then l (some u) k x e = bad_then l (k u).0 x e

  tells_then : (r : Ended) (l : List Event) (o : Option State) (k : Part) (k' : State → Logged) → Tells r.end (l, o) → TellAll k k' → Clears k'
      → Tells (and_then r k).end (if_some l o k')
  unfolding continue if_some
  tells_then r l o k k' (ends_done t a h f g) all clears =
      subst⁻¹ (λ (x : End). Tells (continue x.how x.config r.counted k).end (if_some l o k')) a
      (subst⁻¹ (λ (x : Option State). Tells (k t r.counted).end (if_some l x k')) g
      (tells_after l (k t r.counted).end (k' (state_of env t)) f (all t r.counted h)))
  tells_then r l o k k' (ends_fault n p t a f g) all clears =
      ends_fault n p t (ap (λ (x : End). (continue x.how x.config r.counted k).end) a) (stopped_then l o k' _ f) (clear_some l o k' g clears)
  tells_then r l o k k' (ends_spent p t a f g) all clears =
      ends_spent p t (ap (λ (x : End). (continue x.how x.config r.counted k).end) a) (stopped_then l o k' _ f) (clear_some l o k' g clears)

  tells_choose : (b : Bool) (f g : Part) (f' g' : State → Logged) → TellAll f f' → TellAll g g' → TellAll (cond b f g) (choose b f' g')
  unfolding choose
  tells_choose true f g f' g' F G = F
  tells_choose false f g f' g' F G = G

  module _ (load_mem64 : ℤ → Memory → ℕ) (loads : LoadsMem64 load_mem64) (int_to_nat64 : ℤ → ℕ) (ints : IntToNat64 int_to_nat64) where
    abbrev noted : Config → Ocmp → (State × Bool) × List Note
    noted s c = note_ocmp load_mem64 int_to_nat64 env.fill (state_of env s) c

    ocmp_passes : (c : Ocmp) (s : Config) → WfOcmp c → Held env s → Run.valid_ocmp env c s ≡ true
        → noted s c ≡ ((state_of env (with_flags env.fill s), Run.eval_ocmp env c s), (Run.ocmp_number env c s, true) ∷ [])
    unfolding note_ocmp check Source.check Source.◌>>=◌
    ocmp_passes c s fits h e =
        rw (valid_ocmp_is env load_mem64 loads int_to_nat64 ints c s h ∙ e, ocmp_number_is env load_mem64 loads int_to_nat64 ints c s h)
        (ap (λ b. ((state_of env (with_flags env.fill s), b), (Run.ocmp_number env c s, true) ∷ []))
        (eval_ocmp_is env load_mem64 loads int_to_nat64 ints c s fits h e))

    ocmp_fails : (c : Ocmp) (s : Config) → Held env s → Run.valid_ocmp env c s ≡ false
        → ((noted s c).0.0.ok ≡ false) × ((noted s c).1 ≡ (Run.ocmp_number env c s, false) ∷ [])
    unfolding note_ocmp check Source.check Source.◌>>=◌
    ocmp_fails c s h e =
        rw (valid_ocmp_is env load_mem64 loads int_to_nat64 ints c s h ∙ e, ocmp_number_is env load_mem64 loads int_to_nat64 ints c s h) (refl, refl)

    -- of the run without a limit, which tries each step
    tells_ocmp : (q : ℕ) (c : Ocmp) (f g : Part) (f' g' : State → Logged) → WfOcmp c → TellAll f f' → TellAll g g' → Clears f' → Clears g'
        → TellAll (Running.decide env none q c f g) (log_ocmp load_mem64 int_to_nat64 env.fill q c f' g')
    unfolding Running.decide Running.run_ocmp Config.check step used_up count continue events first_bad
    tells_ocmp q c f g f' g' fits F G F' G' s k h = go (Run.valid_ocmp env c s) refl
      where
        next : (State × Bool) × List Note → Logged
        next r = after (events q (state_of env s) r.1) (choose r.0.1 f' g' r.0.0)

        -- the number of its check
        n : ℕ
        n = Run.ocmp_number env c s

        -- where it passes, and where the run then goes on
        passed_end : End
        passed_end = ends done (with_flags env.fill s)

        way : Part
        way = cond (Run.eval_ocmp env c s) f g

        counts : Outcome → Counted
        counts o = count o (watched env.rule (ocmp_layout c).kind q) k

        go : (b : Bool) → Run.valid_ocmp env c s ≡ b
            → let e = Config.check b n q s passed_end in Tells (continue e.how e.config (counts e.how) way).end (next (noted s c))
        go true e =
            let t = with_flags env.fill s in
            subst⁻¹ (λ (r : (State × Bool) × List Note). Tells (way t (counts done)).end (next r)) (ocmp_passes c s fits h e)
            (tells_after (passed n q ∷ []) _ _ refl (tells_choose (Run.eval_ocmp env c s) f g f' g' F G t (counts done) h))
        go false e =
            let r = noted s c in
            let u = state_of env s in
            let w = ocmp_fails c s h e in
            ends_fault n q s refl
            (subst⁻¹ (λ (l : List Note). first_bad (events q u l ++ (choose r.0.1 f' g' r.0.0).0) ≡ some (failed n q u)) w.1 refl)
            (clear_choose r.0.1 f' g' F' G' r.0.0 w.0)

    tells_ins : (p : ℕ) (s : Config) (o : (Unit {0} × State) × List Note) (r : End)
        → Said env p s o r → Tells r (events p (state_of env s) o.1, some o.0.1)
    tells_ins p s o r (finishes t a h f g) = ends_done t a h (events_good p _ o.1 f) (ap some g)
    tells_ins p s o r (stops n a f g) = ends_fault n p s a (events_bad p _ o.1 n f) g

    tells_rounds : (p q : ℕ) (c : Ocmp) (body : ℕ → Part) (body' : ℕ → State → Logged) → WfOcmp c
        → ((f : ℕ) → TellAll (body f) (body' f)) → ((f : ℕ) → Clears (body' f)) → (f : ℕ)
        → TellAll (Running.rounds env none body p q c f) (log_while load_mem64 int_to_nat64 env.fill p q c body' f)
    unfolding Running.rounds log_while first_bad choose
    tells_rounds p q c body body' fits tells clears zero s k h = ends_spent p s refl refl tt
    tells_rounds p q c body body' fits tells clears (suc f) s k h =
        let next : State → Logged = λ u. choose u.ok (log_while load_mem64 int_to_nat64 env.fill p q c body' f) returned u in
        let next_clear : Clears next = λ u e. clear_choose u.ok _ _ (clear_while load_mem64 int_to_nat64 env.fill p q c body' clears f) (λ v g. g) u e in
        tells_ocmp q c _ _ (λ u. if_some (body' f u).0 (body' f u).1 next) returned fits
        (λ t l i. tells_then _ _ _ _ next (tells f t l i) (tells_rounds p q c body body' fits tells clears f) next_clear)
        tells_returned
        (λ u e. clear_some _ _ next (clears f u e) next_clear)
        (λ u e. e) s k h

    mutual
      unfolding WfCode Running.run_code Running.run_codes step used_up log_code log_codes

      pub tells_code : (c : Code) → WfCode c → (f : ℕ) → TellAll (Running.run_code env none c f) (log_code load_mem64 int_to_nat64 env.fill env.rule c f)
      tells_code (Ins p i) fits f s k h = tells_ins p s _ _ (says_ins env load_mem64 loads int_to_nat64 ints p s h i fits)
      tells_code (Block p cs) fits f s k h = tells_codes cs fits f s k h
      tells_code (IfElse p q c a b) fits f s k h =
          tells_ocmp q c _ _ _ _ fits.0 (tells_code a fits.1 f) (tells_code b fits.2 f)
          (clear_code load_mem64 int_to_nat64 env.fill env.rule a f) (clear_code load_mem64 int_to_nat64 env.fill env.rule b f) s k h
      tells_code (While p q c b) fits f s k h =
          tells_rounds p q c _ _ fits.0 (tells_code b fits.1) (clear_code load_mem64 int_to_nat64 env.fill env.rule b) f s k h

      pub tells_codes : (cs : Codes) → WfCodes cs → (f : ℕ)
          → TellAll (Running.run_codes env none cs f) (log_codes load_mem64 int_to_nat64 env.fill env.rule cs f)
      tells_codes ⟨⟩ fits f s k h = tells_returned s k h
      tells_codes (c ∷ᶜ cs) fits f s k h =
          tells_then _ _ _ _ _ (tells_code c fits.0 f s k h) (tells_codes cs fits.1 f) (clear_codes load_mem64 int_to_nat64 env.fill env.rule cs f)
