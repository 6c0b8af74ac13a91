-- A run under a limit beside the run without one: they go the same way, until a step is tried with the limit used up. Assumes nothing.
use Prim.Native.Nat.{ℕ, zero, suc, ◌≤◌, ◌<◌}
use mathlib.Core.Path.{◌≡◌, refl, sym, ap, subst, subst⁻¹, ◌∙◌}
use mathlib.Core.Bool.{Bool, true, false, cond}
use mathlib.Core.List.{List, [], ◌∷◌}
use mathlib.Core.Option.{Option, none, some}
use native.Mathlib.Omega.{arith}
use borrow.Author.Tests.{leb-true, leb-false}
use Rattle.machine.specs.Cells.{Verdict, accepted, check_cells}
use Rattle.machine.specs.Cells.{refused as cells_refused}
use Rattle.machine.specs.declared.Operand.{Operand}
use Rattle.code.specs.declared.tree.Instruction.{Instruction}
use Rattle.code.specs.declared.tree.Ocmp.{Ocmp}
use Rattle.code.specs.Tree.{Code, Ins, Block, IfElse, While, Codes, ⟨⟩, ◌∷ᶜ◌}
use Rattle.code.specs.Reader.{Read, got, trouble, parse}
use Rattle.eval.specs.Config.{Env, Config, Outcome, done, fault, stopped, spent, refused, End, ends, check, NotStopped}
use Rattle.eval.specs.declared.answer.Watch.{Watch}
use Rattle.eval.specs.Counted.{Counted, nothing_counted, Ended, ended, Part, continue, and_then, used_up, count, step}
use Rattle.eval.specs.Instructions.{readable, ruled, written, update_operand, act, run_ins, valid_ocmp, eval_ocmp}
use Rattle.eval.specs.Running.{run_ocmp, decide, rounds, run_code, run_codes, run_checked, run_read, run_of}
use Rattle.eval.proofs.StepLaws.{step_stopped, step_tried}
use Rattle.demands.specs.Stepping.{StopsAt, tried, DoneOrFails, is_done, fails, Stepping}
use Rattle.demands.proofs.Somewhere.{run_ends}
use Rattle.demands.proofs.Bound.{bounded}

-- ---- what is tried is done, or fails where it stands
module _ (p : ℕ) (s : Config) where
  either_check : (b : Bool) (n : ℕ) (k : End) → DoneOrFails p s k → DoneOrFails p s (check b n p s k)
  unfolding check
  either_check true n k h = h
  either_check false n k h = fails n refl

  either_ruled : (cs : List (Bool × ℕ)) (k : End) → DoneOrFails p s k → DoneOrFails p s (ruled p cs s k)
  either_ruled [] k h = h
  either_ruled (c ∷ cs) k h = either_check c.0 c.1 _ (either_ruled cs k h)

  module _ (env : Env) where
    either_readable : (os : List Operand) (k : End) → DoneOrFails p s k → DoneOrFails p s (readable env p os s k)
    either_readable [] k h = h
    either_readable (o ∷ os) k h = either_check _ _ _ (either_readable os k h)

    either_written : (ws : List (Operand × ℕ)) (f : Config → Config) (t : Config) → DoneOrFails p s (written env p ws s (λ u. ends done (f u)) t)
    either_written [] f t = is_done (f t) refl
    either_written (w ∷ ws) f t = either_check _ _ _ (either_written ws f (update_operand env w.0 w.1 t))

    either_ins : (i : Instruction) → DoneOrFails p s (run_ins env p i s)
    unfolding run_ins
    either_ins i =
        let a = act env i s in
        either_readable a.sources _ (either_ruled a.rules _ (either_written a.words _ s))

    either_ocmp : (c : Ocmp) → DoneOrFails p s (run_ocmp env p c s)
    unfolding run_ocmp
    either_ocmp c = either_check (valid_ocmp env c s) _ _ (is_done _ refl)

-- the steps made are among those tried
steps_tried : (o : Outcome) (k : Counted) → k.steps ≤ tried o k
unfolding tried
steps_tried done k = omega arith
steps_tried (fault n p) k = omega arith
steps_tried (stopped n p) k = omega arith
steps_tried (spent p) k = omega arith
steps_tried (refused n p) k = omega arith

-- a failed one is not counted
fault_uncounted : (n p : ℕ) (sees : Watch → Watch) (s : Config) (k : Counted) → ended (fault n p) s (count (fault n p) sees k) ≡ ended (fault n p) s k
unfolding count
fault_uncounted n p sees s k = refl

-- ---- the run e under the limit L beside the run u without one
module _ (L : ℕ) where
  -- they are the same, with no more tried than the limit allows; or e is stopped with all of it used up, where u tries more, and if that is a fault with as
  -- many steps, at its place and with what it leaves
  data Against (e u : Ended) : Type 0 where
    same : e ≡ u → tried u.end.how u.counted ≤ L → Against e u
    cut : (p : ℕ) (t : Config) (k : Counted) → e ≡ ended (stopped 37 p) t k → k.steps ≡ L → L < tried u.end.how u.counted
        → ((n q : ℕ) (v : Config) → u.end ≡ ends (fault n q) v → u.counted.steps ≡ L → (p ≡ q) × (t ≡ v)) → Against e u

  -- u counts on from k and is not stopped, and e is so beside it, where k leaves the limit unsurpassed
  record Beside (k : Counted) (e u : Ended) : Type 0 where
    grows : k.steps ≤ u.counted.steps
    unstopped : NotStopped u.end.how
    against : k.steps ≤ L → Against e u

  abbrev AllBeside : Part → Part → Type 0
  AllBeside f g = (s : Config) (k : Counted) → Beside k (f s k) (g s k)

  -- an end that is done, spent, or a fault, beside itself
  beside_done : AllBeside (ended done) (ended done)
  unfolding tried
  beside_done s k = record { grows = omega arith; unstopped = λ n p e. let z : ◌≡◌ {A = ℕ} 0 1 = cc in omega arith; against = λ le. same refl le }

  beside_spent : (p : ℕ) → AllBeside (ended (spent p)) (ended (spent p))
  unfolding tried
  beside_spent p s k = record { grows = omega arith; unstopped = λ n q e. let z : ◌≡◌ {A = ℕ} 0 1 = cc in omega arith; against = λ le. same refl le }

  beside_cond : (b : Bool) (f g f' g' : Part) → AllBeside f f' → AllBeside g g' → AllBeside (cond b f g) (cond b f' g')
  beside_cond true f g f' g' F G = F
  beside_cond false f g f' g' F G = G

  -- an end that is stopped stays so
  still : (e : Ended) (f : Part) (p : ℕ) (t : Config) (k : Counted) → e ≡ ended (stopped 37 p) t k → and_then e f ≡ ended (stopped 37 p) t k
  unfolding continue
  still e f p t k x = ap (λ y. and_then y f) x

  -- behind an end u that nothing follows
  stays : (e u : Ended) (f : Part) → and_then u f ≡ u → Against e u → Against (and_then e f) u
  stays e u f w (same x m) = same (ap (λ y. and_then y f) x ∙ w) m
  stays e u f w (cut q v k x y m z) = cut q v k (still e f q v k x) y m z

  -- behind one that is done
  behind_done :
      (e : Ended) (t : Config) (l : Counted) (f g : Part) → Beside l (f t l) (g t l) → Against e (ended done t l) → Against (and_then e f) (g t l)
  unfolding continue tried
  behind_done e t l f g rest (same x n) = subst⁻¹ (λ (y : Ended). Against (and_then y f) (g t l)) x (rest.against n)
  behind_done e t l f g rest (cut p v k x i n z) =
      cut p v k (still e f p v k x) i (omega (arith, n, rest.grows, steps_tried (g t l).end.how (g t l).counted))
      (λ m q w y steps. absurd (omega (arith, n, rest.grows, steps)))

  beside_then : (k : Counted) (e u : Ended) (f g : Part) → Beside k e u → AllBeside f g → Beside k (and_then e f) (and_then u g)
  unfolding continue
  beside_then k e u f g h F = go u.end.how u.end.config u.counted h
    where
      go : (o : Outcome) (t : Config) (l : Counted) → Beside k e (ended o t l) → Beside k (and_then e f) (continue o t l g)
      go done t l b =
          let rest = F t l in
          record {
            grows = omega (arith, b.grows, rest.grows);
            unstopped = rest.unstopped;
            against = λ le. behind_done e t l f g rest (b.against le);
          }
      go (fault n p) t l b = record { grows = b.grows; unstopped = b.unstopped; against = λ le. stays e _ f refl (b.against le) }
      go (stopped n p) t l b = absurd (b.unstopped n p refl)
      go (spent p) t l b = record { grows = b.grows; unstopped = b.unstopped; against = λ le. stays e _ f refl (b.against le) }
      go (refused n p) t l b = record { grows = b.grows; unstopped = b.unstopped; against = λ le. stays e _ f refl (b.against le) }

  -- a step that is done, or fails
  module _ (p : ℕ) (sees : Watch → Watch) (act : Config → End) (s : Config) (k : Counted) where
    -- the limit is used up by as many steps
    full : used_up (some L) k ≡ true → k.steps ≤ L → k.steps ≡ L
    unfolding used_up
    full b le = omega (arith, le, leb-true L k.steps b)

    tried_there : (o : Outcome) (t : Config) → act s ≡ ends o t → step none p sees act s k ≡ ended o t (count o sees k)
    unfolding used_up
    tried_there o t e = step_tried none p sees act s k refl o t (sym e)

    beside_made : (t : Config) → act s ≡ ends done t → Beside k (step (some L) p sees act s k) (ended done t (count done sees k))
    unfolding count tried used_up
    beside_made t e = record {
      grows = omega arith;
      unstopped = λ n q x. let z : ◌≡◌ {A = ℕ} 0 1 = cc in omega arith;
      against = λ le. go (used_up (some L) k) refl le;
    }
      where
        go : (b : Bool) → used_up (some L) k ≡ b → k.steps ≤ L → Against (step (some L) p sees act s k) (ended done t (count done sees k))
        go true b le =
            cut p s k (step_stopped (some L) p sees act s k b) (full b le) (omega (arith, full b le))
            (λ m q v y _. let x : done ≡ fault m q = ap (λ (r : End). r.how) y in absurd (let z : ◌≡◌ {A = ℕ} 0 1 = cc in omega arith))
        go false b le = same (step_tried (some L) p sees act s k b done t (sym e)) (omega (arith, leb-false L k.steps b))

    beside_failed : (n : ℕ) → act s ≡ ends (fault n p) s → Beside k (step (some L) p sees act s k) (ended (fault n p) s k)
    unfolding count tried used_up
    beside_failed n e = record {
      grows = omega arith;
      unstopped = λ m q x. let z : ◌≡◌ {A = ℕ} 0 1 = cc in omega arith;
      against = λ le. go (used_up (some L) k) refl le;
    }
      where
        go : (b : Bool) → used_up (some L) k ≡ b → k.steps ≤ L → Against (step (some L) p sees act s k) (ended (fault n p) s k)
        go true b le =
            cut p s k (step_stopped (some L) p sees act s k b) (full b le) (omega (arith, full b le))
            (λ m q v y _.
            let x : fault n p ≡ fault m q = ap (λ (r : End). r.how) y in
            (cc, ap (λ (r : End). r.config) y))
        go false b le = same (step_tried (some L) p sees act s k b (fault n p) s (sym e)) (omega (arith, leb-false L k.steps b))

  beside_step : (p : ℕ) (sees : Watch → Watch) (act : Config → End) → ((s : Config) → DoneOrFails p s (act s))
      → AllBeside (step (some L) p sees act) (step none p sees act)
  beside_step p sees act h s k = go (h s)
    where
      go : DoneOrFails p s (act s) → Beside k (step (some L) p sees act s k) (step none p sees act s k)
      go (is_done t e) =
          subst⁻¹ (λ (x : Ended). Beside k (step (some L) p sees act s k) x) (tried_there p sees act s k done t e) (beside_made p sees act s k t e)
      go (fails n e) =
          subst⁻¹ (λ (x : Ended). Beside k (step (some L) p sees act s k) x) (tried_there p sees act s k (fault n p) s e ∙ fault_uncounted n p sees s k)
          (beside_failed p sees act s k n e)

  module _ (env : Env) where
    beside_decide : (q : ℕ) (c : Ocmp) (f g f' g' : Part) → AllBeside f f' → AllBeside g g'
        → AllBeside (decide env (some L) q c f g) (decide env none q c f' g')
    unfolding decide
    beside_decide q c f g f' g' F G s k =
        beside_then k _ _ _ _ (beside_step q _ (run_ocmp env q c) (λ t. either_ocmp q t env c) s k) (beside_cond (eval_ocmp env c s) f g f' g' F G)

    beside_rounds : (body body' : ℕ → Part) → ((f : ℕ) → AllBeside (body f) (body' f)) → (p q : ℕ) (c : Ocmp) (f : ℕ)
        → AllBeside (rounds env (some L) body p q c f) (rounds env none body' p q c f)
    unfolding rounds
    beside_rounds body body' h p q c zero s k = beside_spent p s k
    beside_rounds body body' h p q c (suc f) s k =
        beside_decide q c _ _ _ _ (λ t l. beside_then l _ _ _ _ (h f t l) (beside_rounds body body' h p q c f)) beside_done s k

    mutual
      unfolding run_code run_codes

      beside_code : (c : Code) (f : ℕ) → AllBeside (run_code env (some L) c f) (run_code env none c f)
      beside_code (Ins p i) f s k = beside_step p _ (run_ins env p i) (λ t. either_ins p t env i) s k
      beside_code (Block p cs) f s k = beside_codes cs f s k
      beside_code (IfElse p q c a b) f s k = beside_decide q c _ _ _ _ (beside_code a f) (beside_code b f) s k
      beside_code (While p q c b) f s k = beside_rounds _ _ (beside_code b) p q c f s k

      beside_codes : (cs : Codes) (f : ℕ) → AllBeside (run_codes env (some L) cs f) (run_codes env none cs f)
      beside_codes ⟨⟩ f s k = beside_done s k
      beside_codes (c ∷ᶜ cs) f s k = beside_then k _ _ _ _ (beside_code c f s k) (beside_codes cs f)

    -- Running, of which refusals have no steps
    beside_run : (code : List ℕ) (fuel : ℕ) (s : Config) → Beside nothing_counted (run_of code env fuel (some L) s) (run_of code env fuel none s)
    unfolding run_of run_read run_checked tried
    beside_run code fuel s = read (parse code)
      where
        refuses : (n p : ℕ) → Beside nothing_counted (ended (refused n p) s nothing_counted) (ended (refused n p) s nothing_counted)
        refuses n p = record { grows = omega arith; unstopped = λ m q e. let z : ◌≡◌ {A = ℕ} 0 1 = cc in omega arith; against = λ le. same refl le }

        checked : (v : Verdict) (c : Code) → Beside nothing_counted (run_checked env v c fuel (some L) s) (run_checked env v c fuel none s)
        checked accepted c = beside_code c fuel s nothing_counted
        checked (cells_refused n i) c = refuses n i

        read : (r : Read Code) → Beside nothing_counted (run_read env r fuel (some L) s) (run_read env r fuel none s)
        read (trouble n p) = refuses n p
        read (got c next) = checked (check_cells env.addresses env.tags s.values) c

-- ---- what follows of a run under a limit and the run u without
module _ (code : List ℕ) (env : Env) (fuel l : ℕ) (s : Config) where
  abbrev e : Ended
  e = run_of code env fuel (some l) s

  abbrev u : Ended
  u = run_of code env fuel none s

  both : Beside l nothing_counted e u
  both = beside_run l env code fuel s

  whole : Against l e u
  whole = both.against (omega arith)

  within : e.counted.steps ≤ l
  within = go whole
    where
      go : Against l e u → e.counted.steps ≤ l
      go (same x m) = omega (arith, m, steps_tried u.end.how u.counted, ap (λ (r : Ended). r.counted.steps) x)
      go (cut p t k x i m z) = omega (arith, i, ap (λ (r : Ended). r.counted.steps) x)

  not_met : NotStopped e.end.how → e ≡ u
  not_met n = go whole
    where
      go : Against l e u → e ≡ u
      go (same x m) = x
      go (cut p t k x i m z) = absurd (n 37 p (ap (λ (r : Ended). r.end.how) x))

  enough : tried u.end.how u.counted ≤ l → e ≡ u
  enough h = go whole
    where
      go : Against l e u → e ≡ u
      go (same x m) = x
      go (cut p t k x i m z) = absurd (omega (arith, h, m))

  stopped_when : l < tried u.end.how u.counted → (p : ℕ) × (t : Config) × (e.end ≡ ends (stopped 37 p) t) × (e.counted.steps ≡ l)
  stopped_when h = go whole
    where
      go : Against l e u → (p : ℕ) × (t : Config) × (e.end ≡ ends (stopped 37 p) t) × (e.counted.steps ≡ l)
      go (same x m) = absurd (omega (arith, h, m))
      go (cut p t k x i m z) = (p, t, ap (λ (r : Ended). r.end) x, ap (λ (r : Ended). r.counted.steps) x ∙ i)

  stopped_only : (n p : ℕ) → e.end.how ≡ stopped n p → l < tried u.end.how u.counted
  stopped_only n p h = go whole
    where
      go : Against l e u → l < tried u.end.how u.counted
      go (same x m) = absurd (both.unstopped n p (ap (λ (r : Ended). r.end.how) (sym x) ∙ h))
      go (cut q t k x i m z) = m

  before_fault : (n p : ℕ) (t : Config) → u.end ≡ ends (fault n p) t → u.counted.steps ≡ l → (e.end ≡ ends (stopped 37 p) t) × (e.counted.steps ≡ l)
  unfolding tried
  before_fault n p t h steps = go whole
    where
      tries : tried u.end.how u.counted ≡ suc l
      tries = ap (λ (o : Outcome). tried o u.counted) (ap (λ (r : End). r.how) h) ∙ ap suc steps

      go : Against l e u → (e.end ≡ ends (stopped 37 p) t) × (e.counted.steps ≡ l)
      go (same x m) = absurd (omega (arith, m, tries))
      go (cut q v k x i m z) =
          let w = z n p t h steps in
          (ap (λ (r : Ended). r.end) x ∙ (λ j. ends (stopped 37 (w.0 j)) (w.1 j)), ap (λ (r : Ended). r.counted.steps) x ∙ i)

  -- the same under a larger limit, by way of the run without
  larger : (m : ℕ) → l ≤ m → NotStopped e.end.how → run_of code env fuel (some m) s ≡ e
  larger m le n = go whole
    where
      other : Against l e u → Against m (run_of code env fuel (some m) s) u → run_of code env fuel (some m) s ≡ e
      other (same x a) (same y b) = y ∙ sym x
      other (same x a) (cut p t k y i b z) = absurd (omega (arith, a, b, le))
      other (cut p t k x i a z) w = absurd (n 37 p (ap (λ (r : Ended). r.end.how) x))

      go : Against l e u → run_of code env fuel (some m) s ≡ e
      go w = other w ((beside_run m env code fuel s).against (omega arith))

-- ---- the place of a stopped run
abbrev IsStopped : Outcome → Type 0
IsStopped done = ⊥
IsStopped (fault n p) = ⊥
IsStopped (stopped n p) = Unit {0}
IsStopped (spent p) = ⊥
IsStopped (refused n p) = ⊥

module _ (limit : Option ℕ) (n p : ℕ) where
  abbrev Stops : Ended → Type 0
  Stops e = e.end.how ≡ stopped n p

  is_stopped : {o : Outcome} → o ≡ stopped n p → IsStopped o
  is_stopped e = subst⁻¹ IsStopped e tt

  -- a step stops only at its own place, and what is tried never does
  step_stops : (q : ℕ) (sees : Watch → Watch) (act : Config → End) (s : Config) (k : Counted) → DoneOrFails q s (act s)
      → Stops (step limit q sees act s k) → (q ≡ p) × (n ≡ 37)
  unfolding step
  step_stops q sees act s k h e = go (used_up limit k) e
    where
      ends_otherwise : DoneOrFails q s (act s) → IsStopped (act s).how → ⊥
      ends_otherwise (is_done t x) w = subst (λ (y : End). IsStopped y.how) x w
      ends_otherwise (fails m x) w = subst (λ (y : End). IsStopped y.how) x w

      go : (b : Bool) → Stops (cond b (ended (stopped 37 q) s k) (record { end = act s; counted = count (act s).how sees k })) → (q ≡ p) × (n ≡ 37)
      go true x = (cc, cc)
      go false x = absurd (ends_otherwise h (is_stopped x))

  run_stops : (env : Env) (code : List ℕ) (fuel : ℕ) (s : Config) → Stops (run_of code env fuel limit s)
      → (c : Code) × (next : ℕ) × (parse code ≡ got c next) × StopsAt c p n
  run_stops env =
      run_ends env limit Stops _ _ (λ s k e. is_stopped e) (λ q s k e. is_stopped e) (λ m q s k e. is_stopped e)
      (λ q i s k e. step_stops q _ (run_ins env q i) s k (either_ins q s env i) e)
      (λ q c s k e. step_stops q _ (run_ocmp env q c) s k (either_ocmp q s env c) e)

pub stepping : Stepping
unfolding run_code rounds count decide continue
stepping = record {
  instruction = λ env p i s. either_ins p s env i;
  comparison = λ env q c s. either_ocmp q s env c;
  counts = λ limit p sees act s t k h e. step_tried limit p sees act s k h done t (sym e);
  one_more = λ sees k. omega arith;
  counts_none = λ limit p sees act s t k n q h e. step_tried limit p sees act s k h (fault n q) t (sym e);
  stops = step_stopped;
  decides = λ env limit q c f g s t k h e.
      ap (λ (x : Ended). and_then x (cond (eval_ocmp env c s) f g)) (step_tried limit q _ (run_ocmp env q c) s k h done t (sym e));
  spent_first = λ env limit p q c b s k. refl;
  bounded = bounded;
  within = within;
  not_met = not_met;
  larger = λ code env fuel l m s le. larger code env fuel l s m le;
  never = λ code env fuel s. (both code env fuel 0 s).unstopped;
  stopped_when = stopped_when;
  stopped_only = λ code env fuel l n p s. stopped_only code env fuel l s n p;
  enough = enough;
  before_fault = λ code env fuel l n p s t. before_fault code env fuel l s n p t;
  placed = λ code env fuel limit n p s. run_stops limit n p env code fuel s;
}
