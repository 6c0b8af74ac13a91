-- An instruction or a comparison as a step: it stops where the limit is used up, and else ends as it does by itself, counted where it is done.
-- Assumes nothing.
use Prim.Native.Nat.{ℕ, ◌+◌, ◌*◌, ◌^◌, ◌≤◌, ◌<◌}
use mathlib.Core.Path.{◌≡◌, refl, sym, ap, subst, ◌∙◌}
use mathlib.Core.Bool.{Bool, true, false, cond}
use mathlib.Core.List.{List, []}
use mathlib.Core.Option.{Option, some}
use native.Mathlib.Omega.{arith}
use borrow.Author.Tests.{leb-false}
use mir.Syntax.{w64}
use mir.Val.{Fits}
use lib.Dec.{eqb}
use lib.ListN.{length}
use Rattle.machine.proofs.OperandLaws.{unread_above, unread_below}
use Rattle.code.specs.declared.tree.Ocmp.{Ocmp}
use Rattle.code.specs.Layout.{Layout, layout, ocmp_layout, last_ins}
use Rattle.code.specs.Records.{is_ins, is_ocmp, body_length, operand_count, byte_at, bytes_at, behind, operands_at, ins_at, ocmp_at}
use Rattle.code.specs.Spells.{Stands}
use Rattle.code.proofs.Families.{ins_inside}
use Rattle.code.proofs.Layouts.{ins_laid, ocmp_laid}
use Rattle.code.proofs.Passing.{between_true}
use Rattle.eval.specs.Config.{Env, Config, with_flags, Outcome, done, fault, stopped, spent, End, ends, check}
use Rattle.eval.specs.Instructions.{valid_operand, valid_ocmp, ocmp_number, eval_ocmp}
use Rattle.eval.specs.Watch.{watched}
use Rattle.eval.specs.Counted.{Counted, ended, used_up, count, step}
use Rattle.eval.specs.Running.{run_ocmp}
use Rattle.eval.specs.Promises.{how, InsAt, RunsIns, Compares, ComparesAt, tally, StepsIns, DecidesAt}
use Rattle.eval.specs.declared.answer.Watch.{Watch}
use Rattle.eval.specs.declared.counted.Counter.{Counter}
use Rattle.eval.specs.Promises.{Exit}
use Rattle.std.specs.Prelude.{Ok, Err}
use Rattle.eval.specs.declared.exit.Stop.{Stop}
use Rattle.eval.specs.Promises.{Compared}
use Rattle.eval.proofs.InstructionLaws.{exit, err_ok, check_fails}

-- ---- what the number of a comparison says: v is whether it passes its check, whose number is m, and h whether it holds
module _ (v h : Bool) (m n : ℕ) (above : 1 < m) (e : n ≡ cond v (cond h 1 0) m) where
  unread_of : 1 < n → (v ≡ false) × (n ≡ m)
  unread_of k = go v h e
    where
      go : (v h : Bool) → n ≡ cond v (cond h 1 0) m → (v ≡ false) × (n ≡ m)
      go true true e = absurd (omega (arith, e, k))
      go true false e = absurd (omega (arith, e, k))
      go false h e = (refl, e)

  read_of : n ≤ 1 → (v ≡ true) × (n ≡ cond h 1 0)
  read_of k = go v e
    where
      go : (v : Bool) → n ≡ cond v (cond h 1 0) m → (v ≡ true) × (n ≡ cond h 1 0)
      go true e = (refl, e)
      go false e = absurd (omega (arith, e, k, above))

module _ (env : Env) (q : ℕ) (c : Ocmp) (s : Config) (e : ℕ) (x : Compared) (w : Compares env s c e x) where
  above : 1 < ocmp_number env c s
  unfolding ocmp_number
  above = unread_above (λ o. valid_operand env o s) s.regs (ocmp_layout c).operands

  below : ocmp_number env c s < 37
  unfolding ocmp_number
  below = unread_below (λ o. valid_operand env o s) s.regs (ocmp_layout c).operands

  ocmp_unread : 1 < x.how → run_ocmp env q c s ≡ ends (how (exit x.how q)) s
  unfolding run_ocmp
  ocmp_unread h =
      let z = unread_of (valid_ocmp env c s) (eval_ocmp env c s) (ocmp_number env c s) x.how above w.how h in
      check_fails _ _ x.how q s _ z.0 z.1 h below

  ocmp_read : x.how ≤ 1 → (run_ocmp env q c s ≡ ends done (with_flags env.fill s)) × (x.how ≡ cond (eval_ocmp env c s) 1 0)
  unfolding run_ocmp check
  ocmp_read h =
      let z = read_of (valid_ocmp env c s) (eval_ocmp env c s) (ocmp_number env c s) x.how above w.how h in
      (rw z.0, z.1)

-- the kind byte of what stands at a place is that of its layout
ins_kind : (bs : List ℕ) (at e : ℕ) → Stands is_ins bs at e → (layout (ins_at bs at)).kind ≡ byte_at bs at
unfolding ins_at
ins_kind bs at e st =
    let k = byte_at bs at in
    ap (λ (l : Layout). l.kind) (ins_laid k (bytes_at (body_length k) bs (at + 1)) (operands_at (operand_count k) bs (behind bs at)) st.head.kind)

ocmp_kind : (bs : List ℕ) (at e : ℕ) → Stands is_ocmp bs at e → (ocmp_layout (ocmp_at bs at)).kind ≡ byte_at bs at
unfolding ocmp_at
ocmp_kind bs at e st =
    let k = byte_at bs at in
    ap (λ (l : Layout). l.kind) (ocmp_laid k [] (operands_at (operand_count k) bs (behind bs at)) st.head.kind)

pub ins_below : (bs : List ℕ) (at : ℕ) → InsAt bs at → byte_at bs at < 32
ins_below bs at w = omega (arith, (between_true 0x01 last_ins (byte_at bs at) w.1.head.kind).1)

pub place_fits : (bs : List ℕ) (at : ℕ) → InsAt bs at → length bs * 1 < 2 ^ 63 → at + 1 < 2 ^ 64
place_fits bs at w l = omega (arith, ins_inside w.1, w.2, l)

module _ (limit : Option ℕ) (p : ℕ) (sees : Watch → Watch) (act : Config → End) (s : Config) (k : Counted) where
  pub step_stopped : used_up limit k ≡ true → step limit p sees act s k ≡ ended (stopped 37 p) s k
  unfolding step
  step_stopped h = rw h

  pub step_tried : used_up limit k ≡ false → (o : Outcome) (t : Config) → ends o t ≡ act s → step limit p sees act s k ≡ ended o t (count o sees k)
  unfolding step
  step_tried h o t e = rw (h, ← e)

-- what is not done is not counted
uncounted : (b c : Bool) (n p : ℕ) (sees : Watch → Watch) (k : Counted) → count (cond b (spent p) (cond c (stopped n p) (fault n p))) sees k ≡ k
unfolding count
uncounted true c n p sees k = refl
uncounted false true n p sees k = refl
uncounted false false n p sees k = refl

pub not_counted : (r : Stop) (sees : Watch → Watch) (k : Counted) → count (how (Err r)) sees k ≡ k
not_counted r sees k = uncounted (eqb r.number 1) (eqb r.number 37) r.number r.place sees k

-- where the limit is not used up, one step more is a word
pub step_fits : (limit : ℕ) (k : Counter) (b : Bool) → b ≡ used_up (some limit) (tally k) → b ≡ false → Fits w64 limit → k.steps + 1 < 2 ^ 64
unfolding used_up
step_fits limit k b is h f = let l = leb-false limit k.steps (sym is ∙ h) in omega (arith, l, f.fits)

-- ---- the limit was tested, with the answer b, before what stands at a place was tried
module _ (env : Env) (limit : Option ℕ) (bs : List ℕ) (at : ℕ) (s : Config) (k : Counted) (b : Bool) (is : b ≡ used_up limit k) where
  pub ins_stopped : b ≡ true → StepsIns env limit bs at s k (exit 37 at) s k
  ins_stopped h e stands = record { ends = sym (step_stopped limit at _ _ s k (sym is ∙ h)); next = λ q z. absurd (err_ok z) }

  pub ocmp_stopped : b ≡ true → DecidesAt env limit bs at s k (record { how = 37; next = 0 }) k
  ocmp_stopped h e stands = record {
    stops = λ _. step_stopped limit at _ _ s k (sym is ∙ h);
    goes = λ l. absurd (omega (arith, l));
    holds = λ l. absurd (omega (arith, l));
    next = λ l. absurd (omega (arith, l));
  }

  module _ (h : b ≡ false) where
    module _ (r : Exit) (t : Config) (ran : RunsIns env bs at s r t) where
      pub ins_ended : (st : Stop) → r ≡ Err st → StepsIns env limit bs at s k (Err st) t k
      ins_ended st z e stands =
          let w = (subst (λ (x : Exit). RunsIns env bs at s x t) z ran) e stands in
          record {
            ends =
                ap (λ (l : Counted). ended (how (Err st)) t l) (sym (not_counted st _ k))
                ∙ sym (step_tried limit at _ _ s k (sym is ∙ h) (how (Err st)) t w.ends);
            next = w.next;
          }

      pub ins_counted :
          (q : ℕ) → r ≡ Ok q → (l : Counted) → l ≡ count done (watched env.rule (byte_at bs at) at) k → StepsIns env limit bs at s k (Ok q) t l
      ins_counted q z l more e stands =
          let w = (subst (λ (x : Exit). RunsIns env bs at s x t) z ran) e stands in
          record {
            ends =
                ap (λ (l : Counted). ended done t l)
                (more ∙ ap (λ n. count done (watched env.rule n at) k) (sym (ins_kind bs at e stands)))
                ∙ sym (step_tried limit at _ _ s k (sym is ∙ h) done t w.ends);
            next = w.next;
          }

    module _ (x : Compared) (compares : ComparesAt env bs at s x) where
      pub ocmp_ended : 1 < x.how → DecidesAt env limit bs at s k x k
      ocmp_ended l e stands =
          let c = ocmp_at bs at in
          let ends_so = ocmp_unread env at c s e x (compares e stands) l in
          record {
            stops = λ _.
                step_tried limit at _ _ s k (sym is ∙ h) (how (exit x.how at)) s (sym ends_so)
                ∙ ap (λ (l : Counted). ended (how (exit x.how at)) s l) (not_counted (record { number = x.how; place = at }) _ k);
            goes = λ m. absurd (omega (arith, l, m));
            holds = λ m. absurd (omega (arith, l, m));
            next = λ m. absurd (omega (arith, l, m));
          }

      pub ocmp_counted :
          x.how ≤ 1 → (l : Counted) → l ≡ count done (watched env.rule (byte_at bs at) at) k → DecidesAt env limit bs at s k x l
      ocmp_counted m l more e stands =
          let c = ocmp_at bs at in
          let w = compares e stands in
          let z = ocmp_read env at c s e x w m in
          record {
            stops = λ n. absurd (omega (arith, m, n));
            goes = λ _.
                step_tried limit at _ _ s k (sym is ∙ h) done _ (sym z.0)
                ∙ ap (λ (l : Counted). ended done (with_flags env.fill s) l)
                (ap (λ n. count done (watched env.rule n at) k) (ocmp_kind bs at e stands) ∙ sym more);
            holds = λ _. z.1;
            next = w.next;
          }
