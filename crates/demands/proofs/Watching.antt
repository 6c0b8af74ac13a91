-- A run under two fill words. Beside each other go two configurations that are alike but for open flags, as long as the watch of the first run is
-- unmarked: an instruction that then reads a flag reads a closed one, which is the same in both. Assumes nothing.
use Prim.Native.Nat.{ℕ, zero, suc}
use mathlib.Core.Path.{◌≡◌, refl, sym, ap, ◌∙◌, subst, subst⁻¹}
use mathlib.Core.Bool.{Bool, true, false, cond, ◌&&◌, ◌||◌, false≢true}
use mathlib.Core.List.{List, [], ◌∷◌}
use mathlib.Core.Option.{Option}
use native.Mathlib.Omega.{arith}
use borrow.Author.Tests.{ne_eqb}
use Rattle.words.specs.Flags.{cf, overflow}
use Rattle.machine.specs.Cells.{Verdict, accepted, check_cells}
use Rattle.machine.specs.Cells.{refused as cells_refused}
use Rattle.code.specs.declared.tree.Instruction.{Instruction}
use Rattle.code.specs.declared.tree.Ocmp.{Ocmp}
use Rattle.code.specs.declared.tree.Ocmp.TheVariants.{OEq, ONe, OLe, OGe, OLt, OGt}
use Rattle.code.specs.Families.{among}
use Rattle.code.specs.Layout.{layout, ocmp_layout}
use Rattle.code.specs.Tree.{Code, Ins, Block, IfElse, While, Codes, ⟨⟩, ◌∷ᶜ◌}
use Rattle.code.specs.Reader.{Read, got, trouble, parse}
use Rattle.eval.specs.declared.answer.Evaluation.{Evaluation}
use Rattle.eval.specs.declared.answer.Watch.{Watch}
use Rattle.eval.specs.FlagRule.{Touch, keeps, opens, closes, FlagRule, flag_rule}
use Rattle.eval.specs.Config.{Env, Config, with_flags, Outcome, done, fault, stopped, spent, refused, End, ends, check}
use Rattle.eval.specs.Watch.{Mark, Unmarked, Marked, nothing_open, touched, open_after, reads_open, first_mark, watched}
use Rattle.eval.specs.Counted.{Counted, nothing_counted, Ended, ended, Part, continue, and_then, used_up, count, step}
use Rattle.eval.specs.Instructions.{act, run_ins, valid_ocmp, ocmp_number, eval_ocmp}
use Rattle.eval.specs.Running.{run_ocmp, step_ins, step_ocmp, decide, rounds, run_code, run_codes, run_checked, run_read, run_of}
use Rattle.stores.proofs.OnlyStores.{never_refused, runs_tree}
use Rattle.demands.specs.Stepping.{DoneOrFails, is_done, fails}
use Rattle.demands.specs.Watching.{Says, ReadsSame, Right, SameButOpen, Watching}
use Rattle.demands.proofs.Stepping.{stepping}
use Rattle.demands.proofs.Filling.{under, turned, turned_done, turned_fault, turned_flags, turned_how, SameRead, steady, done_flags, ins_how, ins_turned, same_ocmp, ocmp_turned}

-- ---- marks
-- what reads no open flag keeps the mark, and a mark stays
unmarked_reads : (reads : Bool) (p : ℕ) (m : Mark) → first_mark reads p m ≡ Unmarked → (reads ≡ false) × (m ≡ Unmarked)
unfolding first_mark
unmarked_reads false p m e = (refl, e)
unmarked_reads true p Unmarked e = absurd (let z : ◌≡◌ {A = ℕ} 0 1 = cc in omega arith)
unmarked_reads true p (Marked q) e = absurd (let z : ◌≡◌ {A = ℕ} 0 1 = cc in omega arith)

marked_stays : (reads : Bool) (p q : ℕ) (m : Mark) → m ≡ Marked q → first_mark reads p m ≡ Marked q
unfolding first_mark
marked_stays false p q m e = e
marked_stays true p q m e = rw e

-- ---- flags
-- a flag that is not open behind what touches it is the same, if it was where it was not open
module _ (flag : ℕ → Bool) (fill other f g h j : ℕ) where
  closed_same : (t : Touch) (was : Bool) → Says flag fill other f g t h j → (was ≡ false → flag g ≡ flag f) → open_after t was ≡ false → flag j ≡ flag h
  unfolding open_after
  closed_same keeps was k same e = k.1 ∙ same e ∙ sym k.0
  closed_same opens was k same e = absurd (false≢true (sym e))
  closed_same closes was k same e = sym k

  open_fill : (t : Touch) (was : Bool) → Says flag fill other f g t h j → (was ≡ true → flag f ≡ flag fill) → open_after t was ≡ true → flag h ≡ flag fill
  unfolding open_after
  open_fill keeps was k same e = k.0 ∙ same e
  open_fill opens was k same e = k.0
  open_fill closes was k same e = absurd (false≢true e)

-- ---- two configurations, alike but for open flags
record Alike (w : Watch) (s t : Config) : Type 0 where
  regs : t.regs ≡ s.regs
  xmms : t.xmms ≡ s.xmms
  values : t.values ≡ s.values
  carry : w.carry ≡ false → cf t.flags ≡ cf s.flags
  over : w.overflow ≡ false → overflow t.flags ≡ overflow s.flags

reflagged : {w : Watch} (s t : Config) → Alike w s t → t ≡ with_flags t.flags s
reflagged s t a = rw (sym a.regs, sym a.xmms, sym a.values)

-- what is open is the fill word's
record Opened (fill : ℕ) (w : Watch) (s : Config) : Type 0 where
  carry : w.carry ≡ true → cf s.flags ≡ cf fill
  over : w.overflow ≡ true → overflow s.flags ≡ overflow fill

-- two ends
record Same (one two : Ended) : Type 0 where
  how : two.end.how ≡ one.end.how
  counted : two.counted ≡ one.counted
  alike : Alike one.counted.watch one.end.config two.end.config

-- where the first is unmarked
abbrev Follows : Ended → Ended → Type 0
Follows one two = one.counted.watch.mark ≡ Unmarked → Same one two

-- a part of the run under one fill word, and the same part under the other: a mark stays, what is open is the fill word's, and where there is no mark in the
-- end the two follow each other
record Beside (fill : ℕ) (f g : Part) : Type 0 where
  stays : (s : Config) (k : Counted) (q : ℕ) → k.watch.mark ≡ Marked q → (f s k).counted.watch.mark ≡ Marked q
  opened : (s : Config) (k : Counted) → Opened fill k.watch s → Opened fill (f s k).counted.watch (f s k).end.config
  follows : (s t : Config) (k : Counted) → Alike k.watch s t → Follows (f s k) (g t k)

unmarked_before : (f : Part) → ((s : Config) (k : Counted) (q : ℕ) → k.watch.mark ≡ Marked q → (f s k).counted.watch.mark ≡ Marked q)
    → (s : Config) (k : Counted) → (f s k).counted.watch.mark ≡ Unmarked → k.watch.mark ≡ Unmarked
unmarked_before f stays s k e = go k.watch.mark refl
  where
    go : (m : Mark) → k.watch.mark ≡ m → m ≡ Unmarked
    go Unmarked is = refl
    go (Marked q) is = absurd (let x : Unmarked ≡ Marked q = sym e ∙ stays s k q is in let z : ◌≡◌ {A = ℕ} 0 1 = cc in omega arith)

-- ---- one after the other
module _ (fill : ℕ) (f g : Part) (B : Beside fill f g) where
  then_stays : (x : Ended) (q : ℕ) → x.counted.watch.mark ≡ Marked q → (and_then x f).counted.watch.mark ≡ Marked q
  unfolding continue
  then_stays x q m = go x.end.how
    where
      go : (o : Outcome) → (continue o x.end.config x.counted f).counted.watch.mark ≡ Marked q
      go done = B.stays _ _ q m
      go (fault n p) = m
      go (stopped n p) = m
      go (spent p) = m
      go (refused n p) = m

  then_opened : (x : Ended) → Opened fill x.counted.watch x.end.config
      → Opened fill (and_then x f).counted.watch (and_then x f).end.config
  unfolding continue
  then_opened x h = go x.end.how
    where
      go : (o : Outcome) → let y = continue o x.end.config x.counted f in Opened fill y.counted.watch y.end.config
      go done = B.opened _ _ h
      go (fault n p) = h
      go (stopped n p) = h
      go (spent p) = h
      go (refused n p) = h

  then_follows : (x y : Ended) → Follows x y → Follows (and_then x f) (and_then y g)
  unfolding continue
  then_follows x y h = go x.end.how refl
    where
      u : Config
      u = x.end.config

      k : Counted
      k = x.counted

      -- an end that is not done is the end
      over : (o : Outcome) → x.end.how ≡ o → ((v : Config) (l : Counted) (p : Part) → continue o v l p ≡ ended o v l)
          → Follows (continue o u k f) (and_then y g)
      over o is there m =
          let z = h (sym (ap (λ (w : Ended). w.counted.watch.mark) (there u k f)) ∙ m) in
          subst⁻¹ (λ (w : Ended). Same w (and_then y g)) (there u k f)
          (subst⁻¹ (λ (c : Outcome). Same (ended o u k) (continue c y.end.config y.counted g)) (z.how ∙ is)
          (subst⁻¹ (λ (w : Ended). Same (ended o u k) w) (there y.end.config y.counted g)
          (record { how = refl; counted = z.counted; alike = z.alike })))

      go : (o : Outcome) → x.end.how ≡ o → Follows (continue o u k f) (and_then y g)
      go done is m =
          let z = h (unmarked_before f B.stays u k m) in
          subst⁻¹ (λ (c : Outcome). Same (f u k) (continue c y.end.config y.counted g)) (z.how ∙ is)
          (subst⁻¹ (λ (l : Counted). Same (f u k) (g y.end.config l)) z.counted (B.follows u y.end.config k z.alike m))
      go (fault n p) is m = over _ is (λ v l part. refl) m
      go (stopped n p) is m = over _ is (λ v l part. refl) m
      go (spent p) is m = over _ is (λ v l part. refl) m
      go (refused n p) is m = over _ is (λ v l part. refl) m

beside_cond : (fill : ℕ) (b : Bool) (f g f' g' : Part) → Beside fill f f' → Beside fill g g' → Beside fill (cond b f g) (cond b f' g')
beside_cond fill true f g f' g' F G = F
beside_cond fill false f g f' g' F G = G

-- a part that ends at once
beside_end : (fill : ℕ) (o : Outcome) → Beside fill (ended o) (ended o)
beside_end fill o = record {
  stays = λ s k q m. m;
  opened = λ s k h. h;
  follows = λ s t k a m. record { how = refl; counted = refl; alike = a };
}

-- ---- a step
-- what an act does under one fill word and under the other: both fail alike; or the first is done, and where that makes no mark the other is done, and
-- what they leave is alike
data Acts (p : ℕ) (sees : Watch → Watch) (w : Watch) (s t : Config) (one two : End) : Type 0 where
  both_fail : (n : ℕ) → one ≡ ends (fault n p) s → two ≡ ends (fault n p) t → Acts p sees w s t one two
  both_done : (u : Config) → one ≡ ends done u → ((sees w).mark ≡ Unmarked → (v : Config) × (two ≡ ends done v) × Alike (sees w) u v)
      → Acts p sees w s t one two

-- and alone: it fails, or what it leaves open is the fill word's
data Opens (fill p : ℕ) (sees : Watch → Watch) (w : Watch) (s : Config) (one : End) : Type 0 where
  none_done : (n : ℕ) → one ≡ ends (fault n p) s → Opens fill p sees w s one
  one_done : (u : Config) → one ≡ ends done u → Opened fill (sees w) u → Opens fill p sees w s one

module _ (limit : Option ℕ) (fill p : ℕ) (sees : Watch → Watch) (a b : Config → End)
    (keeps_mark : (w : Watch) (q : ℕ) → w.mark ≡ Marked q → (sees w).mark ≡ Marked q)
    (leaves : (w : Watch) (s : Config) → Opened fill w s → Opens fill p sees w s (a s))
    (acts : (w : Watch) (s t : Config) → Alike w s t → Acts p sees w s t (a s) (b t)) where
  count_stays : (o : Outcome) (k : Counted) (q : ℕ) → k.watch.mark ≡ Marked q → (count o sees k).watch.mark ≡ Marked q
  unfolding count
  count_stays done k q m = keeps_mark k.watch q m
  count_stays (fault n p) k q m = m
  count_stays (stopped n p) k q m = m
  count_stays (spent p) k q m = m
  count_stays (refused n p) k q m = m

  step_stays : (s : Config) (k : Counted) (q : ℕ) → k.watch.mark ≡ Marked q → (step limit p sees a s k).counted.watch.mark ≡ Marked q
  unfolding step
  step_stays s k q m = go (used_up limit k)
    where
      go : (c : Bool) → (cond c (ended (stopped 37 p) s k) (record { end = a s; counted = count (a s).how sees k })).counted.watch.mark ≡ Marked q
      go true = m
      go false = count_stays (a s).how k q m

  step_follows : (s t : Config) (k : Counted) → Alike k.watch s t → Follows (step limit p sees a s k) (step limit p sees b t k)
  unfolding step count
  step_follows s t k alike = go (used_up limit k)
    where
      tried : Acts p sees k.watch s t (a s) (b t)
          → Follows (record { end = a s; counted = count (a s).how sees k }) (record { end = b t; counted = count (b t).how sees k })
      tried (both_fail n e r) m = rw (e, r) (record { how = refl; counted = refl; alike = alike })
      tried (both_done u e after) m =
          let z = after (subst (λ (x : End). (count x.how sees k).watch.mark ≡ Unmarked) e m) in
          rw (e, z.1) (record { how = refl; counted = refl; alike = z.2 })

      go : (c : Bool)
          → Follows (cond c (ended (stopped 37 p) s k) (record { end = a s; counted = count (a s).how sees k }))
          (cond c (ended (stopped 37 p) t k) (record { end = b t; counted = count (b t).how sees k }))
      go true m = record { how = refl; counted = refl; alike = alike }
      go false m = tried (acts k.watch s t alike) m

  step_opened : (s : Config) (k : Counted) → Opened fill k.watch s
      → let e = step limit p sees a s k in Opened fill e.counted.watch e.end.config
  unfolding step count
  step_opened s k h = go (used_up limit k)
    where
      tried : Opens fill p sees k.watch s (a s) → Opened fill (count (a s).how sees k).watch (a s).config
      tried (none_done n e) = rw e h
      tried (one_done u e after) = rw e after

      go : (c : Bool) → let e = cond c (ended (stopped 37 p) s k) (record { end = a s; counted = count (a s).how sees k }) in
          Opened fill e.counted.watch e.end.config
      go true = h
      go false = tried (leaves k.watch s h)

  beside_step : Beside fill (step limit p sees a) (step limit p sees b)
  beside_step = record { stays = step_stays; opened = step_opened; follows = step_follows }

-- ---- an instruction, and a comparison
watched_stays : (rule : FlagRule) (n p : ℕ) (w : Watch) (q : ℕ) → w.mark ≡ Marked q → (watched rule n p w).mark ≡ Marked q
unfolding watched
watched_stays rule n p w q m = marked_stays (reads_open n w) p q w.mark m

watched_unmarked : (rule : FlagRule) (n p : ℕ) (w : Watch) → (watched rule n p w).mark ≡ Unmarked → reads_open n w ≡ false
unfolding watched
watched_unmarked rule n p w m = (unmarked_reads (reads_open n w) p w.mark m).0

-- of two readings of which neither is of an open flag, each is not
neither : (a b c d : Bool) → a && b || c && d ≡ false → (a ≡ true → b ≡ false) × (c ≡ true → d ≡ false)
neither true false true true e = absurd (false≢true (sym e))
neither true false true false e = (λ _. refl, λ _. refl)
neither true false false d e = (λ _. refl, λ z. absurd (false≢true z))
neither true true c d e = absurd (false≢true (sym e))
neither false b true true e = absurd (false≢true (sym e))
neither false b true false e = (λ z. absurd (false≢true z), λ _. refl)
neither false b false d e = (λ z. absurd (false≢true z), λ z. absurd (false≢true z))

fault_is : {n m p q : ℕ} → fault n p ≡ fault m q → n ≡ m
fault_is e = cc

not_fault : {n p : ℕ} → done ≡ fault n p → ⊥
not_fault e = let z : ◌≡◌ {A = ℕ} 0 1 = cc in omega arith

module _ (e : Evaluation) (addresses tags : List ℕ) (fill other : ℕ) where
  abbrev env : Env
  env = under e addresses tags fill

  abbrev env' : Env
  env' = under e addresses tags other

  module _ (p : ℕ) (i : Instruction) (w : Watch) (s t : Config) (a : Alike w s t) where
    abbrev kind : ℕ
    kind = (layout i).kind

    -- what it reads is the same, where it reads no open flag
    reads_same : reads_open kind w ≡ false → SameRead e addresses tags fill other p s s.flags t.flags kind
    unfolding reads_open
    reads_same r =
        let z = neither _ _ _ _ r in
        record { carry = λ h. sym (a.carry (z.0 h)); over = λ h. sym (a.over (z.1 h)) }

    ins_fails : (n : ℕ) → run_ins env p i s ≡ ends (fault n p) s → run_ins env' p i t ≡ ends (fault n p) t
    ins_fails n f = go (stepping.instruction env' p i t)
      where
        same_how : (run_ins env' p i t).how ≡ fault n p
        same_how =
            ap (λ (u : Config). (run_ins env' p i u).how) (reflagged s t a)
            ∙ ins_how e addresses tags fill other p s s.flags t.flags i ∙ ap (λ (x : End). x.how) f

        go : DoneOrFails p t (run_ins env' p i t) → run_ins env' p i t ≡ ends (fault n p) t
        go (is_done u d) = absurd (not_fault (sym (ap (λ (x : End). x.how) d) ∙ same_how))
        go (fails m d) = d ∙ ap (λ k. ends (fault k p) t) (fault_is (sym (ap (λ (x : End). x.how) d) ∙ same_how))

    ins_done : (u : Config) → run_ins env p i s ≡ ends done u → (watched (flag_rule e) kind p w).mark ≡ Unmarked
        → (v : Config) × (run_ins env' p i t ≡ ends done v) × Alike (watched (flag_rule e) kind p w) u v
    unfolding watched
    ins_done u d m = (with_flags h u, is, record { regs = refl; xmms = refl; values = refl; carry = carry_closed; over = over_closed })
      where
        same : SameRead e addresses tags fill other p s s.flags t.flags kind
        same = reads_same (watched_unmarked (flag_rule e) kind p w m)

        h : ℕ
        h = (act env' i (with_flags t.flags s)).flags

        is : run_ins env' p i t ≡ ends done (with_flags h u)
        is =
            ap (λ (x : Config). run_ins env' p i x) (reflagged s t a)
            ∙ ins_turned e addresses tags fill other p s s.flags t.flags i same
            ∙ ap (turned h t.flags) d ∙ turned_done h t.flags u

        left : u.flags ≡ (act env i s).flags
        left = done_flags e addresses tags fill p i s u d

        carry_closed : open_after (touched (flag_rule e) kind).carry w.carry ≡ false → cf h ≡ cf u.flags
        carry_closed o =
            closed_same cf fill other s.flags t.flags (act env i s).flags h (touched (flag_rule e) kind).carry w.carry
            ((steady e addresses tags fill other p s s.flags t.flags i).carries same) a.carry o
            ∙ ap cf (sym left)

        over_closed : open_after (touched (flag_rule e) kind).overflow w.overflow ≡ false → overflow h ≡ overflow u.flags
        over_closed o =
            closed_same overflow fill other s.flags t.flags (act env i s).flags h (touched (flag_rule e) kind).overflow w.overflow
            ((steady e addresses tags fill other p s s.flags t.flags i).overflows same) a.over o
            ∙ ap overflow (sym left)

    ins_acts : Acts p (watched (flag_rule e) kind p) w s t (run_ins env p i s) (run_ins env' p i t)
    ins_acts = go (stepping.instruction env p i s)
      where
        go : DoneOrFails p s (run_ins env p i s) → Acts p (watched (flag_rule e) kind p) w s t (run_ins env p i s) (run_ins env' p i t)
        go (is_done u d) = both_done u d (ins_done u d)
        go (fails n d) = both_fail n d (ins_fails n d)

  -- a comparison opens both, by either rule
  ocmp_opens : (c : Ocmp) → ((touched (flag_rule e) (ocmp_layout c).kind).carry ≡ opens) × ((touched (flag_rule e) (ocmp_layout c).kind).overflow ≡ opens)
  unfolding touched
  ocmp_opens (OEq a b) = (refl, refl)
  ocmp_opens (ONe a b) = (refl, refl)
  ocmp_opens (OLe a b) = (refl, refl)
  ocmp_opens (OGe a b) = (refl, refl)
  ocmp_opens (OLt a b) = (refl, refl)
  ocmp_opens (OGt a b) = (refl, refl)

  module _ (q : ℕ) (c : Ocmp) (w : Watch) (s t : Config) (a : Alike w s t) where
    compares : run_ocmp env' q c t ≡ turned other t.flags (run_ocmp env q c s)
    compares =
        ap (λ (u : Config). run_ocmp env' q c u) (reflagged s t a)
        ∙ ocmp_turned e addresses tags fill other q s s.flags t.flags c

    answers_same : eval_ocmp env' c t ≡ eval_ocmp env c s
    answers_same = ap (eval_ocmp env' c) (reflagged s t a) ∙ (same_ocmp e addresses tags fill other q s s.flags t.flags c).answer

    never_closed : (was : Bool) (o : Touch) → o ≡ opens → open_after o was ≡ false → ⊥
    unfolding open_after
    never_closed was o is z = false≢true (sym (subst (λ x. open_after x was ≡ false) is z))

    ocmp_acts : Acts q (watched (flag_rule e) (ocmp_layout c).kind q) w s t (run_ocmp env q c s) (run_ocmp env' q c t)
    unfolding watched
    ocmp_acts = go (stepping.comparison env q c s)
      where
        go : DoneOrFails q s (run_ocmp env q c s)
            → Acts q (watched (flag_rule e) (ocmp_layout c).kind q) w s t (run_ocmp env q c s) (run_ocmp env' q c t)
        go (is_done u d) =
            both_done u d
            (λ m. (
              with_flags other u,
              compares ∙ ap (turned other t.flags) d ∙ turned_done other t.flags u,
              record {
                regs = refl;
                xmms = refl;
                values = refl;
                carry = λ z. absurd (never_closed w.carry _ (ocmp_opens c).0 z);
                over = λ z. absurd (never_closed w.overflow _ (ocmp_opens c).1 z);
              },
            ))
        go (fails n d) =
            both_fail n d (compares ∙ ap (turned other t.flags) d ∙ turned_fault other t.flags n q s ∙ ap (ends (fault n q)) (sym (reflagged s t a)))

  -- what is left open, of one run
  module _ (p : ℕ) (i : Instruction) (w : Watch) (s : Config) (h : Opened fill w s) where
    -- beside itself
    self : SameRead e addresses tags fill fill p s s.flags s.flags (layout i).kind
    self = record { carry = λ _. refl; over = λ _. refl }

    ins_opens : Opens fill p (watched (flag_rule e) (layout i).kind p) w s (run_ins env p i s)
    unfolding watched
    ins_opens = go (stepping.instruction env p i s)
      where
        after : (u : Config) → run_ins env p i s ≡ ends done u → Opened fill (watched (flag_rule e) (layout i).kind p w) u
        after u d =
            let left = done_flags e addresses tags fill p i s u d in
            let row = steady e addresses tags fill fill p s s.flags s.flags i in
            record {
              carry = λ o. ap cf left ∙ open_fill cf fill fill s.flags s.flags _ _ _ w.carry (row.carries self) h.carry o;
              over = λ o. ap overflow left ∙ open_fill overflow fill fill s.flags s.flags _ _ _ w.overflow (row.overflows self) h.over o;
            }

        go : DoneOrFails p s (run_ins env p i s) → Opens fill p (watched (flag_rule e) (layout i).kind p) w s (run_ins env p i s)
        go (is_done u d) = one_done u d (after u d)
        go (fails n d) = none_done n d

  ocmp_leaves : (q : ℕ) (c : Ocmp) (w : Watch) (s : Config) → Opened fill w s
      → Opens fill q (watched (flag_rule e) (ocmp_layout c).kind q) w s (run_ocmp env q c s)
  unfolding run_ocmp check
  ocmp_leaves q c w s h = go (valid_ocmp env c s)
    where
      go : (v : Bool) → Opens fill q (watched (flag_rule e) (ocmp_layout c).kind q) w s (check v (ocmp_number env c s) q s (ends done (with_flags fill s)))
      go true = one_done (with_flags fill s) refl (record { carry = λ _. refl; over = λ _. refl })
      go false = none_done (ocmp_number env c s) refl

  -- ---- codes
  module _ (limit : Option ℕ) where
    beside_ins : (p : ℕ) (i : Instruction) → Beside fill (step_ins env limit p i) (step_ins env' limit p i)
    beside_ins p i = beside_step limit fill p _ _ _ (watched_stays (flag_rule e) (layout i).kind p) (ins_opens p i) (ins_acts p i)

    beside_ocmp : (q : ℕ) (c : Ocmp) → Beside fill (step_ocmp env limit q c) (step_ocmp env' limit q c)
    beside_ocmp q c = beside_step limit fill q _ _ _ (watched_stays (flag_rule e) (ocmp_layout c).kind q) (ocmp_leaves q c) (ocmp_acts q c)

    beside_decide : (q : ℕ) (c : Ocmp) (f g f' g' : Part) → Beside fill f f' → Beside fill g g'
        → Beside fill (decide env limit q c f g) (decide env' limit q c f' g')
    unfolding decide
    beside_decide q c f g f' g' F G = record {
      stays = λ s k r m.
          let b = eval_ocmp env c s in
          then_stays fill (cond b f g) (cond b f' g') (beside_cond fill b f g f' g' F G) _ r ((beside_ocmp q c).stays s k r m);
      opened = λ s k h.
          let b = eval_ocmp env c s in
          then_opened fill (cond b f g) (cond b f' g') (beside_cond fill b f g f' g' F G) _ ((beside_ocmp q c).opened s k h);
      follows = λ s t k a.
          let b = eval_ocmp env c s in
          subst⁻¹ (λ (d : Bool). Follows (and_then (step_ocmp env limit q c s k) (cond b f g)) (and_then (step_ocmp env' limit q c t k) (cond d f' g')))
          (answers_same q c k.watch s t a)
          (then_follows fill (cond b f g) (cond b f' g') (beside_cond fill b f g f' g' F G) _ _ ((beside_ocmp q c).follows s t k a));
    }

    beside_then : (f f' g g' : Part) → Beside fill f f' → Beside fill g g' → Beside fill (λ s k. and_then (f s k) g) (λ s k. and_then (f' s k) g')
    beside_then f f' g g' F G = record {
      stays = λ s k r m. then_stays fill g g' G _ r (F.stays s k r m);
      opened = λ s k h. then_opened fill g g' G _ (F.opened s k h);
      follows = λ s t k a. then_follows fill g g' G _ _ (F.follows s t k a);
    }

    beside_rounds : (body body' : ℕ → Part) → ((n : ℕ) → Beside fill (body n) (body' n)) → (p q : ℕ) (c : Ocmp) (n : ℕ)
        → Beside fill (rounds env limit body p q c n) (rounds env' limit body' p q c n)
    unfolding rounds
    beside_rounds body body' B p q c zero = beside_end fill (spent p)
    beside_rounds body body' B p q c (suc n) =
        beside_decide q c _ _ _ _ (beside_then (body n) (body' n) _ _ (B n) (beside_rounds body body' B p q c n)) (beside_end fill done)

    mutual
      unfolding run_code run_codes

      beside_code : (c : Code) (n : ℕ) → Beside fill (run_code env limit c n) (run_code env' limit c n)
      beside_code (Ins p i) n = beside_ins p i
      beside_code (Block p cs) n = beside_codes cs n
      beside_code (IfElse p q c a b) n = beside_decide q c _ _ _ _ (beside_code a n) (beside_code b n)
      beside_code (While p q c b) n = beside_rounds _ _ (beside_code b) p q c n

      beside_codes : (cs : Codes) (n : ℕ) → Beside fill (run_codes env limit cs n) (run_codes env' limit cs n)
      beside_codes ⟨⟩ n = beside_end fill done
      beside_codes (c ∷ᶜ cs) n = beside_then _ _ _ _ (beside_code c n) (beside_codes cs n)

-- ---- runs
module _ (e : Evaluation) (addresses tags : List ℕ) (fill other : ℕ) (limit : Option ℕ) (fuel : ℕ) (s : Config) where
  abbrev one : Env
  one = under e addresses tags fill

  abbrev two : Env
  two = under e addresses tags other

  itself : (w : Watch) → Alike w s s
  itself w = record { regs = refl; xmms = refl; values = refl; carry = λ _. refl; over = λ _. refl }

  at_once : (o : Outcome) → Same (ended o s nothing_counted) (ended o s nothing_counted)
  at_once o = record { how = refl; counted = refl; alike = itself nothing_open }

  nothing_opened : Opened fill nothing_open s
  nothing_opened = record { carry = λ z. absurd (false≢true z); over = λ z. absurd (false≢true z) }

  checked_follows : (v : Verdict) (c : Code) → Follows (run_checked one v c fuel limit s) (run_checked two v c fuel limit s)
  unfolding run_checked
  checked_follows accepted c m = (beside_code e addresses tags fill other limit c fuel).follows s s nothing_counted (itself nothing_open) m
  checked_follows (cells_refused n i) c m = at_once (refused n i)

  run_follows : (code : List ℕ) → Follows (run_of code one fuel limit s) (run_of code two fuel limit s)
  unfolding run_of run_read
  run_follows code = read (parse code)
    where
      read : (r : Read Code) → Follows (run_read one r fuel limit s) (run_read two r fuel limit s)
      read (got c next) m = checked_follows (check_cells addresses tags s.values) c m
      read (trouble n p) m = at_once (refused n p)

  checked_opened : (v : Verdict) (c : Code) → let r = run_checked one v c fuel limit s in Opened fill r.counted.watch r.end.config
  unfolding run_checked
  checked_opened accepted c = (beside_code e addresses tags fill other limit c fuel).opened s nothing_counted nothing_opened
  checked_opened (cells_refused n i) c = nothing_opened

  run_opened : (code : List ℕ) → let r = run_of code one fuel limit s in Opened fill r.counted.watch r.end.config
  unfolding run_of run_read
  run_opened code = read (parse code)
    where
      read : (r : Read Code) → let x = run_read one r fuel limit s in Opened fill x.counted.watch x.end.config
      read (got c next) = checked_opened (check_cells addresses tags s.values) c
      read (trouble n p) = nothing_opened

same_but_open : (x y : Ended) → Same x y → SameButOpen x y
same_but_open x y z = record {
  how = z.how;
  regs = z.alike.regs;
  xmms = z.alike.xmms;
  values = z.alike.values;
  counted = z.counted;
  carry = z.alike.carry;
  over = z.alike.over;
}

-- ---- the table
both_false : (x : Bool) → x && false || true && true ≡ true
both_false true = refl
both_false false = refl

not_done_fault : {n p : ℕ} {o : Outcome} → o ≡ done → o ≡ fault n p → ⊥
not_done_fault d f = not_fault (sym d ∙ f)

module _ (e : Evaluation) (addresses tags : List ℕ) where
  abbrev by_fill : ℕ → Env
  by_fill = under e addresses tags

  -- an instruction that is done leaves the flags of its act
  leaves_act : (fill p : ℕ) (i : Instruction) (s : Config) → (run_ins (by_fill fill) p i s).how ≡ done
      → (run_ins (by_fill fill) p i s).config.flags ≡ (act (by_fill fill) i s).flags
  leaves_act fill p i s completes = go (stepping.instruction (by_fill fill) p i s)
    where
      go : DoneOrFails p s (run_ins (by_fill fill) p i s) → (run_ins (by_fill fill) p i s).config.flags ≡ (act (by_fill fill) i s).flags
      go (is_done u d) = ap (λ (x : End). x.config.flags) d ∙ done_flags e addresses tags fill p i s u d
      go (fails n d) = absurd (not_done_fault completes (ap (λ (x : End). x.how) d))

  module _ (i : Instruction) (p : ℕ) (s : Config) (fill other g : ℕ) where
    same_read : ReadsSame (layout i).kind s.flags g → SameRead e addresses tags fill other p s s.flags g (layout i).kind
    unfolding reads_open
    same_read r =
        let k = (layout i).kind in
        record { carry = λ h. r.carry (rw h); over = λ h. r.over (rw h (both_false (among (0x04 ∷ 0x05 ∷ []) k))) }

    ins_right : (run_ins (by_fill fill) p i s).how ≡ done → ReadsSame (layout i).kind s.flags g
        → Right (touched (flag_rule e) (layout i).kind) fill other s.flags g (run_ins (by_fill fill) p i s) (run_ins (by_fill other) p i (with_flags g s))
    ins_right completes r =
        let also = ins_how e addresses tags fill other p s s.flags g i ∙ completes in
        let one = leaves_act fill p i s completes in
        let two = leaves_act other p i (with_flags g s) also in
        let row = steady e addresses tags fill other p s s.flags g i in
        record { completes = also; carry = rw (one, two) (row.carries (same_read r)); over = rw (one, two) (row.overflows (same_read r)) }

  module _ (c : Ocmp) (q : ℕ) (s : Config) (fill other g : ℕ) (completes : (run_ocmp (by_fill fill) q c s).how ≡ done) where
    ocmp_one : End
    ocmp_one = run_ocmp (by_fill fill) q c s

    ocmp_two : End
    ocmp_two = run_ocmp (by_fill other) q c (with_flags g s)

    -- both leave their fill words
    left_one : ocmp_one.config.flags ≡ fill
    unfolding ocmp_one
    left_one =
        ap (λ (r : End). r.config.flags) (ocmp_turned e addresses tags fill fill q s s.flags s.flags c)
        ∙ turned_flags fill s.flags (run_ocmp (by_fill fill) q c s) completes

    left_two : ocmp_two.config.flags ≡ other
    unfolding ocmp_two
    left_two =
        ap (λ (r : End). r.config.flags) (ocmp_turned e addresses tags fill other q s s.flags g c)
        ∙ turned_flags other g (run_ocmp (by_fill fill) q c s) completes

    ocmp_right : Right (touched (flag_rule e) (ocmp_layout c).kind) fill other s.flags g (run_ocmp (by_fill fill) q c s)
        (run_ocmp (by_fill other) q c (with_flags g s))
    unfolding ocmp_one ocmp_two
    ocmp_right =
        let opened = ocmp_opens e addresses tags fill other c in
        record {
          completes = turned_how other g _ _ (ocmp_turned e addresses tags fill other q s s.flags g c) ∙ completes;
          carry =
              subst⁻¹ (λ t. Says cf fill other s.flags g t ocmp_one.config.flags ocmp_two.config.flags) opened.0
              (ap cf left_one, ap cf left_two);
          over =
              subst⁻¹ (λ t. Says overflow fill other s.flags g t ocmp_one.config.flags ocmp_two.config.flags) opened.1
              (ap overflow left_one, ap overflow left_two);
        }

-- ---- what is watched
module _ (limit : Option ℕ) (p : ℕ) (sees : Watch → Watch) (act : Config → End) (s : Config) (k : Counted) where
  step_watched : (step limit p sees act s k).end.how ≡ done → (step limit p sees act s k).counted.watch ≡ sees k.watch
  unfolding step count
  step_watched = go (used_up limit k)
    where
      go : (b : Bool) → let e = cond b (ended (stopped 37 p) s k) (record { end = act s; counted = count (act s).how sees k }) in
          e.end.how ≡ done → e.counted.watch ≡ sees k.watch
      go true d = absurd (let z : ◌≡◌ {A = ℕ} 0 1 = cc in omega arith)
      go false d = rw d

  not_counted : (o : Outcome) → (o ≡ done → ⊥) → count o sees k ≡ k
  unfolding count
  not_counted done n = absurd (n refl)
  not_counted (fault m q) n = refl
  not_counted (stopped m q) n = refl
  not_counted (spent q) n = refl
  not_counted (refused m q) n = refl

  step_unwatched : ((step limit p sees act s k).end.how ≡ done → ⊥) → (step limit p sees act s k).counted.watch ≡ k.watch
  unfolding step
  step_unwatched = go (used_up limit k)
    where
      go : (b : Bool) → let e = cond b (ended (stopped 37 p) s k) (record { end = act s; counted = count (act s).how sees k }) in
          (e.end.how ≡ done → ⊥) → e.counted.watch ≡ k.watch
      go true n = refl
      go false n = ap (λ (l : Counted). l.watch) (not_counted (act s).how n)

not_read : (k : ℕ) → (k ≡ 0x04 → ⊥) → (k ≡ 0x05 → ⊥) → (k ≡ 0x06 → ⊥) → (w : Watch) → reads_open k w ≡ false
unfolding reads_open
not_read k a b c w = rw (ne_eqb k 0x04 a, ne_eqb k 0x05 b, ne_eqb k 0x06 c)

ocmp_reads : (c : Ocmp) (w : Watch) → reads_open (ocmp_layout c).kind w ≡ false
unfolding reads_open
ocmp_reads (OEq a b) w = refl
ocmp_reads (ONe a b) w = refl
ocmp_reads (OLe a b) w = refl
ocmp_reads (OGe a b) w = refl
ocmp_reads (OLt a b) w = refl
ocmp_reads (OGt a b) w = refl

either : (b : Bool) → b || false ≡ b
either true = refl
either false = refl

-- a refused run has begun nothing
refused_so : (code : List ℕ) (env : Env) (fuel : ℕ) (limit : Option ℕ) (s : Config) (n p : ℕ)
    → (run_of code env fuel limit s).end.how ≡ refused n p → (run_of code env fuel limit s).counted.watch ≡ nothing_open
unfolding run_of run_read run_checked
refused_so code env fuel limit s n p = read (parse code)
  where
    checked : (v : Verdict) (c : Code) → (run_checked env v c fuel limit s).end.how ≡ refused n p
        → (run_checked env v c fuel limit s).counted.watch ≡ nothing_open
    checked accepted c h =
        let x = run_code env limit c fuel s nothing_counted in
        absurd (never_refused env limit c fuel s x.end.config n p (ap (λ (o : Outcome). ends o x.end.config) h))
    checked (cells_refused m i) c h = refl

    read : (r : Read Code) → (run_read env r fuel limit s).end.how ≡ refused n p → (run_read env r fuel limit s).counted.watch ≡ nothing_open
    read (got c next) h = checked (check_cells env.addresses env.tags s.values) c h
    read (trouble m q) h = refl

marks_so : (rule : FlagRule) (n p : ℕ) (w : Watch) → w.mark ≡ Unmarked → reads_open n w ≡ true → (watched rule n p w).mark ≡ Marked p
unfolding watched first_mark
marks_so rule n p w m r = rw (r, m)

marks_none_so : (rule : FlagRule) (n p : ℕ) (w : Watch) → reads_open n w ≡ false → (watched rule n p w).mark ≡ w.mark
unfolding watched first_mark
marks_none_so rule n p w r = rw r

pub watching : Watching
unfolding reads_open
watching = record {
  each = λ e addresses tags. record {
    right = ins_right e addresses tags;
    right_compared = ocmp_right e addresses tags;
    unmarked = λ code fuel limit s fill other m. same_but_open _ _ (run_follows e addresses tags fill other limit fuel s code m);
    stays = λ c fuel limit s k fill p. (beside_code e addresses tags fill fill limit c fuel).stays s k p;
    carry_open = λ code fuel limit s fill. (run_opened e addresses tags fill fill limit fuel s code).carry;
    overflow_open = λ code fuel limit s fill. (run_opened e addresses tags fill fill limit fuel s code).over;
  };
  completed = λ env limit p i s k. step_watched limit p _ (run_ins env p i) s k;
  compared = λ env limit q c s k. step_watched limit q _ (run_ocmp env q c) s k;
  not_completed = λ env limit p i s k. step_unwatched limit p _ (run_ins env p i) s k;
  not_compared = λ env limit q c s k. step_unwatched limit q _ (run_ocmp env q c) s k;
  add_carry64 = λ dst src w. either w.carry;
  adcx64 = λ dst src w. either w.carry;
  adox64 = λ dst src w. refl;
  no_other = λ i. not_read (layout i).kind;
  no_comparison = ocmp_reads;
  marks = λ env. marks_so env.rule;
  marks_none = λ env. marks_none_so env.rule;
  marks_once = λ env k p q w. watched_stays env.rule k p w q;
  begins = runs_tree;
  refused_unmarked = refused_so;
}
