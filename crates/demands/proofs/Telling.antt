-- A check that fails has one reason, and a reason makes its check fail: said once of an operand, and then of sources, rules and destinations in a row, of
-- a comparison, and of a whole run by its tree. Assumes nothing.
use Prim.Native.Nat.{ℕ, ◌^◌}
use mathlib.Core.Path.{◌≡◌, refl, sym, ◌∙◌, ap, subst, subst⁻¹}
use mathlib.Core.Bool.{Bool, true, false, not, ◌&&◌, cond, false≢true}
use mathlib.Core.List.{List, [], ◌∷◌, ◌++◌, map, reverse}
use mathlib.Core.Logic.{◌⊎◌, inl, inr, ⊎_elim}
use mathlib.Core.Option.{Option, none, some}
use borrow.Author.Tests.{leb-true, le-leb, eqb-true}
use lib.Dec.{eqb}
use lib.IntN.{ℤ, pos, negsuc}
use Rattle.machine.specs.Registers.{Rsp, reg}
use Rattle.machine.specs.Operands.{eval_maddr, wild, wild_operand, wild_or, unread_number, valid_dst}
use Rattle.machine.specs.Cells.{find_cell, is_cell}
use Rattle.machine.specs.declared.Maddr.{Maddr}
use Rattle.machine.specs.declared.Operand.{Operand}
use Rattle.machine.specs.declared.Operand.TheVariants.{OConst, OReg, OMem}
use Rattle.machine.proofs.OperandLaws.{find_wild}
use Rattle.code.specs.declared.tree.Instruction.{Instruction}
use Rattle.code.specs.declared.tree.Ocmp.{Ocmp}
use Rattle.code.specs.declared.tree.Ocmp.TheVariants.{OEq, ONe, OLe, OGe, OLt, OGt}
use Rattle.code.specs.Layout.{layout, ocmp_layout}
use Rattle.code.proofs.Layouts.{every_ins}
use Rattle.code.specs.Tree.{Code}
use Rattle.code.specs.Reader.{got, parse}
use Rattle.eval.specs.Config.{Env, Config, with_flags, Outcome, done, fault, stopped, spent, refused, End, ends, check}
use Rattle.eval.specs.Instructions.{cell_of, valid_operand, valid_dst_operand, update_operand, readable, ruled, written, act, run_ins, valid_ocmp, ocmp_number}
use Rattle.eval.specs.declared.answer.Watch.{Watch}
use Rattle.eval.specs.Counted.{Counted, Ended, ended, used_up, count, step}
use Rattle.eval.specs.Running.{run_ocmp, step_ins, step_ocmp, run_of}
use Rattle.source.proofs.OperandLaws.{both}
use Rattle.demands.proofs.Somewhere.{run_ends}
use Rattle.demands.specs.Telling.{OutOfRange, Wild, Absent, Unread, wild_src, absent_src, Unwritten, wild_dst, absent_dst, constant, rsp, AllRead, FirstUnread, AllHold, FirstBroken, FirstUnwritten, Fails, FailsAt, rule_numbers, AcceptedCells, Telling}

-- ---- exact addresses
wild_is : (z : ℤ) → wild z ≡ true → OutOfRange z
unfolding wild
wild_is (pos n) e = leb-true (2 ^ 64) n e
wild_is (negsuc n) e = tt

is_out : (z : ℤ) → OutOfRange z → wild z ≡ true
unfolding wild
is_out (pos n) h = le-leb (2 ^ 64) n h
is_out (negsuc n) h = refl

not_both : {b : Bool} {A : Type 0} → b ≡ true → b ≡ false → A
not_both e f = absurd (false≢true (sym f ∙ e))

-- ---- a check
-- only a fault is one
abbrev IsFault : Outcome → Type 0
IsFault done = ⊥
IsFault (fault n p) = Unit {0}
IsFault (stopped n p) = ⊥
IsFault (spent p) = ⊥
IsFault (refused n p) = ⊥

is_fault : {e : End} {n p : ℕ} {t : Config} → e ≡ ends (fault n p) t → IsFault e.how
is_fault e = subst⁻¹ (λ (x : End). IsFault x.how) e tt

-- the end of a fault names its number, its place and what it leaves
same_fault : {m n p q : ℕ} {s t : Config} → ends (fault m p) s ≡ ends (fault n q) t → (q ≡ p) × (t ≡ s) × (n ≡ m)
same_fault {m} {n} {p} {q} {s} {t} e =
    let h : fault m p ≡ fault n q = ap (λ (x : End). x.how) e in
    (cc, sym (ap (λ (x : End). x.config) e), cc)

module _ {n q : ℕ} {t : Config} (p : ℕ) (s : Config) where
  -- it fails, and the fault is its own, or it passes and the fault is that of what follows
  check_faults : (b : Bool) (m : ℕ) (k : End) → check b m p s k ≡ ends (fault n q) t
      → ((b ≡ false) × (q ≡ p) × (t ≡ s) × (n ≡ m)) ⊎ ((b ≡ true) × (k ≡ ends (fault n q) t))
  unfolding check
  check_faults true m k e = inr (refl, e)
  check_faults false m k e = let w = same_fault e in inl (refl, w.0, w.1, w.2)

module _ (env : Env) where
  -- ---- an operand
  module _ (s : Config) where
    abbrev Misses : Operand → ℕ → ℕ → Type 0
    Misses o k n = ((n ≡ 36) × Wild o s) ⊎ ((n ≡ k) × Absent env o s)

    -- memory that has no cell
    misses : (m : Maddr) (k n : ℕ) → cell_of env m s ≡ none → n ≡ wild_or k (OMem m) s.regs → Misses (OMem m) k n
    unfolding wild_operand
    misses m k n e is = go (wild (eval_maddr m s.regs)) refl is
      where
        go : (b : Bool) → wild (eval_maddr m s.regs) ≡ b → n ≡ cond b 36 k → Misses (OMem m) k n
        go true w is = inl (is, record { memory = m; is_memory = refl; out = wild_is _ w })
        go false w is =
            inr (is, record { memory = m; is_memory = refl; not_out = λ out. not_both (is_out _ out) w; no_cell = e })

    -- an operand that cannot be read
    unreadable : (o : Operand) (k n : ℕ) → valid_operand env o s ≡ false → n ≡ wild_or k o s.regs → Misses o k n
    unfolding valid_operand
    unreadable (OConst v) k n e is = absurd (false≢true (sym e))
    unreadable (OReg r) k n e is = absurd (false≢true (sym e))
    unreadable (OMem m) k n e is = misses m k n (go (cell_of env m s) e) is
      where
        go : (i : Option ℕ) → is_cell i ≡ false → i ≡ none
        go none e = refl
        go (some i) e = absurd (false≢true (sym e))

    unread_why : (o : Operand) (n : ℕ) → valid_operand env o s ≡ false → n ≡ wild_or 31 o s.regs → Unread env o s n
    unread_why o n e is =
        ⊎_elim (λ (w : (n ≡ 36) × Wild o s). wild_src w.0 w.1) (λ w. absent_src w.0 w.1) (unreadable o 31 n e is)

    unwritten_why : (o : Operand) (n : ℕ) → valid_dst_operand env o s ≡ false → n ≡ wild_or 32 o s.regs → Unwritten env o s n
    unfolding valid_dst_operand valid_operand valid_dst wild_operand
    unwritten_why (OConst v) n e is = constant is v refl
    unwritten_why (OReg r) n e is = rsp is (go (eqb r.number 7) refl e)
      where
        go : (b : Bool) → eqb r.number 7 ≡ b → not b ≡ false → OReg r ≡ OReg Rsp
        go true h f = ap (λ i. OReg (reg i)) (eqb-true r.number 7 h)
        go false h f = absurd (false≢true (sym f))
    unwritten_why (OMem m) n e is = go (is_cell (cell_of env m s)) refl e
      where
        go : (b : Bool) → valid_operand env (OMem m) s ≡ b → b && true ≡ false → Unwritten env (OMem m) s n
        go true h f = absurd (false≢true (sym f))
        go false h f = ⊎_elim (λ (w : (n ≡ 36) × Wild (OMem m) s). wild_dst w.0 w.1) (λ w. absent_dst w.0 w.1) (unreadable (OMem m) 32 n h is)

    -- the other way, over accepted cells
    module _ (cells : AcceptedCells env) where
      no_cell_out : (z : ℤ) → OutOfRange z → find_cell env.addresses env.tags z ≡ none
      no_cell_out z out = find_wild env.addresses env.tags z cells.0 cells.1 (is_out z out)

      wild_fails : (o : Operand) → Wild o s → (valid_operand env o s ≡ false) × (wild_operand o s.regs ≡ true)
      unfolding valid_operand wild_operand cell_of
      wild_fails o w = rw (w.is_memory, no_cell_out _ w.out, is_out _ w.out) (refl, refl)

      absent_fails : (o : Operand) → Absent env o s → (valid_operand env o s ≡ false) × (wild_operand o s.regs ≡ false)
      unfolding valid_operand wild_operand
      absent_fails o w = rw (w.is_memory, w.no_cell) (refl, go (wild (eval_maddr w.memory s.regs)) refl)
        where
          go : (b : Bool) → wild (eval_maddr w.memory s.regs) ≡ b → b ≡ false
          go true e = absurd (w.not_out (wild_is _ e))
          go false e = refl

      unread_fails : (o : Operand) (n : ℕ) → Unread env o s n → (valid_operand env o s ≡ false) × (wild_or 31 o s.regs ≡ n)
      unread_fails o n (wild_src e w) = let f = wild_fails o w in (f.0, rw f.1 (sym e))
      unread_fails o n (absent_src e w) = let f = absent_fails o w in (f.0, rw f.1 (sym e))

      unwritten_fails : (o : Operand) (n : ℕ) → Unwritten env o s n → (valid_dst_operand env o s ≡ false) × (wild_or 32 o s.regs ≡ n)
      unfolding valid_dst_operand valid_operand valid_dst wild_operand
      unwritten_fails o n (wild_dst e w) = let f = wild_fails o w in (rw f.0, rw f.1 (sym e))
      unwritten_fails o n (absent_dst e w) = let f = absent_fails o w in (rw f.0, rw f.1 (sym e))
      unwritten_fails o n (constant e v is) = rw is (refl, sym e)
      unwritten_fails o n (rsp e is) = rw is (refl, sym e)

  -- ---- sources, rules and destinations in a row: a fault is the first one's that fails, or that of what follows
  module _ (p : ℕ) (s : Config) where
    module _ {n q : ℕ} {t : Config} where
      readable_faults : (os : List Operand) (k : End) → readable env p os s k ≡ ends (fault n q) t
          → ((q ≡ p) × (t ≡ s) × FirstUnread env s os n) ⊎ (AllRead env s os × (k ≡ ends (fault n q) t))
      readable_faults [] k e = inr (tt, e)
      readable_faults (o ∷ os) k e =
          ⊎_elim
          (λ w. inl (w.1, w.2, inl (unread_why s o n w.0 w.3)))
          (λ w. ⊎_elim (λ v. inl (v.0, v.1, inr (w.0, v.2))) (λ v. inr ((w.0, v.0), v.1)) (readable_faults os k w.1))
          (check_faults p s (valid_operand env o s) _ _ e)

      ruled_faults : (cs : List (Bool × ℕ)) (k : End) → ruled p cs s k ≡ ends (fault n q) t
          → ((q ≡ p) × (t ≡ s) × FirstBroken cs n) ⊎ (AllHold cs × (k ≡ ends (fault n q) t))
      ruled_faults [] k e = inr (tt, e)
      ruled_faults (c ∷ cs) k e =
          ⊎_elim
          (λ w. inl (w.1, w.2, inl (w.0, w.3)))
          (λ w. ⊎_elim (λ v. inl (v.0, v.1, inr (w.0, v.2))) (λ v. inr ((w.0, v.0), v.1)) (ruled_faults cs k w.1))
          (check_faults p s c.0 c.1 _ e)

      written_faults : (ws : List (Operand × ℕ)) (f : Config → Config) (u : Config)
          → written env p ws s (λ x. ends done (f x)) u ≡ ends (fault n q) t → (q ≡ p) × (t ≡ s) × FirstUnwritten env u ws n
      written_faults [] f u e = absurd (is_fault e)
      written_faults (w ∷ ws) f u e =
          ⊎_elim
          (λ x. (x.1, x.2, inl (unwritten_why u w.0 n x.0 x.3)))
          (λ x. let v = written_faults ws f (update_operand env w.0 w.1 u) x.1 in (v.0, v.1, inr (x.0, v.2)))
          (check_faults p s (valid_dst_operand env w.0 u) _ _ e)

      pub ins_faults : (i : Instruction) → run_ins env p i s ≡ ends (fault n q) t → (q ≡ p) × (t ≡ s) × Fails env i s n
      unfolding run_ins
      ins_faults i e =
          let a = act env i s in
          ⊎_elim
          (λ w. (w.0, w.1, inl w.2))
          (λ w. ⊎_elim
          (λ v. (v.0, v.1, inr (w.0, inl v.2)))
          (λ v. let x = written_faults a.words _ s v.1 in (x.0, x.1, inr (w.0, inr (v.0, x.2))))
          (ruled_faults a.rules _ w.1))
          (readable_faults a.sources _ e)

    module _ (cells : AcceptedCells env) (n : ℕ) where
      readable_fails : (os : List Operand) (k : End) → FirstUnread env s os n → readable env p os s k ≡ ends (fault n p) s
      unfolding check
      readable_fails [] k h = absurd h
      readable_fails (o ∷ os) k (inl h) = let w = unread_fails s cells o n h in rw (w.0, w.1)
      readable_fails (o ∷ os) k (inr h) = rw h.0 (readable_fails os k h.1)

      readable_passes : (os : List Operand) (k : End) → AllRead env s os → readable env p os s k ≡ k
      unfolding check
      readable_passes [] k h = refl
      readable_passes (o ∷ os) k h = rw h.0 (readable_passes os k h.1)

      ruled_fails : (cs : List (Bool × ℕ)) (k : End) → FirstBroken cs n → ruled p cs s k ≡ ends (fault n p) s
      unfolding check
      ruled_fails [] k h = absurd h
      ruled_fails (c ∷ cs) k (inl h) = rw (h.0, h.1)
      ruled_fails (c ∷ cs) k (inr h) = rw h.0 (ruled_fails cs k h.1)

      ruled_passes : (cs : List (Bool × ℕ)) (k : End) → AllHold cs → ruled p cs s k ≡ k
      unfolding check
      ruled_passes [] k h = refl
      ruled_passes (c ∷ cs) k h = rw h.0 (ruled_passes cs k h.1)

      written_fails : (ws : List (Operand × ℕ)) (k : Config → End) (u : Config) → FirstUnwritten env u ws n → written env p ws s k u ≡ ends (fault n p) s
      unfolding check
      written_fails [] k u h = absurd h
      written_fails (w ∷ ws) k u (inl h) = let x = unwritten_fails u cells w.0 n h in rw (x.0, x.1)
      written_fails (w ∷ ws) k u (inr h) = rw h.0 (written_fails ws k (update_operand env w.0 w.1 u) h.1)

      pub ins_fails : (i : Instruction) → Fails env i s n → run_ins env p i s ≡ ends (fault n p) s
      unfolding run_ins
      ins_fails i (inl h) = readable_fails (act env i s).sources _ h
      ins_fails i (inr (h, inl k)) = readable_passes (act env i s).sources _ h ∙ ruled_fails (act env i s).rules _ k
      ins_fails i (inr (h, inr k)) =
          let a = act env i s in
          readable_passes a.sources _ h ∙ ruled_passes a.rules _ k.0 ∙ written_fails a.words _ s k.1

  -- ---- comparisons
  module _ (s : Config) where
    -- the two operands of a comparison
    record Pair (c : Ocmp) : Type 0 where
      one : Operand
      other : Operand
      operands : (ocmp_layout c).operands ≡ one ∷ other ∷ []
      valid : valid_ocmp env c s ≡ valid_operand env one s && valid_operand env other s

    pair : (c : Ocmp) → Pair c
    unfolding valid_ocmp
    pair (OEq a b) = record { one = a; other = b; operands = refl; valid = refl }
    pair (ONe a b) = record { one = a; other = b; operands = refl; valid = refl }
    pair (OLe a b) = record { one = a; other = b; operands = refl; valid = refl }
    pair (OGe a b) = record { one = a; other = b; operands = refl; valid = refl }
    pair (OLt a b) = record { one = a; other = b; operands = refl; valid = refl }
    pair (OGt a b) = record { one = a; other = b; operands = refl; valid = refl }

    abbrev number_of : List Operand → ℕ
    number_of os = unread_number (λ o. valid_operand env o s) s.regs os

    two_unread : (a b : Operand) → valid_operand env a s && valid_operand env b s ≡ false → FirstUnread env s (a ∷ b ∷ []) (number_of (a ∷ b ∷ []))
    unfolding unread_number
    two_unread a b e = go (valid_operand env a s) (valid_operand env b s) refl refl e
      where
        go : (x y : Bool) → valid_operand env a s ≡ x → valid_operand env b s ≡ y → x && y ≡ false
            → FirstUnread env s (a ∷ b ∷ []) (cond x (cond y 31 (wild_or 31 b s.regs)) (wild_or 31 a s.regs))
        go true true f g h = absurd (false≢true (sym h))
        go true false f g h = inr (f, inl (unread_why s b _ g refl))
        go false y f g h = inl (unread_why s a _ f refl)

    pub ocmp_unread : (c : Ocmp) → valid_ocmp env c s ≡ false → FirstUnread env s (ocmp_layout c).operands (ocmp_number env c s)
    unfolding ocmp_number
    ocmp_unread c e =
        let w = pair c in
        rw w.operands (two_unread w.one w.other (sym w.valid ∙ e))

    module _ (cells : AcceptedCells env) where
      two_fail : (a b : Operand) (n : ℕ) → FirstUnread env s (a ∷ b ∷ []) n
          → (valid_operand env a s && valid_operand env b s ≡ false) × (number_of (a ∷ b ∷ []) ≡ n)
      unfolding unread_number
      two_fail a b n (inl h) = let w = unread_fails s cells a n h in rw w.0 (refl, w.1)
      two_fail a b n (inr (e, inl h)) = let w = unread_fails s cells b n h in rw (e, w.0) (refl, w.1)
      two_fail a b n (inr (e, inr h)) = absurd h.1

      pub ocmp_fails : (c : Ocmp) (q n : ℕ) → FirstUnread env s (ocmp_layout c).operands n → run_ocmp env q c s ≡ ends (fault n q) s
      unfolding run_ocmp ocmp_number check
      ocmp_fails c q n h =
          let w = pair c in
          let x = two_fail w.one w.other n (subst (λ os. FirstUnread env s os n) w.operands h) in
          rw (w.valid, x.0, w.operands, x.1)

    pub ocmp_either : (c : Ocmp) → AllRead env s (ocmp_layout c).operands ⊎ ((n : ℕ) × FirstUnread env s (ocmp_layout c).operands n)
    ocmp_either c = go (valid_ocmp env c s) refl
      where
        all_read : (a b : Operand) → valid_operand env a s && valid_operand env b s ≡ true → AllRead env s (a ∷ b ∷ [])
        all_read a b e = let w = both _ _ e in (w.0, (w.1, tt))

        go : (v : Bool) → valid_ocmp env c s ≡ v → AllRead env s (ocmp_layout c).operands ⊎ ((n : ℕ) × FirstUnread env s (ocmp_layout c).operands n)
        go true e = let w = pair c in inl (rw w.operands (all_read w.one w.other (sym w.valid ∙ e)))
        go false e = inr (ocmp_number env c s, ocmp_unread c e)

    pub ocmp_passes : (c : Ocmp) (q : ℕ) → AllRead env s (ocmp_layout c).operands → run_ocmp env q c s ≡ ends done (with_flags env.fill s)
    unfolding run_ocmp check
    ocmp_passes c q h =
        let w = pair c in
        let x = subst (AllRead env s) w.operands h in
        rw (w.valid, x.0, x.1.0)

  -- ---- a run, by its tree
  module _ (limit : Option ℕ) (n p : ℕ) (t : Config) where
    abbrev Faults : Ended → Type 0
    Faults e = e.end ≡ ends (fault n p) t

    -- a step that faults was tried
    step_faults : (q : ℕ) (sees : Watch → Watch) (act : Config → End) (s : Config) (k : Counted) → Faults (step limit q sees act s k)
        → act s ≡ ends (fault n p) t
    unfolding step
    step_faults q sees act s k = go (used_up limit k)
      where
        go : (b : Bool) → Faults (cond b (ended (stopped 37 q) s k) (record { end = act s; counted = count (act s).how sees k })) → act s ≡ ends (fault n p) t
        go true e = absurd (is_fault e)
        go false e = e

    ins_there : (q : ℕ) (i : Instruction) (s : Config) (k : Counted) → Faults (step_ins env limit q i s k) → (q ≡ p) × Fails env i t n
    ins_there q i s k e =
        let w = ins_faults q s i (step_faults q _ (run_ins env q i) s k e) in
        (sym w.0, subst⁻¹ (λ (x : Config). Fails env i x n) w.1 w.2)

    ocmp_there : (q : ℕ) (c : Ocmp) (s : Config) (k : Counted) → Faults (step_ocmp env limit q c s k)
        → (q ≡ p) × FirstUnread env t (ocmp_layout c).operands n
    unfolding run_ocmp
    ocmp_there q c s k e =
        ⊎_elim
        (λ w. (
          sym w.1,
          subst⁻¹ (λ (x : Config). FirstUnread env x (ocmp_layout c).operands n) w.2
              (subst⁻¹ (λ m. FirstUnread env s (ocmp_layout c).operands m) w.3 (ocmp_unread s c w.0)),
        ))
        (λ w. absurd (is_fault w.1))
        (check_faults q s (valid_ocmp env c s) _ _ (step_faults q _ (run_ocmp env q c) s k e))

    run_faults : (code : List ℕ) (fuel : ℕ) (s : Config) → Faults (run_of code env fuel limit s)
        → (c : Code) × (next : ℕ) × (parse code ≡ got c next) × FailsAt env c p t n
    run_faults =
        run_ends env limit Faults _ _ (λ s k e. is_fault e) (λ q s k e. is_fault e) (λ m q s k e. is_fault e) ins_there ocmp_there

-- what each instruction judges and by which rules, of the table of acts
judged_all : (env : Env) (s : Config) (i : Instruction) → (layout i).operands ≡ reverse (map (λ w. w.0) (act env i s).words) ++ (act env i s).sources
unfolding act
judged_all env s i =
    every_ins (λ i. (layout i).operands) (λ i. reverse (map (λ w. w.0) (act env i s).words) ++ (act env i s).sources) (λ bytes os. refl) i

rules_all : (env : Env) (s : Config) (i : Instruction) → map (λ c. c.1) (act env i s).rules ≡ rule_numbers (layout i).kind
unfolding act
rules_all env s i = every_ins (λ i. map (λ c. c.1) (act env i s).rules) (λ i. rule_numbers (layout i).kind) (λ bytes os. refl) i

pub telling : Telling
unfolding cell_of
telling = record {
  judged = λ env i s. judged_all env s i;
  numbers = λ env i s. rules_all env s i;
  faults = λ env i p q n s t. ins_faults env p s i;
  fails = λ env cells i p n s. ins_fails env p s cells n i;
  either = λ env c s. ocmp_either env s c;
  compare_fails = λ env cells c q n s. ocmp_fails env s cells c q n;
  compares = λ env c q s. ocmp_passes env s c q;
  told = λ code env fuel limit p n s t. run_faults env limit n p t code fuel s;
  out_no_cell = λ env cells m s. no_cell_out env s cells (eval_maddr m s.regs);
}
