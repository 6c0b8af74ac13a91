-- How an instruction ends, from what was found of its operands: each check passes or ends the run with the number that was answered, and a
-- word that is written is the definition's. Assumes nothing.
use Prim.Native.Nat.{ℕ, ◌+◌, ◌≤◌, ◌<◌}
use mathlib.Core.Path.{◌≡◌, refl, sym, ap, ◌∙◌}
use mathlib.Core.Bool.{Bool, true, false, ◌&&◌, cond}
use mathlib.Core.List.{List}
use native.Mathlib.Nat.{add-zero}
use native.Mathlib.Omega.{arith}
use borrow.Author.Tests.{lt-ltb, le-ltb, leb-true, leb-false, ne_eqb}
use lib.Dec.{ltb, leb}
use lib.ListN.{get_or, set}
use Rattle.words.specs.Sums.{sum_mod, mul_div, mul_mod}
use Rattle.machine.specs.Operands.{wild_or}
use Rattle.machine.specs.declared.Operand.{Operand}
use Rattle.machine.proofs.OperandLaws.{wild_or_above, wild_or_below}
use Rattle.code.specs.declared.tree.Instruction.{Instruction}
use Rattle.code.specs.declared.tree.Instruction.TheVariants.{AddLea64, Mul64, Mulx64}
use Rattle.code.specs.Records.{operand_at, behind}
use Rattle.code.specs.Families.{is_two, two_ins}
use Rattle.code.proofs.Passing.{and_both}
use Rattle.code.proofs.Families.{after, Stood, same_two}
use Rattle.eval.specs.Config.{Env, Config, with_regs, with_values, with_flags, End, ends, done, check}
use Rattle.eval.specs.Instructions.{checks_amount, two_word, two_flags, valid_operand, eval_operand, valid_dst_operand, update_operand, act, run_ins}
use Rattle.eval.specs.Promises.{held, Loads, Resolves, put_regs, put_values, how, Ran, RunsIns}
use Rattle.eval.specs.Promises.{Exit}
use Rattle.std.specs.Prelude.{Ok, Err, IsErrAnd}
use Rattle.eval.specs.declared.exit.Stop.{Stop}
use Rattle.eval.specs.declared.operand.Loaded.{Loaded}
use Rattle.eval.specs.declared.operand.Slot.{Slot}
use Rattle.eval.proofs.Shapes.{read_check, write_check, write}
use Rattle.eval.proofs.OperandLaws.{passes, fails, above_one, valid_whatever}

-- an exit with a number and a place
abbrev pub exit : ℕ → ℕ → Exit
exit n p = Err (record { number = n; place = p })

pub err_ok : {st : Stop} {p : ℕ} → ◌≡◌ {A = Exit} (Err st) (Ok p) → ⊥
err_ok y = let z : ◌≡◌ {A = ℕ} 0 1 = cc in omega arith

pub ok_is : {p q : ℕ} → ◌≡◌ {A = Exit} (Ok p) (Ok q) → q ≡ p
ok_is y = cc

-- what `?` hands on is what it found
pub handed_on : (r : Exit) (y : Stop) → IsErrAnd r (λ z. z ≡ y) → r ≡ Err y
handed_on (Ok x) y h = absurd h
handed_on (Err z) y h = ap Err h

-- a check that fails with a number from 2 to 36 ends the run with it
pub check_fails :
    (b : Bool) (m n p : ℕ) (s : Config) (k : End) → b ≡ false → n ≡ m → 1 < n → m < 37 → check b m p s k ≡ ends (how (exit n p)) s
unfolding check
check_fails b m n p s k e is l h =
    rw (e, ← is, ne_eqb n 1 (λ z. omega (arith, z, l)), ne_eqb n 37 (λ z. omega (arith, z, is, h)))

-- the exit of a check that failed
pub failed : (e : End) (b n p : ℕ) (s : Config) → e ≡ ends (how (exit n p)) s → (n ≡ 0 → ⊥) → Ran e b (exit n p) s
failed e b n p s h z = record { ends = sym h; next = λ q y. absurd (err_ok y) }

-- the exit of an instruction that is done
pub finished : (e : End) (b q p : ℕ) (t : Config) → e ≡ ends done t → q ≡ b → Ran e b (Ok q) t
finished e b q p t h z = record { ends = sym h; next = λ x y. ok_is y ∙ z }

-- a check of a source or of a destination, by what was found
module _ (env : Env) (s : Config) (p : ℕ) (o : Operand) (n : ℕ) (r : Loaded) (loads : Loads env s o n r) (k : End) where
  pub read_passes : r.number ≡ 0 → read_check env p o s k ≡ k
  unfolding check
  read_passes h = rw (passes (valid_operand env o s) r.number _ loads.number (above_one (wild_or_above 31 o s.regs (omega arith))) h)

  pub read_fails : (r.number ≡ 0 → ⊥) → read_check env p o s k ≡ ends (how (exit r.number p)) s
  read_fails h =
      let w = fails (valid_operand env o s) r.number _ loads.number h in
      check_fails _ _ r.number p s k w.0 w.1 (rw w.1 (wild_or_above 31 o s.regs (omega arith))) (wild_or_below 31 o s.regs (omega arith))

module _ (env : Env) (s : Config) (p : ℕ) (o : Operand) (n : ℕ) (t : Slot) (resolves : Resolves env s o n t) where
  -- the configuration with a word in the slot
  abbrev pub put_in : ℕ → Config
  put_in v = with_values (put_values t v s.values) (with_regs (put_regs t v s.regs) s)

  pub writable : t.how ≤ 1 → (k : End) → write_check env p o s k ≡ k
  unfolding check
  writable h k = rw (resolves.valid h)

  pub unwritable : 1 < t.how → (k : End) → write_check env p o s k ≡ ends (how (exit t.how p)) s
  unwritable h k = let w = resolves.fails h in check_fails _ _ t.how p s k w.0 w.1 h (wild_or_below 32 o s.regs (omega arith))

  pub wrote : t.how ≤ 1 → (v flags : ℕ) → write env p o v flags s ≡ ends done (with_flags flags (put_in v))
  wrote h v flags =
      writable h _ ∙ ap (λ (x : Config). ends done (with_flags flags x)) ((resolves.writes h).update v s.values)

-- ---- instructions of a destination and a source
module _ (env : Env) (p : ℕ) (dst src : Operand) (s : Config) where
  -- what they write
  abbrev pub two_write : ℕ → End
  two_write k =
      write env p dst
      (two_word k s.flags (eval_operand env dst s) (eval_operand env src s))
      (two_flags k env.rule env.fill s.flags (eval_operand env dst s) (eval_operand env src s))
      s

  -- the check of a shift's amount
  abbrev pub amounts : ℕ → End → End
  amounts k e = cond (checks_amount k) (check (ltb (eval_operand env src s) 64) 33 p s e) e

  abbrev Shape : ℕ → Instruction → Type 0
  Shape k i = run_ins env p i s ≡ read_check env p src s (amounts k (two_write k))

  pub shape : (k : ℕ) → is_two k ≡ true → Shape k (two_ins k dst src)
  unfolding run_ins act two_word two_flags
  shape k h = same_two (λ i. run_ins env p i s) (λ k. read_check env p src s (amounts k (two_write k))) dst src refl k h

  -- an amount that is no shift's, or below 64, passes
  pub amount_passes : (k b : ℕ) (e : End) → b ≡ eval_operand env src s → (checks_amount k && leb 64 b) ≡ false → amounts k e ≡ e
  unfolding check
  amount_passes k b e q h = go (checks_amount k) h
    where
      go : (t : Bool) → (t && leb 64 b) ≡ false → cond t (check (ltb (eval_operand env src s) 64) 33 p s e) e ≡ e
      go true z = rw (← q, lt-ltb b 64 (leb-false 64 b z))
      go false z = refl

  pub amount_fails : (k b : ℕ) (e : End) → b ≡ eval_operand env src s → (checks_amount k && leb 64 b) ≡ true → amounts k e ≡ ends (how (exit 33 p)) s
  unfolding check
  amount_fails k b e q h =
      let w = and_both (checks_amount k) (leb 64 b) h in
      rw (w.0, ← q, le-ltb b 64 (leb-true 64 b w.1))

module _ (env : Env) (s : Config) (p : ℕ) where
  module _ (k : ℕ) (is : is_two k ≡ true) (dst src : Operand) (m n : ℕ) (t : Slot) (r : Loaded)
      (resolves : Resolves env s dst m t) (loads : Loads env s src n r) where
    abbrev Two : Exit → Config → Type 0
    Two x u = Ran (run_ins env p (two_ins k dst src) s) n x u

    pub two_unread : (r.number ≡ 0 → ⊥) → Two (exit r.number p) s
    two_unread h = failed _ n r.number p s (shape env p dst src s k is ∙ read_fails env s p src n r loads _ h) h

    module _ (found : r.number ≡ 0) where
      pub two_amount : (checks_amount k && leb 64 r.word) ≡ true → Two (exit 33 p) s
      two_amount h =
          failed _ n 33 p s
          (shape env p dst src s k is
          ∙ read_passes env s p src n r loads _ found
          ∙ amount_fails env p dst src s k r.word _ (loads.word found) h)
          (λ e. omega arith)

      module _ (amount : (checks_amount k && leb 64 r.word) ≡ false) where
        two_passes : run_ins env p (two_ins k dst src) s ≡ two_write env p dst src s k
        two_passes =
            shape env p dst src s k is
            ∙ read_passes env s p src n r loads _ found
            ∙ amount_passes env p dst src s k r.word _ (loads.word found) amount

        pub two_unwritten : 1 < t.how → Two (exit t.how p) s
        two_unwritten h = failed _ n t.how p s (two_passes ∙ unwritable env s p dst m t resolves h _) (above_one h)

        pub two_done :
            t.how ≤ 1 →
            (regs' values' : List ℕ) (v f : ℕ) →
            regs' ≡ put_regs t v s.regs →
            values' ≡ put_values t v s.values →
            v ≡ two_word k s.flags t.word r.word →
            f ≡ two_flags k env.rule env.fill s.flags t.word r.word →
            Two (Ok r.next) (held regs' s.xmms f values')
        two_done h regs' values' v f a b c d =
            finished _ n r.next p _
            (rw (a, b, c, d, (resolves.writes h).word, loads.word found) (two_passes ∙ wrote env s p dst m t resolves h _ _))
            loads.next

  -- ---- AddLea64
  module _ (dst one two : Operand) (l m n : ℕ) (t : Slot) (q r : Loaded)
      (resolves : Resolves env s dst l t) (first : Loads env s one m q) (second : Loads env s two n r) where
    abbrev Lea : Exit → Config → Type 0
    Lea x u = Ran (run_ins env p (AddLea64 dst one two) s) n x u

    lea_shape :
        run_ins env p (AddLea64 dst one two) s
        ≡ read_check env p one s (read_check env p two s (write env p dst (sum_mod 64 (eval_operand env one s + eval_operand env two s)) s.flags s))
    unfolding run_ins act
    lea_shape = refl

    pub lea_unread : (q.number ≡ 0 → ⊥) → Lea (exit q.number p) s
    lea_unread h = failed _ n q.number p s (lea_shape ∙ read_fails env s p one m q first _ h) h

    module _ (there : q.number ≡ 0) where
      pub lea_unread_second : (r.number ≡ 0 → ⊥) → Lea (exit r.number p) s
      lea_unread_second h =
          failed _ n r.number p s (lea_shape ∙ read_passes env s p one m q first _ there ∙ read_fails env s p two n r second _ h) h

      module _ (found : r.number ≡ 0) where
        lea_passes :
            run_ins env p (AddLea64 dst one two) s
            ≡ write env p dst (sum_mod 64 (eval_operand env one s + eval_operand env two s)) s.flags s
        lea_passes = lea_shape ∙ read_passes env s p one m q first _ there ∙ read_passes env s p two n r second _ found

        pub lea_unwritten : 1 < t.how → Lea (exit t.how p) s
        lea_unwritten h = failed _ n t.how p s (lea_passes ∙ unwritable env s p dst l t resolves h _) (above_one h)

        pub lea_done :
            t.how ≤ 1 →
            (regs' values' : List ℕ) (v : ℕ) →
            regs' ≡ put_regs t v s.regs →
            values' ≡ put_values t v s.values →
            v ≡ sum_mod 64 (q.word + r.word) →
            Lea (Ok r.next) (held regs' s.xmms s.flags values')
        lea_done h regs' values' v a b c =
            finished _ n r.next p _
            (rw (a, b, c, first.word there, second.word found) (lea_passes ∙ wrote env s p dst l t resolves h _ _))
            second.next

  -- ---- Mul64
  module _ (src : Operand) (n : ℕ) (r : Loaded) (loads : Loads env s src n r) where
    abbrev Mul : Exit → Config → Type 0
    Mul x u = Ran (run_ins env p (Mul64 src) s) n x u

    mul_shape :
        run_ins env p (Mul64 src) s
        ≡ read_check env p src s
        (let a = get_or s.regs 0 0 in
        let b = eval_operand env src s in
        ends done (held (set (set s.regs 0 (mul_mod 64 a b)) 3 (mul_div 64 a b)) s.xmms env.fill s.values))
    unfolding run_ins act
    mul_shape = refl

    pub mul_unread : (r.number ≡ 0 → ⊥) → Mul (exit r.number p) s
    mul_unread h = failed _ n r.number p s (mul_shape ∙ read_fails env s p src n r loads _ h) h

    pub mul_done :
        r.number ≡ 0 →
        (lo hi : ℕ) → lo ≡ mul_mod 64 (get_or s.regs 0 0) r.word → hi ≡ mul_div 64 (get_or s.regs 0 0) r.word →
        Mul (Ok r.next) (held (set (set s.regs 0 lo) 3 hi) s.xmms env.fill s.values)
    mul_done h lo hi a b =
        finished _ n r.next p _ (rw (a, b, loads.word h) (mul_shape ∙ read_passes env s p src n r loads _ h)) loads.next

  -- ---- Mulx64
  module _ (dst_hi dst_lo src : Operand) (m n : ℕ) (t : Slot) (r : Loaded)
      (resolves : Resolves env s dst_lo m t) (loads : Loads env s src n r) where
    abbrev Mulx : Exit → Config → Type 0
    Mulx x u = Ran (run_ins env p (Mulx64 dst_hi dst_lo src) s) n x u

    -- the configuration after the low half is written
    low : Config
    low = update_operand env dst_lo (mul_mod 64 (get_or s.regs 3 0) (eval_operand env src s)) s

    mulx_shape :
        run_ins env p (Mulx64 dst_hi dst_lo src) s
        ≡ read_check env p src s
        (write_check env p dst_lo s
        (check (valid_dst_operand env dst_hi low) (wild_or 32 dst_hi low.regs) p s
        (ends done (with_flags s.flags (update_operand env dst_hi (mul_div 64 (get_or s.regs 3 0) (eval_operand env src s)) low)))))
    unfolding run_ins act low
    mulx_shape = refl

    pub mulx_unread : (r.number ≡ 0 → ⊥) → Mulx (exit r.number p) s
    mulx_unread h = failed _ n r.number p s (mulx_shape ∙ read_fails env s p src n r loads _ h) h

    module _ (found : r.number ≡ 0) where
      pub mulx_unwritten : 1 < t.how → Mulx (exit t.how p) s
      mulx_unwritten h =
          failed _ n t.how p s
          (mulx_shape ∙ read_passes env s p src n r loads _ found ∙ unwritable env s p dst_lo m t resolves h _) (above_one h)

      module _ (valid : t.how ≤ 1) (lo hi : ℕ) (is_lo : lo ≡ mul_mod 64 (get_or s.regs 3 0) r.word)
          (is_hi : hi ≡ mul_div 64 (get_or s.regs 3 0) r.word) (regs' values' : List ℕ)
          (a : regs' ≡ put_regs t lo s.regs) (b : values' ≡ put_values t lo s.values) where
        after_low : low ≡ held regs' s.xmms s.flags values'
        unfolding low
        after_low = rw (a, b, is_lo, loads.word found) ((resolves.writes valid).update _ s.values)

        -- the high destination, found before anything is written, in the registers as the low half leaves them
        module _ (l : ℕ) (u : Slot) (above : Resolves env (held regs' s.xmms s.flags s.values) dst_hi l u) where
          mulx_passes :
              run_ins env p (Mulx64 dst_hi dst_lo src) s
              ≡ check (valid_dst_operand env dst_hi (held regs' s.xmms s.flags s.values)) (wild_or 32 dst_hi regs') p s
              (ends done (with_flags s.flags (update_operand env dst_hi hi (held regs' s.xmms s.flags values'))))
          mulx_passes =
              mulx_shape
              ∙ read_passes env s p src n r loads _ found
              ∙ writable env s p dst_lo m t resolves valid _
              ∙ rw (after_low, valid_whatever env dst_hi (held regs' s.xmms s.flags s.values) values', is_hi, loads.word found)

          pub mulx_unresolved : 1 < u.how → Mulx (exit u.how p) s
          mulx_unresolved h =
              let w = above.fails h in
              failed _ n u.how p s (mulx_passes ∙ check_fails _ _ u.how p s _ w.0 w.1 h (wild_or_below 32 dst_hi regs' (omega arith))) (above_one h)

          pub mulx_done :
              u.how ≤ 1 →
              (regs'' values'' : List ℕ) →
              regs'' ≡ put_regs u hi regs' →
              values'' ≡ put_values u hi values' →
              Mulx (Ok r.next) (held regs'' s.xmms s.flags values'')
          unfolding check
          mulx_done h regs'' values'' c d =
              finished _ n r.next p _
              (mulx_passes
              ∙ rw (above.valid h, c, d, (above.writes h).update hi values'))
              loads.next

-- what was found at a place that is another's name
module _ (env : Env) (s : Config) (bs : List ℕ) (a b : ℕ) (e : a ≡ b) where
  pub load_at : (r : Loaded) → Loads env s (operand_at bs a) (behind bs a) r → Loads env s (operand_at bs b) (behind bs b) r
  load_at r h = rw (← e) h

  pub slot_at : (t : Slot) → Resolves env s (operand_at bs a) (behind bs a) t → Resolves env s (operand_at bs b) (behind bs b) t
  slot_at t h = rw (← e) h

-- a sum with no carry
pub plus_none : (a b : ℕ) → sum_mod 64 (a + b + 0) ≡ sum_mod 64 (a + b)
plus_none a b = ap (sum_mod 64) (add-zero (a + b))

-- the run of the instruction that stands at a place, from what its bytes say of it
pub ran_stood :
    (bs : List ℕ) (at : ℕ) (i : Instruction) (n from : ℕ) →
    Stood bs at i n from →
    (env : Env) (s t : Config) (r : Exit) →
    Ran (run_ins env at i s) (after n bs from) r t →
    RunsIns env bs at s r t
ran_stood bs at i n from w env s t r h e st = rw (w.says, w.ends e st) h
