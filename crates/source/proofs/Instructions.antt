-- One instruction. The run and the source with notes make the same checks in the same order; the run stops at the first that fails, and
-- there the notes have their first failure and ok is clear, whatever the source does after it.
use Prim.Native.Nat.{ℕ, ◌+◌, ◌*◌, ◌%◌, ◌^◌}
use mathlib.Core.Path.{◌≡◌, refl, ◌∙◌, ap, ap₂, subst, subst⁻¹}
use mathlib.Core.Bool.{Bool, true, false, ◌&&◌, cond, false≢true}
use mathlib.Core.List.{List, [], ◌∷◌, ◌++◌}
use mathlib.Core.Option.{Option, none, some}
use lib.Dec.{eqb, ltb, leb}
use lib.IntN.{ℤ}
use Rattle.words.specs.Words.{Four}
use Rattle.words.specs.Bits.{bit, iand, ixor, ishl, ishr}
use Rattle.words.specs.Counts.{popcnt, lzcnt, tzcnt}
use Rattle.words.specs.Types.{insert_nat32, insert_nat64, add_lanes, equal_lanes, shl_lanes, shr_lanes, shuffle_lanes, shift_quad}
use Rattle.words.specs.Sums.{sum_mod, sum_carry, sub_mod, mul_div, mul_mod}
use Rattle.words.specs.Flags.{cf, overflow, update_cf, update_of}
use Rattle.machine.specs.Registers.{Rax, Rdx, reg_at, set_reg, xmm_at, set_xmm}
use Rattle.machine.specs.Operands.{wild_or}
use Rattle.machine.specs.Memory.{Memory, LoadsMem64}
use Rattle.machine.specs.declared.Operand.{Operand}
use Rattle.code.specs.declared.tree.Instruction.{Instruction}
use Rattle.code.specs.declared.tree.Instruction.TheVariants.{Mov64, Add64, AddLea64, AddCarry64, Adcx64, Adox64, Sub64, Mul64, Mulx64, IMul64, Xor64, And64, Shr64, Shl64, Paddd, Pxor, Pslld, Psrld, Pshufd, Pcmpeqd, Pextrq, Pinsrd, Pinsrq, VPSLLDQ, Popcnt64, Lzcnt64, Tzcnt64}
use Rattle.code.proofs.Layouts.{every_ins}
use Rattle.code.specs.WellFormed.{WfOperand, WfIns}
use Rattle.code.proofs.Accepted.{WfTwo}
use Rattle.eval.specs.FlagRule.{FlagRule}
use Rattle.eval.specs.Instructions.{two_word, two_flags, quads_word, quads_flags, shifts_word, inserts_word}
use Rattle.eval.specs.Config.{Env, Config, with_regs, with_xmms, with_flags, End, ends, done, fault}
use Rattle.eval.specs.Config as Config
use Rattle.eval.specs.Instructions as Run
use Rattle.eval.proofs.Shapes.{read_check, amount_check, write, write_xmm, flags_kept, halves_kept}
use Rattle.source.specs.Source as Source
use Rattle.source.specs.Source.{State, St, put}
use Rattle.source.specs.Log.{Note, Noted, ◌>>=◌, ◌>>◌, quiet, get, check, check_imm, source_number, dst_number, amount, update_operand_preserve_flags, update_operand, note_ins}
use Rattle.source.specs.Correspondence.{IntToNat64, state_of}
use Rattle.source.proofs.OperandLaws.{Held, valid_operand_is, valid_dst_is, dst_read, update_is, update_held, eval_operand_is}

-- the number of the first check that failed
unfoldable pub first_failed : List Note → Option ℕ
first_failed [] = none
first_failed (x ∷ notes) = cond x.1 (first_failed notes) (some x.0)

passed_then : (l r : List Note) → first_failed l ≡ none → first_failed (l ++ r) ≡ first_failed r
unfolding first_failed
passed_then [] r e = refl
passed_then (x ∷ l) r e = go x.1 e (passed_then l r)
  where
    go : (b : Bool) → cond b (first_failed l) (some x.0) ≡ none → (first_failed l ≡ none → first_failed (l ++ r) ≡ first_failed r)
        → cond b (first_failed (l ++ r)) (some x.0) ≡ first_failed r
    go true e f = f e
    go false e f = cc

failed_then : (l r : List Note) (n : ℕ) → first_failed l ≡ some n → first_failed (l ++ r) ≡ some n
unfolding first_failed
failed_then [] r n e = cc
failed_then (x ∷ l) r n e = go x.1 e (failed_then l r n)
  where
    go : (b : Bool) → cond b (first_failed l) (some x.0) ≡ some n → (first_failed l ≡ some n → first_failed (l ++ r) ≡ some n)
        → cond b (first_failed (l ++ r)) (some x.0) ≡ some n
    go true e f = f e
    go false e f = e

module _ (env : Env) where
  -- what notes and a state say of the end of an instruction at p that began in s0
  pub data Said (p : ℕ) (s0 : Config) (o : (Unit {0} × State) × List Note) (r : End) : Type 0 where
    finishes : (t : Config) → r ≡ ends done t → Held env t → first_failed o.1 ≡ none → o.0.1 ≡ state_of env t → Said p s0 o r
    stops : (n : ℕ) → r ≡ ends (fault n p) s0 → first_failed o.1 ≡ some n → o.0.1.ok ≡ false → Said p s0 o r

  abbrev pub Says : ℕ → Config → Noted (Unit {0}) → Config → End → Type 0
  Says p s0 m s r = Said p s0 (m (state_of env s)) r

  -- what goes from s to t and makes one check, which is passed where b
  record Gate (m : Noted (Unit {0})) (s t : Config) (b : Bool) (n : ℕ) : Type 0 where
    held : Held env t
    state : b ≡ true → (m (state_of env s)).0.1 ≡ state_of env t
    notes : b ≡ true → first_failed (m (state_of env s)).1 ≡ none
    clear : b ≡ false → (m (state_of env s)).0.1.ok ≡ false
    fails : b ≡ false → first_failed (m (state_of env s)).1 ≡ some n

  -- an outcome, followed by k
  abbrev followed : (Unit {0} × State) × List Note → Noted (Unit {0}) → (Unit {0} × State) × List Note
  followed o k =
      let r = k o.0.1 in
      ((r.0.0, Source.with_ok (o.0.1.ok && r.0.1.ok) r.0.1), o.1 ++ r.1)

  said_passed : (p : ℕ) (s0 : Config) (u : State) (l l' : List Note) (r : End)
      → first_failed l ≡ none → Said p s0 ((tt, u), l') r → Said p s0 ((tt, u), l ++ l') r
  said_passed p s0 u l l' r e (finishes t a h f g) = finishes t a h (passed_then l l' e ∙ f) g
  said_passed p s0 u l l' r e (stops n a f g) = stops n a (passed_then l l' e ∙ f) g

  follow : (p : ℕ) (s0 : Config) (o : (Unit {0} × State) × List Note) (k : Noted (Unit {0})) (t : Config) (b : Bool) (n : ℕ) (r : End)
      → (b ≡ true → o.0.1 ≡ state_of env t) → (b ≡ true → first_failed o.1 ≡ none)
      → (b ≡ false → o.0.1.ok ≡ false) → (b ≡ false → first_failed o.1 ≡ some n)
      → (b ≡ true → Says p s0 k t r) → Said p s0 (followed o k) (Config.check b n p s0 r)
  unfolding Config.check
  follow p s0 o k t true n r state notes clear fails h =
      subst⁻¹ (λ (u : State). Said p s0 (followed ((tt, u), o.1) k) r) (state refl) (said_passed p s0 _ o.1 _ r (notes refl) (h refl))
  follow p s0 o k t false n r state notes clear fails h =
      stops n refl (failed_then o.1 _ n (fails refl)) (ap (λ b. b && (k o.0.1).0.1.ok) (clear refl))

  says_then : (p : ℕ) (s0 : Config) (m k : Noted (Unit {0})) (s t : Config) (b : Bool) (n : ℕ) (r : End)
      → Gate m s t b n → (b ≡ true → Says p s0 k t r) → Says p s0 (m >> k) s (Config.check b n p s0 r)
  unfolding ◌>>=◌
  says_then p s0 m k s t b n r g h = follow p s0 (m (state_of env s)) k t b n r g.state g.notes g.clear g.fails h

  says_last : (p : ℕ) (s0 : Config) (m : Noted (Unit {0})) (s t : Config) (b : Bool) (n : ℕ)
      → Gate m s t b n → Says p s0 m s (Config.check b n p s0 (ends done t))
  unfolding Config.check
  says_last p s0 m s t true n g = finishes t refl g.held (g.notes refl) (g.state refl)
  says_last p s0 m s t false n g = stops n refl (g.fails refl) (g.clear refl)

  -- ---- checks and writes
  check_gate : (number : State → ℕ) (valid : State → Bool) (s : Config) (b : Bool) (n : ℕ) → Held env s
      → valid (state_of env s) ≡ b → number (state_of env s) ≡ n → Gate (check number valid) s s b n
  unfolding check Source.check Source.◌>>=◌ first_failed
  check_gate number valid s b n h e is = record {
    held = h;
    state = λ f. rw (e ∙ f);
    notes = λ f. rw (e ∙ f);
    clear = λ f. rw (e ∙ f);
    fails = λ f. rw (e ∙ f, is);
  }

  imm_gate : (n : ℕ) (b : Bool) (s : Config) → Held env s → Gate (check_imm n b) s s b n
  unfolding check_imm Source.check_imm first_failed
  imm_gate n b s h = record {
    held = h;
    state = λ f. rw f;
    notes = λ f. rw f;
    clear = λ f. rw f;
    fails = λ f. rw f;
  }

  quiet_gate : (m : St (Unit {0})) (s t : Config) → Held env t → (m (state_of env s)).1 ≡ state_of env t → Gate (quiet m) s t true 0
  unfolding quiet first_failed
  quiet_gate m s t h e = record { held = h; state = λ f. e; notes = λ f. refl; clear = λ f. cc; fails = λ f. cc }

  -- a check, and then a state that is put
  put_gate : (number : State → ℕ) (valid : State → Bool) (f : State → State) (s t : Config) (b : Bool) → Held env s → Held env t
      → valid (state_of env s) ≡ b → (b ≡ true → f (state_of env s) ≡ state_of env t)
      → Gate (do
        check number valid
        s ← get
        quiet (put (f s))) s t b (number (state_of env s))
  unfolding check quiet ◌>>=◌ Source.check Source.◌>>=◌ first_failed
  put_gate number valid f s t b h h' e g = record {
    held = h';
    state = λ k. rw (e ∙ k) (g k);
    notes = λ k. rw (e ∙ k);
    clear = λ k. rw (e ∙ k);
    fails = λ k. rw (e ∙ k);
  }

  -- ---- writes
  -- a destination is written, and flags are kept
  preserve_gate : (dst : Operand) (v w : ℕ) (s t : Config) → Held env s → Run.update_operand env dst w s ≡ t
      → (Run.valid_dst_operand env dst s ≡ true → v ≡ w)
      → Gate (update_operand_preserve_flags dst v) s t (Run.valid_dst_operand env dst s) (wild_or 32 dst s.regs)
  unfolding update_operand_preserve_flags
  preserve_gate dst v w s t h e same =
      put_gate (dst_number dst) (Source.valid_dst_operand dst) (Source.update_operand_preserve_flags' dst v) s t _ h
      (subst (λ (x : Config). Held env x) e (update_held env dst w s h))
      (valid_dst_is env dst s h)
      (λ g. ap (λ x. Source.update_operand_preserve_flags' dst x (state_of env s)) (same g) ∙ update_is env dst w s h g ∙ ap (state_of env) e)

  module _ (load_mem64 : ℤ → Memory → ℕ) (loads : LoadsMem64 load_mem64) (int_to_nat64 : ℤ → ℕ) (ints : IntToNat64 int_to_nat64) where
    -- a destination is written, and flags are the fill word
    update_gate : (dst : Operand) (i : Instruction) (v w : ℕ) (s : Config) → Held env s → (Run.valid_dst_operand env dst s ≡ true → v ≡ w)
        → Gate (update_operand load_mem64 int_to_nat64 env.fill dst i v)
        s (with_flags env.fill (Run.update_operand env dst w s)) (Run.valid_dst_operand env dst s) (wild_or 32 dst s.regs)
    unfolding update_operand Source.update_operand'
    update_gate dst i v w s h same =
        let put : ℕ → State = λ x. Source.update_operand_preserve_flags' dst x (state_of env s) in
        put_gate (dst_number dst) (Source.valid_dst_operand dst) (Source.update_operand' load_mem64 int_to_nat64 env.fill dst i v) s _ _ h
        (update_held env dst w s h)
        (valid_dst_is env dst s h)
        (λ g. ap (Source.with_flags env.fill) (ap put (same g) ∙ update_is env dst w s h g))

    -- the values of an operand in the source and in the run
    abbrev read : Operand → Config → ℕ
    read o s = Source.eval_operand load_mem64 int_to_nat64 env.fill o (state_of env s)

    abbrev value : Operand → Config → ℕ
    value = Run.eval_operand env

    -- an instruction at p, from s
    module _ (p : ℕ) (s : Config) (h : Held env s) where
      is : (o : Operand) → WfOperand o → Run.valid_operand env o s ≡ true → read o s ≡ value o s
      is o fits e = eval_operand_is env load_mem64 loads int_to_nat64 ints o s fits h e

      -- a destination that is read, and a source
      two_are : (f : ℕ → ℕ → ℕ) (dst src : Operand) → WfTwo dst src → Run.valid_dst_operand env dst s ≡ true → Run.valid_operand env src s ≡ true
          → f (read dst s) (read src s) ≡ f (value dst s) (value src s)
      two_are f dst src fits d e = ap₂ f (is dst fits.0 (dst_read env dst s d)) (is src fits.1 e)

      says_get : (f : State → Noted (Unit {0})) (r : End) → Says p s (f (state_of env s)) s r → Says p s (get >>= f) s r
      unfolding ◌>>=◌ quiet
      says_get f r e = e

      says_source : (o : Operand) (k : Noted (Unit {0})) (r : End) → (Run.valid_operand env o s ≡ true → Says p s k s r)
          → Says p s (check (source_number o) (Source.valid_operand o) >> k) s (read_check env p o s r)
      says_source o k r f = says_then p s _ k s s _ _ r (check_gate (source_number o) _ s _ _ h (valid_operand_is env o s h) refl) f

      -- what goes from t to u and checks nothing, with k after it, and as the last
      says_next : (m : St (Unit {0})) (k : Noted (Unit {0})) (t u : Config) (r : End) → Held env u → (m (state_of env t)).1 ≡ state_of env u
          → Says p s k u r → Says p s (quiet m >> k) t r
      unfolding Config.check
      says_next m k t u r g e f = says_then p s (quiet m) k t u true 0 r (quiet_gate m t u g e) (λ _. f)

      says_end : (m : St (Unit {0})) (t u : Config) → Held env u → (m (state_of env t)).1 ≡ state_of env u → Says p s (quiet m) t (ends done u)
      unfolding Config.check
      says_end m t u g e = says_last p s (quiet m) t u true 0 (quiet_gate m t u g e)

      -- a destination is written and flags are kept
      says_keep : (dst : Operand) (v w : ℕ) → (Run.valid_dst_operand env dst s ≡ true → v ≡ w)
          → Says p s (update_operand_preserve_flags dst v) s (write env p dst w s.flags s)
      says_keep dst v w same = says_last p s _ s _ _ _ (preserve_gate dst v w s _ h (flags_kept env dst w s) same)

      -- a destination is written and flags are the fill word
      says_write : (dst : Operand) (i : Instruction) (v w : ℕ) → (Run.valid_dst_operand env dst s ≡ true → v ≡ w)
          → Says p s (update_operand load_mem64 int_to_nat64 env.fill dst i v) s (write env p dst w env.fill s)
      says_write dst i v w same = says_last p s _ s _ _ _ (update_gate dst i v w s h same)

      -- a destination is written, and then flags by m
      says_flags : (dst : Operand) (i : Instruction) (v w : ℕ) (m : St (Unit {0})) (flags : ℕ) → (Run.valid_dst_operand env dst s ≡ true → v ≡ w)
          → (Run.valid_dst_operand env dst s ≡ true → (t : Config) → (m (state_of env (with_flags env.fill t))).1 ≡ state_of env (with_flags flags t))
          → Says p s (update_operand load_mem64 int_to_nat64 env.fill dst i v >> quiet m) s (write env p dst w flags s)
      says_flags dst i v w m flags same sets =
          let t = Run.update_operand env dst w s in
          says_then p s _ _ s (with_flags env.fill t) _ _ _ (update_gate dst i v w s h same)
          (λ e. says_end m (with_flags env.fill t) (with_flags flags t) (update_held env dst w s h) (sets e t))

      -- f of a destination and a source, and flags by g
      says_two : (dst src : Operand) → WfTwo dst src → (i : Instruction) (f g : ℕ → ℕ → ℕ)
          → Says p s (do
            check (source_number src) (Source.valid_operand src)
            update_operand load_mem64 int_to_nat64 env.fill dst i (f (read dst s) (read src s))
            quiet (Source.update_flags (g (read dst s) (read src s)))) s
          (read_check env p src s (write env p dst (f (value dst s) (value src s)) (g (value dst s) (value src s)) s))
      unfolding Source.update_flags Source.◌>>=◌
      says_two dst src fits i f g =
          says_source src _ _
          (λ e. says_flags dst i _ _ _ _
          (λ d. two_are f dst src fits d e)
          (λ d t. ap (λ x. state_of env (with_flags x t)) (two_are g dst src fits d e)))

      -- the same, with flags the fill word without carry and overflow
      says_cleared : (dst src : Operand) → WfTwo dst src → (i : Instruction) (f : ℕ → ℕ → ℕ)
          → Says p s (do
            check (source_number src) (Source.valid_operand src)
            update_operand load_mem64 int_to_nat64 env.fill dst i (f (read dst s) (read src s))
            quiet (Source.update_cf_of false false)) s
          (read_check env p src s (write env p dst (f (value dst s) (value src s)) (update_cf (update_of env.fill false) false) s))
      unfolding Source.update_cf_of Source.◌>>=◌
      says_cleared dst src fits i f =
          says_source src _ _ (λ e. says_flags dst i _ _ _ _ (λ d. two_are f dst src fits d e) (λ d t. refl))

      -- the same, with flags the fill word
      says_binary : (dst src : Operand) → WfTwo dst src → (i : Instruction) (f : ℕ → ℕ → ℕ)
          → Says p s (do
            check (source_number src) (Source.valid_operand src)
            update_operand load_mem64 int_to_nat64 env.fill dst i (f (read dst s) (read src s))) s
          (read_check env p src s (write env p dst (f (value dst s) (value src s)) env.fill s))
      says_binary dst src fits i f =
          says_source src _ _ (λ e. says_write dst i _ _ (λ d. two_are f dst src fits d e))

      -- a shift amount: one check of the source; in the run that of what is read, and then 33
      says_amount : (o : Operand) → WfOperand o → (k : Noted (Unit {0})) (r : End) → (Run.valid_operand env o s ≡ true → Says p s k s r)
          → Says p s (check (amount o) (Source.valid_shift_operand load_mem64 int_to_nat64 env.fill o) >> k) s (amount_check env p o s r)
      unfolding Config.check Source.valid_shift_operand
      says_amount o fits k r f = go (Run.valid_operand env o s) refl
        where
          valid : State → Bool
          valid = Source.valid_shift_operand load_mem64 int_to_nat64 env.fill o

          n : ℕ
          n = wild_or 31 o s.regs

          go : (b : Bool) → Run.valid_operand env o s ≡ b
              → Says p s (check (amount o) valid >> k) s (Config.check b n p s (Config.check (ltb (value o s) 64) 33 p s r))
          go true e =
              let v : Source.valid_operand o (state_of env s) ≡ true = valid_operand_is env o s h ∙ e in
              says_then p s (check (amount o) valid) k s s (ltb (value o s) 64) 33 r
              (check_gate (amount o) valid s _ 33 h (ap₂ (λ b x. b && ltb x 64) v (is o fits e)) (ap (λ b. cond b 33 n) v)) (λ g. f e)
          go false e =
              let v : Source.valid_operand o (state_of env s) ≡ false = valid_operand_is env o s h ∙ e in
              says_then p s (check (amount o) valid) k s s false n (ends done s)
              (check_gate (amount o) valid s _ n h (ap (λ b. b && ltb (read o s) 64) v) (ap (λ b. cond b 33 n) v)) (λ g. absurd (false≢true g))

      -- f of a destination that is read and a shift amount
      says_shift : (dst amt : Operand) → WfTwo dst amt → (i : Instruction) (f : ℕ → ℕ → ℕ)
          → Says p s (do
            check (amount amt) (Source.valid_shift_operand load_mem64 int_to_nat64 env.fill amt)
            update_operand load_mem64 int_to_nat64 env.fill dst i (f (read dst s) (read amt s))) s
          (amount_check env p amt s (write env p dst (f (value dst s) (value amt s)) env.fill s))
      says_shift dst amt fits i f =
          says_amount amt fits.1 _ _ (λ e. says_write dst i _ _ (λ d. two_are f dst amt fits d e))

      -- an xmm is written
      says_xmm : (x : ℕ) (q q' : Four ℕ) → q ≡ q' → Says p s (quiet (Source.update_xmm_preserve_flags x q)) s (write_xmm env p x q' s.flags s)
      unfolding Source.update_xmm_preserve_flags Source.◌>>=◌
      says_xmm x q q' e =
          says_end _ s (with_xmms (set_xmm s.xmms x q') s) h (ap (λ y. state_of env (with_xmms (set_xmm s.xmms x y) s)) e)

      -- f of a source is written to an xmm
      says_insert : (x : ℕ) (src : Operand) → WfOperand src → (f : ℕ → Four ℕ)
          → Says p s (do
            check (source_number src) (Source.valid_operand src)
            quiet (Source.update_xmm_preserve_flags x (f (read src s)))) s
          (read_check env p src s (write_xmm env p x (f (value src s)) s.flags s))
      says_insert x src fits f = says_source src _ _ (λ e. says_xmm x _ _ (ap f (is src fits e)))

      -- ---- the instructions that are like no other
      says_carry : (dst src : Operand) → WfTwo dst src
          → Says p s (note_ins load_mem64 int_to_nat64 env.fill env.rule (AddCarry64 dst src)) s (Run.run_ins env p (AddCarry64 dst src) s)
      unfolding note_ins Run.run_ins Run.act two_word two_flags sum_mod Source.update_flags Source.◌>>=◌
      says_carry dst src fits =
          let c = bit (cf s.flags) in
          let sum : ℕ → ℕ → ℕ = λ a b. (a + b + c) % 2 ^ 64 in
          let flags : ℕ → ℕ → ℕ = λ a b. env.rule.flags env.fill s.flags a b c in
          let t = Run.update_operand env dst (sum (value dst s) (value src s)) s in
          let u = with_flags env.fill t in
          let g = update_held env dst (sum (value dst s) (value src s)) s h in
          says_get _ _ (says_source src _ _ (λ e.
          says_then p s _ _ s u _ _ _ (update_gate dst (AddCarry64 dst src) _ _ s h (λ d. two_are sum dst src fits d e)) (λ d.
          says_next (Source.update_flags env.fill) _ u u _ g refl
          (says_end _ u (with_flags (flags (value dst s) (value src s)) t) g (ap (λ x. state_of env (with_flags x t)) (two_are flags dst src fits d e))))))

      says_mul : (src : Operand) → WfOperand src
          → Says p s (note_ins load_mem64 int_to_nat64 env.fill env.rule (Mul64 src)) s (Run.run_ins env p (Mul64 src) s)
      unfolding note_ins Run.run_ins Run.act Source.update_reg Source.update_flags Source.◌>>=◌
      says_mul src fits =
          let a = reg_at s.regs Rax in
          let lo : ℕ → Config = λ x. with_regs (set_reg s.regs Rax (mul_mod 64 a x)) s in
          let hi : ℕ → Config = λ x. with_regs (set_reg (lo (value src s)).regs Rdx (mul_div 64 a x)) s in
          says_get _ _ (says_source src _ _ (λ e.
          says_next _ _ s (lo (value src s)) _ h (ap (λ x. state_of env (lo x)) (is src fits e))
          (says_next _ _ (lo (value src s)) (hi (value src s)) _ h (ap (λ x. state_of env (hi x)) (is src fits e))
          (says_end _ (hi (value src s)) (with_flags env.fill (hi (value src s))) h refl))))

      says_mulx : (dst_hi dst_lo src : Operand) → WfOperand src
          → Says p s (note_ins load_mem64 int_to_nat64 env.fill env.rule (Mulx64 dst_hi dst_lo src)) s (Run.run_ins env p (Mulx64 dst_hi dst_lo src) s)
      unfolding note_ins Run.run_ins Run.act
      says_mulx dst_hi dst_lo src fits =
          let a = reg_at s.regs Rdx in
          let t = Run.update_operand env dst_lo (mul_mod 64 a (value src s)) s in
          says_get _ _ (says_source src _ _ (λ e.
          says_then p s _ _ s t _ _ _ (preserve_gate dst_lo _ _ s t h refl (λ _. ap (mul_mod 64 a) (is src fits e)))
          (λ _. says_last p s _ t _ _ _
          (preserve_gate dst_hi _ _ t _ (update_held env dst_lo _ s h)
          (halves_kept env dst_lo dst_hi (mul_mod 64 a (value src s)) (mul_div 64 a (value src s)) s)
          (λ _. ap (mul_div 64 a) (is src fits e))))))

      -- ---- every instruction
      pub says_ins : (i : Instruction) → WfIns i → Says p s (note_ins load_mem64 int_to_nat64 env.fill env.rule i) s (Run.run_ins env p i s)
      unfolding WfIns note_ins Run.run_ins Run.act
          two_word two_flags quads_word quads_flags shifts_word inserts_word
          Source.eval_ins Source.update_xmm Source.update_xmm_preserve_flags Source.update_cf_of Source.◌>>=◌
          sum_mod sum_carry mul_mod add_lanes equal_lanes shl_lanes shr_lanes shuffle_lanes shift_quad
      says_ins (Mov64 dst src) fits = says_get _ _ (says_source src _ _ (λ e. says_keep dst _ _ (λ _. is src fits.1 e)))
      says_ins (Add64 dst src) fits =
          says_get _ _ (says_two dst src fits (Add64 dst src) (λ a b. (a + b) % 2 ^ 64) (λ a b. env.rule.flags env.fill s.flags a b 0))
      says_ins (AddLea64 dst src1 src2) fits =
          says_get _ _ (says_source src1 _ _ (λ e. says_source src2 _ _ (λ g.
          says_keep dst _ _ (λ _. ap₂ (λ a b. (a + b) % 2 ^ 64) (is src1 fits.1.0 e) (is src2 fits.1.1 g)))))
      says_ins (AddCarry64 dst src) fits = says_carry dst src fits
      says_ins (Adcx64 dst src) fits =
          let c = bit (cf s.flags) in
          says_get _ _ (says_two dst src fits (Adcx64 dst src) (λ a b. (a + b + c) % 2 ^ 64) (λ a b. update_cf s.flags (leb (2 ^ 64) (a + b + c))))
      says_ins (Adox64 dst src) fits =
          let c = bit (overflow s.flags) in
          says_get _ _ (says_two dst src fits (Adox64 dst src) (λ a b. (a + b + c) % 2 ^ 64) (λ a b. update_of s.flags (leb (2 ^ 64) (a + b + c))))
      says_ins (Sub64 dst src) fits = says_get _ _ (says_binary dst src fits (Sub64 dst src) (sub_mod 64))
      says_ins (Mul64 src) fits = says_mul src fits
      says_ins (Mulx64 dst_hi dst_lo src) fits = says_mulx dst_hi dst_lo src fits.1.1
      says_ins (IMul64 dst src) fits = says_get _ _ (says_binary dst src fits (IMul64 dst src) (λ a b. (a * b) % 2 ^ 64))
      says_ins (Xor64 dst src) fits = says_get _ _ (says_cleared dst src fits (Xor64 dst src) (ixor 64))
      says_ins (And64 dst src) fits = says_get _ _ (says_binary dst src fits (And64 dst src) (iand 64))
      says_ins (Shr64 dst amt) fits = says_get _ _ (says_shift dst amt fits (Shr64 dst amt) ishr)
      says_ins (Shl64 dst amt) fits = says_get _ _ (says_shift dst amt fits (Shl64 dst amt) (ishl 64))
      says_ins (Paddd dst src) fits = says_end _ s _ h refl
      says_ins (Pxor dst src) fits = says_end _ s _ h refl
      says_ins (Pslld dst amt) fits = says_get _ _ (says_then p s _ _ s s _ 34 _ (imm_gate 34 (ltb amt 32) s h) (λ _. says_xmm dst _ _ refl))
      says_ins (Psrld dst amt) fits = says_get _ _ (says_then p s _ _ s s _ 34 _ (imm_gate 34 (ltb amt 32) s h) (λ _. says_xmm dst _ _ refl))
      says_ins (Pshufd dst src permutation) fits = says_end _ s _ h refl
      says_ins (Pcmpeqd dst src) fits = says_end _ s _ h refl
      says_ins (Pextrq dst src index) fits = says_get _ _ (says_keep dst _ _ (λ _. refl))
      says_ins (Pinsrd dst src index) fits = says_get _ _ (says_insert dst src fits.1.1 (λ a. insert_nat32 (xmm_at s.xmms dst) (a % 2 ^ 32) (index % 4)))
      says_ins (Pinsrq dst src index) fits = says_get _ _ (says_insert dst src fits.1.1 (λ a. insert_nat64 (xmm_at s.xmms dst) a (index % 2)))
      says_ins (VPSLLDQ dst src count) fits =
          says_get _ _ (says_then p s _ _ s s _ 35 _ (check_gate (λ _. 35) (λ _. eqb count 4) s _ 35 h refl refl) (λ _. says_xmm dst _ _ refl))
      says_ins (Popcnt64 dst src) fits = says_get _ _ (says_cleared dst src fits (Popcnt64 dst src) (λ a b. popcnt 64 b))
      says_ins (Lzcnt64 dst src) fits =
          says_get _ _ (says_two dst src fits (Lzcnt64 dst src) (λ a b. lzcnt 64 b) (λ a b. update_cf env.fill (eqb b 0)))
      says_ins (Tzcnt64 dst src) fits =
          says_get _ _ (says_two dst src fits (Tzcnt64 dst src) (λ a b. tzcnt 64 b) (λ a b. update_cf env.fill (eqb b 0)))

-- without its notes an instruction is the source's
module _ (load_mem64 : ℤ → Memory → ℕ) (int_to_nat64 : ℤ → ℕ) (fill : ℕ) (rule : FlagRule) where
  pub erase_ins : (i : Instruction) (s : State) → (note_ins load_mem64 int_to_nat64 fill rule i s).0 ≡ Source.eval_ins load_mem64 int_to_nat64 fill rule i s
  unfolding note_ins Source.eval_ins ◌>>=◌ Source.◌>>=◌ quiet check check_imm
      update_operand Source.update_operand update_operand_preserve_flags Source.update_operand_preserve_flags
  erase_ins i s =
      every_ins (λ i. (note_ins load_mem64 int_to_nat64 fill rule i s).0) (λ i. Source.eval_ins load_mem64 int_to_nat64 fill rule i s) (λ bytes os. refl) i
