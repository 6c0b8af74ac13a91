-- One instruction, and one comparison, under two fill words and from two configurations that differ in flags alone: what it reads, checks and writes is
-- the same where the bits are that it reads, and what becomes of carry and of overflow the table says. Assumes nothing.
use Prim.Native.Nat.{ℕ, ◌+◌}
use mathlib.Core.Path.{◌≡◌, refl, sym, ap, ◌∙◌}
use mathlib.Core.Bool.{Bool, true, false}
use mathlib.Core.List.{List, [], ◌∷◌}
use lib.Dec.{eqb}
use Rattle.words.specs.Words.{Four}
use Rattle.words.specs.Flags.{cf, overflow, update_cf, update_of}
use Rattle.words.specs.Sums.{sum_carry}
use Rattle.words.proofs.FlagLaws.{cf_update_cf, overflow_update_cf, overflow_update_of, cf_update_of}
use Rattle.machine.specs.Operands.{unread_number}
use Rattle.machine.specs.declared.reg.Reg.{Reg}
use Rattle.machine.specs.declared.Operand.{Operand}
use Rattle.machine.specs.declared.Operand.TheVariants.{OConst, OReg, OMem}
use Rattle.code.specs.declared.tree.Instruction.{Instruction}
use Rattle.code.specs.declared.tree.Instruction.TheVariants.{Mov64, Add64, AddLea64, AddCarry64, Adcx64, Adox64, Sub64, Mul64, Mulx64, IMul64, Xor64, And64, Shr64, Shl64, Paddd, Pxor, Pslld, Psrld, Pshufd, Pcmpeqd, Pextrq, Pinsrd, Pinsrq, VPSLLDQ, Popcnt64, Lzcnt64, Tzcnt64}
use Rattle.code.specs.declared.tree.Ocmp.{Ocmp}
use Rattle.code.specs.declared.tree.Ocmp.TheVariants.{OEq, ONe, OLe, OGe, OLt, OGt}
use Rattle.code.specs.Families.{among}
use Rattle.code.specs.Layout.{layout}
use Rattle.eval.specs.declared.answer.Evaluation.{Evaluation}
use Rattle.eval.specs.declared.answer.Evaluation.TheVariants.{Base, Board}
use Rattle.eval.specs.FlagRule.{base_flags, board_flags, flag_rule}
use Rattle.eval.specs.Config.{Env, Config, with_flags, Outcome, done, fault, stopped, spent, refused, End, ends, check}
use Rattle.eval.specs.Watch.{touched}
use Rattle.eval.specs.Instructions.{two_word, two_flags, quads_flags, Act, to_operand, ruled, set_regs, set_xmms, cell_of, valid_operand, eval_operand, valid_dst_operand, update_operand, readable, written, perform, act, run_ins, valid_ocmp, ocmp_number, eval_ocmp}
use Rattle.eval.specs.Running.{run_ocmp}
use Rattle.demands.specs.Watching.{Says}
use Rattle.eval.specs.Promises.{environment}

-- ---- ends that differ in flags
-- the flags of an end that is done, and of any other
unfoldable flags_at : Outcome → ℕ → ℕ → ℕ
flags_at done h g = h
flags_at (fault n p) h g = g
flags_at (stopped n p) h g = g
flags_at (spent p) h g = g
flags_at (refused n p) h g = g

-- an end with flags h where it is done, and with g else
pub turned : ℕ → ℕ → End → End
turned h g e = ends e.how (with_flags (flags_at e.how h g) e.config)

pub turned_done : (h g : ℕ) (u : Config) → turned h g (ends done u) ≡ ends done (with_flags h u)
unfolding turned flags_at
turned_done h g u = refl

pub turned_fault : (h g n p : ℕ) (u : Config) → turned h g (ends (fault n p) u) ≡ ends (fault n p) (with_flags g u)
unfolding turned flags_at
turned_fault h g n p u = refl

pub turned_flags : (h g : ℕ) (e : End) → e.how ≡ done → (turned h g e).config.flags ≡ h
unfolding turned flags_at
turned_flags h g e is = rw is

pub turned_how : (h g : ℕ) (e r : End) → r ≡ turned h g e → r.how ≡ e.how
unfolding turned
turned_how h g e r is = ap (λ (x : End). x.how) is

-- an act with other flags
abbrev pub with_act_flags : ℕ → Act → Act
with_act_flags h a = record { sources = a.sources; rules = a.rules; words = a.words; regs = a.regs; quads = a.quads; flags = h }

-- ---- flags
alike : {x y : Bool} → (x ≡ x) × (y ≡ y)
alike = (refl, refl)

same_carry : (x y : ℕ) (b : Bool) → cf (update_cf x b) ≡ cf (update_cf y b)
same_carry x y b = cf_update_cf x b ∙ sym (cf_update_cf y b)

same_overflow : (x y : ℕ) (b : Bool) → overflow (update_cf (update_of x false) b) ≡ overflow (update_cf (update_of y false) b)
same_overflow x y b =
    overflow_update_cf _ b ∙ overflow_update_of x false ∙ sym (overflow_update_cf _ b ∙ overflow_update_of y false)

-- by either rule carry is that of the sum
rule_carry : (e : Evaluation) (fill f a b c : ℕ) → cf ((flag_rule e).flags fill f a b c) ≡ sum_carry 64 (a + b + c)
unfolding base_flags board_flags
rule_carry Base fill f a b c = cf_update_cf _ _
rule_carry Board fill f a b c = cf_update_cf _ _

module _ (e : Evaluation) (addresses tags : List ℕ) where
  -- the environment under a fill word
  abbrev pub under : ℕ → Env
  under fill = environment addresses tags fill (flag_rule e)

  module _ (fill other : ℕ) (p : ℕ) where
    -- ---- what an operand is hangs on neither fill word nor flags
    module _ (g : ℕ) (t : Config) where
      valid_same : (o : Operand) → valid_operand (under other) o (with_flags g t) ≡ valid_operand (under fill) o t
      unfolding valid_operand cell_of
      valid_same (OConst n) = refl
      valid_same (OReg r) = refl
      valid_same (OMem m) = refl

      eval_same : (o : Operand) → eval_operand (under other) o (with_flags g t) ≡ eval_operand (under fill) o t
      unfolding eval_operand cell_of
      eval_same (OConst n) = refl
      eval_same (OReg r) = refl
      eval_same (OMem m) = refl

      dst_same : (o : Operand) → valid_dst_operand (under other) o (with_flags g t) ≡ valid_dst_operand (under fill) o t
      unfolding valid_dst_operand
      dst_same o = rw (valid_same o)

      update_same : (o : Operand) (v : ℕ) → update_operand (under other) o v (with_flags g t) ≡ with_flags g (update_operand (under fill) o v t)
      unfolding update_operand cell_of
      update_same (OConst n) v = refl
      update_same (OReg r) v = refl
      update_same (OMem m) v = refl

    -- ---- an act, with flags of its own, from a configuration with other flags
    module _ (s : Config) (h g : ℕ) where
      check_turned : (b : Bool) (n : ℕ) (k l : End) → l ≡ turned h g k → check b n p (with_flags g s) l ≡ turned h g (check b n p s k)
      unfolding check turned flags_at
      check_turned true n k l e = e
      check_turned false n k l e = refl

      readable_turned : (os : List Operand) (k l : End) → l ≡ turned h g k
          → readable (under other) p os (with_flags g s) l ≡ turned h g (readable (under fill) p os s k)
      readable_turned [] k l e = e
      readable_turned (o ∷ os) k l e = rw (valid_same g s o) (check_turned (valid_operand (under fill) o s) _ _ _ (readable_turned os k l e))

      ruled_turned : (cs : List (Bool × ℕ)) (k l : End) → l ≡ turned h g k → ruled p cs (with_flags g s) l ≡ turned h g (ruled p cs s k)
      ruled_turned [] k l e = e
      ruled_turned (c ∷ cs) k l e = check_turned c.0 c.1 _ _ (ruled_turned cs k l e)

      written_turned : (ws : List (Operand × ℕ)) (k l : Config → End) → ((t : Config) → l (with_flags g t) ≡ turned h g (k t)) → (t : Config)
          → written (under other) p ws (with_flags g s) l (with_flags g t) ≡ turned h g (written (under fill) p ws s k t)
      written_turned [] k l e t = e t
      written_turned (w ∷ ws) k l e t =
          rw (dst_same g t w.0, update_same g t w.0 w.1)
          (check_turned (valid_dst_operand (under fill) w.0 t) _ _ _ (written_turned ws k l e (update_operand (under fill) w.0 w.1 t)))

    regs_turned : (g : ℕ) (ws : List (Reg × ℕ)) (t : Config) → set_regs ws (with_flags g t) ≡ with_flags g (set_regs ws t)
    regs_turned g [] t = refl
    regs_turned g (w ∷ ws) t = regs_turned g ws _

    xmms_turned : (g : ℕ) (ws : List (ℕ × Four ℕ)) (t : Config) → set_xmms ws (with_flags g t) ≡ with_flags g (set_xmms ws t)
    xmms_turned g [] t = refl
    xmms_turned g (w ∷ ws) t = xmms_turned g ws _

    perform_turned : (s : Config) (h g : ℕ) (a : Act)
        → perform (under other) p (with_act_flags h a) (with_flags g s) ≡ turned h g (perform (under fill) p a s)
    unfolding turned flags_at
    perform_turned s h g a =
        readable_turned s h g a.sources _ _
        (ruled_turned s h g a.rules _ _ (written_turned s h g a.words _ _ last s))
      where
        last : (t : Config)
            → ends done (with_flags h (set_xmms a.quads (set_regs a.regs (with_flags g t))))
            ≡ turned h g (ends done (with_flags a.flags (set_xmms a.quads (set_regs a.regs t))))
        last t = rw (regs_turned g a.regs t, xmms_turned g a.quads (set_regs a.regs t))

    -- ---- each instruction, from s with flags f and with flags g
    module _ (s : Config) (f g : ℕ) where
      abbrev pub act_one : Instruction → Act
      act_one i = act (under fill) i (with_flags f s)

      abbrev pub act_other : Instruction → Act
      act_other i = act (under other) i (with_flags g s)

      carry_so : (a b c : ℕ) → cf ((flag_rule e).flags fill f a b c) ≡ cf ((flag_rule e).flags other g a b c)
      carry_so a b c = rule_carry e fill f a b c ∙ sym (rule_carry e other g a b c)

      overflow_so : (a b c : ℕ) → Says overflow fill other f g (flag_rule e).overflow ((flag_rule e).flags fill f a b c) ((flag_rule e).flags other g a b c)
      unfolding base_flags board_flags
      overflow_so a b c = by e
        where
          by : (e : Evaluation) → Says overflow fill other f g (flag_rule e).overflow ((flag_rule e).flags fill f a b c) ((flag_rule e).flags other g a b c)
          by Base = (overflow_update_cf f _, overflow_update_cf g _)
          by Board = overflow_update_cf _ _ ∙ overflow_update_of fill _ ∙ sym (overflow_update_cf _ _ ∙ overflow_update_of other _)

      -- the bits that an instruction of a kind reads are the same in f and g
      pub record SameRead (k : ℕ) : Type 0 where
        pub carry : among (0x04 ∷ 0x05 ∷ []) k ≡ true → cf f ≡ cf g
        pub over : eqb k 0x06 ≡ true → overflow f ≡ overflow g

      -- what holds of an instruction: where what it reads is the same, it does the same but for its flags, and those are as the table says
      pub record Steady (i : Instruction) : Type 0 where
        pub acts : SameRead (layout i).kind → act_other i ≡ with_act_flags (act_other i).flags (act_one i)
        pub hows : (perform (under other) p (act_other i) (with_flags g s)).how ≡ (perform (under fill) p (act_one i) (with_flags f s)).how
        pub carries : SameRead (layout i).kind
            → Says cf fill other f g (touched (flag_rule e) (layout i).kind).carry (act_one i).flags (act_other i).flags
        pub overflows : SameRead (layout i).kind
            → Says overflow fill other f g (touched (flag_rule e) (layout i).kind).overflow (act_one i).flags (act_other i).flags

      -- its operands' words are the same
      here : (o : Operand) → eval_operand (under other) o (with_flags g s) ≡ eval_operand (under fill) o (with_flags f s)
      here o = eval_same g (with_flags f s) o

      -- an instruction that reads neither carry nor overflow
      plain : (i : Instruction) → act_other i ≡ with_act_flags (act_other i).flags (act_one i)
          → Says cf fill other f g (touched (flag_rule e) (layout i).kind).carry (act_one i).flags (act_other i).flags
          → Says overflow fill other f g (touched (flag_rule e) (layout i).kind).overflow (act_one i).flags (act_other i).flags → Steady i
      unfolding turned
      plain i same c o = record {
        acts = λ _. same;
        hows =
            ap (λ a. (perform (under other) p a (with_flags g s)).how) same
            ∙ ap (λ (x : End). x.how) (perform_turned (with_flags f s) (act_other i).flags g (act_one i));
        carries = λ _. c;
        overflows = λ _. o;
      }

      -- of one that adds a carry, how it ends hangs on no word
      check_how : (b : Bool) (n : ℕ) (u v : Config) (k l : End) → k.how ≡ l.how → (check b n p u k).how ≡ (check b n p v l).how
      unfolding check
      check_how true n u v k l e = e
      check_how false n u v k l e = refl

      adds_how : (dst src : Operand) (v w h j : ℕ)
          → (perform (under other) p (to_operand (src ∷ []) [] dst v h) (with_flags g s)).how
          ≡ (perform (under fill) p (to_operand (src ∷ []) [] dst w j) (with_flags f s)).how
      adds_how dst src v w h j =
          rw (valid_same g (with_flags f s) src, dst_same g (with_flags f s) dst)
          (check_how _ _ _ _ _ _ (check_how _ _ _ _ _ _ refl))

      pub steady : (i : Instruction) → Steady i
      unfolding act two_word two_flags quads_flags touched
      steady (Mov64 dst src) = plain _ (rw (here src)) alike alike
      steady (Add64 dst src) = plain _ (rw (here dst, here src)) (rw (here dst, here src) (carry_so _ _ 0)) (rw (here dst, here src) (overflow_so _ _ 0))
      steady (AddLea64 dst src1 src2) = plain _ (rw (here src1, here src2)) alike alike
      steady (AddCarry64 dst src) = record {
        acts = λ r. rw (here dst, here src, sym (r.carry refl));
        hows = adds_how dst src _ _ _ _;
        carries = λ r. rw (here dst, here src, sym (r.carry refl)) (carry_so _ _ _);
        overflows = λ r. rw (here dst, here src, sym (r.carry refl)) (overflow_so _ _ _);
      }
      steady (Adcx64 dst src) = record {
        acts = λ r. rw (here dst, here src, sym (r.carry refl));
        hows = adds_how dst src _ _ _ _;
        carries = λ r. rw (here dst, here src, sym (r.carry refl)) (same_carry f g _);
        overflows = λ r. (overflow_update_cf f _, overflow_update_cf g _);
      }
      steady (Adox64 dst src) = record {
        acts = λ r. rw (here dst, here src, sym (r.over refl));
        hows = adds_how dst src _ _ _ _;
        carries = λ r. (cf_update_of f _, cf_update_of g _);
        overflows = λ r. rw (here dst, here src, sym (r.over refl)) (overflow_update_of f _ ∙ sym (overflow_update_of g _));
      }
      steady (Sub64 dst src) = plain _ (rw (here dst, here src)) alike alike
      steady (Mul64 src) = plain _ (rw (here src)) alike alike
      steady (Mulx64 dst_hi dst_lo src) = plain _ (rw (here src)) alike alike
      steady (IMul64 dst src) = plain _ (rw (here dst, here src)) alike alike
      steady (Xor64 dst src) = plain _ (rw (here dst, here src)) (same_carry _ _ false) (same_overflow fill other false)
      steady (And64 dst src) = plain _ (rw (here dst, here src)) alike alike
      steady (Shr64 dst amt) = plain _ (rw (here dst, here amt)) alike alike
      steady (Shl64 dst amt) = plain _ (rw (here dst, here amt)) alike alike
      steady (Paddd dst src) = plain _ refl alike alike
      steady (Pxor dst src) = plain _ refl alike alike
      steady (Pslld dst amt) = plain _ refl alike alike
      steady (Psrld dst amt) = plain _ refl alike alike
      steady (Pshufd dst src imm8) = plain _ refl alike alike
      steady (Pcmpeqd dst src) = plain _ refl alike alike
      steady (Pextrq dst src index) = plain _ refl alike alike
      steady (Pinsrd dst src index) = plain _ (rw (here src)) alike alike
      steady (Pinsrq dst src index) = plain _ (rw (here src)) alike alike
      steady (VPSLLDQ dst src count) = plain _ refl alike alike
      steady (Popcnt64 dst src) = plain _ (rw (here src)) (same_carry _ _ false) (same_overflow fill other false)
      steady (Lzcnt64 dst src) = plain _ (rw (here src)) (rw (here src) (same_carry fill other _)) (overflow_update_cf fill _, overflow_update_cf other _)
      steady (Tzcnt64 dst src) = plain _ (rw (here src)) (rw (here src) (same_carry fill other _)) (overflow_update_cf fill _, overflow_update_cf other _)

      -- ---- a comparison
      number_same : (a b : Operand) → let there = with_flags f s in
          unread_number (λ o. valid_operand (under other) o (with_flags g s)) s.regs (a ∷ b ∷ [])
          ≡ unread_number (λ o. valid_operand (under fill) o there) s.regs (a ∷ b ∷ [])
      unfolding unread_number
      number_same a b = rw (valid_same g (with_flags f s) a, valid_same g (with_flags f s) b)

      -- its check, its number and its answer
      pub record SameOcmp (c : Ocmp) : Type 0 where
        valid : valid_ocmp (under other) c (with_flags g s) ≡ valid_ocmp (under fill) c (with_flags f s)
        numbered : ocmp_number (under other) c (with_flags g s) ≡ ocmp_number (under fill) c (with_flags f s)
        pub answer : eval_ocmp (under other) c (with_flags g s) ≡ eval_ocmp (under fill) c (with_flags f s)

      pub same_ocmp : (c : Ocmp) → SameOcmp c
      unfolding valid_ocmp ocmp_number eval_ocmp
      same_ocmp (OEq a b) = record {
        valid = rw (valid_same g (with_flags f s) a, valid_same g (with_flags f s) b);
        numbered = number_same a b;
        answer = rw (here a, here b);
      }
      same_ocmp (ONe a b) = record {
        valid = rw (valid_same g (with_flags f s) a, valid_same g (with_flags f s) b);
        numbered = number_same a b;
        answer = rw (here a, here b);
      }
      same_ocmp (OLe a b) = record {
        valid = rw (valid_same g (with_flags f s) a, valid_same g (with_flags f s) b);
        numbered = number_same a b;
        answer = rw (here a, here b);
      }
      same_ocmp (OGe a b) = record {
        valid = rw (valid_same g (with_flags f s) a, valid_same g (with_flags f s) b);
        numbered = number_same a b;
        answer = rw (here a, here b);
      }
      same_ocmp (OLt a b) = record {
        valid = rw (valid_same g (with_flags f s) a, valid_same g (with_flags f s) b);
        numbered = number_same a b;
        answer = rw (here a, here b);
      }
      same_ocmp (OGt a b) = record {
        valid = rw (valid_same g (with_flags f s) a, valid_same g (with_flags f s) b);
        numbered = number_same a b;
        answer = rw (here a, here b);
      }

      pub ocmp_turned : (c : Ocmp) → run_ocmp (under other) p c (with_flags g s) ≡ turned other g (run_ocmp (under fill) p c (with_flags f s))
      unfolding run_ocmp turned flags_at
      ocmp_turned c =
          let w = same_ocmp c in
          rw (w.valid, w.numbered) (check_turned (with_flags f s) other g (valid_ocmp (under fill) c (with_flags f s)) _ _ _ refl)

  -- an instruction that is done leaves the flags of its act
  pub done_flags : (fill p : ℕ) (i : Instruction) (s u : Config) → run_ins (under fill) p i s ≡ ends done u → u.flags ≡ (act (under fill) i s).flags
  unfolding run_ins turned flags_at
  done_flags fill p i s u is =
      let a = act (under fill) i s in
      ap (λ (x : End). x.config.flags) (sym is ∙ perform_turned fill fill p s a.flags s.flags a ∙ ap (turned a.flags s.flags) is)

  module _ (fill other p : ℕ) (s : Config) (f g : ℕ) (i : Instruction) where
    pub ins_how : (run_ins (under other) p i (with_flags g s)).how ≡ (run_ins (under fill) p i (with_flags f s)).how
    unfolding run_ins
    ins_how = (steady fill other p s f g i).hows

    pub ins_turned : SameRead fill other p s f g (layout i).kind
        → run_ins (under other) p i (with_flags g s)
        ≡ turned (act (under other) i (with_flags g s)).flags g (run_ins (under fill) p i (with_flags f s))
    unfolding run_ins
    ins_turned r =
        ap (λ a. perform (under other) p a (with_flags g s)) ((steady fill other p s f g i).acts r)
        ∙ perform_turned fill other p (with_flags f s) _ g (act (under fill) i (with_flags f s))
