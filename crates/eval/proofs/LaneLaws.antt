-- How an instruction on an xmm ends, from the quads that were read. Assumes nothing.
use Prim.Native.Nat.{ℕ, ◌%◌, ◌≤◌, ◌<◌}
use mathlib.Core.Path.{◌≡◌, refl, ◌∙◌}
use mathlib.Core.Bool.{true}
use mathlib.Core.List.{List}
use native.Mathlib.Omega.{arith}
use borrow.Author.Tests.{lt-ltb, le-ltb, ne_eqb}
use lib.Dec.{ltb}
use Rattle.words.proofs.LaneLaws.{extract_nat64_is}
use Rattle.words.specs.Types.{quad32, extract_nat64, shuffle_lanes, shift_quad}
use Rattle.words.specs.Parts.{Quad32}
use Rattle.machine.specs.Registers.{xmm_at, set_xmm}
use Rattle.machine.specs.declared.Operand.{Operand}
use Rattle.code.specs.declared.tree.Instruction.{Instruction}
use Rattle.code.specs.declared.tree.Instruction.TheVariants.{Pshufd, Pextrq, VPSLLDQ}
use Rattle.code.specs.Families.{is_quads, is_shifts, is_inserts, quads_ins, shifts_ins, inserts_ins}
use Rattle.code.proofs.Families.{by_quads_ins, by_shifts_ins, by_inserts_ins}
use Rattle.eval.specs.Config.{Env, Config, check}
use Rattle.eval.specs.Instructions.{quads_word, quads_flags, shifts_word, inserts_word, eval_operand, act, run_ins}
use Rattle.eval.specs.Promises.{held, Loads, Resolves, put_regs, put_values, Ran}
use Rattle.std.specs.Prelude.{Ok}
use Rattle.eval.specs.declared.operand.Loaded.{Loaded}
use Rattle.eval.specs.declared.operand.Slot.{Slot}
use Rattle.eval.proofs.Shapes.{read_check, write_xmm}
use Rattle.eval.proofs.OperandLaws.{above_one}
use Rattle.eval.proofs.InstructionLaws.{exit, failed, finished, read_passes, read_fails, unwritable, wrote}

module _ (env : Env) (s : Config) (p : ℕ) where
  -- an instruction that is done, with q in an xmm
  module _ (i : Instruction) (b dst : ℕ) (q : Quad32) (xmms' : List ℕ) (f : ℕ) (is : xmms' ≡ set_xmm s.xmms dst (quad32 q)) where
    in_xmm : run_ins env p i s ≡ write_xmm env p dst (quad32 q) f s → Ran (run_ins env p i s) b (Ok b) (held s.regs xmms' f s.values)
    in_xmm h = finished _ b b p _ (h ∙ rw is) refl

  module _ (dst src : ℕ) where
    abbrev QuadsShape : ℕ → Instruction → Type 0
    QuadsShape k i =
        run_ins env p i s
        ≡ write_xmm env p dst (quads_word k (xmm_at s.xmms dst) (xmm_at s.xmms src)) (quads_flags k env.fill s.flags) s

    quads_shape : (k : ℕ) → is_quads k ≡ true → QuadsShape k (quads_ins k dst src)
    unfolding run_ins act quads_word quads_flags
    quads_shape k h = by_quads_ins QuadsShape dst src refl refl refl k h

    pub quads_done :
        (k : ℕ) → is_quads k ≡ true →
        (b : ℕ) (x y q : Quad32) (xmms' : List ℕ) (f : ℕ) →
        quad32 x ≡ xmm_at s.xmms dst →
        quad32 y ≡ xmm_at s.xmms src →
        quad32 q ≡ quads_word k (quad32 x) (quad32 y) →
        xmms' ≡ set_xmm s.xmms dst (quad32 q) →
        f ≡ quads_flags k env.fill s.flags →
        Ran (run_ins env p (quads_ins k dst src) s) b (Ok b) (held s.regs xmms' f s.values)
    quads_done k h b x y q xmms' f ax ay c d e =
        in_xmm (quads_ins k dst src) b dst q xmms' f d (rw (e, c, ax, ay) (quads_shape k h))

    pub shuffle_done :
        (imm8 b : ℕ) (x q : Quad32) (xmms' : List ℕ) →
        quad32 x ≡ xmm_at s.xmms src →
        quad32 q ≡ shuffle_lanes (quad32 x) imm8 →
        xmms' ≡ set_xmm s.xmms dst (quad32 q) →
        Ran (run_ins env p (Pshufd dst src imm8) s) b (Ok b) (held s.regs xmms' s.flags s.values)
    unfolding run_ins act
    shuffle_done imm8 b x q xmms' a c d = in_xmm (Pshufd dst src imm8) b dst q xmms' s.flags d (rw (c, a))

    module _ (count b : ℕ) where
      pub word_shift_done :
          (x q : Quad32) (xmms' : List ℕ) →
          count ≡ 4 →
          quad32 x ≡ xmm_at s.xmms src →
          quad32 q ≡ shift_quad (quad32 x) →
          xmms' ≡ set_xmm s.xmms dst (quad32 q) →
          Ran (run_ins env p (VPSLLDQ dst src count) s) b (Ok b) (held s.regs xmms' s.flags s.values)
      unfolding run_ins act check
      word_shift_done x q xmms' e a c d = in_xmm (VPSLLDQ dst src count) b dst q xmms' s.flags d (rw (e, c, a))

      pub word_shift_fails : (count ≡ 4 → ⊥) → Ran (run_ins env p (VPSLLDQ dst src count) s) b (exit 35 p) s
      unfolding run_ins act check
      word_shift_fails e = failed _ b 35 p s (rw (ne_eqb count 4 e)) (λ h. omega arith)

  module _ (k : ℕ) (is : is_shifts k ≡ true) (dst amount b : ℕ) where
    abbrev ShiftsShape : ℕ → Instruction → Type 0
    ShiftsShape k i =
        run_ins env p i s ≡ check (ltb amount 32) 34 p s (write_xmm env p dst (shifts_word k (xmm_at s.xmms dst) amount) s.flags s)

    shifts_shape : ShiftsShape k (shifts_ins k dst amount)
    unfolding run_ins act shifts_word
    shifts_shape = by_shifts_ins ShiftsShape dst amount refl refl k is

    pub shifts_done :
        (x q : Quad32) (xmms' : List ℕ) →
        amount ≤ 31 →
        quad32 x ≡ xmm_at s.xmms dst →
        quad32 q ≡ shifts_word k (quad32 x) amount →
        xmms' ≡ set_xmm s.xmms dst (quad32 q) →
        Ran (run_ins env p (shifts_ins k dst amount) s) b (Ok b) (held s.regs xmms' s.flags s.values)
    unfolding check
    shifts_done x q xmms' l a c d =
        in_xmm (shifts_ins k dst amount) b dst q xmms' s.flags d (shifts_shape ∙ rw (lt-ltb amount 32 (omega arith), c, a))

    pub shifts_fail : 31 < amount → Ran (run_ins env p (shifts_ins k dst amount) s) b (exit 34 p) s
    unfolding check
    shifts_fail l = failed _ b 34 p s (shifts_shape ∙ rw (le-ltb amount 32 (omega arith))) (λ h. omega arith)

  module _ (dst : Operand) (src index n : ℕ) (t : Slot) (resolves : Resolves env s dst n t) where
    pub extract_unwritten : 1 < t.how → Ran (run_ins env p (Pextrq dst src index) s) n (exit t.how p) s
    unfolding run_ins act
    extract_unwritten h = failed _ n t.how p s (unwritable env s p dst n t resolves h _) (above_one h)

    pub extract_done :
        t.how ≤ 1 →
        (x : Quad32) (v : ℕ) (regs' values' : List ℕ) →
        quad32 x ≡ xmm_at s.xmms src →
        v ≡ extract_nat64 (quad32 x) (index % 2) →
        regs' ≡ put_regs t v s.regs →
        values' ≡ put_values t v s.values →
        Ran (run_ins env p (Pextrq dst src index) s) n (Ok t.next) (held regs' s.xmms s.flags values')
    unfolding run_ins act
    extract_done h x v regs' values' a b e f =
        finished _ n t.next p _ (rw (e, f, b, a, extract_nat64_is) (wrote env s p dst n t resolves h _ _)) resolves.next

  module _ (k : ℕ) (is : is_inserts k ≡ true) (src : Operand) (dst index n : ℕ) (r : Loaded) (loads : Loads env s src n r) where
    abbrev InsertsShape : ℕ → Instruction → Type 0
    InsertsShape k i =
        run_ins env p i s
        ≡ read_check env p src s
        (write_xmm env p dst (inserts_word k (xmm_at s.xmms dst) (eval_operand env src s) index) s.flags s)

    inserts_shape : InsertsShape k (inserts_ins k dst src index)
    unfolding run_ins act inserts_word
    inserts_shape = by_inserts_ins InsertsShape dst src index refl refl k is

    pub inserts_unread : (r.number ≡ 0 → ⊥) → Ran (run_ins env p (inserts_ins k dst src index) s) n (exit r.number p) s
    inserts_unread h = failed _ n r.number p s (inserts_shape ∙ read_fails env s p src n r loads _ h) h

    pub inserts_done :
        r.number ≡ 0 →
        (x q : Quad32) (xmms' : List ℕ) →
        quad32 x ≡ xmm_at s.xmms dst →
        quad32 q ≡ inserts_word k (quad32 x) r.word index →
        xmms' ≡ set_xmm s.xmms dst (quad32 q) →
        Ran (run_ins env p (inserts_ins k dst src index) s) n (Ok r.next) (held s.regs xmms' s.flags s.values)
    inserts_done h x q xmms' a b c =
        finished _ n r.next p _
        (rw (c, b, a, loads.word h) (inserts_shape ∙ read_passes env s p src n r loads _ h)) loads.next
