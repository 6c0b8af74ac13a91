-- An instruction that is done leaves the machine at the run's next configuration: its checks have passed, so what it reads and where it writes
-- is the same for both, and what it writes is a word.
use mathlib.Core.Path.{◌≡◌, refl, ◌∙◌, ap, subst}
use mathlib.Core.Bool.{Bool, true, false}
use Prim.Native.Nat.{ℕ, ◌+◌, ◌%◌, ◌^◌, ◌<◌}
use native.Mathlib.Omega.{arith}
use lib.Dec.{eqb}
use lib.ListN.{set}
use lib.Seq.{get_or-set_other}
use Rattle.words.specs.Words.{Two, Four, four_to_two_two, two_select, two_to_nat}
use Rattle.words.specs.Bits.{bit, iand, ixor, ishl, ishr}
use Rattle.words.specs.Counts.{popcnt, lzcnt, tzcnt}
use Rattle.words.specs.Sums.{sum_mod, sum_carry, sub_mod, mul_mod}
use Rattle.words.specs.Flags.{cf, overflow, update_cf, update_of}
use Rattle.words.proofs.BitLaws.{iand_lt, ixor_lt}
use Rattle.words.proofs.CountLaws.{popcnt_le, lzcnt_le, tzcnt_le}
use Rattle.words.proofs.ShiftLaws.{ishl_lt, ishr_lt}
use Rattle.words.proofs.SumLaws.{sum_mod_lt, sub_mod_lt}
use Rattle.words.proofs.ProductLaws.{mul_mod_lt, mul_div_lt}
use Rattle.words.proofs.PartLaws.{two_to_nat_lt, two_select_all}
use Rattle.words.proofs.LaneLaws.{Quad, insert_nat32_quad, insert_nat64_quad, quad32_xor_quad, add_lanes_quad, equal_lanes_quad, shl_lanes_quad, shr_lanes_quad, shuffle_lanes_quad, shift_quad_quad}
use Rattle.machine.specs.Registers.{Rax, Rdx, reg_at, xmm_at}
use Rattle.machine.specs.Bytes.{ByteMemory}
use Rattle.machine.proofs.RegisterLaws.{words_set}
use Rattle.machine.specs.declared.Operand.{Operand}
use Rattle.code.specs.declared.tree.Instruction.{Instruction}
use Rattle.code.specs.declared.tree.Instruction.TheVariants.{Mov64, Add64, AddLea64, AddCarry64, Adcx64, Adox64, Sub64, Mul64, Mulx64, IMul64, Xor64, And64, Shr64, Shl64, Paddd, Pxor, Pslld, Psrld, Pshufd, Pcmpeqd, Pextrq, Pinsrd, Pinsrq, VPSLLDQ, Popcnt64, Lzcnt64, Tzcnt64}
use Rattle.code.specs.WellFormed.{WfIns}
use Rattle.code.proofs.Accepted.{WfTwo}
use Rattle.eval.specs.Config.{Env, Config, with_flags, with_regs, End, ends, done, fault, check}
use Rattle.eval.specs.Instructions.{two_word, two_flags, quads_word, quads_flags, shifts_word, inserts_word, eval_operand, update_operand, act, run_ins}
use Rattle.eval.proofs.Shapes.{read_check, amount_check, write, write_xmm, write_halves, halves_kept}
use Rattle.bytemachine.specs.ByteMachine.{BState, read, exec_ins}
use Rattle.bytemachine.specs.ByteMachine.{write as put_to, with_flags as flagged, write_xmm as put_xmm, with_regs as regs_put}
use Rattle.bytemachine.proofs.Operands.{Kept, xmm_quad, set_xmm_kept, with_flags_kept, operand_small, dst_valid, lay, reads, Follows, follows_flags, puts, put_flags}

-- a check that a run gets behind has passed
pub passed : (b : Bool) (n p : ℕ) (s : Config) (k : End) (t : Config) → check b n p s k ≡ ends done t → (b ≡ true) × (k ≡ ends done t)
unfolding check
passed true n p s k t e = (refl, e)
passed false n p s k t e = absurd (let h : fault n p ≡ done = ap (λ (x : End). x.how) e in let z : ◌≡◌ {A = ℕ} 0 1 = cc in omega arith)

pub is_done : {s t : Config} → ends done s ≡ ends done t → s ≡ t
is_done e = ap (λ (x : End). x.config) e

-- the two words of a quad that are extracted make one of 64 bits
extracted_lt : (q : Four ℕ) (k : ℕ) → Quad q → two_to_nat 32 (two_select (four_to_two_two q) k) < 2 ^ 64
extracted_lt q k h =
    let p = two_select_all (λ (x : Two ℕ). (x.lo < 2 ^ 32) × (x.hi < 2 ^ 32)) (four_to_two_two q) k (h.lo0_lt, h.lo1_lt) (h.hi2_lt, h.hi3_lt) in
    two_to_nat_lt 32 (two_select (four_to_two_two q) k) p.0 p.1

module _ (env : Env) (memory : ByteMemory) where
  -- the machine, laid out, at a configuration
  abbrev at : Config → BState
  at s = lay env memory s

  -- the machine's state b follows the run from s to t
  abbrev Goes : BState → Config → Config → Type 0
  Goes b s t = Follows env memory b s t

  module _ (s t : Config) (kept : Kept env s) where
    -- ---- the shapes of an instruction
    wrote : (p : ℕ) (dst : Operand) (v flags : ℕ) → v < 2 ^ 64 → write env p dst v flags s ≡ ends done t → Goes (flagged flags (put_to dst v (at s))) s t
    wrote p dst v flags h e =
        let c = passed _ _ p s _ t e in
        subst (λ x. Goes (flagged flags (put_to dst v (at s))) s x) (is_done c.1) (follows_flags env memory flags (puts env memory dst v s c.0 h kept))

    -- a destination is read and written with a source, and the flags are made of the two words
    combined : (p : ℕ) (dst src : Operand) (f g : ℕ → ℕ → ℕ) → WfTwo dst src → ((a b : ℕ) → a < 2 ^ 64 → b < 2 ^ 64 → f a b < 2 ^ 64)
        → (let a = eval_operand env dst s in let b = eval_operand env src s in read_check env p src s (write env p dst (f a b) (g a b) s)) ≡ ends done t
        → Goes (flagged (g (read dst (at s)) (read src (at s))) (put_to dst (f (read dst (at s)) (read src (at s))) (at s))) s t
    combined p dst src f g fits h e =
        let c = passed _ _ p s _ t e in
        let d = passed _ _ p s _ t c.1 in
        rw (reads env memory dst s (dst_valid env dst s d.0) kept, reads env memory src s c.0 kept)
        (wrote p dst _ _ (h _ _ (operand_small env dst s fits.0 kept) (operand_small env src s fits.1 kept)) c.1)

    -- flags that are kept
    unflagged : (o : Operand) (v : ℕ) → Goes (flagged s.flags (put_to o v (at s))) s t → Goes (put_to o v (at s)) s t
    unflagged o v h = subst (λ b. Goes b s t) (put_flags o v (at s)) h

    wrote_xmm : (p x : ℕ) (q : Four ℕ) (flags : ℕ) → Quad q → write_xmm env p x q flags s ≡ ends done t → Goes (flagged flags (put_xmm x q (at s))) s t
    wrote_xmm p x q flags h e =
        subst (λ u. Goes (flagged flags (put_xmm x q (at s))) s u) (is_done e)
        (record { same = refl; kept = with_flags_kept flags (set_xmm_kept x q h kept); rsp = refl })

    -- two sources
    summed : (p : ℕ) (dst a b : Operand)
        → read_check env p a s (read_check env p b s (write env p dst (sum_mod 64 (eval_operand env a s + eval_operand env b s)) s.flags s)) ≡ ends done t
        → Goes (put_to dst (sum_mod 64 (read a (at s) + read b (at s))) (at s)) s t
    summed p dst a b e =
        let c = passed _ _ p s _ t e in
        let d = passed _ _ p s _ t c.1 in
        rw (reads env memory a s c.0 kept, reads env memory b s d.0 kept)
        (unflagged dst _ (wrote p dst _ s.flags (sum_mod_lt 64 _) d.1))

    -- a shift, whose amount is checked besides
    shifted : (p : ℕ) (dst amt : Operand) (f : ℕ → ℕ → ℕ) → WfTwo dst amt → ((a b : ℕ) → a < 2 ^ 64 → b < 2 ^ 64 → f a b < 2 ^ 64)
        → amount_check env p amt s (write env p dst (f (eval_operand env dst s) (eval_operand env amt s)) env.fill s) ≡ ends done t
        → Goes (flagged env.fill (put_to dst (f (read dst (at s)) (read amt (at s))) (at s))) s t
    shifted p dst amt f fits h e =
        let c = passed _ _ p s _ t e in
        let d = passed _ 33 p s _ t c.1 in
        let w = passed _ _ p s _ t d.1 in
        rw (reads env memory dst s (dst_valid env dst s w.0) kept, reads env memory amt s c.0 kept)
        (wrote p dst _ env.fill (h _ _ (operand_small env dst s fits.0 kept) (operand_small env amt s fits.1 kept)) d.1)

    -- Mul64: Rax and Rdx
    multiplied : (hi lo : ℕ) → hi < 2 ^ 64 → lo < 2 ^ 64
        → ends done (with_flags env.fill (with_regs (set (set s.regs 0 lo) 3 hi) s)) ≡ ends done t
        → Goes (flagged env.fill (regs_put (set (set s.regs 0 lo) 3 hi) (at s))) s t
    multiplied hi lo h l e =
        subst (λ u. Goes (flagged env.fill (regs_put (set (set s.regs 0 lo) 3 hi) (at s))) s u) (is_done e)
        (record {
          same = refl;
          kept = record {
            regs_words = words_set 16 (2 ^ 64) (set s.regs 0 lo) 3 hi h (words_set 16 (2 ^ 64) s.regs 0 lo l kept.regs_words);
            xmms_words = kept.xmms_words;
            cells = kept.cells;
          };
          rsp = get_or-set_other (set s.regs 0 lo) 3 7 hi 0 (λ e. omega arith) ∙ get_or-set_other s.regs 0 7 lo 0 (λ e. omega arith);
        })

    -- Mulx64: the low half, and then the high half from there
    halves : (p : ℕ) (dst_hi dst_lo : Operand) (hi lo : ℕ) → hi < 2 ^ 64 → lo < 2 ^ 64 → write_halves env p dst_hi dst_lo hi lo s ≡ ends done t
        → Goes (put_to dst_hi hi (put_to dst_lo lo (at s))) s t
    halves p dst_hi dst_lo hi lo h l e =
        let u = update_operand env dst_lo lo s in
        let c = passed _ _ p s _ t e in
        let d = passed _ _ p s _ t c.1 in
        let low = puts env memory dst_lo lo s c.0 l kept in
        let high = puts env memory dst_hi hi u d.0 h low.kept in
        subst (λ x. Goes (put_to dst_hi hi (put_to dst_lo lo (at s))) s x) (halves_kept env dst_lo dst_hi lo hi s ∙ is_done d.1)
        (record { same = ap (put_to dst_hi hi) low.same ∙ high.same; kept = high.kept; rsp = high.rsp ∙ low.rsp })

    -- ---- an instruction
    pub follows_ins : (p : ℕ) (i : Instruction) → WfIns i → run_ins env p i s ≡ ends done t → Goes (exec_ins env.fill env.rule i (at s)) s t
    unfolding WfIns run_ins act exec_ins two_word two_flags quads_word quads_flags shifts_word inserts_word
    follows_ins p (Mov64 dst src) fits e = unflagged dst _ (combined p dst src (λ a b. b) (λ a b. s.flags) fits (λ a b h k. k) e)
    follows_ins p (Add64 dst src) fits e =
        combined p dst src (λ a b. sum_mod 64 (a + b)) (λ a b. env.rule.flags env.fill s.flags a b 0) fits (λ a b h k. sum_mod_lt 64 _) e
    follows_ins p (AddLea64 dst src1 src2) fits e = summed p dst src1 src2 e
    follows_ins p (AddCarry64 dst src) fits e =
        let c = bit (cf s.flags) in
        combined p dst src (λ a b. sum_mod 64 (a + b + c)) (λ a b. env.rule.flags env.fill s.flags a b c) fits (λ a b h k. sum_mod_lt 64 _) e
    follows_ins p (Adcx64 dst src) fits e =
        let c = bit (cf s.flags) in
        combined p dst src (λ a b. sum_mod 64 (a + b + c)) (λ a b. update_cf s.flags (sum_carry 64 (a + b + c))) fits (λ a b h k. sum_mod_lt 64 _) e
    follows_ins p (Adox64 dst src) fits e =
        let c = bit (overflow s.flags) in
        combined p dst src (λ a b. sum_mod 64 (a + b + c)) (λ a b. update_of s.flags (sum_carry 64 (a + b + c))) fits (λ a b h k. sum_mod_lt 64 _) e
    follows_ins p (Sub64 dst src) fits e = combined p dst src (sub_mod 64) (λ a b. env.fill) fits (λ a b h k. sub_mod_lt 64 a b) e
    follows_ins p (Mul64 src) fits e =
        let c = passed _ _ p s _ t e in
        let a = reg_at s.regs Rax in
        rw (reads env memory src s c.0 kept)
        (multiplied _ _ (mul_div_lt 64 (kept.regs_words.small 0) (operand_small env src s fits kept)) (mul_mod_lt 64 a _) c.1)
    follows_ins p (Mulx64 dst_hi dst_lo src) fits e =
        let c = passed _ _ p s _ t e in
        let a = reg_at s.regs Rdx in
        rw (reads env memory src s c.0 kept)
        (halves p dst_hi dst_lo _ _ (mul_div_lt 64 (kept.regs_words.small 3) (operand_small env src s fits.1.1 kept)) (mul_mod_lt 64 a _) c.1)
    follows_ins p (IMul64 dst src) fits e = combined p dst src (mul_mod 64) (λ a b. env.fill) fits (λ a b h k. mul_mod_lt 64 a b) e
    follows_ins p (Xor64 dst src) fits e =
        combined p dst src (ixor 64) (λ a b. update_cf (update_of env.fill false) false) fits (λ a b h k. ixor_lt 64 a b) e
    follows_ins p (And64 dst src) fits e = combined p dst src (iand 64) (λ a b. env.fill) fits (λ a b h k. iand_lt 64 a b) e
    follows_ins p (Shr64 dst amt) fits e = shifted p dst amt ishr fits (λ a b h k. ishr_lt 64 b h) e
    follows_ins p (Shl64 dst amt) fits e = shifted p dst amt (ishl 64) fits (λ a b h k. ishl_lt 64 a b) e
    follows_ins p (Paddd dst src) fits e = wrote_xmm p dst _ env.fill (add_lanes_quad _ _) e
    follows_ins p (Pxor dst src) fits e = wrote_xmm p dst _ s.flags (quad32_xor_quad _ _) e
    follows_ins p (Pslld dst amt) fits e = wrote_xmm p dst _ s.flags (shl_lanes_quad _ amt) (passed _ 34 p s _ t e).1
    follows_ins p (Psrld dst amt) fits e = wrote_xmm p dst _ s.flags (shr_lanes_quad _ amt (xmm_quad dst kept)) (passed _ 34 p s _ t e).1
    follows_ins p (Pshufd dst src imm8) fits e = wrote_xmm p dst _ s.flags (shuffle_lanes_quad _ imm8 (xmm_quad src kept)) e
    follows_ins p (Pcmpeqd dst src) fits e = wrote_xmm p dst _ s.flags (equal_lanes_quad _ _) e
    follows_ins p (Pextrq dst src index) fits e =
        unflagged dst _ (wrote p dst _ s.flags (extracted_lt (xmm_at s.xmms src) (index % 2) (xmm_quad src kept)) e)
    follows_ins p (Pinsrd dst src index) fits e =
        let c = passed _ _ p s _ t e in
        rw (reads env memory src s c.0 kept)
        (wrote_xmm p dst _ s.flags (insert_nat32_quad _ _ (index % 4) (xmm_quad dst kept) (omega arith)) c.1)
    follows_ins p (Pinsrq dst src index) fits e =
        let c = passed _ _ p s _ t e in
        rw (reads env memory src s c.0 kept)
        (wrote_xmm p dst _ s.flags (insert_nat64_quad _ _ (index % 2) (xmm_quad dst kept)) c.1)
    follows_ins p (VPSLLDQ dst src count) fits e =
        wrote_xmm p dst _ s.flags (shift_quad_quad _ (xmm_quad src kept)) (passed _ 35 p s _ t e).1
    follows_ins p (Popcnt64 dst src) fits e =
        combined p dst src (λ a b. popcnt 64 b) (λ a b. update_cf (update_of env.fill false) false) fits
        (λ a b h k. omega (arith, popcnt_le 64 b)) e
    follows_ins p (Lzcnt64 dst src) fits e =
        combined p dst src (λ a b. lzcnt 64 b) (λ a b. update_cf env.fill (eqb b 0)) fits (λ a b h k. omega (arith, lzcnt_le 64 b)) e
    follows_ins p (Tzcnt64 dst src) fits e =
        combined p dst src (λ a b. tzcnt 64 b) (λ a b. update_cf env.fill (eqb b 0)) fits (λ a b h k. omega (arith, tzcnt_le 64 b)) e
