-- The byte machine: a kernel over bytes alone, so that no cell can be missing and no check fails. Fill word and flag rule are parameters.
use Rattle.std.specs.Prelude.{ℕ, zero, suc, ◌+◌, ◌%◌, ◌^◌, Bool, true, false, not, List, eqb, ltb, leb}
use Rattle.std.proofs.Math.Option.{Option, none, some}
use Rattle.words.specs.Words.{Four, four_to_two_two, two_select, two_to_nat}
use Rattle.words.specs.Bits.{bit, iand, ixor, ishl, ishr}
use Rattle.words.specs.Counts.{popcnt, lzcnt, tzcnt}
use Rattle.words.specs.Types.{quad32_xor, insert_nat32, insert_nat64, add_lanes, equal_lanes, shl_lanes, shr_lanes, shuffle_lanes, shift_quad}
use Rattle.words.specs.Sums.{sum_mod, sum_carry, sub_mod, mul_div, mul_mod}
use Rattle.words.specs.Flags.{cf, overflow, update_cf, update_of}
use Rattle.machine.specs.Registers.{Rax, Rdx, reg_at, set_reg, xmm_at, set_xmm}
use Rattle.machine.specs.Operands.{eval_maddr}
use Rattle.machine.specs.Bytes.{ByteMemory, wrap, read_bytes, write_bytes}
use Rattle.machine.specs.declared.Operand.{Operand}
use Rattle.machine.specs.declared.Operand.TheVariants.{OConst, OReg, OMem}
use Rattle.code.specs.declared.tree.Instruction.{Instruction}
use Rattle.code.specs.declared.tree.Instruction.TheVariants.{Mov64, Add64, AddLea64, AddCarry64, Adcx64, Adox64, Sub64, Mul64, Mulx64, IMul64, Xor64, And64, Shr64, Shl64, Paddd, Pxor, Pslld, Psrld, Pshufd, Pcmpeqd, Pextrq, Pinsrd, Pinsrq, VPSLLDQ, Popcnt64, Lzcnt64, Tzcnt64}
use Rattle.code.specs.declared.tree.Ocmp.{Ocmp}
use Rattle.code.specs.declared.tree.Ocmp.TheVariants.{OEq, ONe, OLe, OGe, OLt, OGt}
use Rattle.code.specs.Tree.{Code, Ins, Block, IfElse, While, Codes, ⟨⟩, ◌∷ᶜ◌}
use Rattle.eval.specs.FlagRule.{FlagRule}

-- registers, xmm words, flags, bytes
pub record BState : Type 0 where
  pub regs : List ℕ
  pub xmms : List ℕ
  pub flags : ℕ
  pub bytes : ByteMemory

-- a state with other registers
abbrev pub with_regs : List ℕ → BState → BState
with_regs regs s = record { regs = regs; xmms = s.xmms; flags = s.flags; bytes = s.bytes }

-- with other xmm words
abbrev pub with_xmms : List ℕ → BState → BState
with_xmms xmms s = record { regs = s.regs; xmms = xmms; flags = s.flags; bytes = s.bytes }

-- with other flags
abbrev pub with_flags : ℕ → BState → BState
with_flags flags s = record { regs = s.regs; xmms = s.xmms; flags = flags; bytes = s.bytes }

-- with other bytes
abbrev pub with_bytes : ByteMemory → BState → BState
with_bytes bytes s = record { regs = s.regs; xmms = s.xmms; flags = s.flags; bytes = bytes }

-- a memory operand reads the eight bytes from its exact address up, low first, each address modulo 2^64
unfoldable pub read : Operand → BState → ℕ
read (OConst n) s = n
read (OReg r) s = reg_at s.regs r
read (OMem m) s = read_bytes 8 (wrap (eval_maddr m s.regs)) s.bytes

-- a store writes those eight; a constant as destination takes nothing, Rsp is written like any register
unfoldable pub write : Operand → ℕ → BState → BState
write (OConst n) v s = s
write (OReg r) v s = with_regs (set_reg s.regs r v) s
write (OMem m) v s = with_bytes (write_bytes (wrap (eval_maddr m s.regs)) v s.bytes) s

-- a quad is written to an xmm
abbrev pub write_xmm : ℕ → Four ℕ → BState → BState
write_xmm x q s = with_xmms (set_xmm s.xmms x q) s

module _ (fill : ℕ) where
  module _ (rule : FlagRule) where
    -- an instruction
    unfoldable pub exec_ins : Instruction → BState → BState
    exec_ins (Mov64 dst src) s = write dst (read src s) s
    exec_ins (Add64 dst src) s =
        let a = read dst s in
        let b = read src s in
        with_flags (rule.flags fill s.flags a b 0) (write dst (sum_mod 64 (a + b)) s)
    exec_ins (AddLea64 dst src1 src2) s = write dst (sum_mod 64 (read src1 s + read src2 s)) s
    exec_ins (AddCarry64 dst src) s =
        let a = read dst s in
        let b = read src s in
        let c = bit (cf s.flags) in
        with_flags (rule.flags fill s.flags a b c) (write dst (sum_mod 64 (a + b + c)) s)
    exec_ins (Adcx64 dst src) s =
        let sum = read dst s + read src s + bit (cf s.flags) in
        with_flags (update_cf s.flags (sum_carry 64 sum)) (write dst (sum_mod 64 sum) s)
    exec_ins (Adox64 dst src) s =
        let sum = read dst s + read src s + bit (overflow s.flags) in
        with_flags (update_of s.flags (sum_carry 64 sum)) (write dst (sum_mod 64 sum) s)
    exec_ins (Sub64 dst src) s = with_flags fill (write dst (sub_mod 64 (read dst s) (read src s)) s)
    exec_ins (Mul64 src) s =
        let a = reg_at s.regs Rax in
        let b = read src s in
        with_flags fill (with_regs (set_reg (set_reg s.regs Rax (mul_mod 64 a b)) Rdx (mul_div 64 a b)) s)
    exec_ins (Mulx64 dst_hi dst_lo src) s =
        let a = reg_at s.regs Rdx in
        let b = read src s in
        write dst_hi (mul_div 64 a b) (write dst_lo (mul_mod 64 a b) s)
    exec_ins (IMul64 dst src) s = with_flags fill (write dst (mul_mod 64 (read dst s) (read src s)) s)
    exec_ins (Xor64 dst src) s =
        with_flags (update_cf (update_of fill false) false) (write dst (ixor 64 (read dst s) (read src s)) s)
    exec_ins (And64 dst src) s = with_flags fill (write dst (iand 64 (read dst s) (read src s)) s)
    exec_ins (Shr64 dst amt) s = with_flags fill (write dst (ishr (read dst s) (read amt s)) s)
    exec_ins (Shl64 dst amt) s = with_flags fill (write dst (ishl 64 (read dst s) (read amt s)) s)
    exec_ins (Paddd dst src) s = with_flags fill (write_xmm dst (add_lanes (xmm_at s.xmms dst) (xmm_at s.xmms src)) s)
    exec_ins (Pxor dst src) s = write_xmm dst (quad32_xor (xmm_at s.xmms dst) (xmm_at s.xmms src)) s
    exec_ins (Pslld dst amt) s = write_xmm dst (shl_lanes (xmm_at s.xmms dst) amt) s
    exec_ins (Psrld dst amt) s = write_xmm dst (shr_lanes (xmm_at s.xmms dst) amt) s
    exec_ins (Pshufd dst src imm8) s = write_xmm dst (shuffle_lanes (xmm_at s.xmms src) imm8) s
    exec_ins (Pcmpeqd dst src) s = write_xmm dst (equal_lanes (xmm_at s.xmms src) (xmm_at s.xmms dst)) s
    exec_ins (Pextrq dst src index) s =
        write dst (two_to_nat 32 (two_select (four_to_two_two (xmm_at s.xmms src)) (index % 2))) s
    exec_ins (Pinsrd dst src index) s = write_xmm dst (insert_nat32 (xmm_at s.xmms dst) (read src s % 2 ^ 32) (index % 4)) s
    exec_ins (Pinsrq dst src index) s = write_xmm dst (insert_nat64 (xmm_at s.xmms dst) (read src s) (index % 2)) s
    exec_ins (VPSLLDQ dst src count) s = write_xmm dst (shift_quad (xmm_at s.xmms src)) s
    exec_ins (Popcnt64 dst src) s = with_flags (update_cf (update_of fill false) false) (write dst (popcnt 64 (read src s)) s)
    exec_ins (Lzcnt64 dst src) s = let b = read src s in with_flags (update_cf fill (eqb b 0)) (write dst (lzcnt 64 b) s)
    exec_ins (Tzcnt64 dst src) s = let b = read src s in with_flags (update_cf fill (eqb b 0)) (write dst (tzcnt 64 b) s)

  -- a comparison, unsigned
  unfoldable pub test : Ocmp → BState → Bool
  test (OEq a b) s = eqb (read a s) (read b s)
  test (ONe a b) s = not (eqb (read a s) (read b s))
  test (OLe a b) s = leb (read a s) (read b s)
  test (OGe a b) s = leb (read b s) (read a s)
  test (OLt a b) s = ltb (read a s) (read b s)
  test (OGt a b) s = ltb (read b s) (read a s)

  -- the way that a comparison takes; it sets flags to the fill word
  unfoldable pub branch : Bool → (BState → Option BState) → (BState → Option BState) → BState → Option BState
  branch true yes_way no_way s = yes_way (with_flags fill s)
  branch false yes_way no_way s = no_way (with_flags fill s)

  -- goes on behind a code, unless the machine has halted out of fuel
  unfoldable pub go_on : Option BState → (BState → Option BState) → Option BState
  go_on none k = none
  go_on (some s) k = k s

  -- the rounds of a While; met at fuel 0 it halts the machine out of fuel
  unfoldable pub loop : (ℕ → BState → Option BState) → Ocmp → ℕ → BState → Option BState
  loop body c zero s = none
  loop body c (suc fuel) s = branch (test c s) (λ t. go_on (body fuel t) (loop body c fuel)) some s

  module _ (rule : FlagRule) where
    unfoldable mutual
      -- a code, with fuel: the state after its last code, or none where the machine has halted out of fuel
      pub exec : Code → ℕ → BState → Option BState
      exec (Ins p i) fuel s = some (exec_ins rule i s)
      exec (Block p cs) fuel s = execs cs fuel s
      exec (IfElse p q c a b) fuel s = branch (test c s) (exec a fuel) (exec b fuel) s
      exec (While p q c b) fuel s = loop (exec b) c fuel s

      -- a list of codes
      pub execs : Codes → ℕ → BState → Option BState
      execs ⟨⟩ fuel s = some s
      execs (c ∷ᶜ cs) fuel s = go_on (exec c fuel s) (execs cs fuel)
