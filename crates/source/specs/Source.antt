-- X64.Semantics_s, transliterated, in its names; what needs no open place stands first. It runs on after a failed check.
-- Where it is written another way than the text (Upstream names the places), Upstream says that the two are the same.
-- F* has no Popcnt64, Lzcnt64 and Tzcnt64: their clauses of `eval_ins`, the last three, are request 2026-02's.
-- Open places: every `load_mem64` and `int_to_nat64` that meets its clause is a parameter; `havoc` is the fill word.
-- The flags of Add64 and AddCarry64 are a parameter too, `rule`: with `base_rule` they are F*'s, with `board_rule` request 2026-06's.
use Rattle.std.specs.Prelude.{ℕ, zero, suc, ◌+◌, ◌*◌, ◌%◌, ◌^◌, Bool, true, false, not, ◌&&◌, cond, List, eqb, ltb, leb, ℤ, pos}
use Rattle.std.proofs.Math.Option.{Option, none, some}
use Rattle.words.specs.Words.{Four, mkfour, four_map, four_to_two_two, two_select, two_to_nat}
use Rattle.words.specs.Bits.{bit, iand, ixor, ishl, ishr}
use Rattle.words.specs.Counts.{popcnt, lzcnt, tzcnt}
use Rattle.words.specs.Types.{byte_to_twobits, select_word, quad32_xor, insert_nat32, insert_nat64}
use Rattle.words.specs.Sums.{sub_mod, mul_div, mul_mod}
use Rattle.words.specs.Flags.{cf, overflow, update_cf, update_of}
use Rattle.machine.specs.Registers.{Rax, Rdx, reg_at, set_reg, xmm_at, set_xmm}
use Rattle.machine.specs.Operands.{valid_dst}
use Rattle.machine.specs.Memory.{Memory, valid_mem64, store_mem64}
use Rattle.machine.specs.declared.reg.Reg.{Reg}
use Rattle.machine.specs.declared.Maddr.{Maddr}
use Rattle.machine.specs.declared.Operand.{Operand}
use Rattle.machine.specs.declared.Operand.TheVariants.{OConst, OReg, OMem}
use Rattle.code.specs.declared.tree.Instruction.{Instruction}
use Rattle.code.specs.declared.tree.Instruction.TheVariants.{Mov64, Add64, AddLea64, AddCarry64, Adcx64, Adox64, Sub64, Mul64, Mulx64, IMul64, Xor64, And64, Shr64, Shl64, Paddd, Pxor, Pslld, Psrld, Pshufd, Pcmpeqd, Pextrq, Pinsrd, Pinsrq, VPSLLDQ, Popcnt64, Lzcnt64, Tzcnt64}
use Rattle.code.specs.declared.tree.Ocmp.{Ocmp}
use Rattle.code.specs.declared.tree.Ocmp.TheVariants.{OEq, ONe, OLe, OGe, OLt, OGt}
use Rattle.code.specs.Tree.{Code, Ins, Block, IfElse, While, Codes, ⟨⟩, ◌∷ᶜ◌}
use Rattle.eval.specs.FlagRule.{FlagRule}
use Rattle.machine.specs.Operands as Address

-- `state`
pub record State : Type 0 where
  pub ok : Bool
  pub regs : List ℕ
  pub xmms : List ℕ
  pub flags : ℕ
  pub mem : Memory

-- `{s with ok = ..}`
abbrev pub with_ok : Bool → State → State
with_ok ok s = record { ok = ok; regs = s.regs; xmms = s.xmms; flags = s.flags; mem = s.mem }

-- `{s with regs = ..}`
abbrev pub with_regs : List ℕ → State → State
with_regs regs s = record { ok = s.ok; regs = regs; xmms = s.xmms; flags = s.flags; mem = s.mem }

-- `{s with xmms = ..}`
abbrev pub with_xmms : List ℕ → State → State
with_xmms xmms s = record { ok = s.ok; regs = s.regs; xmms = xmms; flags = s.flags; mem = s.mem }

-- `{s with flags = ..}`
abbrev pub with_flags : ℕ → State → State
with_flags flags s = record { ok = s.ok; regs = s.regs; xmms = s.xmms; flags = flags; mem = s.mem }

-- `{s with mem = ..}`
abbrev pub with_mem : Memory → State → State
with_mem mem s = record { ok = s.ok; regs = s.regs; xmms = s.xmms; flags = s.flags; mem = mem }

-- `pow2_32`
abbrev pub pow2_32 : ℕ
pow2_32 = 2 ^ 32

-- `pow2_64`
abbrev pub pow2_64 : ℕ
pow2_64 = 2 ^ 64

-- `st`, a stateful monad
abbrev pub St : Type 0 → Type 0
St A = State → A × State

-- `return`
abbrev pub return : {A : Type 0} → A → St A
return x s = (x, s)

infixl 20 ◌>>=◌
infixl 20 ◌>>◌
-- `let?`
unfoldable pub ◌>>=◌ : {A B : Type 0} → St A → (A → St B) → St B
◌>>=◌ m f s0 =
    let r1 = m s0 in
    let r2 = f r1.0 r1.1 in
    (r2.0, with_ok (s0.ok && r1.1.ok && r2.1.ok) r2.1)

-- `;?`
abbrev pub ◌>>◌ : {A B : Type 0} → St A → St B → St B
m >> k = m >>= (λ _. k)

-- `get`
abbrev pub get : St State
get s = (s, s)

-- `set`
abbrev pub put : State → St (Unit {0})
put t s = (tt, t)

-- `fail`
abbrev pub fail : St (Unit {0})
fail s = (tt, with_ok false s)

-- `check_imm`
unfoldable pub check_imm : Bool → St (Unit {0})
check_imm valid = cond valid (return tt) fail

-- `check`
unfoldable pub check : (State → Bool) → St (Unit {0})
check valid = do
  s ← get
  cond (valid s) (return tt) fail

-- `run`
abbrev pub run : St (Unit {0}) → State → State
run f s = (f s).1

-- the way that a condition takes
unfoldable pub choose : {A B : Type 0} → Bool → (A → B) → (A → B) → A → B
choose true f g a = f a
choose false f g a = g a

-- what follows a state that is returned
unfoldable pub if_some : Option State → (State → Option State) → Option State
if_some none k = none
if_some (some s) k = k s

-- `eval_reg`
abbrev pub eval_reg : Reg → State → ℕ
eval_reg r s = reg_at s.regs r

-- `eval_xmm`
abbrev pub eval_xmm : ℕ → State → Four ℕ
eval_xmm i s = xmm_at s.xmms i

-- `eval_maddr`
abbrev pub eval_maddr : Maddr → State → ℤ
eval_maddr m s = Address.eval_maddr m s.regs

-- `update_reg'`
abbrev pub update_reg' : Reg → ℕ → State → State
update_reg' r v s = with_regs (set_reg s.regs r v) s

-- `update_xmm'`
abbrev pub update_xmm' : ℕ → Four ℕ → State → State
update_xmm' x v s = with_xmms (set_xmm s.xmms x v) s

-- `update_mem`
abbrev pub update_mem : ℤ → ℕ → State → State
update_mem ptr v s = with_mem (store_mem64 ptr v s.mem) s

-- `valid_maddr`
abbrev pub valid_maddr : Maddr → State → Bool
valid_maddr m s = valid_mem64 (eval_maddr m s) s.mem

-- `valid_operand`
unfoldable pub valid_operand : Operand → State → Bool
valid_operand (OConst n) s = true
valid_operand (OReg r) s = true
valid_operand (OMem m) s = valid_maddr m s

-- `valid_ocmp`
unfoldable pub valid_ocmp : Ocmp → State → Bool
valid_ocmp (OEq o1 o2) s = valid_operand o1 s && valid_operand o2 s
valid_ocmp (ONe o1 o2) s = valid_operand o1 s && valid_operand o2 s
valid_ocmp (OLe o1 o2) s = valid_operand o1 s && valid_operand o2 s
valid_ocmp (OGe o1 o2) s = valid_operand o1 s && valid_operand o2 s
valid_ocmp (OLt o1 o2) s = valid_operand o1 s && valid_operand o2 s
valid_ocmp (OGt o1 o2) s = valid_operand o1 s && valid_operand o2 s

-- `valid_dst_operand`
unfoldable pub valid_dst_operand : Operand → State → Bool
valid_dst_operand o s = valid_operand o s && valid_dst o

-- `update_operand_preserve_flags'`
unfoldable pub update_operand_preserve_flags' : Operand → ℕ → State → State
update_operand_preserve_flags' (OConst n) v s = with_ok false s
update_operand_preserve_flags' (OReg r) v s = update_reg' r v s
update_operand_preserve_flags' (OMem m) v s = update_mem (eval_maddr m s) v s

-- `update_operand_preserve_flags`
unfoldable pub update_operand_preserve_flags : Operand → ℕ → St (Unit {0})
update_operand_preserve_flags dst v = do
  check (valid_dst_operand dst)
  s ← get
  put (update_operand_preserve_flags' dst v s)

-- `update_reg`
unfoldable pub update_reg : Reg → ℕ → St (Unit {0})
update_reg r v = do
  s ← get
  put (update_reg' r v s)

-- `update_xmm_preserve_flags`
unfoldable pub update_xmm_preserve_flags : ℕ → Four ℕ → St (Unit {0})
update_xmm_preserve_flags x v = do
  s ← get
  put (update_xmm' x v s)

-- `update_flags`
unfoldable pub update_flags : ℕ → St (Unit {0})
update_flags new_flags = do
  s ← get
  put (with_flags new_flags s)

-- `update_cf_of`
unfoldable pub update_cf_of : Bool → Bool → St (Unit {0})
update_cf_of new_cf new_of = do
  s ← get
  put (with_flags (update_cf (update_of s.flags new_of) new_cf) s)

module _ (load_mem64 : ℤ → Memory → ℕ) (int_to_nat64 : ℤ → ℕ) (fill : ℕ) where
  -- `havoc`, of a state and an instruction or comparison
  abbrev pub havoc : {A : Type 0} → State → A → ℕ
  havoc s a = fill

  -- `eval_mem`
  abbrev pub eval_mem : ℤ → State → ℕ
  eval_mem ptr s = load_mem64 ptr s.mem

  -- `eval_operand`
  unfoldable pub eval_operand : Operand → State → ℕ
  eval_operand (OConst n) s = int_to_nat64 (pos n)
  eval_operand (OReg r) s = eval_reg r s
  eval_operand (OMem m) s = eval_mem (eval_maddr m s) s

  -- `eval_ocmp`
  unfoldable pub eval_ocmp : State → Ocmp → Bool
  eval_ocmp s (OEq o1 o2) = eqb (eval_operand o1 s) (eval_operand o2 s)
  eval_ocmp s (ONe o1 o2) = not (eqb (eval_operand o1 s) (eval_operand o2 s))
  eval_ocmp s (OLe o1 o2) = leb (eval_operand o1 s) (eval_operand o2 s)
  eval_ocmp s (OGe o1 o2) = leb (eval_operand o2 s) (eval_operand o1 s)
  eval_ocmp s (OLt o1 o2) = ltb (eval_operand o1 s) (eval_operand o2 s)
  eval_ocmp s (OGt o1 o2) = ltb (eval_operand o2 s) (eval_operand o1 s)

  -- `valid_shift_operand`
  unfoldable pub valid_shift_operand : Operand → State → Bool
  valid_shift_operand o s = valid_operand o s && ltb (eval_operand o s) 64

  -- `update_operand'`, which havocs flags
  unfoldable pub update_operand' : Operand → Instruction → ℕ → State → State
  update_operand' o ins v s = with_flags (havoc s ins) (update_operand_preserve_flags' o v s)

  -- `update_operand`
  unfoldable pub update_operand : Operand → Instruction → ℕ → St (Unit {0})
  update_operand dst ins v = do
    check (valid_dst_operand dst)
    s ← get
    put (update_operand' dst ins v s)

  -- `update_xmm`
  unfoldable pub update_xmm : ℕ → Instruction → Four ℕ → St (Unit {0})
  update_xmm x ins v = do
    s ← get
    put (with_flags (havoc s ins) (update_xmm' x v s))

  module _ (rule : FlagRule) where
    -- `eval_ins`
    unfoldable pub eval_ins : Instruction → St (Unit {0})
    eval_ins (Mov64 dst src) = do
      s ← get
      check (valid_operand src)
      update_operand_preserve_flags dst (eval_operand src s)
    eval_ins (Add64 dst src) = do
      s ← get
      check (valid_operand src)
      update_operand dst (Add64 dst src) ((eval_operand dst s + eval_operand src s) % pow2_64)
      update_flags (rule.flags fill s.flags (eval_operand dst s) (eval_operand src s) 0)
    eval_ins (AddLea64 dst src1 src2) = do
      s ← get
      check (valid_operand src1)
      check (valid_operand src2)
      update_operand_preserve_flags dst ((eval_operand src1 s + eval_operand src2 s) % pow2_64)
    eval_ins (AddCarry64 dst src) = do
      s ← get
      check (valid_operand src)
      let old_carry = bit (cf s.flags)
      let sum = eval_operand dst s + eval_operand src s + old_carry
      update_operand dst (AddCarry64 dst src) (sum % pow2_64)
      update_flags (havoc s (AddCarry64 dst src))
      update_flags (rule.flags fill s.flags (eval_operand dst s) (eval_operand src s) old_carry)
    eval_ins (Adcx64 dst src) = do
      s ← get
      check (valid_operand src)
      let old_carry = bit (cf s.flags)
      let sum = eval_operand dst s + eval_operand src s + old_carry
      let new_carry = leb pow2_64 sum
      update_operand dst (Adcx64 dst src) (sum % pow2_64)
      update_flags (update_cf s.flags new_carry)
    eval_ins (Adox64 dst src) = do
      s ← get
      check (valid_operand src)
      let old_carry = bit (overflow s.flags)
      let sum = eval_operand dst s + eval_operand src s + old_carry
      let new_carry = leb pow2_64 sum
      update_operand dst (Adox64 dst src) (sum % pow2_64)
      update_flags (update_of s.flags new_carry)
    eval_ins (Sub64 dst src) = do
      s ← get
      check (valid_operand src)
      update_operand dst (Sub64 dst src) (sub_mod 64 (eval_operand dst s) (eval_operand src s))
    eval_ins (Mul64 src) = do
      s ← get
      check (valid_operand src)
      let hi = mul_div 64 (eval_reg Rax s) (eval_operand src s)
      let lo = mul_mod 64 (eval_reg Rax s) (eval_operand src s)
      update_reg Rax lo
      update_reg Rdx hi
      update_flags (havoc s (Mul64 src))
    eval_ins (Mulx64 dst_hi dst_lo src) = do
      s ← get
      check (valid_operand src)
      let hi = mul_div 64 (eval_reg Rdx s) (eval_operand src s)
      let lo = mul_mod 64 (eval_reg Rdx s) (eval_operand src s)
      update_operand_preserve_flags dst_lo lo
      update_operand_preserve_flags dst_hi hi
    eval_ins (IMul64 dst src) = do
      s ← get
      check (valid_operand src)
      update_operand dst (IMul64 dst src) ((eval_operand dst s * eval_operand src s) % 0x10000000000000000)
    eval_ins (Xor64 dst src) = do
      s ← get
      check (valid_operand src)
      update_operand dst (Xor64 dst src) (ixor 64 (eval_operand dst s) (eval_operand src s))
      update_cf_of false false
    eval_ins (And64 dst src) = do
      s ← get
      check (valid_operand src)
      update_operand dst (And64 dst src) (iand 64 (eval_operand dst s) (eval_operand src s))
    eval_ins (Shr64 dst amt) = do
      s ← get
      check (valid_shift_operand amt)
      update_operand dst (Shr64 dst amt) (ishr (eval_operand dst s) (eval_operand amt s))
    eval_ins (Shl64 dst amt) = do
      s ← get
      check (valid_shift_operand amt)
      update_operand dst (Shl64 dst amt) (ishl 64 (eval_operand dst s) (eval_operand amt s))
    eval_ins (Paddd dst src) = do
      s ← get
      let src_q = eval_xmm src s
      let dst_q = eval_xmm dst s
      update_xmm dst (Paddd dst src) (mkfour
          ((dst_q.lo0 + src_q.lo0) % pow2_32)
          ((dst_q.lo1 + src_q.lo1) % pow2_32)
          ((dst_q.hi2 + src_q.hi2) % pow2_32)
          ((dst_q.hi3 + src_q.hi3) % pow2_32))
    eval_ins (Pxor dst src) = do
      s ← get
      update_xmm_preserve_flags dst (quad32_xor (eval_xmm dst s) (eval_xmm src s))
    eval_ins (Pslld dst amt) = do
      s ← get
      check_imm (ltb amt 32)
      update_xmm_preserve_flags dst (four_map (λ i. ishl 32 i amt) (eval_xmm dst s))
    eval_ins (Psrld dst amt) = do
      s ← get
      check_imm (ltb amt 32)
      update_xmm_preserve_flags dst (four_map (λ i. ishr i amt) (eval_xmm dst s))
    eval_ins (Pshufd dst src permutation) = do
      s ← get
      let bits = byte_to_twobits permutation
      let src_val = eval_xmm src s
      let permuted_xmm = mkfour
          (select_word src_val bits.lo0)
          (select_word src_val bits.lo1)
          (select_word src_val bits.hi2)
          (select_word src_val bits.hi3)
      update_xmm_preserve_flags dst permuted_xmm
    eval_ins (Pcmpeqd dst src) = do
      s ← get
      let src_q = eval_xmm src s
      let dst_q = eval_xmm dst s
      let eq_val = mkfour
          (cond (eqb src_q.lo0 dst_q.lo0) 0xFFFFFFFF 0)
          (cond (eqb src_q.lo1 dst_q.lo1) 0xFFFFFFFF 0)
          (cond (eqb src_q.hi2 dst_q.hi2) 0xFFFFFFFF 0)
          (cond (eqb src_q.hi3 dst_q.hi3) 0xFFFFFFFF 0)
      update_xmm_preserve_flags dst eq_val
    eval_ins (Pextrq dst src index) = do
      s ← get
      let src_q = eval_xmm src s
      let src_two = four_to_two_two src_q
      let extracted_nat64 = two_to_nat 32 (two_select src_two (index % 2))
      update_operand_preserve_flags dst extracted_nat64
    eval_ins (Pinsrd dst src index) = do
      s ← get
      check (valid_operand src)
      let dst_q = eval_xmm dst s
      update_xmm_preserve_flags dst (insert_nat32 dst_q (eval_operand src s % pow2_32) (index % 4))
    eval_ins (Pinsrq dst src index) = do
      s ← get
      check (valid_operand src)
      let dst_q = eval_xmm dst s
      update_xmm_preserve_flags dst (insert_nat64 dst_q (eval_operand src s) (index % 2))
    eval_ins (VPSLLDQ dst src count) = do
      s ← get
      check (λ s. eqb count 4)
      let src_q = eval_xmm src s
      let shifted_xmm = mkfour 0 src_q.lo0 src_q.lo1 src_q.hi2
      update_xmm_preserve_flags dst shifted_xmm
    -- by request 2026-02
    eval_ins (Popcnt64 dst src) = do
      s ← get
      check (valid_operand src)
      update_operand dst (Popcnt64 dst src) (popcnt 64 (eval_operand src s))
      update_cf_of false false
    eval_ins (Lzcnt64 dst src) = do
      s ← get
      check (valid_operand src)
      update_operand dst (Lzcnt64 dst src) (lzcnt 64 (eval_operand src s))
      update_flags (update_cf (havoc s (Lzcnt64 dst src)) (eqb (eval_operand src s) 0))
    eval_ins (Tzcnt64 dst src) = do
      s ← get
      check (valid_operand src)
      update_operand dst (Tzcnt64 dst src) (tzcnt 64 (eval_operand src s))
      update_flags (update_cf (havoc s (Tzcnt64 dst src)) (eqb (eval_operand src s) 0))

  -- `run_ocmp`
  unfoldable pub run_ocmp : State → Ocmp → State × Bool
  run_ocmp s c =
      let s1 = run (check (valid_ocmp c)) s in
      (with_flags (havoc s1 c) s1, eval_ocmp s1 c)

  -- `eval_while`, over the evaluation of its body
  unfoldable pub eval_while : Ocmp → (ℕ → State → Option State) → ℕ → State → Option State
  eval_while c body zero s0 = none
  eval_while c body (suc fuel) s0 =
      let r = run_ocmp s0 c in
      choose r.1
      (λ s. if_some (body fuel s) (λ s1. choose s1.ok (eval_while c body fuel) some s1))
      some r.0

  module _ (rule : FlagRule) where
    unfoldable mutual
      -- `eval_code`
      pub eval_code : Code → ℕ → State → Option State
      eval_code (Ins p ins) fuel s = some (run (eval_ins rule ins) s)
      eval_code (Block p l) fuel s = eval_codes l fuel s
      eval_code (IfElse p q c ifTrue ifFalse) fuel s =
          let r = run_ocmp s c in choose r.1 (eval_code ifTrue fuel) (eval_code ifFalse fuel) r.0
      eval_code (While p q b c) fuel s = eval_while b (eval_code c) fuel s

      -- `eval_codes`
      pub eval_codes : Codes → ℕ → State → Option State
      eval_codes ⟨⟩ fuel s = some s
      eval_codes (c ∷ᶜ tl) fuel s = if_some (eval_code c fuel s) (eval_codes tl fuel)
