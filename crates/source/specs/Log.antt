-- The source once more, with the log of its checks: what "the first check that fails" means.
-- The text is that of Source, clause by clause, but that a check has its number and notes whether it passed. What is `quiet` checks nothing.
use Rattle.std.specs.Prelude.{ℕ, zero, suc, ◌+◌, ◌*◌, ◌%◌, Bool, true, false, ◌&&◌, cond, List, [], ◌∷◌, ◌++◌, eqb, ltb, leb, ℤ}
use Rattle.std.proofs.Math.Option.{Option, none, some}
use Rattle.words.specs.Words.{mkfour, four_map, four_to_two_two, two_select, two_to_nat}
use Rattle.words.specs.Bits.{bit, iand, ixor, ishl, ishr}
use Rattle.words.specs.Counts.{popcnt, lzcnt, tzcnt}
use Rattle.words.specs.Types.{insert_nat32, insert_nat64}
use Rattle.words.specs.Sums.{sub_mod, mul_div, mul_mod}
use Rattle.words.specs.Flags.{cf, overflow, update_cf, update_of}
use Rattle.machine.specs.Registers.{Rax, Rdx}
use Rattle.machine.specs.Operands.{wild_or, unread_number}
use Rattle.machine.specs.Memory.{Memory}
use Rattle.machine.specs.declared.Operand.{Operand}
use Rattle.code.specs.declared.tree.Instruction.{Instruction}
use Rattle.code.specs.declared.tree.Instruction.TheVariants.{Mov64, Add64, AddLea64, AddCarry64, Adcx64, Adox64, Sub64, Mul64, Mulx64, IMul64, Xor64, And64, Shr64, Shl64, Paddd, Pxor, Pslld, Psrld, Pshufd, Pcmpeqd, Pextrq, Pinsrd, Pinsrq, VPSLLDQ, Popcnt64, Lzcnt64, Tzcnt64}
use Rattle.code.specs.declared.tree.Ocmp.{Ocmp}
use Rattle.code.specs.Layout.{ocmp_layout}
use Rattle.code.specs.Tree.{Code, Ins, Block, IfElse, While, Codes, ⟨⟩, ◌∷ᶜ◌}
use Rattle.eval.specs.FlagRule.{FlagRule}
use Rattle.source.specs.Source.{State, with_ok, with_flags, pow2_32, pow2_64, St, put, choose, eval_reg, eval_xmm, valid_operand, valid_ocmp, valid_dst_operand, update_operand_preserve_flags', update_reg, update_xmm_preserve_flags, update_flags, update_cf_of}
use Rattle.source.specs.Source as Source

-- a check's number, and whether it passed
abbrev pub Note : Type 0
Note = ℕ × Bool

-- what a run of the source meets: a check that passed, with its number and place; one that failed, with its number, its place and the state
-- just before its instruction or comparison; a loop without fuel, with its place and the state just before its test
pub data Event : Type 0 where
  passed : ℕ → ℕ → Event
  failed : ℕ → ℕ → State → Event
  starved : ℕ → State → Event

-- the event of a check
abbrev pub event : ℕ → Bool → ℕ → State → Event
event n true p s = passed n p
event n false p s = failed n p s

-- the events of the checks that an instruction or comparison made, at its place, in the state before it
unfoldable pub events : ℕ → State → List Note → List Event
events p s [] = []
events p s (x ∷ notes) = event x.0 x.1 p s ∷ events p s notes

-- the first event that is not a check that passed
unfoldable pub first_bad : List Event → Option Event
first_bad [] = none
first_bad (passed n p ∷ log) = first_bad log
first_bad (failed n p s ∷ log) = some (failed n p s)
first_bad (starved p s ∷ log) = some (starved p s)

-- `st`, with notes
abbrev pub Noted : Type 0 → Type 0
Noted A = State → (A × State) × List Note

infixl 20 ◌>>=◌
infixl 20 ◌>>◌
-- `let?`
unfoldable pub ◌>>=◌ : {A B : Type 0} → Noted A → (A → Noted B) → Noted B
◌>>=◌ m f s0 =
    let r1 = m s0 in
    let r2 = f r1.0.0 r1.0.1 in
    ((r2.0.0, with_ok (s0.ok && r1.0.1.ok && r2.0.1.ok) r2.0.1), r1.1 ++ r2.1)

-- `;?`
abbrev pub ◌>>◌ : {A B : Type 0} → Noted A → Noted B → Noted B
m >> k = m >>= (λ _. k)

-- what checks nothing
unfoldable pub quiet : {A : Type 0} → St A → Noted A
quiet m s = (m s, [])

-- `get`
abbrev pub get : Noted State
get = quiet Source.get

-- `check_imm`, with its number
unfoldable pub check_imm : ℕ → Bool → Noted (Unit {0})
check_imm n valid s = (Source.check_imm valid s, (n, valid) ∷ [])

-- `check`, with the number that it has in the state in which it is made
unfoldable pub check : (State → ℕ) → (State → Bool) → Noted (Unit {0})
check number valid s = (Source.check valid s, (number s, valid s) ∷ [])

-- the number of a source's check: 36 where its exact address is wild, else 31
abbrev pub source_number : Operand → State → ℕ
source_number o s = wild_or 31 o s.regs

-- the number of a shift amount's check: that of a source where it cannot be read, else 33
abbrev pub amount : Operand → State → ℕ
amount o s = cond (valid_operand o s) 33 (source_number o s)

-- the number of a comparison's check: of the first operand, or where that can be read of the second
unfoldable pub ocmp_number : Ocmp → State → ℕ
ocmp_number c s = unread_number (λ o. valid_operand o s) s.regs (ocmp_layout c).operands

-- the number of a destination's check: 36 where its exact address is wild, else 32
abbrev pub dst_number : Operand → State → ℕ
dst_number o s = wild_or 32 o s.regs

-- `update_operand_preserve_flags`
unfoldable pub update_operand_preserve_flags : Operand → ℕ → Noted (Unit {0})
update_operand_preserve_flags dst v = do
  check (dst_number dst) (valid_dst_operand dst)
  s ← get
  quiet (put (update_operand_preserve_flags' dst v s))

-- events, and the state that is returned, if any
abbrev pub Logged : Type 0
Logged = List Event × Option State

-- events, then those of what follows
abbrev pub after : List Event → Logged → Logged
after log m = (log ++ m.0, m.1)

-- what follows a state that is returned
unfoldable pub if_some : List Event → Option State → (State → Logged) → Logged
if_some log none k = (log, none)
if_some log (some s) k = after log (k s)

-- a state that is returned, and no event
abbrev pub returned : State → Logged
returned s = ([], some s)

module _ (load_mem64 : ℤ → Memory → ℕ) (int_to_nat64 : ℤ → ℕ) (fill : ℕ) where
  -- what the text names, over the open places
  abbrev havoc : {A : Type 0} → State → A → ℕ
  havoc = Source.havoc load_mem64 int_to_nat64 fill

  -- `eval_operand`
  abbrev eval_operand : Operand → State → ℕ
  eval_operand = Source.eval_operand load_mem64 int_to_nat64 fill

  -- `valid_shift_operand`
  abbrev valid_shift_operand : Operand → State → Bool
  valid_shift_operand = Source.valid_shift_operand load_mem64 int_to_nat64 fill

  -- `update_operand`
  unfoldable pub update_operand : Operand → Instruction → ℕ → Noted (Unit {0})
  update_operand dst ins v = do
    check (dst_number dst) (valid_dst_operand dst)
    s ← get
    quiet (put (Source.update_operand' load_mem64 int_to_nat64 fill dst ins v s))

  module _ (rule : FlagRule) where
    -- `eval_ins`
    unfoldable pub note_ins : Instruction → Noted (Unit {0})
    note_ins (Mov64 dst src) = do
      s ← get
      check (source_number src) (valid_operand src)
      update_operand_preserve_flags dst (eval_operand src s)
    note_ins (Add64 dst src) = do
      s ← get
      check (source_number src) (valid_operand src)
      update_operand dst (Add64 dst src) ((eval_operand dst s + eval_operand src s) % pow2_64)
      quiet (update_flags (rule.flags fill s.flags (eval_operand dst s) (eval_operand src s) 0))
    note_ins (AddLea64 dst src1 src2) = do
      s ← get
      check (source_number src1) (valid_operand src1)
      check (source_number src2) (valid_operand src2)
      update_operand_preserve_flags dst ((eval_operand src1 s + eval_operand src2 s) % pow2_64)
    note_ins (AddCarry64 dst src) = do
      s ← get
      check (source_number src) (valid_operand src)
      let old_carry = bit (cf s.flags)
      let sum = eval_operand dst s + eval_operand src s + old_carry
      update_operand dst (AddCarry64 dst src) (sum % pow2_64)
      quiet (update_flags (havoc s (AddCarry64 dst src)))
      quiet (update_flags (rule.flags fill s.flags (eval_operand dst s) (eval_operand src s) old_carry))
    note_ins (Adcx64 dst src) = do
      s ← get
      check (source_number src) (valid_operand src)
      let old_carry = bit (cf s.flags)
      let sum = eval_operand dst s + eval_operand src s + old_carry
      let new_carry = leb pow2_64 sum
      update_operand dst (Adcx64 dst src) (sum % pow2_64)
      quiet (update_flags (update_cf s.flags new_carry))
    note_ins (Adox64 dst src) = do
      s ← get
      check (source_number src) (valid_operand src)
      let old_carry = bit (overflow s.flags)
      let sum = eval_operand dst s + eval_operand src s + old_carry
      let new_carry = leb pow2_64 sum
      update_operand dst (Adox64 dst src) (sum % pow2_64)
      quiet (update_flags (update_of s.flags new_carry))
    note_ins (Sub64 dst src) = do
      s ← get
      check (source_number src) (valid_operand src)
      update_operand dst (Sub64 dst src) (sub_mod 64 (eval_operand dst s) (eval_operand src s))
    note_ins (Mul64 src) = do
      s ← get
      check (source_number src) (valid_operand src)
      let hi = mul_div 64 (eval_reg Rax s) (eval_operand src s)
      let lo = mul_mod 64 (eval_reg Rax s) (eval_operand src s)
      quiet (update_reg Rax lo)
      quiet (update_reg Rdx hi)
      quiet (update_flags (havoc s (Mul64 src)))
    note_ins (Mulx64 dst_hi dst_lo src) = do
      s ← get
      check (source_number src) (valid_operand src)
      let hi = mul_div 64 (eval_reg Rdx s) (eval_operand src s)
      let lo = mul_mod 64 (eval_reg Rdx s) (eval_operand src s)
      update_operand_preserve_flags dst_lo lo
      update_operand_preserve_flags dst_hi hi
    note_ins (IMul64 dst src) = do
      s ← get
      check (source_number src) (valid_operand src)
      update_operand dst (IMul64 dst src) ((eval_operand dst s * eval_operand src s) % 0x10000000000000000)
    note_ins (Xor64 dst src) = do
      s ← get
      check (source_number src) (valid_operand src)
      update_operand dst (Xor64 dst src) (ixor 64 (eval_operand dst s) (eval_operand src s))
      quiet (update_cf_of false false)
    note_ins (And64 dst src) = do
      s ← get
      check (source_number src) (valid_operand src)
      update_operand dst (And64 dst src) (iand 64 (eval_operand dst s) (eval_operand src s))
    note_ins (Shr64 dst amt) = do
      s ← get
      check (amount amt) (valid_shift_operand amt)
      update_operand dst (Shr64 dst amt) (ishr (eval_operand dst s) (eval_operand amt s))
    note_ins (Shl64 dst amt) = do
      s ← get
      check (amount amt) (valid_shift_operand amt)
      update_operand dst (Shl64 dst amt) (ishl 64 (eval_operand dst s) (eval_operand amt s))
    note_ins (Paddd dst src) = quiet (Source.eval_ins load_mem64 int_to_nat64 fill rule (Paddd dst src))
    note_ins (Pxor dst src) = quiet (Source.eval_ins load_mem64 int_to_nat64 fill rule (Pxor dst src))
    note_ins (Pslld dst amt) = do
      s ← get
      check_imm 34 (ltb amt 32)
      quiet (update_xmm_preserve_flags dst (four_map (λ i. ishl 32 i amt) (eval_xmm dst s)))
    note_ins (Psrld dst amt) = do
      s ← get
      check_imm 34 (ltb amt 32)
      quiet (update_xmm_preserve_flags dst (four_map (λ i. ishr i amt) (eval_xmm dst s)))
    note_ins (Pshufd dst src permutation) =
        quiet (Source.eval_ins load_mem64 int_to_nat64 fill rule (Pshufd dst src permutation))
    note_ins (Pcmpeqd dst src) = quiet (Source.eval_ins load_mem64 int_to_nat64 fill rule (Pcmpeqd dst src))
    note_ins (Pextrq dst src index) = do
      s ← get
      let src_q = eval_xmm src s
      let src_two = four_to_two_two src_q
      let extracted_nat64 = two_to_nat 32 (two_select src_two (index % 2))
      update_operand_preserve_flags dst extracted_nat64
    note_ins (Pinsrd dst src index) = do
      s ← get
      check (source_number src) (valid_operand src)
      let dst_q = eval_xmm dst s
      quiet (update_xmm_preserve_flags dst (insert_nat32 dst_q (eval_operand src s % pow2_32) (index % 4)))
    note_ins (Pinsrq dst src index) = do
      s ← get
      check (source_number src) (valid_operand src)
      let dst_q = eval_xmm dst s
      quiet (update_xmm_preserve_flags dst (insert_nat64 dst_q (eval_operand src s) (index % 2)))
    note_ins (VPSLLDQ dst src count) = do
      s ← get
      check (λ s. 35) (λ s. eqb count 4)
      let src_q = eval_xmm src s
      let shifted_xmm = mkfour 0 src_q.lo0 src_q.lo1 src_q.hi2
      quiet (update_xmm_preserve_flags dst shifted_xmm)
    note_ins (Popcnt64 dst src) = do
      s ← get
      check (source_number src) (valid_operand src)
      update_operand dst (Popcnt64 dst src) (popcnt 64 (eval_operand src s))
      quiet (update_cf_of false false)
    note_ins (Lzcnt64 dst src) = do
      s ← get
      check (source_number src) (valid_operand src)
      update_operand dst (Lzcnt64 dst src) (lzcnt 64 (eval_operand src s))
      quiet (update_flags (update_cf (havoc s (Lzcnt64 dst src)) (eqb (eval_operand src s) 0)))
    note_ins (Tzcnt64 dst src) = do
      s ← get
      check (source_number src) (valid_operand src)
      update_operand dst (Tzcnt64 dst src) (tzcnt 64 (eval_operand src s))
      quiet (update_flags (update_cf (havoc s (Tzcnt64 dst src)) (eqb (eval_operand src s) 0)))

  -- `run_ocmp`
  unfoldable pub note_ocmp : State → Ocmp → (State × Bool) × List Note
  note_ocmp s c =
      let r = check (ocmp_number c) (valid_ocmp c) s in
      let s1 = r.0.1 in
      ((with_flags (havoc s1 c) s1, Source.eval_ocmp load_mem64 int_to_nat64 fill s1 c), r.1)

  -- a comparison at its place, and the way that it takes
  abbrev pub log_ocmp : ℕ → Ocmp → (State → Logged) → (State → Logged) → State → Logged
  log_ocmp q c yes_way no_way s =
      let r = note_ocmp s c in after (events q s r.1) (choose r.0.1 yes_way no_way r.0.0)

  -- `eval_while`, of the While at p with its comparison at q
  unfoldable pub log_while : ℕ → ℕ → Ocmp → (ℕ → State → Logged) → ℕ → State → Logged
  log_while p q c body zero s0 = (starved p s0 ∷ [], none)
  log_while p q c body (suc fuel) s0 =
      log_ocmp q c
      (λ s. let m = body fuel s in if_some m.0 m.1 (λ s1. choose s1.ok (log_while p q c body fuel) returned s1))
      returned s0

  module _ (rule : FlagRule) where
    unfoldable mutual
      -- `eval_code`
      pub log_code : Code → ℕ → State → Logged
      log_code (Ins p ins) fuel s = let r = note_ins rule ins s in (events p s r.1, some r.0.1)
      log_code (Block p l) fuel s = log_codes l fuel s
      log_code (IfElse p q c ifTrue ifFalse) fuel s = log_ocmp q c (log_code ifTrue fuel) (log_code ifFalse fuel) s
      log_code (While p q b c) fuel s = log_while p q b (log_code c) fuel s

      -- `eval_codes`
      pub log_codes : Codes → ℕ → State → Logged
      log_codes ⟨⟩ fuel s = returned s
      log_codes (c ∷ᶜ tl) fuel s = let m = log_code c fuel s in if_some m.0 m.1 (log_codes tl fuel)
