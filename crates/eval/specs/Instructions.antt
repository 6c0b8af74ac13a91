-- What one instruction or comparison of a run does: what each family of instructions writes, a table by kind; then each instruction. Checks follow
-- the source's order, and the first that fails ends the run.
use Rattle.std.specs.Prelude.{ℕ, ◌+◌, ◌%◌, ◌^◌, Bool, true, false, not, ◌&&◌, ◌||◌, List, [], ◌∷◌, eqb, ltb, leb}
use Rattle.std.proofs.Math.Option.{Option}
use Rattle.words.specs.Words.{Four, four_to_two_two, two_select, two_to_nat}
use Rattle.words.specs.Bits.{bit, iand, ixor, ishl, ishr}
use Rattle.words.specs.Counts.{popcnt, lzcnt, tzcnt}
use Rattle.words.specs.Types.{quad32_xor, insert_nat32, insert_nat64, add_lanes, equal_lanes, shl_lanes, shr_lanes, shuffle_lanes, shift_quad}
use Rattle.words.specs.Sums.{sum_mod, sum_carry, sub_mod, mul_div, mul_mod}
use Rattle.words.specs.Flags.{cf, overflow, update_cf, update_of}
use Rattle.machine.specs.Registers.{Rax, Rdx, reg_at, set_reg, xmm_at, set_xmm}
use Rattle.machine.specs.Operands.{eval_maddr, wild_or, unread_number, valid_dst}
use Rattle.machine.specs.Cells.{find_cell, cell_value, set_cell, is_cell}
use Rattle.machine.specs.declared.reg.Reg.{Reg}
use Rattle.machine.specs.declared.Maddr.{Maddr}
use Rattle.machine.specs.declared.Operand.{Operand}
use Rattle.machine.specs.declared.Operand.TheVariants.{OConst, OReg, OMem}
use Rattle.code.specs.declared.tree.Instruction.{Instruction}
use Rattle.code.specs.declared.tree.Instruction.TheVariants.{Mov64, Add64, AddLea64, AddCarry64, Adcx64, Adox64, Sub64, Mul64, Mulx64, IMul64, Xor64, And64, Shr64, Shl64, Paddd, Pxor, Pslld, Psrld, Pshufd, Pcmpeqd, Pextrq, Pinsrd, Pinsrq, VPSLLDQ, Popcnt64, Lzcnt64, Tzcnt64}
use Rattle.code.specs.declared.tree.Ocmp.{Ocmp}
use Rattle.code.specs.declared.tree.Ocmp.TheVariants.{OEq, ONe, OLe, OGe, OLt, OGt}
use Rattle.code.specs.Layout.{ocmp_layout}
use Rattle.code.specs.Families.{at_kind}
use Rattle.eval.specs.FlagRule.{FlagRule}
use Rattle.eval.specs.Config.{Env, Config, with_regs, with_xmms, with_flags, with_values, End, ends, done, check}

-- the word that an instruction of a destination and a source writes, of their words a and b: Mov64, Add64, AddCarry64, Adcx64, Adox64, Sub64,
-- IMul64, Xor64, And64, Shr64, Shl64, Popcnt64, Lzcnt64, Tzcnt64
unfoldable pub two_word : (k flags a b : ℕ) → ℕ
two_word k flags a b =
    at_kind k 0x01 b
    (at_kind k 0x02 (sum_mod 64 (a + b))
    (at_kind k 0x04 (sum_mod 64 (a + b + bit (cf flags)))
    (at_kind k 0x05 (sum_mod 64 (a + b + bit (cf flags)))
    (at_kind k 0x06 (sum_mod 64 (a + b + bit (overflow flags)))
    (at_kind k 0x07 (sub_mod 64 a b)
    (at_kind k 0x0a (mul_mod 64 a b)
    (at_kind k 0x0b (ixor 64 a b)
    (at_kind k 0x0c (iand 64 a b)
    (at_kind k 0x0d (ishr a b)
    (at_kind k 0x0e (ishl 64 a b)
    (at_kind k 0x19 (popcnt 64 b)
    (at_kind k 0x1a (lzcnt 64 b)
    (at_kind k 0x1b (tzcnt 64 b) 0)))))))))))))

-- the flags that it leaves: Mov64 keeps the old ones, Add64 and AddCarry64 go by the flag rule, Adcx64 and Adox64 change one of the old ones, Xor64
-- and Popcnt64 clear two of the fill word's, Lzcnt64 and Tzcnt64 set the fill word's carry exactly for a source of 0, and the others leave the fill word
unfoldable pub two_flags : (k : ℕ) → FlagRule → (fill flags a b : ℕ) → ℕ
two_flags k rule fill flags a b =
    at_kind k 0x01 flags
    (at_kind k 0x02 (rule.flags fill flags a b 0)
    (at_kind k 0x04 (rule.flags fill flags a b (bit (cf flags)))
    (at_kind k 0x05 (update_cf flags (sum_carry 64 (a + b + bit (cf flags))))
    (at_kind k 0x06 (update_of flags (sum_carry 64 (a + b + bit (overflow flags))))
    (at_kind k 0x0b (update_cf (update_of fill false) false)
    (at_kind k 0x19 (update_cf (update_of fill false) false)
    (at_kind k 0x1a (update_cf fill (eqb b 0))
    (at_kind k 0x1b (update_cf fill (eqb b 0)) fill))))))))

-- the kinds of Shr64 and Shl64, whose amount is checked
abbrev pub checks_amount : ℕ → Bool
checks_amount k = eqb k 0x0d || eqb k 0x0e

-- the quad that Paddd, Pxor and Pcmpeqd write, of the quads x of the destination and y of the source
unfoldable pub quads_word : ℕ → Four ℕ → Four ℕ → Four ℕ
quads_word k x y = at_kind k 0x0f (add_lanes x y) (at_kind k 0x10 (quad32_xor x y) (at_kind k 0x14 (equal_lanes y x) x))

-- the flags that they leave
unfoldable pub quads_flags : (k fill flags : ℕ) → ℕ
quads_flags k fill flags = at_kind k 0x0f fill flags

-- the quad that Pslld and Psrld write
unfoldable pub shifts_word : ℕ → Four ℕ → ℕ → Four ℕ
shifts_word k q amount = at_kind k 0x11 (shl_lanes q amount) (at_kind k 0x12 (shr_lanes q amount) q)

-- the quad that Pinsrd and Pinsrq write, of the word of the source
unfoldable pub inserts_word : ℕ → Four ℕ → ℕ → ℕ → Four ℕ
inserts_word k q word index =
    at_kind k 0x16 (insert_nat32 q (word % 2 ^ 32) (index % 4)) (at_kind k 0x17 (insert_nat64 q word (index % 2)) q)

-- what an instruction does in a configuration
pub record Act : Type 0 where
  -- the sources that it reads, left to right
  pub sources : List Operand
  -- the rules for what it has read and for its immediate: whether each passes, and its number
  pub rules : List (Bool × ℕ)
  -- the words for its destinations, in the order of writing
  pub words : List (Operand × ℕ)
  -- the words for registers that it has by itself
  pub regs : List (Reg × ℕ)
  -- the quads for xmm
  pub quads : List (ℕ × Four ℕ)
  -- its flags
  pub flags : ℕ

-- a word for one destination
abbrev pub to_operand : List Operand → List (Bool × ℕ) → Operand → ℕ → ℕ → Act
to_operand sources rules dst v flags =
    record { sources = sources; rules = rules; words = (dst, v) ∷ []; regs = []; quads = []; flags = flags }

-- a quad for one xmm
abbrev pub to_xmm : List Operand → List (Bool × ℕ) → ℕ → Four ℕ → ℕ → Act
to_xmm sources rules x q flags = record { sources = sources; rules = rules; words = []; regs = []; quads = (x, q) ∷ []; flags = flags }

-- rules in order, and what follows where all pass
abbrev pub ruled : ℕ → List (Bool × ℕ) → Config → End → End
ruled p [] s k = k
ruled p (c ∷ cs) s k = check c.0 c.1 p s (ruled p cs s k)

-- words are put into registers
abbrev pub set_regs : List (Reg × ℕ) → Config → Config
set_regs [] t = t
set_regs (w ∷ ws) t = set_regs ws (with_regs (set_reg t.regs w.0 w.1) t)

-- quads are put into xmm
abbrev pub set_xmms : List (ℕ × Four ℕ) → Config → Config
set_xmms [] t = t
set_xmms (w ∷ ws) t = set_xmms ws (with_xmms (set_xmm t.xmms w.0 w.1) t)

module _ (env : Env) where
  -- the 64-bit cell at the exact address of a memory operand
  unfoldable pub cell_of : Maddr → Config → Option ℕ
  cell_of m s = find_cell env.addresses env.tags (eval_maddr m s.regs)

  -- `valid_operand`: a memory operand has its cell
  unfoldable pub valid_operand : Operand → Config → Bool
  valid_operand (OConst n) s = true
  valid_operand (OReg r) s = true
  valid_operand (OMem m) s = is_cell (cell_of m s)

  -- `eval_operand`
  unfoldable pub eval_operand : Operand → Config → ℕ
  eval_operand (OConst n) s = n
  eval_operand (OReg r) s = reg_at s.regs r
  eval_operand (OMem m) s = cell_value s.values (cell_of m s)

  -- `valid_dst_operand`
  unfoldable pub valid_dst_operand : Operand → Config → Bool
  valid_dst_operand o s = valid_operand o s && valid_dst o

  -- `update_operand_preserve_flags'`
  unfoldable pub update_operand : Operand → ℕ → Config → Config
  update_operand (OConst n) v s = s
  update_operand (OReg r) v s = with_regs (set_reg s.regs r v) s
  update_operand (OMem m) v s = with_values (set_cell s.values (cell_of m s) v) s

  -- 31: a source is memory without a 64-bit cell. 36 in its place: the exact address is wild
  abbrev pub readable : ℕ → List Operand → Config → End → End
  readable p [] s k = k
  readable p (o ∷ os) s k = check (valid_operand o s) (wild_or 31 o s.regs) p s (readable p os s k)

  -- 32: a destination is a constant, Rsp, or memory without a 64-bit cell. 36 in its place: the exact address is wild. Each is resolved in the
  -- configuration t that the writes before it leave; where one fails, the instruction, which began in s, has written nothing
  abbrev pub written : ℕ → List (Operand × ℕ) → Config → (Config → End) → Config → End
  written p [] s k t = k t
  written p (w ∷ ws) s k t =
      check (valid_dst_operand w.0 t) (wild_or 32 w.0 t.regs) p s (written p ws s k (update_operand w.0 w.1 t))

  -- an act at a place: its sources, its rules, its destinations, and then what nothing checks
  abbrev pub perform : ℕ → Act → Config → End
  perform p a s =
      readable p a.sources s
      (ruled p a.rules s
      (written p a.words s (λ t. ends done (with_flags a.flags (set_xmms a.quads (set_regs a.regs t)))) s))

  -- an instruction of a destination and a source, by its kind
  abbrev pub two_act : ℕ → Operand → Operand → Config → Act
  two_act k dst src s =
      let a = eval_operand dst s in
      let b = eval_operand src s in
      to_operand (src ∷ []) [] dst (two_word k s.flags a b) (two_flags k env.rule env.fill s.flags a b)

  -- a shift; 33: its amount is 64 or more
  abbrev pub shift_act : ℕ → Operand → Operand → Config → Act
  shift_act k dst amt s =
      let a = eval_operand dst s in
      let b = eval_operand amt s in
      to_operand (amt ∷ []) ((ltb b 64, 33) ∷ []) dst (two_word k s.flags a b) (two_flags k env.rule env.fill s.flags a b)

  -- an instruction of two quads, by its kind
  abbrev pub quads_act : ℕ → ℕ → ℕ → Config → Act
  quads_act k dst src s =
      to_xmm [] [] dst (quads_word k (xmm_at s.xmms dst) (xmm_at s.xmms src)) (quads_flags k env.fill s.flags)

  -- a shift of a quad's words; 34: by 32 or more
  abbrev pub shifts_act : ℕ → ℕ → ℕ → Config → Act
  shifts_act k dst amt s = to_xmm [] ((ltb amt 32, 34) ∷ []) dst (shifts_word k (xmm_at s.xmms dst) amt) s.flags

  -- an insertion into a quad
  abbrev pub inserts_act : ℕ → ℕ → Operand → ℕ → Config → Act
  inserts_act k dst src index s =
      to_xmm (src ∷ []) [] dst (inserts_word k (xmm_at s.xmms dst) (eval_operand src s) index) s.flags

  -- what each instruction does
  unfoldable pub act : Instruction → Config → Act
  act (Mov64 dst src) s = two_act 0x01 dst src s
  act (Add64 dst src) s = two_act 0x02 dst src s
  act (AddLea64 dst src1 src2) s =
      to_operand (src1 ∷ src2 ∷ []) [] dst (sum_mod 64 (eval_operand src1 s + eval_operand src2 s)) s.flags
  act (AddCarry64 dst src) s = two_act 0x04 dst src s
  act (Adcx64 dst src) s = two_act 0x05 dst src s
  act (Adox64 dst src) s = two_act 0x06 dst src s
  act (Sub64 dst src) s = two_act 0x07 dst src s
  act (Mul64 src) s =
      let a = reg_at s.regs Rax in
      let b = eval_operand src s in
      record {
        sources = src ∷ [];
        rules = [];
        words = [];
        regs = (Rax, mul_mod 64 a b) ∷ (Rdx, mul_div 64 a b) ∷ [];
        quads = [];
        flags = env.fill;
      }
  -- the low half is written first
  act (Mulx64 dst_hi dst_lo src) s =
      let a = reg_at s.regs Rdx in
      let b = eval_operand src s in
      record {
        sources = src ∷ [];
        rules = [];
        words = (dst_lo, mul_mod 64 a b) ∷ (dst_hi, mul_div 64 a b) ∷ [];
        regs = [];
        quads = [];
        flags = s.flags;
      }
  act (IMul64 dst src) s = two_act 0x0a dst src s
  act (Xor64 dst src) s = two_act 0x0b dst src s
  act (And64 dst src) s = two_act 0x0c dst src s
  act (Shr64 dst amt) s = shift_act 0x0d dst amt s
  act (Shl64 dst amt) s = shift_act 0x0e dst amt s
  act (Paddd dst src) s = quads_act 0x0f dst src s
  act (Pxor dst src) s = quads_act 0x10 dst src s
  act (Pslld dst amt) s = shifts_act 0x11 dst amt s
  act (Psrld dst amt) s = shifts_act 0x12 dst amt s
  act (Pshufd dst src imm8) s = to_xmm [] [] dst (shuffle_lanes (xmm_at s.xmms src) imm8) s.flags
  act (Pcmpeqd dst src) s = quads_act 0x14 dst src s
  act (Pextrq dst src index) s =
      to_operand [] [] dst (two_to_nat 32 (two_select (four_to_two_two (xmm_at s.xmms src)) (index % 2))) s.flags
  act (Pinsrd dst src index) s = inserts_act 0x16 dst src index s
  act (Pinsrq dst src index) s = inserts_act 0x17 dst src index s
  -- 35: a count that is not 4
  act (VPSLLDQ dst src count) s = to_xmm [] ((eqb count 4, 35) ∷ []) dst (shift_quad (xmm_at s.xmms src)) s.flags
  act (Popcnt64 dst src) s = two_act 0x19 dst src s
  act (Lzcnt64 dst src) s = two_act 0x1a dst src s
  act (Tzcnt64 dst src) s = two_act 0x1b dst src s

  -- an instruction at a place
  unfoldable pub run_ins : ℕ → Instruction → Config → End
  run_ins p i s = perform p (act i s) s

  -- `valid_ocmp`: both operands can be read
  unfoldable pub valid_ocmp : Ocmp → Config → Bool
  valid_ocmp (OEq a b) s = valid_operand a s && valid_operand b s
  valid_ocmp (ONe a b) s = valid_operand a s && valid_operand b s
  valid_ocmp (OLe a b) s = valid_operand a s && valid_operand b s
  valid_ocmp (OGe a b) s = valid_operand a s && valid_operand b s
  valid_ocmp (OLt a b) s = valid_operand a s && valid_operand b s
  valid_ocmp (OGt a b) s = valid_operand a s && valid_operand b s

  -- the number of that check: of the first operand, or where that can be read of the second
  unfoldable pub ocmp_number : Ocmp → Config → ℕ
  ocmp_number c s = unread_number (λ o. valid_operand o s) s.regs (ocmp_layout c).operands

  -- `eval_ocmp`: unsigned
  unfoldable pub eval_ocmp : Ocmp → Config → Bool
  eval_ocmp (OEq a b) s = eqb (eval_operand a s) (eval_operand b s)
  eval_ocmp (ONe a b) s = not (eqb (eval_operand a s) (eval_operand b s))
  eval_ocmp (OLe a b) s = leb (eval_operand a s) (eval_operand b s)
  eval_ocmp (OGe a b) s = leb (eval_operand b s) (eval_operand a s)
  eval_ocmp (OLt a b) s = ltb (eval_operand a s) (eval_operand b s)
  eval_ocmp (OGt a b) s = ltb (eval_operand b s) (eval_operand a s)
