-- The text of X64.Semantics_s where Source, with F*'s flag rule, is written another way: the flags of Add64 and AddCarry64, which the rule gives;
-- the difference of Sub64, which is over the whole numbers; registers and xmm, which are functions in the text and lists here; the test of an
-- amount, the local `eq_result`, and the cut that `two_to_nat` makes; and the recursion, where `eval_while` is over the evaluation of its body,
-- so that the text's `eval_while b c` is `eval_while b (eval_code c)` here.
use Rattle.std.specs.Prelude.{ℕ, zero, suc, ◌+◌, ◌*◌, ◌%◌, ◌^◌, ◌<◌, ◌≡◌, Bool, not, ◌&&◌, cond, eqb, ltb, leb, ℤ, pos, ◌-ℤ◌, length}
use Rattle.std.proofs.Math.Option.{Option, none, some}
use Rattle.std.specs.Int.Signed.{lt_z, le_z}
use Rattle.words.specs.Words.{Two, Four, mkfour, two_to_nat}
use Rattle.words.specs.Bits.{bit}
use Rattle.words.specs.Sums.{sub_mod}
use Rattle.words.specs.Flags.{cf, update_cf}
use Rattle.machine.specs.Bytes.{wrap}
use Rattle.machine.specs.declared.reg.Reg.{Reg}
use Rattle.machine.specs.declared.Operand.{Operand}
use Rattle.machine.specs.Memory.{Memory}
use Rattle.code.specs.declared.tree.Instruction.{Instruction}
use Rattle.code.specs.declared.tree.Instruction.TheVariants.{Add64, AddCarry64, Pcmpeqd}
use Rattle.code.specs.declared.tree.Ocmp.{Ocmp}
use Rattle.code.specs.Tree.{Code, Ins, Block, IfElse, While, Codes, ⟨⟩, ◌∷ᶜ◌}
use Rattle.eval.specs.FlagRule.{base_rule}
use Rattle.source.specs.Source as Source
use Rattle.source.specs.Source.{State, St, pow2_64, ◌>>=◌, ◌>>◌, get, check, valid_operand, eval_reg, eval_xmm, update_reg', update_xmm', update_xmm_preserve_flags, update_flags, run, if_some}

-- the clause of `int_to_natN`: a number below n stays as it is
abbrev pub IntToNatN : (ℕ → ℤ → ℕ) → Type 0
IntToNatN int_to_natN = (n i : ℕ) → i < n → int_to_natN n (pos i) ≡ i

module _ (load_mem64 : ℤ → Memory → ℕ) (int_to_nat64 : ℤ → ℕ) (fill : ℕ) where
  -- what the text names, over the open places and F*'s flag rule
  abbrev eval_ins : Instruction → St (Unit {0})
  eval_ins = Source.eval_ins load_mem64 int_to_nat64 fill base_rule

  -- `eval_operand`
  abbrev eval_operand : Operand → State → ℕ
  eval_operand = Source.eval_operand load_mem64 int_to_nat64 fill

  -- `update_operand`
  abbrev update_operand : Operand → Instruction → ℕ → St (Unit {0})
  update_operand = Source.update_operand load_mem64 int_to_nat64 fill

  -- `havoc`
  abbrev havoc : State → Instruction → ℕ
  havoc = Source.havoc load_mem64 int_to_nat64 fill

  -- `eval_code`
  abbrev eval_code : Code → ℕ → State → Option State
  eval_code = Source.eval_code load_mem64 int_to_nat64 fill base_rule

  -- `eval_codes`
  abbrev eval_codes : Codes → ℕ → State → Option State
  eval_codes = Source.eval_codes load_mem64 int_to_nat64 fill base_rule

  -- `eval_while b c`
  abbrev eval_while : Ocmp → Code → ℕ → State → Option State
  eval_while b c = Source.eval_while load_mem64 int_to_nat64 fill b (Source.eval_code load_mem64 int_to_nat64 fill base_rule c)

  -- `run_ocmp`
  abbrev run_ocmp : State → Ocmp → State × Bool
  run_ocmp = Source.run_ocmp load_mem64 int_to_nat64 fill

  -- `eval_ins` of Add64
  abbrev pub add64_text : Operand → Operand → St (Unit {0})
  add64_text dst src = do
    s ← get
    check (valid_operand src)
    let sum = eval_operand dst s + eval_operand src s
    let new_carry = leb pow2_64 sum
    update_operand dst (Add64 dst src) ((eval_operand dst s + eval_operand src s) % pow2_64)
    update_flags (update_cf s.flags new_carry)

  -- `eval_ins` of AddCarry64
  abbrev pub add_carry64_text : Operand → Operand → St (Unit {0})
  add_carry64_text dst src = do
    s ← get
    check (valid_operand src)
    let old_carry = bit (cf s.flags)
    let sum = eval_operand dst s + eval_operand src s + old_carry
    let new_carry = leb pow2_64 sum
    update_operand dst (AddCarry64 dst src) (sum % pow2_64)
    update_flags (havoc s (AddCarry64 dst src))
    update_flags (update_cf s.flags new_carry)

  -- `eq_result`
  abbrev pub eq_result : Bool → ℕ
  eq_result b = cond b 0xFFFFFFFF 0

  -- `eval_ins` of Pcmpeqd
  abbrev pub pcmpeqd_text : ℕ → ℕ → St (Unit {0})
  pcmpeqd_text dst src = do
    s ← get
    let src_q = eval_xmm src s
    let dst_q = eval_xmm dst s
    let eq_val = mkfour
        (eq_result (eqb src_q.lo0 dst_q.lo0))
        (eq_result (eqb src_q.lo1 dst_q.lo1))
        (eq_result (eqb src_q.hi2 dst_q.hi2))
        (eq_result (eqb src_q.hi3 dst_q.hi3))
    update_xmm_preserve_flags dst eq_val

  -- where the two are the same
  pub record Upstream : Type 0 where
    pub ins_add : (dst src : Operand) → eval_ins (Add64 dst src) ≡ add64_text dst src
    pub ins_add_carry : (dst src : Operand) → eval_ins (AddCarry64 dst src) ≡ add_carry64_text dst src
    -- `(a - b) % pow2_64`, of words
    pub difference : (a b : ℕ) → a < 2 ^ 64 → b < 2 ^ 64 → sub_mod 64 a b ≡ wrap (pos a -ℤ pos b)
    -- `regs_make` and `xmms_make`: the one that is written, and the others as they were
    pub regs_make : (r r' : Reg) (v : ℕ) (s : State) → r.number < length s.regs
        → eval_reg r' (update_reg' r v s) ≡ cond (eqb r'.number r.number) v (eval_reg r' s)
    pub xmms_make : (x x' : ℕ) (v : Four ℕ) (s : State) → 4 * x + 3 < length s.xmms
        → eval_xmm x' (update_xmm' x v s) ≡ cond (eqb x' x) v (eval_xmm x' s)
    -- `0 <= amt && amt < 32`
    pub amount : (amt : ℕ) → ltb amt 32 ≡ (le_z (pos 0) (pos amt) && lt_z (pos amt) (pos 32))
    -- `eq_result`
    pub ins_pcmpeqd : (dst src : ℕ) → eval_ins (Pcmpeqd dst src) ≡ pcmpeqd_text dst src
    -- `two_to_nat` of a pair that Pextrq extracts, for every `int_to_natN` that meets its clause
    pub pair : (int_to_natN : ℕ → ℤ → ℕ) → IntToNatN int_to_natN → (x : Two ℕ) → x.lo < 2 ^ 32 → x.hi < 2 ^ 32
        → two_to_nat 32 x ≡ int_to_natN (2 ^ 64) (pos (x.lo + x.hi * 2 ^ 32))
    -- and there is one, which gives a `natN n`
    pub some_natN : (int_to_natN : ℕ → ℤ → ℕ) × IntToNatN int_to_natN × ((n : ℕ) (i : ℤ) → 0 < n → int_to_natN n i < n)
    -- `eval_code`
    pub code_ins : (p : ℕ) (ins : Instruction) (fuel : ℕ) (s : State)
        → eval_code (Ins p ins) fuel s ≡ some (run (eval_ins ins) s)
    pub code_block : (p : ℕ) (l : Codes) (fuel : ℕ) (s : State) → eval_code (Block p l) fuel s ≡ eval_codes l fuel s
    pub code_if_else : (p q : ℕ) (c : Ocmp) (ifTrue ifFalse : Code) (fuel : ℕ) (s : State)
        → eval_code (IfElse p q c ifTrue ifFalse) fuel s
        ≡ (let r = run_ocmp s c in cond r.1 (eval_code ifTrue fuel r.0) (eval_code ifFalse fuel r.0))
    pub code_while : (p q : ℕ) (b : Ocmp) (c : Code) (fuel : ℕ) (s : State) → eval_code (While p q b c) fuel s ≡ eval_while b c fuel s
    -- `eval_codes`
    pub codes_nil : (fuel : ℕ) (s : State) → eval_codes ⟨⟩ fuel s ≡ some s
    pub codes_cons : (c : Code) (tl : Codes) (fuel : ℕ) (s : State)
        → eval_codes (c ∷ᶜ tl) fuel s ≡ if_some (eval_code c fuel s) (eval_codes tl fuel)
    -- `eval_while`
    pub while_zero : (b : Ocmp) (c : Code) (s0 : State) → eval_while b c zero s0 ≡ none
    pub while_suc : (b : Ocmp) (c : Code) (fuel : ℕ) (s0 : State)
        → eval_while b c (suc fuel) s0
        ≡ (let r = run_ocmp s0 b in
        cond (not r.1) (some r.0)
        (if_some (eval_code c fuel r.0) (λ s1. cond s1.ok (eval_while b c fuel s1) (some s1))))
