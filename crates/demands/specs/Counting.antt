-- The claims of request 2026-02, in one record: `Counting`. That the three demands cover these instructions needs no claim of its own: they are of
-- every code. The counts are defined in crates/words/specs/Counts.antt.
use Rattle.std.specs.Prelude.{ℕ, suc, ◌+◌, ◌-◌, ◌*◌, ◌/◌, ◌%◌, ◌^◌, ◌≤◌, ◌<◌, ◌≡◌, Bool, false, ◌&&◌, [], ◌∷◌, eqb, ℤ, length}
use Rattle.words.specs.Counts.{popcnt, lzcnt, tzcnt}
use Rattle.words.specs.Flags.{cf, overflow, update_cf, update_of}
use Rattle.machine.specs.Operands.{wild_or}
use Rattle.machine.specs.Memory.{Memory}
use Rattle.machine.specs.declared.Operand.{Operand}
use Rattle.code.specs.declared.tree.Instruction.{Instruction}
use Rattle.code.specs.declared.tree.Instruction.TheVariants.{Popcnt64, Lzcnt64, Tzcnt64}
use Rattle.code.specs.Tree.{Ins}
use Rattle.code.specs.Reader.{got, parse}
use Rattle.code.specs.WellFormed.{WfOperand}
use Rattle.code.specs.Writer.{bytes_of_operands}
use Rattle.eval.specs.FlagRule.{FlagRule}
use Rattle.eval.specs.Config.{Env, Config, with_flags, ends, done, check}
use Rattle.eval.specs.Instructions.{valid_operand, eval_operand, valid_dst_operand, update_operand, run_ins}
use Rattle.source.specs.Source as Source
use Rattle.bytemachine.specs.ByteMachine as Machine

-- a flags word that has the bits of a word, but for carry and overflow: bit 0 and bit 11 as told, bits 1 to 10 and those from 12 on the word's
pub record BitsOf (word : ℕ) (carry over : Bool) (flags : ℕ) : Type 0 where
  pub carry_is : cf flags ≡ carry
  pub overflow_is : overflow flags ≡ over
  pub between : flags / 2 % 2 ^ 10 ≡ word / 2 % 2 ^ 10
  pub above : flags / 2 ^ 12 ≡ word / 2 ^ 12

-- an instruction of this kind writes the count of its source's word b, and makes its flags of the fill word and b
pub record Counts (kind : ℕ) (ins : Operand → Operand → Instruction) (count : ℕ → ℕ) (flags : ℕ → ℕ → ℕ) : Type 0 where
  -- a record of this kind has a destination and a source
  pub is_read : (dst src : Operand) → WfOperand dst → WfOperand src
      → let bytes = kind ∷ bytes_of_operands (dst ∷ src ∷ []) in parse bytes ≡ got (Ins 0 (ins dst src)) (length bytes)
  -- the run: 31 or 36 of the source, then 32 or 36 of the destination, which is written and not read
  pub runs : (env : Env) (p : ℕ) (dst src : Operand) (s : Config)
      → let b = eval_operand env src s in
      run_ins env p (ins dst src) s
      ≡ check (valid_operand env src s) (wild_or 31 src s.regs) p s
      (check (valid_dst_operand env dst s) (wild_or 32 dst s.regs) p s
      (ends done (with_flags (flags env.fill b) (update_operand env dst (count b) s))))
  -- the source: it runs on where one of the two checks fails, with ok clear
  pub evaluates : (load_mem64 : ℤ → Memory → ℕ) (int_to_nat64 : ℤ → ℕ) (fill : ℕ) (rule : FlagRule) (dst src : Operand) (s : Source.State)
      → let b = Source.eval_operand load_mem64 int_to_nat64 fill src s in
      let t = Source.with_flags (flags fill b) (Source.update_operand_preserve_flags' dst (count b) s) in
      Source.run (Source.eval_ins load_mem64 int_to_nat64 fill rule (ins dst src)) s
      ≡ Source.with_ok (s.ok && Source.valid_operand src s && Source.valid_dst_operand dst s) t
  -- the byte machine
  pub executes : (fill : ℕ) (rule : FlagRule) (dst src : Operand) (s : Machine.BState)
      → let b = Machine.read src s in
      Machine.exec_ins fill rule (ins dst src) s ≡ Machine.with_flags (flags fill b) (Machine.write dst (count b) s)

-- carry and overflow cleared, whatever the source
abbrev pub cleared : (fill b : ℕ) → ℕ
cleared fill b = update_cf (update_of fill false) false

-- carry set exactly for a zero source
abbrev pub carry_for_zero : (fill b : ℕ) → ℕ
carry_for_zero fill b = update_cf fill (eqb b 0)

-- ---- the claims
pub record Counting : Type 0 where
  -- the number of ones, of leading zeros and of trailing zeros
  pub popcnt64 : Counts 0x19 Popcnt64 (popcnt 64) cleared
  pub lzcnt64 : Counts 0x1a Lzcnt64 (lzcnt 64) carry_for_zero
  pub tzcnt64 : Counts 0x1b Tzcnt64 (tzcnt 64) carry_for_zero
  -- of 0; the last two give 64
  pub ones_of_zero : popcnt 64 0 ≡ 0
  pub leading_of_zero : lzcnt 64 0 ≡ 64
  pub trailing_of_zero : tzcnt 64 0 ≡ 64
  -- of any other word: without its lowest one it has one fewer; its highest one stands just below the leading zeros, its lowest just above the
  -- trailing zeros
  pub ones : (b : ℕ) → 0 < b → b < 2 ^ 64 → popcnt 64 b ≡ suc (popcnt 64 (b - 2 ^ tzcnt 64 b))
  pub leading : (b : ℕ) → 0 < b → b < 2 ^ 64 → (2 ^ (63 - lzcnt 64 b) ≤ b) × (b < 2 ^ (64 - lzcnt 64 b))
  pub trailing : (b : ℕ) → 0 < b → b < 2 ^ 64 → (k : ℕ) × (b ≡ (2 * k + 1) * 2 ^ tzcnt 64 b)
  -- the flags of each are the fill word but for what is named
  pub popcnt_flags : (fill b : ℕ) → BitsOf fill false false (cleared fill b)
  pub zeros_flags : (fill b : ℕ) → BitsOf fill (eqb b 0) (overflow fill) (carry_for_zero fill b)
