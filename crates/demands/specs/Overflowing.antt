-- The claims of request 2026-06, in one record: `Overflowing`. The two rules are defined in crates/eval/specs/FlagRule.antt, and sums of signed words
-- in crates/words/specs/Signed.antt. A rule stands in the environment of a run, so that each claim of a request before this one that is of every
-- environment is of every rule, and has one proof.
use Rattle.std.specs.Prelude.{ℕ, ◌+◌, ◌^◌, ◌<◌, ◌≡◌, Bool, true, false, ◌&&◌, List, ℤ}
use Rattle.std.proofs.Math.Option.{Option}
use Rattle.words.specs.Bits.{bit}
use Rattle.words.specs.Flags.{cf, overflow}
use Rattle.words.specs.Signed.{signed_word, signed_sum, leaves}
use Rattle.words.specs.Sums.{sum_mod, sum_carry}
use Rattle.machine.specs.Registers.{IsState}
use Rattle.machine.specs.Operands.{wild_or}
use Rattle.machine.specs.Memory.{Memory}
use Rattle.machine.specs.Bytes.{wrap}
use Rattle.machine.specs.declared.State.{State}
use Rattle.machine.specs.declared.Operand.{Operand}
use Rattle.code.specs.declared.tree.Instruction.{Instruction}
use Rattle.code.specs.declared.tree.Instruction.TheVariants.{Add64, AddCarry64}
use Rattle.code.specs.declared.tree.Ocmp.{Ocmp}
use Rattle.code.specs.Layout.{layout}
use Rattle.code.specs.WellFormed.{Bytes, Signed}
use Rattle.eval.specs.declared.answer.Evaluation.{Evaluation}
use Rattle.eval.specs.FlagRule.{FlagRule, base_flags, board_flags, flag_rule}
use Rattle.eval.specs.Config.{Env, with_rule, Config, config, with_flags, ends, done, check}
use Rattle.eval.specs.Instructions.{valid_operand, eval_operand, valid_dst_operand, update_operand, run_ins}
use Rattle.eval.specs.Counted.{Counted, Part}
use Rattle.eval.specs.Running.{decide}
use Rattle.eval.specs.Promises.{environment}
use Rattle.source.specs.Source as Source
use Rattle.bytemachine.specs.ByteMachine as Machine
use Rattle.demands.specs.Counting.{BitsOf}
use Rattle.demands.specs.Demands.{Demands}

-- an instruction that adds to its destination its source and a carry, which it makes of the old flags, and whose flags are the rule's
pub record Adds (ins : Operand → Operand → Instruction) (carry : ℕ → ℕ) : Type 0 where
  -- the run: 31 or 36 of the source, then 32 or 36 of the destination
  pub runs : (env : Env) (p : ℕ) (dst src : Operand) (s : Config)
      → let a = eval_operand env dst s in
      let b = eval_operand env src s in
      let c = carry s.flags in
      run_ins env p (ins dst src) s
      ≡ check (valid_operand env src s) (wild_or 31 src s.regs) p s
      (check (valid_dst_operand env dst s) (wild_or 32 dst s.regs) p s
      (ends done (with_flags (env.rule.flags env.fill s.flags a b c) (update_operand env dst (sum_mod 64 (a + b + c)) s))))
  -- the source: it runs on where one of the two checks fails, with ok clear
  pub evaluates : (load_mem64 : ℤ → Memory → ℕ) (int_to_nat64 : ℤ → ℕ) (fill : ℕ) (rule : FlagRule) (dst src : Operand) (s : Source.State)
      → let a = Source.eval_operand load_mem64 int_to_nat64 fill dst s in
      let b = Source.eval_operand load_mem64 int_to_nat64 fill src s in
      let c = carry s.flags in
      let t = Source.with_flags (rule.flags fill s.flags a b c) (Source.update_operand_preserve_flags' dst (sum_mod 64 (a + b + c)) s) in
      Source.run (Source.eval_ins load_mem64 int_to_nat64 fill rule (ins dst src)) s
      ≡ Source.with_ok (s.ok && Source.valid_operand src s && Source.valid_dst_operand dst s) t
  -- the byte machine
  pub executes : (fill : ℕ) (rule : FlagRule) (dst src : Operand) (s : Machine.BState)
      → let a = Machine.read dst s in
      let b = Machine.read src s in
      let c = carry s.flags in
      Machine.exec_ins fill rule (ins dst src) s ≡ Machine.with_flags (rule.flags fill s.flags a b c) (Machine.write dst (sum_mod 64 (a + b + c)) s)

-- an instruction that is neither Add64 nor AddCarry64
abbrev pub NotByRule : Instruction → Type 0
NotByRule i = ((layout i).kind ≡ 0x02 → ⊥) × ((layout i).kind ≡ 0x04 → ⊥)

-- a rule that gives a flags word
abbrev pub GivesFlags : FlagRule → Type 0
GivesFlags rule = (fill flags a b c : ℕ) → fill < 2 ^ 64 → flags < 2 ^ 64 → rule.flags fill flags a b c < 2 ^ 64

-- ---- the claims
pub record Overflowing : Type 0 where
  -- the rule is put in for these two, in all three texts
  pub add64 : Adds Add64 (λ flags. 0)
  pub add_carry64 : Adds AddCarry64 (λ flags. bit (cf flags))
  -- and for no other instruction, nor for a comparison: Adcx64 and Adox64 do what they did. Of a comparison the other two texts do not have the rule
  pub run_others : (i : Instruction) → NotByRule i → (env : Env) (rule : FlagRule) (p : ℕ) (s : Config)
      → run_ins (with_rule rule env) p i s ≡ run_ins env p i s
  pub source_others : (i : Instruction) → NotByRule i → (load_mem64 : ℤ → Memory → ℕ) (int_to_nat64 : ℤ → ℕ) (fill : ℕ) (rule other : FlagRule)
      (s : Source.State) → Source.eval_ins load_mem64 int_to_nat64 fill rule i s ≡ Source.eval_ins load_mem64 int_to_nat64 fill other i s
  pub machine_others : (i : Instruction) → NotByRule i → (fill : ℕ) (rule other : FlagRule) (s : Machine.BState)
      → Machine.exec_ins fill rule i s ≡ Machine.exec_ins fill other i s
  pub run_comparisons : (env : Env) (rule : FlagRule) (limit : Option ℕ) (q : ℕ) (c : Ocmp) (yes_way no_way : Part) (s : Config) (k : Counted)
      → decide (with_rule rule env) limit q c yes_way no_way s k ≡ decide env limit q c yes_way no_way s k
  -- F*'s rule sets carry, and all other bits are those of the old flags
  pub base : (fill flags a b c : ℕ) → BitsOf flags (sum_carry 64 (a + b + c)) (overflow flags) (base_flags fill flags a b c)
  -- on the board carry is as before; overflow is set exactly where the signed sum leaves its range; all other bits are the fill word's
  pub as_before : (fill flags a b c : ℕ) → cf (board_flags fill flags a b c) ≡ cf (base_flags fill flags a b c)
  pub board : (fill flags a b c : ℕ) → BitsOf fill (sum_carry 64 (a + b + c)) (leaves 64 (signed_sum 64 a b c)) (board_flags fill flags a b c)
  -- what does not leave it are the numbers from -2^63 to 2^63 - 1, which the offsets in code are too
  pub stays : (z : ℤ) → leaves 64 z ≡ false → Signed 64 z
  pub in_range : (z : ℤ) → Signed 64 z → leaves 64 z ≡ false
  -- a word as a signed number is the one of 64 bits that is the word modulo 2^64
  pub is_signed : (x : ℕ) → x < 2 ^ 64 → Signed 64 (signed_word 64 x)
  pub same_word : (x : ℕ) → x < 2 ^ 64 → wrap (signed_word 64 x) ≡ x
  -- so overflow is clear exactly where the word that is written is, as a signed number, the sum
  pub clear : (a b : ℕ) (carry : Bool) → a < 2 ^ 64 → b < 2 ^ 64 → leaves 64 (signed_sum 64 a b (bit carry)) ≡ false
      → signed_word 64 (sum_mod 64 (a + b + bit carry)) ≡ signed_sum 64 a b (bit carry)
  pub set : (a b : ℕ) (carry : Bool) → leaves 64 (signed_sum 64 a b (bit carry)) ≡ true
      → signed_word 64 (sum_mod 64 (a + b + bit carry)) ≡ signed_sum 64 a b (bit carry) → ⊥
  -- each evaluation's rule gives a flags word, and of each the demands hold, as `run` is given it
  pub gives_flags : (e : Evaluation) → GivesFlags (flag_rule e)
  pub each : (e : Evaluation) (code addresses tags : List ℕ) (fill fuel : ℕ) (limit : Option ℕ) (start : State) (values : List ℕ)
      → Bytes code → IsState start → Demands code (environment addresses tags fill (flag_rule e)) fuel limit (config start values)
