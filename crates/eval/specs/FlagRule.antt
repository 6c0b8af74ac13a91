-- The flag rule: the new flags of Add64 and AddCarry64, in which the two evaluations differ, and what of them the watch is told. It is a parameter
-- of the run, the source, its log and the byte machine.
use Rattle.std.specs.Prelude.{ℕ, ◌+◌}
use Rattle.words.specs.Flags.{update_cf, update_of}
use Rattle.words.specs.Signed.{signed_sum, leaves}
use Rattle.words.specs.Sums.{sum_carry}
use Rattle.eval.specs.declared.answer.Evaluation.{Evaluation}
use Rattle.eval.specs.declared.answer.Evaluation.TheVariants.{Base, Board}

-- what becomes of carry, or of overflow: it is kept, opened where it becomes the fill word's bit, or closed where it is set otherwise
pub data Touch : Type 0 where
  keeps : Touch
  opens : Touch
  closes : Touch

-- the new flags, of the fill word, the old flags, the words a and b of the operands, and c, the old carry in AddCarry64 and 0 in Add64
abbrev pub NewFlags : Type 0
NewFlags = (fill flags a b c : ℕ) → ℕ

-- the new flags, and what becomes of overflow; both rules close carry
pub record FlagRule : Type 0 where
  pub flags : NewFlags
  pub overflow : Touch

-- F*'s: the old flags but for the carry of the sum
unfoldable pub base_flags : NewFlags
base_flags fill flags a b c = update_cf flags (sum_carry 64 (a + b + c))

-- the board's: the fill word but for two bits, the carry of the sum, and overflow, which is set exactly where the signed sum leaves -2^63 to 2^63 - 1
unfoldable pub board_flags : NewFlags
board_flags fill flags a b c = update_cf (update_of fill (leaves 64 (signed_sum 64 a b c))) (sum_carry 64 (a + b + c))

-- F*'s rule keeps overflow
abbrev pub base_rule : FlagRule
base_rule = record { flags = base_flags; overflow = keeps }

-- the board's closes it
abbrev pub board_rule : FlagRule
board_rule = record { flags = board_flags; overflow = closes }

-- the rule of each evaluation
abbrev pub flag_rule : Evaluation → FlagRule
flag_rule Base = base_rule
flag_rule Board = board_rule
