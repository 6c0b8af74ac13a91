-- The numbers of rules: none is 0, which stands for no rule.
use Rattle.std.proofs.Common.{◌≡◌, arith}
use Rattle.machine.specs.Rules.{rule_number}
use Rattle.machine.specs.declared.refusal.Rule.{Rule}
use Rattle.machine.specs.declared.refusal.Rule.TheVariants.{Length, Kind, Short, Register, Depth, Part, Scale, Lists, Count, Tag, Value, Order, ShortJob, LongJob}

pub number_pos : (rule : Rule) → rule_number rule ≡ 0 → ⊥
number_pos Length e = omega arith
number_pos Kind e = omega arith
number_pos Short e = omega arith
number_pos Register e = omega arith
number_pos Depth e = omega arith
number_pos Part e = omega arith
number_pos Scale e = omega arith
number_pos Lists e = omega arith
number_pos Count e = omega arith
number_pos Tag e = omega arith
number_pos Value e = omega arith
number_pos Order e = omega arith
number_pos ShortJob e = omega arith
number_pos LongJob e = omega arith
