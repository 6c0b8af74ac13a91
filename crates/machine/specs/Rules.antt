-- The rules that code, cells and jobs are held to.
use Rattle.std.specs.Prelude.{ℕ, Option, Some, None}
use Rattle.machine.specs.declared.refusal.Rule.{Rule}
use Rattle.machine.specs.declared.refusal.Rule.TheVariants.{Length, Kind, Short, Register, Depth, Part, Scale, Lists, Count, Tag, Value, Order, ShortJob, LongJob}

-- the number of each in the papers
abbrev pub rule_number : Rule → ℕ
rule_number Length = 1
rule_number Kind = 2
rule_number Short = 3
rule_number Register = 4
rule_number Depth = 5
rule_number Part = 6
rule_number Scale = 7
rule_number Lists = 11
rule_number Count = 12
rule_number Tag = 13
rule_number Value = 14
rule_number Order = 15
rule_number ShortJob = 41
rule_number LongJob = 42

-- the number of the rule that is broken; 0 where none is
abbrev pub broken : Option Rule → ℕ
broken (Some rule) = rule_number rule
broken None = 0
