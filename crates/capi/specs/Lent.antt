-- What the builder's C calls do: a build and a record are lent in parts.
use Rattle.std.specs.Prelude.{ℕ, List, Option, Some, None}
use Rattle.std.specs.Borrow.{Bor, MutBor}
use denote.Triple.Both.{Both}
use Rattle.code.specs.declared.tree.Instruction.{Instruction}
use Rattle.code.specs.declared.tree.Ocmp.{Ocmp}
use Rattle.builder.specs.declared.build.Build.{Build}
use Rattle.builder.specs.Calls.{add, open_if_else, open_while, CallTyped}
use Rattle.builder.specs.Building.{Outcome, outcome, call}
use Rattle.numbered.specs.declared.operands.Numbers.{Numbers}

-- the build that is lent in parts
abbrev pub lent_build : ℕ → ℕ → List ℕ → List ℕ → List ℕ → Build
lent_build length depth parts fields starts =
    record { length = length; depth = depth; parts = parts; fields = fields; starts = starts }

-- the numbers that are
abbrev lent_numbers : ℕ → List ℕ → List ℕ → List ℕ → List ℕ → List ℕ → List ℕ → List ℕ → Numbers
lent_numbers kind body operands bases indexes scales numbers offsets =
    record {
      kind = kind;
      body = body;
      operands = operands;
      bases = bases;
      indexes = indexes;
      scales = scales;
      numbers = numbers;
      offsets = offsets;
    }

-- a lent value that is read, as it is given and as it is left
abbrev Lent : Type 0 → Type 0
Lent A = Both (Bor A) (Bor A)

-- a lent value that may be changed, as it is given and as it is left
abbrev LentMut : Type 0 → Type 0
LentMut A = Both (MutBor A) (MutBor A)

module _ (length depth : LentMut ℕ) (parts fields starts : LentMut (List ℕ)) where
  -- the build as it is given
  abbrev pub given_build : Build
  given_build = lent_build length.entry.now depth.entry.now parts.entry.now fields.entry.now starts.entry.now

  -- as it is left
  abbrev pub left_build : Build
  left_build = lent_build length.exit.now depth.exit.now parts.exit.now fields.exit.now starts.exit.now

-- the numbers as they are given
abbrev pub given_numbers :
    ℕ → Lent (List ℕ) → Lent (List ℕ) → Lent (List ℕ) → Lent (List ℕ) → Lent (List ℕ) → Lent (List ℕ) → Lent (List ℕ) → Numbers
given_numbers kind body operands bases indexes scales numbers offsets =
    lent_numbers kind body.entry.now operands.entry.now bases.entry.now indexes.entry.now scales.entry.now
    numbers.entry.now offsets.entry.now

-- an instruction is added; what is none is answered 2, and nothing changes
abbrev pub add_given : Option Instruction → Build → List ℕ → Outcome
add_given (Some i) b buffer = call (add i) b buffer
add_given None b buffer = outcome 2 b buffer

-- an IfElse is opened
abbrev pub if_else_given : Option Ocmp → Build → List ℕ → Outcome
if_else_given (Some c) b buffer = call (open_if_else c) b buffer
if_else_given None b buffer = outcome 2 b buffer

-- a While is
abbrev pub while_given : Option Ocmp → Build → List ℕ → Outcome
while_given (Some c) b buffer = call (open_while c) b buffer
while_given None b buffer = outcome 2 b buffer

-- what is given is one of the types
abbrev pub InstructionTyped : Option Instruction → Type 0
InstructionTyped (Some i) = CallTyped (add i)
InstructionTyped None = Unit {0}

-- the same of a comparison; `open_while` asks of it what `open_if_else` does
abbrev pub ComparisonTyped : Option Ocmp → Type 0
ComparisonTyped (Some c) = CallTyped (open_if_else c)
ComparisonTyped None = Unit {0}
