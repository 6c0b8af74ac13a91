-- What the functions below the calls promise: the layout of a record, what reading its bytes finds, and which builds are closed.
use Rattle.std.specs.Prelude.{ℕ, ◌+◌, ◌≤◌, ◌<◌, List, [], ◌∷◌}
use Rattle.machine.specs.declared.Operand.{Operand}
use Rattle.code.specs.Layout.{Byte, number, amount, Layout, laid}
use Rattle.code.specs.Reader.{Read, got, trouble}
use Rattle.builder.specs.declared.build.Build.{Build}
use Rattle.builder.specs.declared.build.Part.{Part}
use Rattle.builder.specs.declared.record.Body.{Body}
use Rattle.builder.specs.declared.record.Body.TheVariants.{Nothing, Xmms, XmmAmount, XmmsAmount}
use Rattle.builder.specs.declared.record.Operands.{Operands}
use Rattle.builder.specs.declared.record.Operands.TheVariants.{One, Two, Three}
use Rattle.builder.specs.declared.record.Operands.TheVariants.{Nothing as NoOperands}
use Rattle.builder.specs.declared.record.Record.{Record}
use Rattle.builder.specs.Building.{kind_of, field_of, start_of}

-- the bytes of a body
abbrev pub body_of : Body → List Byte
body_of Nothing = []
body_of (Xmms a b) = number a ∷ number b ∷ []
body_of (XmmAmount a n) = number a ∷ amount n ∷ []
body_of (XmmsAmount a b n) = number a ∷ number b ∷ amount n ∷ []

-- operands in a row
abbrev pub operands_of : Operands → List Operand
operands_of NoOperands = []
operands_of (One a) = a ∷ []
operands_of (Two a b) = a ∷ b ∷ []
operands_of (Three a b c) = a ∷ b ∷ c ∷ []

-- the layout that a record has
abbrev pub layout_of : Record → Layout
layout_of r = laid r.kind (body_of r.body) (operands_of r.operands)

-- the number of a reading's trouble, 0 where it has none
abbrev pub trouble_of : Read (Unit {0}) → ℕ
trouble_of (got a next) = 0
trouble_of (trouble n p) = n

-- a build's innermost open part
abbrev pub part_of : Build → Part
part_of b = record { kind = kind_of b; field = field_of b; start = start_of b }

-- what is known of a build whose innermost part was found to take a close, in a buffer that holds it
pub record Closable (b : Build) (room : ℕ) : Type 0 where
  pub some_open : 0 < b.depth
  pub not_many : b.depth ≤ 32
  pub behind_field : field_of b + 4 ≤ start_of b
  pub in_build : start_of b ≤ b.length
  pub in_room : b.length ≤ room
  pub in_all : b.length ≤ 16384
