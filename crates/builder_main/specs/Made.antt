-- The call that a stored step gives, and what it leaves by the builder's definition.
use Rattle.std.specs.Prelude.{ℕ, Option, Some, None, List, [], ◌∷◌, slice_index_or}
use Rattle.code.specs.declared.tree.Instruction.{Instruction}
use Rattle.code.specs.declared.tree.Ocmp.{Ocmp}
use Rattle.builder.specs.declared.build.Build.{Build}
use Rattle.builder.specs.Calls.{open_block, open_if_else, open_while, add, close}
use Rattle.builder.specs.Building.{empty, Outcome, outcome, call}
use Rattle.numbered.specs.declared.operands.Numbers.{Numbers}
use Rattle.numbered.specs.Values.{instruction_given, comparison_given}
use Rattle.builder_main.specs.declared.given.Given.{Given}
use Rattle.builder_main.specs.declared.given.Given.TheVariants.{Begin, OpenBlock, OpenIfElse, OpenWhile, Add, Close}

-- a comparison opens an IfElse
abbrev pub if_else_of : Option Ocmp → Option Given
if_else_of (Some c) = Some (OpenIfElse c)
if_else_of None = None

-- or a While
abbrev pub while_of : Option Ocmp → Option Given
while_of (Some c) = Some (OpenWhile c)
while_of None = None

-- an instruction is added
abbrev pub add_of : Option Instruction → Option Given
add_of (Some i) = Some (Add i)
add_of None = None

-- the calls with these numbers, in the order of the kinds
abbrev pub calls_of : Numbers → List (Option Given)
calls_of n =
    Some Begin
    ∷ Some OpenBlock
    ∷ if_else_of (comparison_given n)
    ∷ while_of (comparison_given n)
    ∷ add_of (instruction_given n)
    ∷ []

-- the call of a kind; above the others a close
unfoldable pub given_of : ℕ → Numbers → Option Given
given_of kind n = slice_index_or (calls_of n) kind (Some Close)

-- what it leaves
unfoldable pub called : Given → Build → List ℕ → Outcome
called Begin b buffer = outcome 0 empty buffer
called OpenBlock b buffer = call open_block b buffer
called (OpenIfElse c) b buffer = call (open_if_else c) b buffer
called (OpenWhile c) b buffer = call (open_while c) b buffer
called (Add i) b buffer = call (add i) b buffer
called Close b buffer = call close b buffer

-- what is no value is answered 2, and changes nothing
abbrev pub made : Option Given → Build → List ℕ → Outcome
made (Some given) b buffer = called given b buffer
made None b buffer = outcome 2 b buffer
