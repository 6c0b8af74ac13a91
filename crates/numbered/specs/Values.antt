-- The instruction or the comparison that numbers give, if they give one.
use Rattle.std.specs.Prelude.{Option, Some, None, cond}
use Rattle.code.specs.declared.tree.Instruction.{Instruction}
use Rattle.code.specs.declared.tree.Ocmp.{Ocmp}
use Rattle.code.specs.Layout.{ins_of, ocmp_of}
use Rattle.numbered.specs.declared.operands.Numbers.{Numbers}
use Rattle.numbered.specs.Given.{operands_of, is_instruction, is_comparison}

-- an instruction
unfoldable pub instruction_given : Numbers → Option Instruction
instruction_given n = cond (is_instruction n) (Some (ins_of n.kind n.body (operands_of n))) None

-- a comparison
unfoldable pub comparison_given : Numbers → Option Ocmp
comparison_given n = cond (is_comparison n) (Some (ocmp_of n.kind (operands_of n))) None
