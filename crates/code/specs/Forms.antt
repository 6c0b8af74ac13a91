-- What is decoded of an operand's record in place.
use Rattle.machine.specs.declared.Operand.{Operand}
use Rattle.machine.specs.declared.Operand.TheVariants.{OConst, OReg, OMem}
use Rattle.code.specs.declared.records.Form.{Form}
use Rattle.code.specs.declared.records.Form.TheVariants.{Const, Register, Memory}

-- a constant and a register, and that it is memory
abbrev pub form_of : Operand → Form
form_of (OConst n) = Const n
form_of (OReg r) = Register r
form_of (OMem m) = Memory
