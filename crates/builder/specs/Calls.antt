-- The calls of the builder, and the bytes that each adds.
use Rattle.std.specs.Prelude.{ℕ, zero, suc, ◌<◌, ◌^◌, cond, List, [], ◌∷◌, ◌++◌, map, leb, ℤ}
use Rattle.machine.specs.Operands.{is_scale}
use Rattle.machine.specs.declared.Maddr.{Maddr}
use Rattle.machine.specs.declared.Maddr.TheVariants.{MConst, MReg, MIndex}
use Rattle.machine.specs.declared.Operand.{Operand}
use Rattle.machine.specs.declared.Operand.TheVariants.{OConst, OReg, OMem}
use Rattle.code.specs.declared.tree.Instruction.{Instruction}
use Rattle.code.specs.declared.tree.Ocmp.{Ocmp}
use Rattle.code.specs.Layout.{Byte, number, amount, Layout, layout, ocmp_layout}
use Rattle.code.specs.WellFormed.{Signed, All}
use Rattle.code.specs.Writer.{bytes_of, bytes_of_ins, bytes_of_ocmp}

-- a call after `begin`
pub data Call : Type 0 where
  open_block : Call
  open_if_else open_while : Ocmp → Call
  add : Instruction → Call
  close : Call

-- the bytes that a call adds: a structure is opened with 0 for its lengths
unfoldable pub bytes_of_call : Call → List ℕ
bytes_of_call open_block = 0x20 ∷ bytes_of 4 0
bytes_of_call (open_if_else c) = 0x21 ∷ bytes_of 4 0 ++ (bytes_of 4 0 ++ bytes_of_ocmp c)
bytes_of_call (open_while c) = 0x22 ∷ bytes_of 4 0 ++ bytes_of_ocmp c
bytes_of_call (add i) = bytes_of_ins i
bytes_of_call close = []

-- ---- the fields that are judged: the number of the first that is wrong, in the order of the record's bytes, and 0 where none is

-- the first of two numbers that is not 0
unfoldable pub first_of : ℕ → ℕ → ℕ
first_of zero m = m
first_of (suc n) m = suc n

-- 4: a register or an xmm number is above 15
unfoldable pub number_trouble : ℕ → ℕ
number_trouble n = cond (leb n 15) 0 4

-- 7: a scale is none of the four
unfoldable pub scale_trouble : ℤ → ℕ
scale_trouble z = cond (is_scale z) 0 7

-- of a byte of a body
unfoldable pub byte_trouble : Byte → ℕ
byte_trouble (number n) = number_trouble n
byte_trouble (amount n) = 0

-- of a memory operand
unfoldable pub maddr_trouble : Maddr → ℕ
maddr_trouble (MConst n) = 0
maddr_trouble (MReg r offset) = number_trouble r.number
maddr_trouble (MIndex base scale index offset) =
    first_of (number_trouble base.number) (first_of (scale_trouble scale) (number_trouble index.number))

-- of an operand
unfoldable pub operand_trouble : Operand → ℕ
operand_trouble (OConst n) = 0
operand_trouble (OReg r) = number_trouble r.number
operand_trouble (OMem m) = maddr_trouble m

-- of a body
unfoldable pub body_trouble : List Byte → ℕ
body_trouble [] = 0
body_trouble (b ∷ bs) = first_of (byte_trouble b) (body_trouble bs)

-- of operands in a row
unfoldable pub operands_trouble : List Operand → ℕ
operands_trouble [] = 0
operands_trouble (o ∷ os) = first_of (operand_trouble o) (operands_trouble os)

-- of a record
unfoldable pub record_trouble : Layout → ℕ
record_trouble l = first_of (body_trouble l.body) (operands_trouble l.operands)

-- of what a call adds
unfoldable pub call_trouble : Call → ℕ
call_trouble open_block = 0
call_trouble (open_if_else c) = record_trouble (ocmp_layout c)
call_trouble (open_while c) = record_trouble (ocmp_layout c)
call_trouble (add i) = record_trouble (layout i)
call_trouble close = 0

-- ---- what every call of the types meets: a register or xmm number is some byte, a scale some number of 16 bits

-- a memory operand
unfoldable pub MaddrTyped : Maddr → Type 0
MaddrTyped (MConst n) = n < 2 ^ 64
MaddrTyped (MReg r offset) = (r.number < 256) × Signed 64 offset
MaddrTyped (MIndex base scale index offset) = (base.number < 256) × Signed 16 scale × (index.number < 256) × Signed 64 offset

-- an operand
unfoldable pub OperandTyped : Operand → Type 0
OperandTyped (OConst n) = n < 2 ^ 64
OperandTyped (OReg r) = r.number < 256
OperandTyped (OMem m) = MaddrTyped m

-- a byte of a body
unfoldable pub ByteTyped : Byte → Type 0
ByteTyped (number n) = n < 256
ByteTyped (amount n) = n < 256

-- a record's body and operands
unfoldable pub RecordTyped : Layout → Type 0
RecordTyped l = All (map ByteTyped l.body ++ map OperandTyped l.operands)

-- a call
unfoldable pub CallTyped : Call → Type 0
CallTyped open_block = Unit {0}
CallTyped (open_if_else c) = RecordTyped (ocmp_layout c)
CallTyped (open_while c) = RecordTyped (ocmp_layout c)
CallTyped (add i) = RecordTyped (layout i)
CallTyped close = Unit {0}
