-- The layout of a record: its kind, the bytes of its body and its operands. Reading, writing and the bounds of instructions and comparisons go
-- by it.
use Rattle.std.specs.Prelude.{ℕ, suc, ◌-◌, List, [], ◌∷◌, map, get_or}
use Rattle.machine.specs.declared.Operand.{Operand}
use Rattle.machine.specs.declared.Operand.TheVariants.{OConst}
use Rattle.code.specs.declared.tree.Instruction.{Instruction}
use Rattle.code.specs.declared.tree.Instruction.TheVariants.{Mov64, Add64, AddLea64, AddCarry64, Adcx64, Adox64, Sub64, Mul64, Mulx64, IMul64, Xor64, And64, Shr64, Shl64, Paddd, Pxor, Pslld, Psrld, Pshufd, Pcmpeqd, Pextrq, Pinsrd, Pinsrq, VPSLLDQ, Popcnt64, Lzcnt64, Tzcnt64}
use Rattle.code.specs.declared.tree.Ocmp.{Ocmp}
use Rattle.code.specs.declared.tree.Ocmp.TheVariants.{OEq, ONe, OLe, OGe, OLt, OGt}

-- a byte of a body: a register or xmm number, or an amount or imm8
pub data Byte : Type 0 where
  number amount : ℕ → Byte

-- what a record is made of, its body and its operands in field order
pub record Layout : Type 0 where
  pub kind : ℕ
  pub body : List Byte
  pub operands : List Operand

-- a layout by its parts
abbrev pub laid : ℕ → List Byte → List Operand → Layout
laid k bytes os = record { kind = k; body = bytes; operands = os }

-- the layout of each instruction
abbrev pub layout : Instruction → Layout
layout (Mov64 dst src) = laid 0x01 [] (dst ∷ src ∷ [])
layout (Add64 dst src) = laid 0x02 [] (dst ∷ src ∷ [])
layout (AddLea64 dst src1 src2) = laid 0x03 [] (dst ∷ src1 ∷ src2 ∷ [])
layout (AddCarry64 dst src) = laid 0x04 [] (dst ∷ src ∷ [])
layout (Adcx64 dst src) = laid 0x05 [] (dst ∷ src ∷ [])
layout (Adox64 dst src) = laid 0x06 [] (dst ∷ src ∷ [])
layout (Sub64 dst src) = laid 0x07 [] (dst ∷ src ∷ [])
layout (Mul64 src) = laid 0x08 [] (src ∷ [])
layout (Mulx64 dst_hi dst_lo src) = laid 0x09 [] (dst_hi ∷ dst_lo ∷ src ∷ [])
layout (IMul64 dst src) = laid 0x0a [] (dst ∷ src ∷ [])
layout (Xor64 dst src) = laid 0x0b [] (dst ∷ src ∷ [])
layout (And64 dst src) = laid 0x0c [] (dst ∷ src ∷ [])
layout (Shr64 dst amt) = laid 0x0d [] (dst ∷ amt ∷ [])
layout (Shl64 dst amt) = laid 0x0e [] (dst ∷ amt ∷ [])
layout (Paddd dst src) = laid 0x0f (number dst ∷ number src ∷ []) []
layout (Pxor dst src) = laid 0x10 (number dst ∷ number src ∷ []) []
layout (Pslld dst amt) = laid 0x11 (number dst ∷ amount amt ∷ []) []
layout (Psrld dst amt) = laid 0x12 (number dst ∷ amount amt ∷ []) []
layout (Pshufd dst src permutation) = laid 0x13 (number dst ∷ number src ∷ amount permutation ∷ []) []
layout (Pcmpeqd dst src) = laid 0x14 (number dst ∷ number src ∷ []) []
layout (Pextrq dst src index) = laid 0x15 (number src ∷ amount index ∷ []) (dst ∷ [])
layout (Pinsrd dst src index) = laid 0x16 (number dst ∷ amount index ∷ []) (src ∷ [])
layout (Pinsrq dst src index) = laid 0x17 (number dst ∷ amount index ∷ []) (src ∷ [])
layout (VPSLLDQ dst src count) = laid 0x18 (number dst ∷ number src ∷ amount count ∷ []) []
layout (Popcnt64 dst src) = laid 0x19 [] (dst ∷ src ∷ [])
layout (Lzcnt64 dst src) = laid 0x1a [] (dst ∷ src ∷ [])
layout (Tzcnt64 dst src) = laid 0x1b [] (dst ∷ src ∷ [])

-- the layout of each comparison
abbrev pub ocmp_layout : Ocmp → Layout
ocmp_layout (OEq a b) = laid 0x30 [] (a ∷ b ∷ [])
ocmp_layout (ONe a b) = laid 0x31 [] (a ∷ b ∷ [])
ocmp_layout (OLe a b) = laid 0x32 [] (a ∷ b ∷ [])
ocmp_layout (OGe a b) = laid 0x33 [] (a ∷ b ∷ [])
ocmp_layout (OLt a b) = laid 0x34 [] (a ∷ b ∷ [])
ocmp_layout (OGt a b) = laid 0x35 [] (a ∷ b ∷ [])

-- what a byte says
abbrev pub value : Byte → ℕ
value (number n) = n
value (amount n) = n

-- the bytes of a body as they are written
abbrev pub values : List Byte → List ℕ
values bytes = map value bytes

-- a field that is judged, by its offset from the kind byte: a register or an xmm number, or a scale
pub data Field : Type 0 where
  register scale : ℕ → Field

-- the register and xmm numbers of a body, its first byte at f
abbrev pub numbers_from : ℕ → List Byte → List Field
numbers_from f [] = []
numbers_from f (number n ∷ bytes) = register f ∷ numbers_from (suc f) bytes
numbers_from f (amount n ∷ bytes) = numbers_from (suc f) bytes

-- the instructions in the order of their kinds, of a body's bytes and the operands, both in field order
abbrev pub ins_forms : (ℕ → ℕ) → (ℕ → Operand) → List Instruction
ins_forms b o =
    Mov64 (o 0) (o 1)
    ∷ Add64 (o 0) (o 1)
    ∷ AddLea64 (o 0) (o 1) (o 2)
    ∷ AddCarry64 (o 0) (o 1)
    ∷ Adcx64 (o 0) (o 1)
    ∷ Adox64 (o 0) (o 1)
    ∷ Sub64 (o 0) (o 1)
    ∷ Mul64 (o 0)
    ∷ Mulx64 (o 0) (o 1) (o 2)
    ∷ IMul64 (o 0) (o 1)
    ∷ Xor64 (o 0) (o 1)
    ∷ And64 (o 0) (o 1)
    ∷ Shr64 (o 0) (o 1)
    ∷ Shl64 (o 0) (o 1)
    ∷ Paddd (b 0) (b 1)
    ∷ Pxor (b 0) (b 1)
    ∷ Pslld (b 0) (b 1)
    ∷ Psrld (b 0) (b 1)
    ∷ Pshufd (b 0) (b 1) (b 2)
    ∷ Pcmpeqd (b 0) (b 1)
    ∷ Pextrq (o 0) (b 0) (b 1)
    ∷ Pinsrd (b 0) (o 0) (b 1)
    ∷ Pinsrq (b 0) (o 0) (b 1)
    ∷ VPSLLDQ (b 0) (b 1) (b 2)
    ∷ Popcnt64 (o 0) (o 1)
    ∷ Lzcnt64 (o 0) (o 1)
    ∷ Tzcnt64 (o 0) (o 1)
    ∷ []

-- the last kind of an instruction: the list above goes from 01 to it
abbrev pub last_ins : ℕ
last_ins = 0x1b

-- the instruction of a kind, of its body's bytes and its operands
abbrev pub ins_of : ℕ → List ℕ → List Operand → Instruction
ins_of k bytes os = get_or (ins_forms (λ i. get_or bytes i 0) (λ i. get_or os i (OConst 0))) (k - 0x01) (Mul64 (OConst 0))

-- the comparisons in the order of their kinds, of two operands
abbrev ocmp_forms : Operand → Operand → List Ocmp
ocmp_forms a b = OEq a b ∷ ONe a b ∷ OLe a b ∷ OGe a b ∷ OLt a b ∷ OGt a b ∷ []

-- the comparison of a kind, of its operands
abbrev pub ocmp_of : ℕ → List Operand → Ocmp
ocmp_of k os = get_or (ocmp_forms (get_or os 0 (OConst 0)) (get_or os 1 (OConst 0))) (k - 0x30) (OEq (OConst 0) (OConst 0))

-- the layout of an instruction of a kind, its fields left open
abbrev pub shape : ℕ → Layout
shape k = layout (ins_of k [] [])

-- and of a comparison
abbrev pub ocmp_shape : ℕ → Layout
ocmp_shape k = ocmp_layout (ocmp_of k [])
