-- The bounds that every tree of accepted bytes meets: its fields are those of the records.
use Rattle.std.specs.Prelude.{ℕ, ◌-◌, ◌<◌, ◌^◌, ◌≡◌, true, List, [], ◌∷◌, ◌++◌, map, ℤ, pos, negsuc, get_or}
use Rattle.machine.specs.Operands.{is_scale}
use Rattle.machine.specs.declared.reg.Reg.{Reg}
use Rattle.machine.specs.declared.Maddr.{Maddr}
use Rattle.machine.specs.declared.Maddr.TheVariants.{MConst, MReg, MIndex}
use Rattle.machine.specs.declared.Operand.{Operand}
use Rattle.machine.specs.declared.Operand.TheVariants.{OConst, OReg, OMem}
use Rattle.code.specs.declared.tree.Instruction.{Instruction}
use Rattle.code.specs.declared.tree.Ocmp.{Ocmp}
use Rattle.code.specs.Layout.{Byte, number, amount, Layout, layout, ocmp_layout}
use Rattle.code.specs.Tree.{Code, Ins, Block, IfElse, While, Codes, ⟨⟩, ◌∷ᶜ◌}

-- a list of bytes
abbrev pub Bytes : List ℕ → Type 0
Bytes bs = (i : ℕ) → get_or bs i 0 < 256

-- a whole number of n bits, two's complement: negsuc k is -(k + 1)
abbrev pub Signed : ℕ → ℤ → Type 0
Signed n (pos k) = k < 2 ^ (n - 1)
Signed n (negsuc k) = k < 2 ^ (n - 1)

-- a register or an xmm number
abbrev pub Number : ℕ → Type 0
Number n = n < 16

-- a register
abbrev pub WfReg : Reg → Type 0
WfReg r = Number r.number

-- a scale that machine code has
abbrev pub WfScale : ℤ → Type 0
WfScale z = is_scale z ≡ true

-- a memory operand
abbrev pub WfMaddr : Maddr → Type 0
WfMaddr (MConst n) = n < 2 ^ 64
WfMaddr (MReg r offset) = WfReg r × Signed 64 offset
WfMaddr (MIndex base scale index offset) = WfReg base × WfScale scale × WfReg index × Signed 64 offset

-- an operand
abbrev pub WfOperand : Operand → Type 0
WfOperand (OConst n) = n < 2 ^ 64
WfOperand (OReg r) = WfReg r
WfOperand (OMem m) = WfMaddr m

-- a byte of a body
abbrev pub WfByte : Byte → Type 0
WfByte (number n) = Number n
WfByte (amount n) = n < 256

-- all of some claims
abbrev pub All : List (Type 0) → Type 0
All [] = Unit {0}
All (A ∷ []) = A
All (A ∷ B ∷ As) = A × All (B ∷ As)

-- a record's body and operands, in field order
abbrev pub WfLayout : Layout → Type 0
WfLayout l = All (map WfByte l.body ++ map WfOperand l.operands)

-- an instruction
unfoldable pub WfIns : Instruction → Type 0
WfIns i = WfLayout (layout i)

-- a comparison
unfoldable pub WfOcmp : Ocmp → Type 0
WfOcmp c = WfLayout (ocmp_layout c)

unfoldable mutual
  -- a code
  pub WfCode : Code → Type 0
  WfCode (Ins p i) = WfIns i
  WfCode (Block p cs) = WfCodes cs
  WfCode (IfElse p q c a b) = WfOcmp c × WfCode a × WfCode b
  WfCode (While p q c b) = WfOcmp c × WfCode b

  -- codes in a row
  pub WfCodes : Codes → Type 0
  WfCodes ⟨⟩ = Unit {0}
  WfCodes (c ∷ᶜ cs) = WfCode c × WfCodes cs
