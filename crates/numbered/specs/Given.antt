-- Instructions and comparisons as numbers and arrays.
use Rattle.std.specs.Prelude.{ℕ, zero, suc, ◌-◌, Bool, true, ◌&&◌, List, [], ◌∷◌, get_or}
use Rattle.words.specs.Signed.{signed_word}
use Rattle.machine.specs.Registers.{reg}
use Rattle.machine.specs.declared.Maddr.TheVariants.{MConst, MReg, MIndex}
use Rattle.machine.specs.declared.Operand.{Operand}
use Rattle.machine.specs.declared.Operand.TheVariants.{OConst, OReg, OMem}
use Rattle.code.specs.Records.{is_ins, is_ocmp, is_operand, operand_count}
use Rattle.numbered.specs.declared.operands.Numbers.{Numbers}

-- operand i, in the order of the kinds from 40 on
unfoldable pub operand_of : Numbers → ℕ → Operand
operand_of n i =
    let number = get_or n.numbers i 0 in
    let base = reg (get_or n.bases i 0) in
    let index = reg (get_or n.indexes i 0) in
    let scale = signed_word 16 (get_or n.scales i 0) in
    let offset = signed_word 64 (get_or n.offsets i 0) in
    get_or
    (OConst number ∷ OReg base ∷ OMem (MConst number) ∷ OMem (MReg base offset) ∷ OMem (MIndex base scale index offset) ∷ [])
    (get_or n.operands i 0 - 0x40)
    (OConst number)

-- all three
abbrev pub operands_of : Numbers → List Operand
operands_of n = operand_of n 0 ∷ operand_of n 1 ∷ operand_of n 2 ∷ []

-- operand i has an operand's kind
unfoldable pub operand_given : Numbers → ℕ → Bool
operand_given n i = is_operand (get_or n.operands i 0)

-- the first `count` operands do
unfoldable pub operands_given : ℕ → Numbers → Bool
operands_given zero n = true
operands_given (suc i) n = operands_given i n && operand_given n i

-- these are an instruction's numbers
unfoldable pub is_instruction : Numbers → Bool
is_instruction n = is_ins n.kind && operands_given (operand_count n.kind) n

-- these are a comparison's
unfoldable pub is_comparison : Numbers → Bool
is_comparison n = is_ocmp n.kind && operands_given (operand_count n.kind) n
