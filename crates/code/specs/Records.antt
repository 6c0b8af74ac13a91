-- Code records: a kind byte, a body whose length the kind fixes, then as many operand records as the kind fixes.
use Rattle.std.specs.Prelude.{ℕ, zero, suc, ◌+◌, ◌-◌, ◌*◌, Bool, ◌&&◌, ◌||◌, cond, List, [], ◌∷◌, eqb, leb, ℤ, length, get_or}
use Rattle.words.specs.Signed.{signed_word}
use Rattle.machine.specs.Registers.{reg}
use Rattle.machine.specs.Bytes.{spelled}
use Rattle.machine.specs.declared.Maddr.TheVariants.{MConst, MReg, MIndex}
use Rattle.machine.specs.declared.Operand.{Operand}
use Rattle.machine.specs.declared.Operand.TheVariants.{OConst, OReg, OMem}
use Rattle.code.specs.declared.tree.Instruction.{Instruction}
use Rattle.code.specs.declared.tree.Ocmp.{Ocmp}
use Rattle.code.specs.Layout.{Field, register, scale, last_ins, ins_of, ocmp_of, shape, ocmp_shape, numbers_from}

-- the kinds of a range
abbrev pub between : ℕ → ℕ → ℕ → Bool
between low high k = leb low k && leb k high

-- 01 to the last kind are the instructions
abbrev pub is_ins : ℕ → Bool
is_ins k = between 0x01 last_ins k

-- 20 to 22 the structures
abbrev pub is_structure : ℕ → Bool
is_structure k = between 0x20 0x22 k

-- a code is an instruction or a structure
abbrev pub is_code : ℕ → Bool
is_code k = is_ins k || is_structure k

-- 30 to 35 the comparisons
abbrev pub is_ocmp : ℕ → Bool
is_ocmp k = between 0x30 0x35 k

-- 40 to 44 the operands
abbrev pub is_operand : ℕ → Bool
is_operand k = between 0x40 0x44 k

-- the length of a kind's body
unfoldable pub body_length : ℕ → ℕ
body_length k =
    cond (is_ins k) (length (shape k).body)
    (cond (is_structure k) (get_or (4 ∷ 8 ∷ 4 ∷ []) (k - 0x20) 0)
    (cond (is_operand k) (get_or (8 ∷ 1 ∷ 8 ∷ 9 ∷ 12 ∷ []) (k - 0x40) 0) 0))

-- the number of a kind's operands
unfoldable pub operand_count : ℕ → ℕ
operand_count k = cond (is_ins k) (length (shape k).operands) (cond (is_ocmp k) (length (ocmp_shape k).operands) 0)

-- the fields of a kind that are judged, in field order: of an MIndex the base, the scale and the index
unfoldable pub judged_fields : ℕ → List Field
judged_fields k =
    cond (is_ins k) (numbers_from 1 (shape k).body)
    (cond (eqb k 0x41 || eqb k 0x43) (register 1 ∷ []) (cond (eqb k 0x44) (register 1 ∷ scale 2 ∷ register 4 ∷ []) []))

-- the byte at a place
abbrev pub byte_at : List ℕ → ℕ → ℕ
byte_at bs at = get_or bs at 0

-- the number that n bytes spell, low byte first
unfoldable pub number_at : ℕ → List ℕ → ℕ → ℕ
number_at n bs at = spelled n (λ j. byte_at bs (at + j))

-- the signed number that n bytes spell, two's complement
unfoldable pub signed_at : ℕ → List ℕ → ℕ → ℤ
signed_at n bs at = signed_word (8 * n) (number_at n bs at)

-- the operands, from 40 on, of the bytes behind a kind byte
abbrev operand_forms : List ℕ → ℕ → List Operand
operand_forms bs at =
    OConst (number_at 8 bs at)
    ∷ OReg (reg (byte_at bs at))
    ∷ OMem (MConst (number_at 8 bs at))
    ∷ OMem (MReg (reg (byte_at bs at)) (signed_at 8 bs (at + 1)))
    ∷ OMem (MIndex (reg (byte_at bs at)) (signed_at 2 bs (at + 1)) (reg (byte_at bs (at + 3))) (signed_at 8 bs (at + 4)))
    ∷ []

-- the operand whose record stands at a place
unfoldable pub operand_at : List ℕ → ℕ → Operand
operand_at bs at = get_or (operand_forms bs (at + 1)) (byte_at bs at - 0x40) (OConst 0)

-- the place behind the kind and the body of a record
unfoldable pub behind : List ℕ → ℕ → ℕ
behind bs at = at + 1 + body_length (byte_at bs at)

-- n bytes from a place on
abbrev pub bytes_at : ℕ → List ℕ → ℕ → List ℕ
bytes_at zero bs at = []
bytes_at (suc n) bs at = byte_at bs at ∷ bytes_at n bs (at + 1)

-- n operands from a place on
unfoldable pub operands_at : ℕ → List ℕ → ℕ → List Operand
operands_at zero bs at = []
operands_at (suc n) bs at = operand_at bs at ∷ operands_at n bs (behind bs at)

-- the instruction whose record stands at a place
unfoldable pub ins_at : List ℕ → ℕ → Instruction
ins_at bs at =
    let k = byte_at bs at in ins_of k (bytes_at (body_length k) bs (at + 1)) (operands_at (operand_count k) bs (behind bs at))

-- the comparison whose record stands at a place
unfoldable pub ocmp_at : List ℕ → ℕ → Ocmp
ocmp_at bs at = let k = byte_at bs at in ocmp_of k (operands_at (operand_count k) bs (behind bs at))
