-- Writing: the bytes of a tree, and where its records land.
use Rattle.std.specs.Prelude.{ℕ, zero, suc, ◌+◌, ◌-◌, ◌*◌, ◌/◌, ◌%◌, ◌^◌, ◌≡◌, List, [], ◌∷◌, ◌++◌, ℤ, pos, negsuc, length}
use Rattle.machine.specs.declared.Maddr.{Maddr}
use Rattle.machine.specs.declared.Maddr.TheVariants.{MConst, MReg, MIndex}
use Rattle.machine.specs.declared.Operand.{Operand}
use Rattle.machine.specs.declared.Operand.TheVariants.{OConst, OReg, OMem}
use Rattle.code.specs.declared.tree.Instruction.{Instruction}
use Rattle.code.specs.declared.tree.Ocmp.{Ocmp}
use Rattle.code.specs.Layout.{Layout, layout, ocmp_layout, values}
use Rattle.code.specs.Tree.{Code, Ins, Block, IfElse, While, Codes, ⟨⟩, ◌∷ᶜ◌}

-- n bytes of a number, low byte first
unfoldable pub bytes_of : ℕ → ℕ → List ℕ
bytes_of zero x = []
bytes_of (suc n) x = x % 256 ∷ bytes_of n (x / 256)

-- n bytes of a signed number, two's complement
unfoldable pub signed_bytes : ℕ → ℤ → List ℕ
signed_bytes n (pos k) = bytes_of n k
signed_bytes n (negsuc k) = bytes_of n (2 ^ (8 * n) - 1 - k)

-- a memory operand's record
unfoldable pub bytes_of_maddr : Maddr → List ℕ
bytes_of_maddr (MConst n) = 0x42 ∷ bytes_of 8 n
bytes_of_maddr (MReg r offset) = 0x43 ∷ r.number ∷ signed_bytes 8 offset
bytes_of_maddr (MIndex base scale index offset) =
    0x44 ∷ base.number ∷ signed_bytes 2 scale ++ index.number ∷ signed_bytes 8 offset

-- an operand's record
unfoldable pub bytes_of_operand : Operand → List ℕ
bytes_of_operand (OConst n) = 0x40 ∷ bytes_of 8 n
bytes_of_operand (OReg r) = 0x41 ∷ r.number ∷ []
bytes_of_operand (OMem m) = bytes_of_maddr m

-- operand records in a row
unfoldable pub bytes_of_operands : List Operand → List ℕ
bytes_of_operands [] = []
bytes_of_operands (o ∷ os) = bytes_of_operand o ++ bytes_of_operands os

-- a kind byte, a body and operands
unfoldable pub bytes_of_record : Layout → List ℕ
bytes_of_record l = l.kind ∷ values l.body ++ bytes_of_operands l.operands

-- an instruction's record
unfoldable pub bytes_of_ins : Instruction → List ℕ
bytes_of_ins i = bytes_of_record (layout i)

-- a comparison's record
unfoldable pub bytes_of_ocmp : Ocmp → List ℕ
bytes_of_ocmp c = bytes_of_record (ocmp_layout c)

unfoldable mutual
  -- a code: a structure states the lengths of its parts in 4 bytes each
  pub bytes_of_code : Code → List ℕ
  bytes_of_code (Ins p i) = bytes_of_ins i
  bytes_of_code (Block p cs) = 0x20 ∷ bytes_of 4 (length (bytes_of_codes cs)) ++ bytes_of_codes cs
  bytes_of_code (IfElse p q c a b) =
      0x21
      ∷ bytes_of 4 (length (bytes_of_code a))
      ++ (bytes_of 4 (length (bytes_of_code b)) ++ (bytes_of_ocmp c ++ (bytes_of_code a ++ bytes_of_code b)))
  bytes_of_code (While p q c b) =
      0x22 ∷ bytes_of 4 (length (bytes_of_code b)) ++ (bytes_of_ocmp c ++ bytes_of_code b)

  -- codes in a row
  pub bytes_of_codes : Codes → List ℕ
  bytes_of_codes ⟨⟩ = []
  bytes_of_codes (c ∷ᶜ cs) = bytes_of_code c ++ bytes_of_codes cs

unfoldable mutual
  -- a code's places are those where its records land from `at` on
  pub PlacedAt : ℕ → Code → Type 0
  PlacedAt at (Ins p i) = p ≡ at
  PlacedAt at (Block p cs) = (p ≡ at) × PlacedAll (at + 5) cs
  PlacedAt at (IfElse p q c a b) =
      (p ≡ at)
      × (q ≡ at + 9)
      × PlacedAt (at + 9 + length (bytes_of_ocmp c)) a
      × PlacedAt (at + 9 + length (bytes_of_ocmp c) + length (bytes_of_code a)) b
  PlacedAt at (While p q c b) = (p ≡ at) × (q ≡ at + 5) × PlacedAt (at + 5 + length (bytes_of_ocmp c)) b

  -- codes in a row
  pub PlacedAll : ℕ → Codes → Type 0
  PlacedAll at ⟨⟩ = Unit {0}
  PlacedAll at (c ∷ᶜ cs) = PlacedAt at c × PlacedAll (at + length (bytes_of_code c)) cs

unfoldable mutual
  -- the same code with the places where its records land from `at` on
  pub place_code : ℕ → Code → Code
  place_code at (Ins p i) = Ins at i
  place_code at (Block p cs) = Block at (place_codes (at + 5) cs)
  place_code at (IfElse p q c a b) =
      IfElse at (at + 9) c (place_code (at + 9 + length (bytes_of_ocmp c)) a)
      (place_code (at + 9 + length (bytes_of_ocmp c) + length (bytes_of_code a)) b)
  place_code at (While p q c b) = While at (at + 5) c (place_code (at + 5 + length (bytes_of_ocmp c)) b)

  -- codes in a row
  pub place_codes : ℕ → Codes → Codes
  place_codes at ⟨⟩ = ⟨⟩
  place_codes at (c ∷ᶜ cs) = place_code at c ∷ᶜ place_codes (at + length (bytes_of_code c)) cs
