-- Operands and exact addresses.
use Rattle.std.specs.Prelude.{◌≡◌, ℕ, ◌^◌, ◌<◌, Bool, true, false, cond, not, ◌||◌, List, [], ◌∷◌, ℤ, pos, negsuc, ◌+ℤ◌, ◌*ℤ◌, ◌==◌, nat_le, Option as Maybe, Some, None}
use Rattle.std.proofs.Math.Option.{Option, none, some}
use Rattle.machine.specs.Registers.{reg_at, Rsp}
use Rattle.machine.specs.declared.Maddr.{Maddr}
use Rattle.machine.specs.declared.Maddr.TheVariants.{MConst, MReg, MIndex}
use Rattle.machine.specs.declared.Operand.{Operand}
use Rattle.machine.specs.declared.Operand.TheVariants.{OConst, OReg, OMem}

-- base + scale * index + offset over the whole numbers
abbrev pub exact : ℕ → ℤ → ℕ → ℤ → ℤ
exact base scale index offset = pos base +ℤ scale *ℤ pos index +ℤ offset

-- the scales that machine code has: 1, 2, 4 and 8
abbrev pub is_scale : ℤ → Bool
is_scale (pos n) = n == 1 || (n == 2 || (n == 4 || n == 8))
is_scale (negsuc n) = false

-- the fields of a memory operand are right: its registers are numbered below 16, and its scale is one of the four
abbrev pub RightFields : Maddr → Type 0
RightFields (MConst n) = Unit {0}
RightFields (MReg r offset) = r.number < 16
RightFields (MIndex base scale index offset) = (base.number < 16) × (is_scale scale ≡ true) × (index.number < 16)

-- the exact address of a memory operand
unfoldable pub eval_maddr : Maddr → List ℕ → ℤ
eval_maddr (MConst n) regs = pos n
eval_maddr (MReg r offset) regs = pos (reg_at regs r) +ℤ offset
eval_maddr (MIndex base scale index offset) regs = exact (reg_at regs base) scale (reg_at regs index) offset

-- whether an exact address is below 0 or above 2^64 - 1
unfoldable pub wild : ℤ → Bool
wild (pos n) = nat_le (2 ^ 64) n
wild (negsuc n) = true

-- the word of an exact address that is not wild
unfoldable pub in_range : ℤ → Option ℕ
in_range (pos n) = cond (wild (pos n)) none (some n)
in_range (negsuc n) = none

-- what the search for an address says of it
abbrev pub word_of : Maybe ℕ → Option ℕ
word_of (Some w) = some w
word_of None = none

-- whether an operand is memory at a wild address
unfoldable pub wild_operand : Operand → List ℕ → Bool
wild_operand (OConst n) regs = false
wild_operand (OReg r) regs = false
wild_operand (OMem m) regs = wild (eval_maddr m regs)

-- the number of an operand's check: 36 where it is memory at a wild address, and n otherwise
abbrev pub wild_or : ℕ → Operand → List ℕ → ℕ
wild_or n o regs = cond (wild_operand o regs) 36 n

-- the number of a check of sources that are judged from left to right: that of the first which cannot be read; 31 where none fails
unfoldable pub unread_number : (Operand → Bool) → List ℕ → List Operand → ℕ
unread_number valid regs [] = 31
unread_number valid regs (o ∷ os) = cond (valid o) (unread_number valid regs os) (wild_or 31 o regs)

-- a constant and Rsp are no destination
unfoldable pub valid_dst : Operand → Bool
valid_dst (OConst n) = false
valid_dst (OReg r) = not (r.number == Rsp.number)
valid_dst (OMem m) = true
