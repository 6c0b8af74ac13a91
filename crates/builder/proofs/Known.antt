-- The number of a wrong field is 4 or 7, so that a refusal of a field holds the rule `Register` or `Scale`. Assumes nothing.
use Prim.Native.Nat.{ℕ, zero, suc}
use mathlib.Core.Path.{◌≡◌, refl}
use mathlib.Core.Bool.{Bool, true, false, cond}
use mathlib.Core.List.{List, [], ◌∷◌}
use mathlib.Core.Logic.{◌⊎◌, inl, inr}
use lib.Dec.{leb}
use lib.IntN.{ℤ}
use Rattle.machine.specs.Operands.{is_scale}
use Rattle.machine.specs.declared.Maddr.{Maddr}
use Rattle.machine.specs.declared.Maddr.TheVariants.{MConst, MReg, MIndex}
use Rattle.machine.specs.declared.Operand.{Operand}
use Rattle.machine.specs.declared.Operand.TheVariants.{OConst, OReg, OMem}
use Rattle.code.specs.Layout.{Byte, number, amount, Layout}
use Rattle.builder.specs.Calls.{first_of, number_trouble, scale_trouble, byte_trouble, maddr_trouble, operand_trouble, body_trouble, operands_trouble, record_trouble}

-- a number that a wrong field has, or 0
abbrev pub Known : ℕ → Type 0
Known n = (n ≡ 0) ⊎ ((n ≡ 4) ⊎ (n ≡ 7))

number_known : (n : ℕ) → Known (number_trouble n)
unfolding number_trouble
number_known n = go (leb n 15)
  where
    go : (t : Bool) → Known (cond t 0 4)
    go true = inl refl
    go false = inr (inl refl)

scale_known : (z : ℤ) → Known (scale_trouble z)
unfolding scale_trouble
scale_known z = go (is_scale z)
  where
    go : (t : Bool) → Known (cond t 0 7)
    go true = inl refl
    go false = inr (inr refl)

both_known : (n m : ℕ) → Known n → Known m → Known (first_of n m)
unfolding first_of
both_known zero m h k = k
both_known (suc n) m h k = h

maddr_known : (m : Maddr) → Known (maddr_trouble m)
unfolding maddr_trouble
maddr_known (MConst n) = inl refl
maddr_known (MReg r offset) = number_known r.number
maddr_known (MIndex base scale index offset) = search (both_known, number_known, scale_known)

operand_known : (o : Operand) → Known (operand_trouble o)
unfolding operand_trouble
operand_known (OConst n) = inl refl
operand_known (OReg r) = number_known r.number
operand_known (OMem m) = maddr_known m

byte_known : (b : Byte) → Known (byte_trouble b)
unfolding byte_trouble
byte_known (number n) = number_known n
byte_known (amount n) = inl refl

body_known : (bs : List Byte) → Known (body_trouble bs)
unfolding body_trouble
body_known [] = inl refl
body_known (b ∷ bs) = both_known _ _ (byte_known b) (body_known bs)

operands_known : (os : List Operand) → Known (operands_trouble os)
unfolding operands_trouble
operands_known [] = inl refl
operands_known (o ∷ os) = both_known _ _ (operand_known o) (operands_known os)

pub record_known : (l : Layout) → Known (record_trouble l)
unfolding record_trouble
record_known l = both_known _ _ (body_known l.body) (operands_known l.operands)
