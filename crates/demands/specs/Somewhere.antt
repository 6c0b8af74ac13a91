-- What holds of an instruction or a comparison somewhere in a code.
use Rattle.std.specs.Prelude.{ℕ, ◌⊎◌}
use Rattle.code.specs.declared.tree.Instruction.{Instruction}
use Rattle.code.specs.declared.tree.Ocmp.{Ocmp}
use Rattle.code.specs.Tree.{Code, Ins, Block, IfElse, While, Codes, ⟨⟩, ◌∷ᶜ◌}

module _ (A : ℕ → Instruction → Type 0) (B : ℕ → Ocmp → Type 0) where
  abbrev mutual
    -- A of an instruction with its place, or B of a comparison with its place
    pub Somewhere : Code → Type 0
    Somewhere (Ins q i) = A q i
    Somewhere (Block q cs) = SomewhereIn cs
    Somewhere (IfElse r q c a b) = B q c ⊎ (Somewhere a ⊎ Somewhere b)
    Somewhere (While r q c b) = B q c ⊎ Somewhere b

    -- in one of these codes
    pub SomewhereIn : Codes → Type 0
    SomewhereIn ⟨⟩ = ⊥
    SomewhereIn (c ∷ᶜ cs) = Somewhere c ⊎ SomewhereIn cs
