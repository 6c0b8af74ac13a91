-- `precode`: what accepted bytes say, over `ins` and `ocmp`, which are declared in src/tree.rt. A place is the offset of a record's kind byte.
use Rattle.std.specs.Prelude.{ℕ}
use Rattle.code.specs.declared.tree.Instruction.{Instruction}
use Rattle.code.specs.declared.tree.Ocmp.{Ocmp}

-- `code` and `codes`, each record with its place; a comparison's place stands before it
mutual
  pub data Code : Type 0 where
    Ins : ℕ → Instruction → Code
    Block : ℕ → Codes → Code
    IfElse : ℕ → ℕ → Ocmp → Code → Code → Code
    While : ℕ → ℕ → Ocmp → Code → Code

  pub data Codes : Type 0 where
    ⟨⟩ : Codes
    ◌∷ᶜ◌ : Code → Codes → Codes

infixr 67 ◌∷ᶜ◌
