-- What was built so far: the open structures, each with the codes that are complete in its open part; its calls and its bytes.
use Rattle.std.specs.Prelude.{ℕ, ◌+◌, Bool, true, false, List, [], ◌∷◌, ◌++◌, length}
use Rattle.code.specs.declared.tree.Ocmp.{Ocmp}
use Rattle.code.specs.Tree.{Code, Ins, Block, IfElse, While, Codes, ⟨⟩, ◌∷ᶜ◌}
use Rattle.code.specs.Writer.{bytes_of, bytes_of_ocmp, bytes_of_code, bytes_of_codes}
use Rattle.builder.specs.Calls.{Call, open_block, open_if_else, open_while, add, close}

-- an open structure, with the codes that are complete in its open part; behind `false_part` stands the true part first
pub data Open : Type 0 where
  block : Codes → Open
  true_part while_part : Ocmp → Codes → Open
  false_part : Ocmp → Code → Codes → Open

-- what was built so far: codes with nothing open, or a structure that is open within what was built before
pub data Sketch : Type 0 where
  codes : Codes → Sketch
  ◌▷◌ : Sketch → Open → Sketch

infixl 66 ◌▷◌
-- ---- bytes

-- an open structure's bytes: 0 for each length that counts something not yet closed
unfoldable pub bytes_of_open : Open → List ℕ
bytes_of_open (block cs) = 0x20 ∷ bytes_of 4 0 ++ bytes_of_codes cs
bytes_of_open (true_part c cs) = 0x21 ∷ bytes_of 4 0 ++ (bytes_of 4 0 ++ (bytes_of_ocmp c ++ bytes_of_codes cs))
bytes_of_open (while_part c cs) = 0x22 ∷ bytes_of 4 0 ++ (bytes_of_ocmp c ++ bytes_of_codes cs)
bytes_of_open (false_part c a cs) =
    0x21
    ∷ bytes_of 4 (length (bytes_of_code a))
    ++ (bytes_of 4 0 ++ (bytes_of_ocmp c ++ (bytes_of_code a ++ bytes_of_codes cs)))

-- all bytes so far
unfoldable pub bytes_so_far : Sketch → List ℕ
bytes_so_far (codes cs) = bytes_of_codes cs
bytes_so_far (s ▷ o) = bytes_so_far s ++ bytes_of_open o

-- ---- calls

unfoldable mutual
  -- the calls that build a code
  pub calls_of_code : Code → List Call
  calls_of_code (Ins p i) = add i ∷ []
  calls_of_code (Block p cs) = open_block ∷ calls_of_codes cs ++ close ∷ []
  calls_of_code (IfElse p q c a b) = open_if_else c ∷ calls_of_code a ++ (close ∷ calls_of_code b ++ close ∷ [])
  calls_of_code (While p q c b) = open_while c ∷ calls_of_code b ++ close ∷ []

  -- codes in a row
  pub calls_of_codes : Codes → List Call
  calls_of_codes ⟨⟩ = []
  calls_of_codes (c ∷ᶜ cs) = calls_of_code c ++ calls_of_codes cs

-- the calls of an open structure
unfoldable pub calls_of_open : Open → List Call
calls_of_open (block cs) = open_block ∷ calls_of_codes cs
calls_of_open (true_part c cs) = open_if_else c ∷ calls_of_codes cs
calls_of_open (while_part c cs) = open_while c ∷ calls_of_codes cs
calls_of_open (false_part c a cs) = open_if_else c ∷ calls_of_code a ++ close ∷ calls_of_codes cs

-- all calls so far
unfoldable pub calls_so_far : Sketch → List Call
calls_so_far (codes cs) = calls_of_codes cs
calls_so_far (s ▷ o) = calls_so_far s ++ calls_of_open o

-- ---- what fits

-- how many parts are open
unfoldable pub parts_open : Sketch → ℕ
parts_open (codes cs) = 0
parts_open (s ▷ o) = parts_open s + 1

-- no code stands there
unfoldable pub none : Codes → Bool
none ⟨⟩ = true
none (c ∷ᶜ cs) = false

-- one stands there
unfoldable pub some : Codes → Bool
some ⟨⟩ = false
some (c ∷ᶜ cs) = true

-- a code fits: as the outermost where there is none, in a Block, and in another part that has none
unfoldable pub code_fits : Sketch → Bool
code_fits (codes cs) = none cs
code_fits (s ▷ block cs) = true
code_fits (s ▷ true_part c cs) = none cs
code_fits (s ▷ while_part c cs) = none cs
code_fits (s ▷ false_part c a cs) = none cs

-- a close fits: of a Block, and of another part that has its code
unfoldable pub close_fits : Sketch → Bool
close_fits (codes cs) = false
close_fits (s ▷ block cs) = true
close_fits (s ▷ true_part c cs) = some cs
close_fits (s ▷ while_part c cs) = some cs
close_fits (s ▷ false_part c a cs) = some cs
