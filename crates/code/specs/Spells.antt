-- The bytes from `at` to e spell a code, or a list of codes: by recursion on the tree.
use Rattle.std.specs.Prelude.{ℕ, zero, suc, ◌+◌, ◌≤◌, ◌<◌, ◌≡◌, Bool, true, List, [], ◌∷◌, length}
use Rattle.machine.specs.Operands.{is_scale}
use Rattle.code.specs.declared.tree.Instruction.{Instruction}
use Rattle.code.specs.declared.tree.Ocmp.{Ocmp}
use Rattle.code.specs.Layout.{Field, register, scale}
use Rattle.code.specs.Tree.{Code, Ins, Block, IfElse, While, Codes, ⟨⟩, ◌∷ᶜ◌}
use Rattle.code.specs.Records.{is_ins, is_ocmp, is_operand, operand_count, judged_fields, byte_at, number_at, signed_at, behind, ins_at, ocmp_at}

-- each register or xmm number of these fields is at most 15, and each scale is one of the four
abbrev pub Fields : List Field → List ℕ → ℕ → Type 0
Fields [] bs at = Unit {0}
Fields (register f ∷ fs) bs at = (byte_at bs (at + f) ≤ 15) × Fields fs bs at
Fields (scale f ∷ fs) bs at = (is_scale (signed_at 2 bs (at + f)) ≡ true) × Fields fs bs at

-- a record of an allowed kind, its operands left aside, lies before e
pub record IsRecord (allowed : ℕ → Bool) (bs : List ℕ) (at e : ℕ) : Type 0 where
  pub kind : allowed (byte_at bs at) ≡ true
  pub inside : behind bs at ≤ e
  pub fields : Fields (judged_fields (byte_at bs at)) bs at

-- an operand record lies in the bytes
abbrev pub OperandBytes : List ℕ → ℕ → Type 0
OperandBytes bs at = IsRecord is_operand bs at (length bs)

-- n operand records stand from `at` to e
abbrev pub Operands : ℕ → List ℕ → ℕ → ℕ → Type 0
Operands zero bs at e = at ≡ e
Operands (suc n) bs at e = IsRecord is_operand bs at e × Operands n bs (behind bs at) e

-- n operand records stand from `at` on, inside the bytes
abbrev pub OperandsFrom : ℕ → List ℕ → ℕ → Type 0
OperandsFrom zero bs at = at ≤ length bs
OperandsFrom (suc n) bs at = OperandBytes bs at × OperandsFrom n bs (behind bs at)

-- a record of an allowed kind stands from `at` to e, with its operands
pub record Stands (allowed : ℕ → Bool) (bs : List ℕ) (at e : ℕ) : Type 0 where
  pub head : IsRecord allowed bs at e
  pub operands : Operands (operand_count (byte_at bs at)) bs (behind bs at) e

-- an instruction at p stands from `at` to e
pub record IsIns (p : ℕ) (i : Instruction) (bs : List ℕ) (at e : ℕ) : Type 0 where
  pub place : p ≡ at
  pub says : i ≡ ins_at bs at
  pub stands : Stands is_ins bs at e

-- a Block at p, up to its codes
pub record IsBlock (p : ℕ) (bs : List ℕ) (at e : ℕ) : Type 0 where
  pub place : p ≡ at
  pub kind : byte_at bs at ≡ 0x20
  pub ends : e ≡ at + 5 + number_at 4 bs (at + 1)

-- a comparison of a structure at q, whose parts begin at m
pub record IsOcmp (q : ℕ) (c : Ocmp) (bs : List ℕ) (at m : ℕ) : Type 0 where
  pub place : q ≡ at
  pub says : c ≡ ocmp_at bs at
  pub stands : Stands is_ocmp bs at m

-- an IfElse at p whose parts begin at m
pub record IsIfElse (p : ℕ) (bs : List ℕ) (at m e : ℕ) : Type 0 where
  pub place : p ≡ at
  pub kind : byte_at bs at ≡ 0x21
  pub ends : e ≡ m + number_at 4 bs (at + 1) + number_at 4 bs (at + 5)

-- a While at p whose part begins at m
pub record IsWhile (p : ℕ) (bs : List ℕ) (at m e : ℕ) : Type 0 where
  pub place : p ≡ at
  pub kind : byte_at bs at ≡ 0x22
  pub ends : e ≡ m + number_at 4 bs (at + 1)

unfoldable mutual
  -- a code is spelled from `at` to e
  pub Spells : Code → List ℕ → ℕ → ℕ → Type 0
  Spells (Ins p i) bs at e = IsIns p i bs at e
  Spells (Block p cs) bs at e = IsBlock p bs at e × SpellsAll cs bs (at + 5) e
  Spells (IfElse p q c a b) bs at e =
      (m : ℕ)
      × IsOcmp q c bs (at + 9) m
      × IsIfElse p bs at m e
      × Spells a bs m (m + number_at 4 bs (at + 1))
      × Spells b bs (m + number_at 4 bs (at + 1)) e
  Spells (While p q c b) bs at e = (m : ℕ) × IsOcmp q c bs (at + 5) m × IsWhile p bs at m e × Spells b bs m e

  -- codes in a row are
  pub SpellsAll : Codes → List ℕ → ℕ → ℕ → Type 0
  SpellsAll ⟨⟩ bs at e = at ≡ e
  SpellsAll (c ∷ᶜ cs) bs at e = (m : ℕ) × Spells c bs at m × SpellsAll cs bs m e

unfoldable mutual
  -- a code nests at most d deep
  pub Nests : Code → ℕ → Type 0
  Nests (Ins p i) d = 1 ≤ d
  Nests (Block p cs) d = (d' : ℕ) × (d ≡ suc d') × NestsAll cs d'
  Nests (IfElse p q c a b) d = (d' : ℕ) × (d ≡ suc d') × Nests a d' × Nests b d'
  Nests (While p q c b) d = (d' : ℕ) × (d ≡ suc d') × Nests b d'

  -- each of the codes in a row does
  pub NestsAll : Codes → ℕ → Type 0
  NestsAll ⟨⟩ d = Unit {0}
  NestsAll (c ∷ᶜ cs) d = Nests c d × NestsAll cs d

-- all the bytes spell a code, within the limits: 1 to 16,384 bytes, and 32 deep
pub record Parsed (bs : List ℕ) (c : Code) : Type 0 where
  pub spells : Spells c bs 0 (length bs)
  pub nests : Nests c 32
  pub some_bytes : 0 < length bs
  pub not_too_many : length bs ≤ 16384
