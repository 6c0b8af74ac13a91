-- The families of instructions, each by its kinds: those of a destination and a source, of two quads, of a quad and an amount, and of a quad
-- and an operand.
use Rattle.std.specs.Prelude.{ℕ, zero, suc, Bool, false, cond, ◌&&◌, ◌||◌, List, [], ◌∷◌, eqb, length}
use Rattle.machine.specs.declared.Operand.{Operand}
use Rattle.code.specs.declared.tree.Instruction.{Instruction}
use Rattle.code.specs.Layout.{Layout, last_ins, ins_of, shape}

-- the choice of a kind among two
abbrev pub at_kind : {A : Type 0} → ℕ → ℕ → A → A → A
at_kind k n a b = cond (eqb k n) a b

-- a kind is one of some
abbrev pub among : List ℕ → ℕ → Bool
among [] k = false
among (n ∷ ns) k = eqb k n || among ns k

-- a layout of no body and two operands
abbrev two_laid : Layout → Bool
two_laid l = eqb (length l.body) 0 && eqb (length l.operands) 2

-- the kinds so laid out among n from k on
abbrev twos_from : ℕ → ℕ → List ℕ
twos_from zero k = []
twos_from (suc n) k = let rest = twos_from n (suc k) in cond (two_laid (shape k)) (k ∷ rest) rest

-- the kinds of a destination and a source
abbrev pub twos : List ℕ
twos = twos_from last_ins 0x01

-- a kind of a destination and a source
abbrev pub is_two : ℕ → Bool
is_two k = among twos k

-- the instruction of such a kind
unfoldable pub two_ins : ℕ → Operand → Operand → Instruction
two_ins k dst src = ins_of k [] (dst ∷ src ∷ [])

-- the kinds of two quads: Paddd, Pxor and Pcmpeqd
abbrev pub quads : List ℕ
quads = 0x0f ∷ 0x10 ∷ 0x14 ∷ []

-- a kind of two quads
abbrev pub is_quads : ℕ → Bool
is_quads k = among quads k

-- the instruction of such a kind
unfoldable pub quads_ins : ℕ → ℕ → ℕ → Instruction
quads_ins k dst src = ins_of k (dst ∷ src ∷ []) []

-- the kinds of a quad and an amount: Pslld and Psrld
abbrev pub shifts : List ℕ
shifts = 0x11 ∷ 0x12 ∷ []

-- a kind of a quad and an amount
abbrev pub is_shifts : ℕ → Bool
is_shifts k = among shifts k

-- the instruction of such a kind
unfoldable pub shifts_ins : ℕ → ℕ → ℕ → Instruction
shifts_ins k dst amount = ins_of k (dst ∷ amount ∷ []) []

-- the kinds of a quad and an operand: Pinsrd and Pinsrq
abbrev pub inserts : List ℕ
inserts = 0x16 ∷ 0x17 ∷ []

-- a kind of a quad and an operand
abbrev pub is_inserts : ℕ → Bool
is_inserts k = among inserts k

-- the instruction of such a kind
unfoldable pub inserts_ins : ℕ → ℕ → Operand → ℕ → Instruction
inserts_ins k dst src index = ins_of k (dst ∷ index ∷ []) (src ∷ [])
