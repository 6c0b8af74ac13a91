-- Bytes spell one code at most: at a depth that holds both, reading gives each of them. Assumes nothing.
use Prim.Native.Nat.{ℕ, zero, suc, ◌+◌, ◌≤◌}
use mathlib.Core.Path.{◌≡◌, refl, sym, ◌∙◌}
use mathlib.Core.List.{List}
use native.Mathlib.Omega.{arith}
use Rattle.code.specs.Tree.{Code, Ins, Block, IfElse, While, Codes, ⟨⟩, ◌∷ᶜ◌}
use Rattle.code.specs.Spells.{Spells, SpellsAll, Nests, NestsAll}
use Rattle.code.proofs.Passing.{got_same}
use Rattle.code.proofs.Complete.{code_complete, codes_complete}

-- a depth that holds a code
mutual
  depth : Code → ℕ
  depth (Ins p i) = 1
  depth (Block p cs) = suc (depths cs)
  depth (IfElse p q c a b) = suc (depth a + depth b)
  depth (While p q c b) = suc (depth b)

  depths : Codes → ℕ
  depths ⟨⟩ = 0
  depths (c ∷ᶜ cs) = depth c + depths cs

mutual
  unfolding Nests NestsAll depth depths

  nests : (c : Code) (d : ℕ) → depth c ≤ d → Nests c d
  nests (Ins p i) d l = l
  nests (Block p cs) zero l = absurd (omega arith)
  nests (Block p cs) (suc d) l = (d, refl, all_nest cs d (omega arith))
  nests (IfElse p q c a b) zero l = absurd (omega arith)
  nests (IfElse p q c a b) (suc d) l = (d, refl, nests a d (omega arith), nests b d (omega arith))
  nests (While p q c b) zero l = absurd (omega arith)
  nests (While p q c b) (suc d) l = (d, refl, nests b d (omega arith))

  all_nest : (cs : Codes) (d : ℕ) → depths cs ≤ d → NestsAll cs d
  all_nest ⟨⟩ d l = tt
  all_nest (c ∷ᶜ cs) d l = (nests c d (omega arith), all_nest cs d (omega arith))

-- two codes that are spelled from one place on are equal, and so are their ends
pub one_code :
    (c c' : Code) (bs : List ℕ) (at e e' : ℕ) → Spells c bs at e → Spells c' bs at e' → (c ≡ c') × (e ≡ e')
one_code c c' bs at e e' s t =
    let a = code_complete c (depth c + depth c') bs (e + e') at e s (nests c _ (omega arith)) (omega arith) in
    let b = code_complete c' (depth c + depth c') bs (e + e') at e' t (nests c' _ (omega arith)) (omega arith) in
    got_same c c' e e' (sym a ∙ b)

-- two lists of codes that are spelled by the same bytes are equal
pub one_list : (cs cs' : Codes) (bs : List ℕ) (at e : ℕ) → SpellsAll cs bs at e → SpellsAll cs' bs at e → cs ≡ cs'
one_list cs cs' bs at e s t =
    let a = codes_complete cs (depths cs + depths cs') e bs e at s (all_nest cs _ (omega arith)) (omega arith) in
    let b = codes_complete cs' (depths cs + depths cs') e bs e at t (all_nest cs' _ (omega arith)) (omega arith) in
    (got_same cs cs' e e (sym a ∙ b)).0
