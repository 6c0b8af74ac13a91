-- Every tree can be placed, and its bytes, its bounds and its depth do not depend on its places: so reading back what was
-- written gives the placed tree. Assumes nothing.
use Prim.Native.Nat.{ℕ, ◌+◌, ◌≤◌}
use mathlib.Core.Path.{◌≡◌, refl, sym, subst}
use mathlib.Core.List.{List}
use lib.ListN.{length}
use Rattle.code.specs.Tree.{Code, Ins, Block, IfElse, While, Codes, ⟨⟩, ◌∷ᶜ◌}
use Rattle.code.specs.Reader.{got, parse}
use Rattle.code.specs.Spells.{Nests, NestsAll}
use Rattle.code.specs.WellFormed.{WfCode, WfCodes}
use Rattle.code.specs.Writer.{bytes_of_ocmp, bytes_of_code, bytes_of_codes, PlacedAt, PlacedAll, place_code, place_codes}
use Rattle.code.proofs.ReadBack.{read_back}

mutual
  unfolding bytes_of_code bytes_of_codes place_code place_codes

  pub same_bytes : (c : Code) (at : ℕ) → bytes_of_code (place_code at c) ≡ bytes_of_code c
  same_bytes (Ins p i) at = refl
  same_bytes (Block p cs) at = rw (same_bytes_all cs (at + 5))
  same_bytes (IfElse p q c a b) at =
      rw (same_bytes a (at + 9 + length (bytes_of_ocmp c)), same_bytes b (at + 9 + length (bytes_of_ocmp c) + length (bytes_of_code a)))
  same_bytes (While p q c b) at = rw (same_bytes b (at + 5 + length (bytes_of_ocmp c)))

  pub same_bytes_all : (cs : Codes) (at : ℕ) → bytes_of_codes (place_codes at cs) ≡ bytes_of_codes cs
  same_bytes_all ⟨⟩ at = refl
  same_bytes_all (c ∷ᶜ cs) at = rw (same_bytes c at, same_bytes_all cs (at + length (bytes_of_code c)))

mutual
  unfolding PlacedAt PlacedAll place_code place_codes

  pub placed : (c : Code) (at : ℕ) → PlacedAt at (place_code at c)
  placed (Ins p i) at = refl
  placed (Block p cs) at = (refl, placed_all cs (at + 5))
  placed (IfElse p q c a b) at =
      let x = at + 9 + length (bytes_of_ocmp c) in (
        refl,
        refl,
        placed a x,
        subst (λ (bs : List ℕ). PlacedAt (x + length bs) (place_code (x + length (bytes_of_code a)) b)) (sym (same_bytes a x))
            (placed b (x + length (bytes_of_code a))),
      )
  placed (While p q c b) at = (refl, refl, placed b (at + 5 + length (bytes_of_ocmp c)))

  pub placed_all : (cs : Codes) (at : ℕ) → PlacedAll at (place_codes at cs)
  placed_all ⟨⟩ at = tt
  placed_all (c ∷ᶜ cs) at = (
    placed c at,
    subst (λ (bs : List ℕ). PlacedAll (at + length bs) (place_codes (at + length (bytes_of_code c)) cs)) (sym (same_bytes c at))
        (placed_all cs (at + length (bytes_of_code c))),
  )

mutual
  unfolding WfCode WfCodes place_code place_codes

  placed_wf : (c : Code) (at : ℕ) → WfCode c → WfCode (place_code at c)
  placed_wf (Ins p i) at w = w
  placed_wf (Block p cs) at w = placed_wf_all cs (at + 5) w
  placed_wf (IfElse p q c a b) at w = (w.0, placed_wf a _ w.1, placed_wf b _ w.2)
  placed_wf (While p q c b) at w = (w.0, placed_wf b _ w.1)

  placed_wf_all : (cs : Codes) (at : ℕ) → WfCodes cs → WfCodes (place_codes at cs)
  placed_wf_all ⟨⟩ at w = tt
  placed_wf_all (c ∷ᶜ cs) at w = (placed_wf c at w.0, placed_wf_all cs _ w.1)

mutual
  unfolding Nests NestsAll place_code place_codes

  placed_nests : (c : Code) (at d : ℕ) → Nests c d → Nests (place_code at c) d
  placed_nests (Ins p i) at d n = n
  placed_nests (Block p cs) at d n = (n.0, n.1, placed_nests_all cs (at + 5) n.0 n.2)
  placed_nests (IfElse p q c a b) at d n = (n.0, n.1, placed_nests a _ n.0 n.2, placed_nests b _ n.0 n.3)
  placed_nests (While p q c b) at d n = (n.0, n.1, placed_nests b _ n.0 n.2)

  placed_nests_all : (cs : Codes) (at d : ℕ) → NestsAll cs d → NestsAll (place_codes at cs) d
  placed_nests_all ⟨⟩ at d n = tt
  placed_nests_all (c ∷ᶜ cs) at d n = (placed_nests c at d n.0, placed_nests_all cs _ d n.1)

-- reading back what was written of any well-formed tree within the limits gives the tree at its places
pub read_back_placed :
    (c : Code) → WfCode c → Nests c 32 → length (bytes_of_code c) ≤ 16384 →
    parse (bytes_of_code c) ≡ got (place_code 0 c) (length (bytes_of_code c))
read_back_placed c w n l =
    let e = same_bytes c 0 in
    subst (λ (bs : List ℕ). parse bs ≡ got (place_code 0 c) (length bs)) e
    (read_back (place_code 0 c) (placed_wf c 0 w) (placed c 0) (placed_nests c 0 32 n)
    (subst (λ (bs : List ℕ). length bs ≤ 16384) (sym e) l))
