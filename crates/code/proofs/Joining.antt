-- Codes and then others are codes in a row, and their bytes stand in a row too. By induction over the first ones. Assumes nothing.
use Prim.Native.Nat.{ℕ}
use mathlib.Core.Path.{◌≡◌, refl, sym, ap, subst}
use mathlib.Core.List.{List, ◌++◌, append_assoc}
use Rattle.code.specs.Tree.{Codes, ⟨⟩, ◌∷ᶜ◌}
use Rattle.code.specs.Spells.{SpellsAll}
use Rattle.code.specs.Writer.{bytes_of_codes}

-- codes, and then others
unfoldable pub join : Codes → Codes → Codes
join ⟨⟩ ds = ds
join (c ∷ᶜ cs) ds = c ∷ᶜ join cs ds

pub join_none : (cs : Codes) → join cs ⟨⟩ ≡ cs
unfolding join
join_none ⟨⟩ = refl
join_none (c ∷ᶜ cs) = ap (◌∷ᶜ◌ c) (join_none cs)

pub join_assoc : (bs cs ds : Codes) → join (join bs cs) ds ≡ join bs (join cs ds)
unfolding join
join_assoc ⟨⟩ cs ds = refl
join_assoc (b ∷ᶜ bs) cs ds = ap (◌∷ᶜ◌ b) (join_assoc bs cs ds)

pub join_bytes : (cs ds : Codes) → bytes_of_codes (join cs ds) ≡ bytes_of_codes cs ++ bytes_of_codes ds
unfolding join bytes_of_codes
join_bytes ⟨⟩ ds = refl
join_bytes (c ∷ᶜ cs) ds = rw (join_bytes cs ds, append_assoc)

pub join_spelled : (cs ds : Codes) (bs : List ℕ) (at m e : ℕ) → SpellsAll cs bs at m → SpellsAll ds bs m e → SpellsAll (join cs ds) bs at e
unfolding join SpellsAll
join_spelled ⟨⟩ ds bs at m e h k = subst (λ (x : ℕ). SpellsAll ds bs x e) (sym h) k
join_spelled (c ∷ᶜ cs) ds bs at m e h k = (h.0, h.1, join_spelled cs ds bs h.0 m e h.2 k)
