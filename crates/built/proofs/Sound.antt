-- A sketch that calls make is sound: parts other than a Block's hold at most one code, every code is well formed and not too deep, and a code fits where a
-- structure stands open. It stays so with each call that is in order. Assumes nothing.
use Prim.Native.Nat.{ℕ, suc, ◌+◌, ◌-◌, ◌≤◌, ◌<◌}
use mathlib.Core.Path.{◌≡◌}
use mathlib.Core.Bool.{true, false≢true}
use native.Mathlib.Omega.{arith}
use Rattle.code.specs.declared.tree.Ocmp.{Ocmp}
use Rattle.code.specs.Tree.{Code, Block, IfElse, While, Codes, ⟨⟩, ◌∷ᶜ◌}
use Rattle.code.specs.Spells.{Nests, NestsAll}
use Rattle.code.specs.WellFormed.{WfOcmp, WfCode, WfCodes}
use Rattle.code.proofs.Joining.{join}
use Rattle.built.specs.Sketch.{Open, block, true_part, while_part, false_part, Sketch, codes, ◌▷◌, parts_open, none, some, code_fits, close_fits}
use Rattle.built.proofs.Parts.{size}
use Rattle.built.proofs.Steps.{put, add_code, closed}

-- ---- codes in a part

-- at most one
abbrev pub Few : Codes → Type 0
Few ⟨⟩ = Unit {0}
Few (c ∷ᶜ ⟨⟩) = Unit {0}
Few (c ∷ᶜ d ∷ᶜ cs) = ⊥

-- well formed, and nested at most d deep
pub record Legal (d : ℕ) (cs : Codes) : Type 0 where
  pub wf : WfCodes cs
  pub nests : NestsAll cs d

-- at most one in a part that is no Block's
abbrev pub FewIn : Open → Type 0
FewIn (block cs) = Unit {0}
FewIn (true_part c cs) = Few cs
FewIn (while_part c cs) = Few cs
FewIn (false_part c a cs) = Few cs

-- an open structure is well formed, its codes nested at most d deep
abbrev pub LegalIn : ℕ → Open → Type 0
LegalIn d (block cs) = Legal d cs
LegalIn d (true_part c cs) = WfOcmp c × Legal d cs
LegalIn d (while_part c cs) = WfOcmp c × Legal d cs
LegalIn d (false_part c a cs) = WfOcmp c × Legal d (a ∷ᶜ ⟨⟩) × Legal d cs

-- the levels that are left for the codes of the innermost part
abbrev pub levels : Sketch → ℕ
levels s = 32 - parts_open s

-- a structure stands open in a sketch
pub record StandsOpen (s : Sketch) (o : Open) : Type 0 where
  pub fits : code_fits s ≡ true
  pub shallow : parts_open s < 32
  pub few : FewIn o
  pub legal : LegalIn (levels (s ▷ o)) o

-- a sketch that calls make
abbrev pub Sound : Sketch → Type 0
Sound (codes cs) = Few cs × Legal 32 cs
Sound (s ▷ o) = Sound s × StandsOpen s o

pub sound_depth : (s : Sketch) → Sound s → parts_open s ≤ 32
unfolding parts_open
sound_depth (codes cs) h = omega arith
sound_depth (s ▷ o) h = omega arith

-- ---- a code is added
pub legal_none : (d : ℕ) → Legal d ⟨⟩
unfolding WfCodes NestsAll
legal_none d = record { wf = tt; nests = tt }

legal_last : {d : ℕ} (cs : Codes) (c : Code) → Legal d cs → Legal d (c ∷ᶜ ⟨⟩) → Legal d (join cs (c ∷ᶜ ⟨⟩))
unfolding join WfCodes NestsAll
legal_last ⟨⟩ c h k = k
legal_last (b ∷ᶜ cs) c h k =
    let w = legal_last cs c (record { wf = h.wf.1; nests = h.nests.1 }) k in
    record { wf = (h.wf.0, w.wf); nests = (h.nests.0, w.nests) }

legal_put : {d : ℕ} (o : Open) (c : Code) → LegalIn d o → Legal d (c ∷ᶜ ⟨⟩) → LegalIn d (put o c)
unfolding put
legal_put (block cs) c h k = legal_last cs c h k
legal_put (true_part o cs) c h k = (h.0, legal_last cs c h.1 k)
legal_put (while_part o cs) c h k = (h.0, legal_last cs c h.1 k)
legal_put (false_part o a cs) c h k = (h.0, h.1, legal_last cs c h.2 k)

few_first : (cs : Codes) (c : Code) → none cs ≡ true → Few (join cs (c ∷ᶜ ⟨⟩))
unfolding join none
few_first ⟨⟩ c h = tt
few_first (b ∷ᶜ cs) c h = absurd (false≢true h)

few_put : (s : Sketch) (o : Open) (c : Code) → code_fits (s ▷ o) ≡ true → FewIn (put o c)
unfolding put code_fits
few_put s (block cs) c h = tt
few_put s (true_part o cs) c h = few_first cs c h
few_put s (while_part o cs) c h = few_first cs c h
few_put s (false_part o a cs) c h = few_first cs c h

pub sound_add : (s : Sketch) (c : Code) → Sound s → code_fits s ≡ true → Legal (levels s) (c ∷ᶜ ⟨⟩) → Sound (add_code s c)
unfolding add_code code_fits parts_open
sound_add (codes cs) c h f l = (few_first cs c f, legal_last cs c h.1 l)
sound_add (s ▷ o) c h f l =
    (h.0, record { fits = h.1.fits; shallow = h.1.shallow; few = few_put s o c f; legal = legal_put o c h.1.legal l })

-- ---- a part is closed

-- a part that can be closed: a Block's, or another with its code
pub data Ready : Open → Type 0 where
  ready_block : {cs : Codes} → Ready (block cs)
  ready_true : {c : Ocmp} {a : Code} → Ready (true_part c (a ∷ᶜ ⟨⟩))
  ready_while : {c : Ocmp} {a : Code} → Ready (while_part c (a ∷ᶜ ⟨⟩))
  ready_false : {c : Ocmp} {a b : Code} → Ready (false_part c a (b ∷ᶜ ⟨⟩))

-- one code, where there is some and at most one
single : (P : Codes → Type 0) → ((a : Code) → P (a ∷ᶜ ⟨⟩)) → (cs : Codes) → Few cs → some cs ≡ true → P cs
unfolding some
single P f ⟨⟩ h e = absurd (false≢true e)
single P f (a ∷ᶜ ⟨⟩) h e = f a
single P f (a ∷ᶜ b ∷ᶜ cs) h e = absurd h

pub ready : (s : Sketch) (o : Open) → FewIn o → close_fits (s ▷ o) ≡ true → Ready o
unfolding close_fits
ready s (block cs) h e = ready_block
ready s (true_part c cs) h e = single (λ xs. Ready (true_part c xs)) (λ a. ready_true) cs h e
ready s (while_part c cs) h e = single (λ xs. Ready (while_part c xs)) (λ a. ready_while) cs h e
ready s (false_part c a cs) h e = single (λ xs. Ready (false_part c a xs)) (λ b. ready_false) cs h e

-- a structure that is complete is added where it stood open
sound_whole : (s : Sketch) {o : Open} (c : Code) → Sound (s ▷ o) → WfCode c → Nests c (levels s) → Sound (add_code s c)
unfolding WfCodes NestsAll
sound_whole s c h w n = sound_add s c h.0 h.1.fits (record { wf = (w, tt); nests = (n, tt) })

level_more : (s : Sketch) {o : Open} → Sound (s ▷ o) → levels s ≡ suc (levels (s ▷ o))
unfolding parts_open
level_more s h = omega arith

pub sound_close : (s : Sketch) {o : Open} → Sound (s ▷ o) → Ready o → Sound (closed s o)
unfolding closed WfCode WfCodes Nests NestsAll parts_open
sound_close s h (ready_block {cs}) =
    let l = h.1.legal in
    sound_whole s (Block (size s) cs) h l.wf (levels (s ▷ block cs), level_more s h, l.nests)
sound_close s h (ready_true {c} {a}) =
    let l = h.1.legal in
    (h.0, record { fits = h.1.fits; shallow = h.1.shallow; few = tt; legal = (l.0, l.1, legal_none _) })
sound_close s h (ready_while {c} {a}) =
    let l = h.1.legal in
    sound_whole s (While (size s) (size s + 5) c a) h (l.0, l.1.wf.0) (levels (s ▷ while_part c (a ∷ᶜ ⟨⟩)), level_more s h, l.1.nests.0)
sound_close s h (ready_false {c} {a} {b}) =
    let l = h.1.legal in
    let n = levels (s ▷ false_part c a (b ∷ᶜ ⟨⟩)) in
    sound_whole s (IfElse (size s) (size s + 9) c a b) h (l.0, l.1.wf.0, l.2.wf.0) (n, level_more s h, l.1.nests.0, l.2.nests.0)
