-- Registers and xmm words after a store: the four words of an xmm are four stores at different indexes, so each reads back as what was
-- stored last there.
use Rattle.std.proofs.Common.{◌≡◌, ℕ, zero, suc, ◌+◌, ◌*◌, ◌^◌, ◌<◌, List, [], ◌∷◌, length, get_or, set, ◌∙◌, arith, length-set, get_or-set_other, get_or-set_same}
use Rattle.words.specs.Words.{Four}
use Rattle.words.proofs.LaneLaws.{Quad}
use Rattle.machine.specs.Registers.{xmm_at, set_xmm, WordsBelow}

-- ---- four words from k on
module _ (ws : List ℕ) (k a b c d : ℕ) where
  four_set : List ℕ
  four_set = set (set (set (set ws k a) (k + 1) b) (k + 2) c) (k + 3) d

  four_other : (m : ℕ) → (m ≡ k → ⊥) → (m ≡ k + 1 → ⊥) → (m ≡ k + 2 → ⊥) → (m ≡ k + 3 → ⊥) → get_or four_set m 0 ≡ get_or ws m 0
  unfolding four_set
  four_other m n0 n1 n2 n3 =
      get_or-set_other (set (set (set ws k a) (k + 1) b) (k + 2) c) (k + 3) m d 0 n3
      ∙ get_or-set_other (set (set ws k a) (k + 1) b) (k + 2) m c 0 n2
      ∙ get_or-set_other (set ws k a) (k + 1) m b 0 n1
      ∙ get_or-set_other ws k m a 0 n0

  module _ (h : k + 3 < length ws) where
    four_0 : get_or four_set k 0 ≡ a
    unfolding four_set
    four_0 =
        get_or-set_other (set (set (set ws k a) (k + 1) b) (k + 2) c) (k + 3) k d 0 (λ e. omega arith)
        ∙ get_or-set_other (set (set ws k a) (k + 1) b) (k + 2) k c 0 (λ e. omega arith)
        ∙ get_or-set_other (set ws k a) (k + 1) k b 0 (λ e. omega arith)
        ∙ get_or-set_same ws k a 0 (omega arith)

    four_1 : get_or four_set (k + 1) 0 ≡ b
    unfolding four_set
    four_1 =
        get_or-set_other (set (set (set ws k a) (k + 1) b) (k + 2) c) (k + 3) (k + 1) d 0 (λ e. omega arith)
        ∙ get_or-set_other (set (set ws k a) (k + 1) b) (k + 2) (k + 1) c 0 (λ e. omega arith)
        ∙ get_or-set_same (set ws k a) (k + 1) b 0 (rw length-set (omega arith))

    four_2 : get_or four_set (k + 2) 0 ≡ c
    unfolding four_set
    four_2 =
        get_or-set_other (set (set (set ws k a) (k + 1) b) (k + 2) c) (k + 3) (k + 2) d 0 (λ e. omega arith)
        ∙ get_or-set_same (set (set ws k a) (k + 1) b) (k + 2) c 0 (simp length-set (omega arith))

    four_3 : get_or four_set (k + 3) 0 ≡ d
    unfolding four_set
    four_3 = get_or-set_same (set (set (set ws k a) (k + 1) b) (k + 2) c) (k + 3) d 0 (simp length-set (omega arith))

-- ---- an xmm after a store
pub xmm_same : (ws : List ℕ) (i : ℕ) (q : Four ℕ) → 4 * i + 3 < length ws → xmm_at (set_xmm ws i q) i ≡ q
unfolding xmm_at set_xmm four_set
xmm_same ws i q h =
    rw (
      four_0 ws (4 * i) q.lo0 q.lo1 q.hi2 q.hi3 h,
      four_1 ws (4 * i) q.lo0 q.lo1 q.hi2 q.hi3 h,
      four_2 ws (4 * i) q.lo0 q.lo1 q.hi2 q.hi3 h,
      four_3 ws (4 * i) q.lo0 q.lo1 q.hi2 q.hi3 h,
    )

pub xmm_other : (ws : List ℕ) (i j : ℕ) (q : Four ℕ) → (j ≡ i → ⊥) → xmm_at (set_xmm ws i q) j ≡ xmm_at ws j
unfolding xmm_at set_xmm four_set
xmm_other ws i j q n =
    rw (
      at 0 (omega arith) (4 * j) (omega arith),
      at 1 (omega arith) (4 * j + 1) (omega arith),
      at 2 (omega arith) (4 * j + 2) (omega arith),
      at 3 (omega arith) (4 * j + 3) (omega arith),
    )
  where
    at : (r : ℕ) → r < 4 → (m : ℕ) → m ≡ 4 * j + r
        → get_or (set (set (set (set ws (4 * i) q.lo0) (4 * i + 1) q.lo1) (4 * i + 2) q.hi2) (4 * i + 3) q.hi3) m 0 ≡ get_or ws m 0
    at r h m e =
        four_other ws (4 * i) q.lo0 q.lo1 q.hi2 q.hi3 m (λ z. n (omega arith)) (λ z. n (omega arith)) (λ z. n (omega arith))
        (λ z. n (omega arith))

pub length_set_xmm : (ws : List ℕ) (i : ℕ) (q : Four ℕ) → length (set_xmm ws i q) ≡ length ws
unfolding set_xmm
length_set_xmm ws i q = simp length-set

-- ---- words stay words
-- what holds of all the words and of a stored one holds after the store
pub all_set : (P : ℕ → Type 0) (ws : List ℕ) (i v : ℕ) → P v → ((j : ℕ) → P (get_or ws j 0)) → (j : ℕ) → P (get_or (set ws i v) j 0)
all_set P [] i v h f j = f j
all_set P (w ∷ ws) zero v h f zero = h
all_set P (w ∷ ws) zero v h f (suc j) = f (suc j)
all_set P (w ∷ ws) (suc i) v h f zero = f zero
all_set P (w ∷ ws) (suc i) v h f (suc j) = all_set P ws i v h (λ k. f (suc k)) j

pub words_set : (n bound : ℕ) (ws : List ℕ) (i v : ℕ) → v < bound → WordsBelow n bound ws → WordsBelow n bound (set ws i v)
words_set n bound ws i v h w = record { many = rw length-set w.many; small = all_set (λ (x : ℕ). x < bound) ws i v h w.small }

pub words_set_xmm : (n : ℕ) (ws : List ℕ) (i : ℕ) (q : Four ℕ) → Quad q → WordsBelow n (2 ^ 32) ws → WordsBelow n (2 ^ 32) (set_xmm ws i q)
unfolding set_xmm
words_set_xmm n ws i q h w =
    words_set n (2 ^ 32) _ (4 * i + 3) q.hi3 h.hi3_lt
    (words_set n (2 ^ 32) _ (4 * i + 2) q.hi2 h.hi2_lt
    (words_set n (2 ^ 32) _ (4 * i + 1) q.lo1 h.lo1_lt (words_set n (2 ^ 32) ws (4 * i) q.lo0 h.lo0_lt w)))

-- an xmm of words is a quad of words
pub xmm_below : (n : ℕ) (ws : List ℕ) (i : ℕ) → WordsBelow n (2 ^ 32) ws → Quad (xmm_at ws i)
unfolding xmm_at
xmm_below n ws i w =
    record { lo0_lt = w.small (4 * i); lo1_lt = w.small (4 * i + 1); hi2_lt = w.small (4 * i + 2); hi3_lt = w.small (4 * i + 3) }
