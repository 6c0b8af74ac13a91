-- Bytes that spell a number are its digits to the base 256, the lowest first: each law takes off the lowest and goes on with the rest.
use Rattle.std.proofs.Common.{◌≡◌, ℕ, zero, suc, ◌+◌, ◌*◌, ◌/◌, ◌%◌, ◌^◌, ◌<◌, refl, ap, ◌∙◌, ap₂, add_assoc, mul_assoc, mul_comm, div-lt_iff_lt-mul, suc-add, pow-suc, zero-add, mul-add, arith}
use Rattle.machine.specs.Bytes.{byte, spelled}

-- ---- the bytes of a number
pub byte_first : (v : ℕ) → byte 0 v ≡ v % 256
unfolding byte
byte_first v = refl

pub byte_next : (j v : ℕ) → byte (suc j) v ≡ byte j (v / 256)
unfolding byte
byte_next j v = refl

-- ---- the number of some bytes
pub spelled_one : (f : ℕ → ℕ) → spelled 1 f ≡ f 0
unfolding spelled
spelled_one f = omega arith

pub spelled_cong : (n : ℕ) (f g : ℕ → ℕ) → ((j : ℕ) → j < n → f j ≡ g j) → spelled n f ≡ spelled n g
unfolding spelled
spelled_cong zero f g e = refl
spelled_cong (suc n) f g e =
    ap₂ (λ (x y : ℕ). x + 256 * y) (e 0 (omega arith)) (spelled_cong n (λ j. f (suc j)) (λ j. g (suc j)) (λ j h. e (suc j) (omega arith)))

pub spelled_lt : (n : ℕ) (f : ℕ → ℕ) → ((j : ℕ) → f j < 256) → spelled n f < 256 ^ n
unfolding spelled
spelled_lt zero f h = omega arith
spelled_lt (suc n) f h = rw pow-suc (omega (arith, h 0, spelled_lt n (λ j. f (suc j)) (λ j. h (suc j))))

-- n bytes that are those of a number spell it
pub spelled_bytes : (n v : ℕ) (f : ℕ → ℕ) → v < 256 ^ n → ((j : ℕ) → j < n → f j ≡ byte j v) → spelled n f ≡ v
unfolding spelled byte
spelled_bytes zero v f h e = omega arith
spelled_bytes (suc n) v f h e =
    let low : f 0 ≡ v % 256 = e 0 (omega arith) in
    let high : spelled n (λ j. f (suc j)) ≡ v / 256 =
    spelled_bytes n (v / 256) (λ j. f (suc j)) ((div-lt_iff_lt-mul {k = 256} (omega arith)).1 (rw pow-suc at h)) (λ j l. e (suc j) (omega arith)) in
    rw (low, high) (omega arith)

-- m bytes, and the n behind them
pub spelled_split : (m n : ℕ) (f : ℕ → ℕ) → spelled (m + n) f ≡ spelled m f + 256 ^ m * spelled n (λ j. f (m + j))
unfolding spelled
spelled_split zero n f =
    rw (zero-add n) (spelled_cong n f (λ j. f (0 + j)) (λ j h. ap f (omega arith)) ∙ one (spelled n (λ j. f (0 + j))))
  where
    one : (s : ℕ) → s ≡ 0 + 1 * s
    one s = omega arith
spelled_split (suc m) n f =
    rw (suc-add, pow-suc)
    (ap (λ (s : ℕ). f 0 + 256 * s) (spelled_split m n (λ j. f (suc j)))
    ∙ regroup (f 0) (spelled m (λ j. f (suc j))) (256 ^ m) (spelled n (λ j. f (suc (m + j))))
    ∙ ap (λ (s : ℕ). f 0 + 256 * spelled m (λ j. f (suc j)) + 256 ^ m * 256 * s) (spelled_cong n _ _ (λ j h. rw suc-add)))
  where
    regroup : (a b p s : ℕ) → a + 256 * (b + p * s) ≡ a + 256 * b + p * 256 * s
    regroup a b p s = simp (mul-add, mul_assoc, mul_comm 256, add_assoc)
