-- A list of numbers that is read from the front grows by the number that stands next.
use Prim.Native.Nat.{ℕ, zero, suc, ◌+◌, ◌*◌, ◌≤◌, ◌<◌}
use mathlib.Core.Path.{◌≡◌, refl, sym, ap, ◌∙◌}
use mathlib.Core.List.{List, [], ◌∷◌, ◌++◌}
use native.Mathlib.Omega.{arith}
use native.Mathlib.Nat.{mul-add, mul-one}
use native.Mathlib.Numerals.{add-one}
use lib.ListN.{length, set, length-set, take}
use lib.Seq.{take-suc-set}
use Rattle.code.specs.Records.{number_at}
use Rattle.job.specs.Job.{numbers}

-- one stride more
strides_more : (stride i : ℕ) → stride * (i + 1) ≡ stride * i + stride
strides_more stride i = mul-add stride i 1 ∙ ap (◌+◌ (stride * i)) (mul-one stride)

numbers_snoc :
    (size stride i : ℕ) (bs : List ℕ) (at : ℕ)
    → numbers size stride (suc i) bs at ≡ numbers size stride i bs at ++ (number_at size bs (at + stride * i) ∷ [])
unfolding numbers
numbers_snoc size stride zero bs at = ap (λ (k : ℕ). number_at size bs k ∷ []) (omega arith)
numbers_snoc size stride (suc i) bs at =
    let e : at + stride + stride * i ≡ at + stride * suc i =
    let more = strides_more stride i in let one = ap (◌*◌ stride) (add-one i) in omega arith
    in
    ap (λ (l : List ℕ). number_at size bs at ∷ l)
    (numbers_snoc size stride i bs (at + stride)
    ∙ ap (λ (k : ℕ). numbers size stride i bs (at + stride) ++ (number_at size bs k ∷ [])) e)

-- a loop that reads numbers into the list `to`, which was to₀: the first i are read
pub record Taken (size stride : ℕ) (bs : List ℕ) (from : ℕ) (to₀ : List ℕ) (i : ℕ) (to : List ℕ) : Type 0 where
  pub within : i ≤ length to₀
  pub long : length to ≡ length to₀
  pub got : take i to ≡ numbers size stride i bs from

pub taken_none : (size stride : ℕ) (bs : List ℕ) (from : ℕ) (to : List ℕ) → Taken size stride bs from to 0 to
unfolding numbers
taken_none size stride bs from to = record { within = omega arith; long = refl; got = refl }

pub taken_more :
    {size stride from i v : ℕ} {bs to₀ to : List ℕ} → Taken size stride bs from to₀ i to
    → i < length to₀ → v ≡ number_at size bs (from + stride * i) → Taken size stride bs from to₀ (i + 1) (set to i v)
taken_more {size} {stride} {from} {i} {v} {bs} {to} r h e =
    record {
      within = omega arith;
      long = length-set to i v ∙ r.long;
      got =
          ap (λ (k : ℕ). take k (set to i v)) (add-one i)
          ∙ take-suc-set to i v (omega (arith, r.long))
          ∙ ap (λ (xs : List ℕ). xs ++ (v ∷ [])) r.got
          ∙ ap (λ (k : ℕ). numbers size stride i bs from ++ (k ∷ [])) e
          ∙ sym (numbers_snoc size stride i bs from)
          ∙ ap (λ (k : ℕ). numbers size stride k bs from) (sym (add-one i));
    }
