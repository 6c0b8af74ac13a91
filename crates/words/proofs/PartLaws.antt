-- Two parts below 2 ^ size are the digits of a number in that base: cutting a number into parts and putting the parts together undo each other.
use Rattle.std.proofs.Common.{◌≡◌, ℕ, zero, suc, ◌+◌, ◌*◌, ◌/◌, ◌%◌, ◌^◌, ◌<◌, refl, ap, ◌∙◌, mod-lt, mod-eq_of_lt, add_comm, pow_pos, pow-add}
use lib.Arith.{digits_lt}
use lib.Pow.{recompose, high, low}
use Rattle.words.specs.Parts.{Mapped}
use Rattle.words.specs.Words.{Two, Four, mktwo, mkfour, four_map, two_two_to_four, four_to_two_two, nat_to_two, two_to_nat, nat_to_four, two_select, four_select}

pub nat_to_two_lo_lt : (size n : ℕ) → (nat_to_two size n).lo < 2 ^ size
unfolding nat_to_two
nat_to_two_lo_lt size n = mod-lt n (pow_pos size)

pub nat_to_two_hi_lt : (size n : ℕ) → (nat_to_two size n).hi < 2 ^ size
unfolding nat_to_two
nat_to_two_hi_lt size n = mod-lt (n / 2 ^ size) (pow_pos size)

pub two_to_nat_lt : (size : ℕ) (x : Two ℕ) → x.lo < 2 ^ size → x.hi < 2 ^ size → two_to_nat size x < 2 ^ (size + size)
unfolding two_to_nat
two_to_nat_lt size x hl hh = rw (pow-add, add_comm x.lo) (digits_lt hh hl)

-- the number of a number's parts
pub two_to_nat_of : (size n : ℕ) → n < 2 ^ (size + size) → two_to_nat size (nat_to_two size n) ≡ n
unfolding two_to_nat nat_to_two
two_to_nat_of size n h = add_comm (n % 2 ^ size) (n / 2 ^ size % 2 ^ size * 2 ^ size) ∙ recompose size size h

-- the parts of a number made of parts
pub nat_to_two_of : (size : ℕ) (x : Two ℕ) → x.lo < 2 ^ size → x.hi < 2 ^ size → nat_to_two size (two_to_nat size x) ≡ x
unfolding two_to_nat nat_to_two
nat_to_two_of size x hl hh =
    ap (λ (n : ℕ). mktwo (n % 2 ^ size) (n / 2 ^ size % 2 ^ size)) (add_comm x.lo (x.hi * 2 ^ size))
    ∙ (λ i. mktwo (low x.hi size hl i) (upper i))
  where
    upper : (x.hi * 2 ^ size + x.lo) / 2 ^ size % 2 ^ size ≡ x.hi
    upper = ap (λ (n : ℕ). n % 2 ^ size) (high x.hi size hl) ∙ mod-eq_of_lt hh

-- quads of equal parts
pub four_eq : {A : Type 0} {a b c d a' b' c' d' : A} → a ≡ a' → b ≡ b' → c ≡ c' → d ≡ d' → mkfour a b c d ≡ mkfour a' b' c' d'
four_eq p q r s i = mkfour (p i) (q i) (r i) (s i)

-- where each part is f of a part, the quad is that of f
pub map_is :
    {A B : Type 0} (R : A → B → Type 0) (f : A → B) (x : Four A) (y : Four B) → ((a : A) (b : B) → R a b → b ≡ f a) → Mapped R x y → y ≡ four_map f x
map_is R f x y is m = four_eq (is _ _ m.lo0_is) (is _ _ m.lo1_is) (is _ _ m.hi2_is) (is _ _ m.hi3_is)

pub four_of_twos : {A : Type 0} (x : Four A) → two_two_to_four (four_to_two_two x) ≡ x
four_of_twos x = refl

pub twos_of_four : {A : Type 0} (x : Two (Two A)) → four_to_two_two (two_two_to_four x) ≡ x
twos_of_four x = refl

-- what holds of each part holds of the selected one
pub two_select_all : {A : Type 0} (P : A → Type 0) (x : Two A) (k : ℕ) → P x.lo → P x.hi → P (two_select x k)
unfolding two_select
two_select_all P x zero pl ph = pl
two_select_all P x (suc k) pl ph = ph

pub four_select_all : {A : Type 0} (P : A → Type 0) (x : Four A) (k : ℕ) → P x.lo0 → P x.lo1 → P x.hi2 → P x.hi3 → P (four_select x k)
unfolding four_select
four_select_all P x zero p0 p1 p2 p3 = p0
four_select_all P x (suc zero) p0 p1 p2 p3 = p1
four_select_all P x (suc (suc zero)) p0 p1 p2 p3 = p2
four_select_all P x (suc (suc (suc k))) p0 p1 p2 p3 = p3

-- each of the four parts, by its selector
pub nat_to_four_lt : (size n k : ℕ) → four_select (nat_to_four size n) k < 2 ^ size
unfolding nat_to_four
nat_to_four_lt size n k =
    four_select_all (λ (part : ℕ). part < 2 ^ size) (nat_to_four size n) k
    (mod-lt n (pow_pos size))
    (mod-lt (n / 2 ^ size) (pow_pos size))
    (mod-lt (n / 2 ^ (2 * size)) (pow_pos size))
    (mod-lt (n / 2 ^ (3 * size)) (pow_pos size))
