-- Words_s, Words.Two_s and Words.Four_s: pairs and quads, from the lowest part to the highest, and the numbers that they spell.
use Rattle.std.specs.Prelude.{ℕ, zero, suc, ◌+◌, ◌*◌, ◌/◌, ◌%◌, ◌^◌}

-- `two`
pub record Two (A : Type 0) : Type 0 where
  pub lo : A
  pub hi : A

-- `four`
pub record Four (A : Type 0) : Type 0 where
  pub lo0 : A
  pub lo1 : A
  pub hi2 : A
  pub hi3 : A

-- `Mktwo`
abbrev pub mktwo : {A : Type 0} → A → A → Two A
mktwo x0 x1 = record { lo = x0; hi = x1 }

-- `Mkfour`
abbrev pub mkfour : {A : Type 0} → A → A → A → A → Four A
mkfour x0 x1 x2 x3 = record { lo0 = x0; lo1 = x1; hi2 = x2; hi3 = x3 }

-- f of each part
abbrev pub four_map : {A B : Type 0} → (A → B) → Four A → Four B
four_map f x = mkfour (f x.lo0) (f x.lo1) (f x.hi2) (f x.hi3)

-- f of each part of x with that part of y
abbrev pub four_map2 : {A B : Type 0} → (A → A → B) → Four A → Four A → Four B
four_map2 f x y = mkfour (f x.lo0 y.lo0) (f x.lo1 y.lo1) (f x.hi2 y.hi2) (f x.hi3 y.hi3)

-- the quad of two pairs
abbrev pub two_two_to_four : {A : Type 0} → Two (Two A) → Four A
two_two_to_four x = mkfour x.lo.lo x.lo.hi x.hi.lo x.hi.hi

-- the two pairs of a quad
abbrev pub four_to_two_two : {A : Type 0} → Four A → Two (Two A)
four_to_two_two x = mktwo (mktwo x.lo0 x.lo1) (mktwo x.hi2 x.hi3)

-- the two `size`-bit parts of n
unfoldable pub nat_to_two : ℕ → ℕ → Two ℕ
nat_to_two size n = mktwo (n % 2 ^ size) ((n / 2 ^ size) % 2 ^ size)

-- the number of two `size`-bit parts
unfoldable pub two_to_nat : ℕ → Two ℕ → ℕ
two_to_nat size x = x.lo + x.hi * 2 ^ size

-- the four `size`-bit parts of n
unfoldable pub nat_to_four : ℕ → ℕ → Four ℕ
nat_to_four size n =
    mkfour (n % 2 ^ size) ((n / 2 ^ size) % 2 ^ size) ((n / 2 ^ (2 * size)) % 2 ^ size) ((n / 2 ^ (3 * size)) % 2 ^ size)

-- the part that the selector, 0 or 1, names
unfoldable pub two_select : {A : Type 0} → Two A → ℕ → A
two_select x zero = x.lo
two_select x (suc n) = x.hi

-- x with y at the part that the selector, 0 or 1, names
unfoldable pub two_insert : {A : Type 0} → Two A → A → ℕ → Two A
two_insert x y zero = mktwo y x.hi
two_insert x y (suc n) = mktwo x.lo y

-- the part that the selector, 0 to 3, names
unfoldable pub four_select : {A : Type 0} → Four A → ℕ → A
four_select x zero = x.lo0
four_select x (suc zero) = x.lo1
four_select x (suc (suc zero)) = x.hi2
four_select x (suc (suc (suc n))) = x.hi3

-- x with y at the part that the selector, 0 to 3, names
unfoldable pub four_insert : {A : Type 0} → Four A → A → ℕ → Four A
four_insert x y zero = mkfour y x.lo1 x.hi2 x.hi3
four_insert x y (suc zero) = mkfour x.lo0 y x.hi2 x.hi3
four_insert x y (suc (suc zero)) = mkfour x.lo0 x.lo1 y x.hi3
four_insert x y (suc (suc (suc n))) = mkfour x.lo0 x.lo1 x.hi2 y
