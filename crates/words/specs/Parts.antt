-- The pairs and quads of the code, as those of the definitions.
use Rattle.std.specs.Prelude.{ℕ}
use Rattle.words.specs.Words.{Two, Four, mktwo, mkfour}
use Rattle.words.specs.declared.parts.Two as Pair
use Rattle.words.specs.declared.parts.Four as Quad

-- the code's `Double32`, `Quad32` and `BitsOfByte`
abbrev pub Double32 : Type 0
Double32 = Pair.Two ℕ

abbrev pub Quad32 : Type 0
Quad32 = Quad.Four ℕ

abbrev pub BitsOfByte : Type 0
BitsOfByte = Quad.Four ℕ

-- the pair that a struct holds
abbrev pub two : {A : Type 0} → Pair.Two A → Two A
two d = mktwo d.lo d.hi

-- the quad that a struct holds
abbrev pub four : {A : Type 0} → Quad.Four A → Four A
four q = mkfour q.lo0 q.lo1 q.hi2 q.hi3

-- each part of y is one that R allows for that part of x
pub record Mapped {A B : Type 0} (R : A → B → Type 0) (x : Four A) (y : Four B) : Type 0 where
  pub lo0_is : R x.lo0 y.lo0
  pub lo1_is : R x.lo1 y.lo1
  pub hi2_is : R x.hi2 y.hi2
  pub hi3_is : R x.hi3 y.hi3

-- each part of z is one that R allows for those parts of x and y
pub record Mapped2 {A B : Type 0} (R : A → A → B → Type 0) (x y : Four A) (z : Four B) : Type 0 where
  pub lo0_is : R x.lo0 y.lo0 z.lo0
  pub lo1_is : R x.lo1 y.lo1 z.lo1
  pub hi2_is : R x.hi2 y.hi2 z.hi2
  pub hi3_is : R x.hi3 y.hi3 z.hi3
