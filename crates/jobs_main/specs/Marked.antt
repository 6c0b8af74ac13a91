-- How a text begins that refuses a job for a scale.
use Rattle.std.specs.Prelude.{ℕ, List, [], ◌∷◌}

-- "refused 7 "
abbrev pub refused_7 : List ℕ
refused_7 = 0x72 ∷ 0x65 ∷ 0x66 ∷ 0x75 ∷ 0x73 ∷ 0x65 ∷ 0x64 ∷ 0x20 ∷ 0x37 ∷ 0x20 ∷ []
