-- A natural number as a difference of two, for what compares sums of differences.
use Rattle.std.proofs.Common.{◌≡◌, ℕ, pos, arith}
use Rattle.std.proofs.lemmas.Int.{ints}
use lib.IntN.{sub_ℕ}

pub pos_sub : (n : ℕ) → pos n ≡ sub_ℕ n 0
pos_sub n = grind (arith, ints)
