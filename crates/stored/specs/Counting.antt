-- How a case is counted, and what is printed of a tally.
use Rattle.std.specs.Prelude.{ℕ, Bool, true, false, Some, None, List, ◌++◌, codes, decimal}
use Rattle.std.specs.declared.option.Option.{Option}

-- the first case that does not agree, once case n is counted
abbrev pub first_of : Bool → Option ℕ → ℕ → Option ℕ
first_of true first n = first
first_of false (Some k) n = Some k
first_of false None n = Some n

-- how many agree, of how many that were tried, and the first that does not agree, if there is one
abbrev pub told : ℕ → ℕ → Option ℕ → List ℕ
told agree tried None = decimal agree ++ (codes " of " ++ decimal tried)
told agree tried (Some n) = decimal agree ++ (codes " of " ++ (decimal tried ++ (codes ", the first that differs is " ++ decimal n)))
