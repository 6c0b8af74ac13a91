-- The measure is a falling fuel, the levels left, and the remaining length of the part: a code hands fewer levels to its structure, a
-- structure has its kind byte behind it, and a part is measured with one byte more than its first code. The loop over a list of codes
-- ends by what is left of the part.
use Rattle.std.proofs.Common.{◌-◌, ◌+◌}
use Rattle.code.proofs.Parts.{Going}
use Rattle.code.proofs.reader.+reading.Given as goal

-- behind a kind byte
abbrev pub decreases-read_block : goal.decreases-read_block
decreases-read_block l = l.depth + (l.end - l.at - 1)

abbrev pub decreases-read_if : goal.decreases-read_if
decreases-read_if l = l.depth + (l.end - l.at - 1)

abbrev pub decreases-read_while : goal.decreases-read_while
decreases-read_while l = l.depth + (l.end - l.at - 1)

-- a code, and a structure from its kind byte on
abbrev pub decreases-read_code : goal.decreases-read_code
decreases-read_code l = l.depth + (l.end - l.at)

abbrev pub decreases-read_structure : goal.decreases-read_structure
decreases-read_structure l = l.depth + (l.end - l.at)

-- a part
abbrev pub decreases-read_codes : goal.decreases-read_codes
decreases-read_codes l = l.depth + (l.end - l.from) + 1

abbrev pub decreases-read_part : goal.decreases-read_part
decreases-read_part l = l.depth + (l.end - l.at) + 1

abbrev pub invariant-read_codes-loop-at : goal.invariant-read_codes-loop-at
invariant-read_codes-loop-at l = Going l.depth l.code l.end l.from l.at

abbrev pub decreases-read_codes-loop-at : goal.decreases-read_codes-loop-at
decreases-read_codes-loop-at l = l.end - l.at
