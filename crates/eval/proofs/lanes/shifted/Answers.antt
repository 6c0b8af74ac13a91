-- Each arm is the shift of its kind.
use borrow.Author.Rules.{rules}
use Rattle.eval.specs.Instructions.{shifts_word}
use Rattle.eval.proofs.OtherKinds.{no_shifts}
use Rattle.eval.proofs.lanes.shifted.Goals as goal

pub shl_lanes-requires : goal.shl_lanes-requires
unfolding shifts_word
shl_lanes-requires c = search rules

pub shr_lanes-requires : goal.shr_lanes-requires
unfolding shifts_word
shr_lanes-requires c = search rules

pub returns-in-17 : goal.returns-in-17
unfolding shifts_word
returns-in-17 c = rw c.in-17.is c.shl_lanes.ensures

pub returns-in-18 : goal.returns-in-18
unfolding shifts_word
returns-in-18 c = rw c.in-18.is c.shr_lanes.ensures

pub returns-in_default : goal.returns-in_default
unfolding shifts_word
returns-in_default c = let r = c.in_default.in_default-own.rest in absurd (no_shifts _ c.requires r.0.1 r.1)
