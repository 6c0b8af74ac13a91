-- Each arm is the operation of its kind.
use borrow.Author.Rules.{rules}
use Rattle.eval.specs.Instructions.{quads_word}
use Rattle.eval.proofs.OtherKinds.{no_quads}
use Rattle.eval.proofs.lanes.combined.Goals as goal

pub add_lanes-requires : goal.add_lanes-requires
unfolding quads_word
add_lanes-requires c = search rules

pub quad32_xor-requires : goal.quad32_xor-requires
unfolding quads_word
quad32_xor-requires c = search rules

pub equal_lanes-requires : goal.equal_lanes-requires
unfolding quads_word
equal_lanes-requires c = search rules

pub returns-in-15 : goal.returns-in-15
unfolding quads_word
returns-in-15 c = rw c.in-15.is c.add_lanes.ensures

pub returns-in-16 : goal.returns-in-16
unfolding quads_word
returns-in-16 c = rw c.in-16.is c.quad32_xor.ensures

pub returns-in-20 : goal.returns-in-20
unfolding quads_word
returns-in-20 c = rw c.in-20.is c.equal_lanes.ensures

pub returns-in_default : goal.returns-in_default
unfolding quads_word
returns-in_default c = let r = c.in_default.in_default-own.rest in absurd (no_quads _ c.requires r.0.0.1 r.0.1 r.1)
