-- Each arm is the insertion of its kind.
use borrow.Author.Rules.{rules}
use Rattle.eval.specs.Instructions.{inserts_word}
use Rattle.eval.proofs.OtherKinds.{no_inserts}
use Rattle.eval.proofs.lanes.inserted.Goals as goal

pub overflow_cast-word : goal.overflow_cast-word
unfolding inserts_word
overflow_cast-word c = search rules

pub insert_nat32-requires : goal.insert_nat32-requires
unfolding inserts_word
insert_nat32-requires c = search rules

pub insert_nat64-requires : goal.insert_nat64-requires
unfolding inserts_word
insert_nat64-requires c = search rules

pub returns-in-22 : goal.returns-in-22
unfolding inserts_word
returns-in-22 c = rw c.in-22.is c.insert_nat32.ensures

pub returns-in-23 : goal.returns-in-23
unfolding inserts_word
returns-in-23 c = rw c.in-23.is c.insert_nat64.ensures

pub returns-in_default : goal.returns-in_default
unfolding inserts_word
returns-in_default c = let r = c.in_default.in_default-own.rest in absurd (no_inserts _ c.requires r.0.1 r.1)
