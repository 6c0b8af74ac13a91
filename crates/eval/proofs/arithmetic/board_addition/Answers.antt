-- Word and carry are those of the sum with the carry that is handed in, and overflow is that of the signed sum.
use Rattle.eval.specs.FlagRule.{board_flags}
use borrow.Author.Rules.{rules}
use Rattle.eval.proofs.arithmetic.board_addition.Goals as goal

pub add-sum-requires : goal.add-sum-requires
unfolding board_flags
add-sum-requires c = search rules

pub add_overflows-requires : goal.add_overflows-requires
unfolding board_flags
add_overflows-requires c = search rules

pub update_of-filled-requires : goal.update_of-filled-requires
unfolding board_flags
update_of-filled-requires c = search rules

pub update_cf-requires : goal.update_cf-requires
unfolding board_flags
update_cf-requires c = search rules

pub returns : goal.returns
unfolding board_flags
returns c = λ flags. record { word_is = search; flags_is = cc }
