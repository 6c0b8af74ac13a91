-- Word and overflow are those of the sum with the old overflow.
use Rattle.eval.proofs.arithmetic.overflow_addition.Goals as goal

pub returns : goal.returns
returns c = record { word_is = cc; flags_is = cc }
