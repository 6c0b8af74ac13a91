-- Word and carry are those of the sum with the carry that is handed in.
use Rattle.eval.proofs.arithmetic.carry_addition.Goals as goal

pub returns : goal.returns
returns c = record { word_is = search; flags_is = cc }
