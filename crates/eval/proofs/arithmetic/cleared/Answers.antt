-- Carry and overflow of the fill word are cleared in turn.
use Rattle.eval.proofs.arithmetic.cleared.Goals as goal

pub returns : goal.returns
returns c = cc
