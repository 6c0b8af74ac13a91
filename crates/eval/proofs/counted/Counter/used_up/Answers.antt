-- `used_up` meets its contract. Assumes nothing.
use mathlib.Core.Path.{refl}
use Rattle.eval.specs.Counted.{used_up}
use Rattle.eval.proofs.counted.Counter.used_up.Goals as goal

pub returns : goal.returns
unfolding used_up
returns c = refl
