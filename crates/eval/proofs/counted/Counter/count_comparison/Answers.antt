-- `count_comparison` meets its contract: one step more, and both are open. Assumes nothing.
use mathlib.Core.Path.{refl}
use Rattle.eval.proofs.CountedLaws.{compared_so}
use Rattle.eval.proofs.counted.Counter.count_comparison.Goals as goal

pub returns : goal.returns
returns c = record { counted_after = λ rule kind at h. compared_so c.args.self.now rule kind at h; tested_none = refl }
