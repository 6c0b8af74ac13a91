-- `reads_open` meets its contract: the bits of each kind say what it reads. Assumes nothing.
use mathlib.Core.Path.{refl}
use native.Mathlib.Omega.{arith}
use Rattle.eval.specs.Watch.{reads_open}
use Rattle.eval.proofs.CountedLaws.{reads_as}
use Rattle.eval.proofs.counted.reads_open.Goals as goal

pub overflow_mul-result : goal.overflow_mul-result
overflow_mul-result c = omega (arith, c.requires.0)

pub overflow_cast-result : goal.overflow_cast-result
overflow_cast-result c = omega (arith, c.requires.0)

pub overflow_shr-result : goal.overflow_shr-result
overflow_shr-result c = omega (arith, c.requires.0)

pub returns : goal.returns
unfolding reads_open
returns c = λ m. reads_as _ c.args.kind c.args.was c.requires.0 c.requires.1 m refl
