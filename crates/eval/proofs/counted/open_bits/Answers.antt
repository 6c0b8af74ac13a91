-- `open_bits` meets its contract: a word below 4 is the bits, and any other a kind, of which the word of the code has them. Assumes nothing.
use mathlib.Core.Path.{refl}
use native.Mathlib.Omega.{arith}
use borrow.Author.Tests.{le-ltb}
use Rattle.eval.specs.Watch.{touched, open_after}
use Rattle.eval.proofs.CountedLaws.{told_so, told_as}
use Rattle.eval.proofs.counted.open_bits.Goals as goal

pub returns-then-word-lt4 : goal.returns-then-word-lt4
returns-then-word-lt4 c = told_so c.args.word c.if-word-lt4.true

pub overflow_mul-result : goal.overflow_mul-result
overflow_mul-result c = omega arith

pub overflow_shr-result : goal.overflow_shr-result
overflow_shr-result c = omega arith

pub returns : goal.returns
unfolding touched open_after
returns c = told_as _ c.args.word (le-ltb _ 4 c.if-word-lt4.false) refl
