-- From the width on nothing of a word is left.
use Rattle.std.proofs.Common.{sym}
use Rattle.words.proofs.ShiftLaws.{ishr_past}
use Rattle.words.proofs.word.U32Word.ishr.Goals as goal

pub returns-else-s-lt32 : goal.returns-else-s-lt32
returns-else-s-lt32 c = sym (ishr_past 32 c.args.s c.ranges.self.fits c.if-s-lt32.false)
