-- From the width on nothing of a word is left.
use Rattle.std.proofs.Common.{sym}
use Rattle.words.proofs.ShiftLaws.{ishr_past}
use Rattle.words.proofs.word.U64Word.ishr.Goals as goal

pub returns-else-s-lt64 : goal.returns-else-s-lt64
returns-else-s-lt64 c = sym (ishr_past 64 c.args.s c.ranges.self.fits c.if-s-lt64.false)
