-- In each turn the bytes before the index stand on the page.
use Rattle.std.proofs.Common.{take}
use Rattle.job.specs.Written.{Wrote}
use Rattle.job.proofs.text.Page.put_word.Given as goal

abbrev pub invariant-loop-byte : goal.invariant-loop-byte
invariant-loop-byte l = Wrote l.byte-index l.initial.page (take l.byte-index l.word) l.page
