-- The page was blank, and its text is what stands in the buffer.
use Rattle.std.proofs.Common.{rules, arith}
use Rattle.job.proofs.Outputs.{printed_whole}
use Rattle.job.proofs.whole.job.Goals as goal

pub returns-clause-printed : goal.returns-clause-printed
returns-clause-printed c =
    let blank = c.new.ensures in
    let text = printed_whole c.print-page.ensures.wrote blank.blank (omega arith) blank.size in
    rw c.len.ensures (search (rules, rw blank.bytes at text))
