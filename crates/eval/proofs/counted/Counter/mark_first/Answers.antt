-- `mark_first` meets its contract: a mark that is there stays, and where there is none the place makes one. Assumes nothing.
use Rattle.eval.proofs.CountedLaws.{marks, stays_marked}
use Rattle.eval.proofs.counted.Counter.mark_first.Goals as goal

pub returns-then-is_none-clause-counted_after : goal.returns-then-is_none-clause-counted_after
returns-then-is_none-clause-counted_after c = let a = c.args in rw (marks a.at a.self.now.mark _ c.is_none.ensures c.if-is_none.true)

pub returns-else-is_none-clause-counted_after : goal.returns-else-is_none-clause-counted_after
returns-else-is_none-clause-counted_after c = let a = c.args in rw (stays_marked a.at a.self.now.mark _ c.is_none.ensures c.if-is_none.false)
