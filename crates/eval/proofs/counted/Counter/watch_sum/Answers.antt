-- `watch_sum` meets its contract: what is kept open is written, and an open flag that was read is marked. Assumes nothing.
use mathlib.Core.Path.{refl}
use Rattle.eval.specs.FlagRule.{flag_rule}
use Rattle.eval.proofs.CountedLaws.{same_so, unread_so, read_so}
use Rattle.eval.proofs.counted.Counter.watch_sum.Goals as goal

pub returns-then-left-was : goal.returns-then-left-was
returns-then-left-was c =
    let a = c.args in
    record {
      counted_after =
          same_so a.self.now (flag_rule a.evaluation) a.kind a.at _ _ c.open_bits-was.ensures.1 c.kept-left.ensures c.if-left-was.true;
      tested_none = refl;
    }

pub returns-then-reads_open : goal.returns-then-reads_open
returns-then-reads_open c =
    let a = c.args in
    record {
      counted_after =
          read_so a.self.now (flag_rule a.evaluation) a.kind a.at _ _ c.open_bits-was.ensures.1 c.kept-left.ensures _ c.reads_open.ensures
          c.if-reads_open.true _ c.mark_first.ensures.counted_after;
      tested_none = c.mark_first.ensures.tested_none;
    }

pub returns-else-reads_open : goal.returns-else-reads_open
returns-else-reads_open c =
    let a = c.args in
    record {
      counted_after =
          unread_so a.self.now (flag_rule a.evaluation) a.kind a.at _ _ c.open_bits-was.ensures.1 c.kept-left.ensures _ c.reads_open.ensures
          c.if-reads_open.false;
      tested_none = refl;
    }
