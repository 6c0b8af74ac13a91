-- In each turn the xmm from i on are left to print.
use Rattle.std.proofs.Common.{◌+◌, ◌-◌, ◌*◌, ◌≤◌}
use Rattle.job.specs.Text.{xmm_lines}
use Rattle.job.proofs.Writing.{Left}
use Rattle.job.proofs.text.Page.put_xmms.Given as goal

abbrev pub invariant-loop-i : goal.invariant-loop-i
invariant-loop-i l =
    (l.page.at ≤ l.initial.page.at + 109 * l.i)
    × Left l.initial.page (xmm_lines 16 0 l.xmms) l.page (xmm_lines (16 - l.i) l.i l.xmms)
