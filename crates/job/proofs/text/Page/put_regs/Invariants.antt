-- In each turn the registers from i on are left to print.
use Rattle.std.proofs.Common.{◌+◌, ◌*◌, ◌≤◌, drop}
use Rattle.job.specs.Text.{reg_lines}
use Rattle.job.proofs.Writing.{Left}
use Rattle.job.proofs.text.Page.put_regs.Given as goal

abbrev pub invariant-loop-i : goal.invariant-loop-i
invariant-loop-i l =
    (l.page.at ≤ l.initial.page.at + 43 * l.i)
    × Left l.initial.page (reg_lines 0 l.regs) l.page (reg_lines l.i (drop l.i l.regs))
