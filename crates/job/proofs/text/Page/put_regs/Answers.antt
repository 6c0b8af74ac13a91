-- In each turn the registers from i on are left to print.
use native.Mathlib.Omega.{arith}
use Rattle.job.proofs.Writing.{left_less, left_none}
use Rattle.job.proofs.Rests.{regs_rest, regs_none}
use Rattle.job.proofs.text.Page.put_regs.Goals as goal

pub loop-i-preserved : goal.loop-i-preserved
loop-i-preserved c =
    let rest = regs_rest c.args.regs.now c.loop-i.i (omega arith) in
    (omega arith, left_less _ _ rest c.loop-i.invariant.1 c.put_reg-page.ensures)

pub returns : goal.returns
returns c = left_none (regs_none c.args.regs.now c.loop-i.i (omega arith)) c.loop-i.invariant.1 (omega arith)
