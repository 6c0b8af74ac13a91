-- In each turn the xmm from i on are left to print.
use native.Mathlib.Omega.{arith}
use Rattle.job.proofs.Writing.{left_less, left_none}
use Rattle.job.proofs.Rests.{xmms_rest, xmms_none}
use Rattle.job.proofs.text.Page.put_xmms.Goals as goal

pub loop-i-preserved : goal.loop-i-preserved
loop-i-preserved c =
    (omega arith, left_less _ _ (xmms_rest c.args.xmms.now c.loop-i.i (omega arith)) c.loop-i.invariant.1 c.put_xmm-page.ensures)

pub returns : goal.returns
returns c = left_none (xmms_none c.args.xmms.now c.loop-i.i (omega arith)) c.loop-i.invariant.1 (omega arith)
