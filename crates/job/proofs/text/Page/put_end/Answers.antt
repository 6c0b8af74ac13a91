-- The steps, the flags, the registers, the xmm and the cells follow each other.
use Prim.Native.Nat.{◌+◌, ◌*◌, ◌≤◌}
use lib.ListN.{length}
use native.Mathlib.Omega.{arith}
use Rattle.job.proofs.Writing.{◌▸◌, looser}
use Rattle.job.proofs.text.Page.put_end.Goals as goal

pub returns : goal.returns
returns c =
    let cells = length c.args.addresses.now in
    let few : 2486 + 51 * cells ≤ 65483 = omega arith in
    looser {m = 2486 + 51 * cells} few
    (c.put_line.ensures ▸ c.put_line-2.ensures ▸ c.put_regs.ensures ▸ c.put_xmms.ensures ▸ c.put_cells.ensures)
