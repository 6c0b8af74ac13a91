-- A slot is a register or a cell, and its index is in bounds of either.
use native.Mathlib.Omega.{arith}
use borrow.Author.Tests.{eq-eqb, ne_eqb}
use Rattle.eval.proofs.operand.put.Goals as goal

pub offset_bounds-regs-t : goal.offset_bounds-regs-t
offset_bounds-regs-t c = omega (arith, c.requires.register c.if-t-eq0.true)

pub bounds-regs-t : goal.bounds-regs-t
bounds-regs-t c = c.requires.register c.if-t-eq0.true

pub offset_bounds-values-t : goal.offset_bounds-values-t
offset_bounds-values-t c = omega (arith, c.requires.cell c.if-t-eq0.false)

pub bounds-values-t : goal.bounds-values-t
bounds-values-t c = c.requires.cell c.if-t-eq0.false

pub returns-then-t-eq0 : goal.returns-then-t-eq0
returns-then-t-eq0 c = let is = eq-eqb c.args.t.how 0 c.if-t-eq0.true in record { regs_after = rw is; values_after = rw is }

pub returns-else-t-eq0 : goal.returns-else-t-eq0
returns-else-t-eq0 c = let is = ne_eqb c.args.t.how 0 c.if-t-eq0.false in record { regs_after = rw is; values_after = rw is }
