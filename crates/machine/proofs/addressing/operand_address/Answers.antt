-- `machine::addressing::operand_address` meets its contract, operand by operand.
use Rattle.std.proofs.Common.{rules}
use mathlib.Core.Option.{none}
use Rattle.machine.proofs.Exact.{at_const, at_register, at_index}
use Rattle.machine.proofs.addressing.operand_address.Goals as goal

pub returns-in-MConst : goal.returns-in-MConst
returns-in-MConst c =
    at_const c.args.m c.args.regs.now none c.in-MConst.n c.in-MConst.is (search rules)

pub returns-in-MReg : goal.returns-in-MReg
returns-in-MReg c =
    at_register c.args.m c.args.regs.now _ _ _ c.in-MReg.is
    (record { sfits = c.in-MReg.known_told-in-MReg-1-own.given.1.0.1 }) c.register_address.ensures

pub returns-in-MIndex : goal.returns-in-MIndex
returns-in-MIndex c =
    let fields = c.in-MIndex.known_told-in-MIndex-1-own in
    at_index c.args.m c.args.regs.now _ _ _ _ _ c.in-MIndex.is
    (record { sfits = fields.given.1.0.1 }) (record { sfits = fields.given.1.1.1.0.1 }) c.exact_address.ensures
