-- `code::kinds::class_of` meets its contract: each arm is a range of the definition, and `_` the gaps between them.
-- Assumes nothing.
use Prim.Native.Nat.{suc, ◌-◌}
use mathlib.Core.Path.{refl, sym}
use native.Mathlib.Omega.{arith}
use Rattle.code.specs.Layout.{last_ins}
use Rattle.code.proofs.Passing.{true_between}
use Rattle.code.proofs.KindLaws.{class_ins, class_structure, class_ocmp, class_operand, class_gap}
use Rattle.code.proofs.kinds.class_of.Goals as goal

pub returns-in-1-to-27 : goal.returns-in-1-to-27
returns-in-1-to-27 c =
    let k = c.args.kind in
    sym (class_ins k (true_between 0x01 last_ins k (omega arith) (omega arith)))

pub returns-in-32-to-34 : goal.returns-in-32-to-34
returns-in-32-to-34 c =
    let k = c.args.kind in
    sym (class_structure k (true_between 0x20 0x22 k (omega arith) (omega arith)))

pub returns-in-48-to-53 : goal.returns-in-48-to-53
returns-in-48-to-53 c =
    let k = c.args.kind in
    sym (class_ocmp k (true_between 0x30 0x35 k (omega arith) (omega arith)))

pub returns-in-64-to-68 : goal.returns-in-64-to-68
returns-in-64-to-68 c =
    let k = c.args.kind in
    sym (class_operand k (true_between 0x40 0x44 k (omega arith) (omega arith)))

pub returns-in_default : goal.returns-in_default
returns-in_default c = sym (class_gap 0x00 1 c.args.kind refl (omega arith) (omega arith))

pub returns-in_default-2 : goal.returns-in_default-2
returns-in_default-2 c = sym (class_gap (suc last_ins) (0x20 - suc last_ins) c.args.kind refl (omega arith) (omega arith))

pub returns-in_default-3 : goal.returns-in_default-3
returns-in_default-3 c = sym (class_gap 0x23 13 c.args.kind refl (omega arith) (omega arith))

pub returns-in_default-4 : goal.returns-in_default-4
returns-in_default-4 c = sym (class_gap 0x36 10 c.args.kind refl (omega arith) (omega arith))

pub returns-in_default-5 : goal.returns-in_default-5
returns-in_default-5 c =
    let k = c.args.kind in
    sym (class_gap 0x45 187 k refl (omega arith) (omega arith))
