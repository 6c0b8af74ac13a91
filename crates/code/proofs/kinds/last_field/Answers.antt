-- `code::kinds::last_field` meets its contract: each arm is a range of kinds, of which one computed test says the fields.
-- Assumes nothing.
use mathlib.Core.Path.{refl}
use mathlib.Core.Logic.{inl, inr, ⊎_elim}
use native.Mathlib.Omega.{arith}
use Rattle.code.specs.Records.{body_length, judged_fields}
use Rattle.code.proofs.KindLaws.{last_is, same, same_field, last_in, last_at, last_none}
use Rattle.code.proofs.kinds.last_field.Goals as goal

pub returns-in-68 : goal.returns-in-68
unfolding last_is same same_field judged_fields body_length
returns-in-68 c = last_at 4 c.args.kind 0x44 refl c.in-68.is

pub returns-in_default : goal.returns-in_default
unfolding last_is same same_field judged_fields body_length
returns-in_default c = last_in 0 0 15 c.args.kind refl (omega arith) (omega arith)

pub returns-in_default-2 : goal.returns-in_default-2
returns-in_default-2 c =
    let k = c.args.kind in
    let others = c.in_default.in_default-own.rest in
    last_none k (omega arith) (omega arith) others.0.0.1 (λ h. others.0.1 (inl h)) (λ h. others.0.1 (inr h)) others.1

pub returns-in-17 : goal.returns-in-17
unfolding last_is same same_field judged_fields body_length
returns-in-17 c =
    let k = c.args.kind in
    ⊎_elim (λ h. last_at 1 k 0x41 refl h) (λ h. last_at 1 k 0x43 refl h) c.in-17.is

pub returns-in-17-2 : goal.returns-in-17-2
unfolding last_is same same_field judged_fields body_length
returns-in-17-2 c = last_in 1 0x11 2 c.args.kind refl (omega arith) (omega arith)

pub returns-in-17-3 : goal.returns-in-17-3
unfolding last_is same same_field judged_fields body_length
returns-in-17-3 c =
    last_in 1 0x15 3 c.args.kind refl (omega arith) (omega arith)

pub returns-in-15 : goal.returns-in-15
unfolding last_is same same_field judged_fields body_length
returns-in-15 c = last_at 2 c.args.kind 0x18 refl c.in-15.is

pub returns-in-15-2 : goal.returns-in-15-2
unfolding last_is same same_field judged_fields body_length
returns-in-15-2 c = last_in 2 0x0f 2 c.args.kind refl (omega arith) (omega arith)

pub returns-in-15-3 : goal.returns-in-15-3
unfolding last_is same same_field judged_fields body_length
returns-in-15-3 c = last_in 2 0x13 2 c.args.kind refl (omega arith) (omega arith)
