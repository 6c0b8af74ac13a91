-- `machine::addressing::register_address` meets its contract: an offset from the base.
use Rattle.std.proofs.Common.{ℕ, ℤ, pos, ◌+ℤ◌, ◌∙◌, ap₂, w64}
use mir.ValLaws.{to_z-of_z}
use Rattle.machine.specs.Operands.{in_range}
use Rattle.machine.proofs.addressing.register_address.Goals as goal

pub returns : goal.returns
returns c =
    c.moved.ensures
    ∙ ap₂ (λ (x : ℕ) (z : ℤ). in_range (pos x +ℤ z)) c.from.ensures (to_z-of_z w64 c.args.offset c.ranges.offset)
