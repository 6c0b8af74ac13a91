-- `machine::addressing::exact_address` meets its contract: an offset from the base and the product, which is far below 2^68.
use Rattle.std.proofs.Common.{◌≡◌, ℕ, ◌+◌, ◌*◌, ◌^◌, ◌<◌, ◌≤◌, T, ℤ, pos, ◌+ℤ◌, nat_abs, sym, ap, ◌∙◌, ap₂, w16, w64}
use lib.Signed.{non_neg}
use mir.ValLaws.{to_z-of_z}
use Rattle.machine.specs.Operands.{in_range}
use Rattle.machine.specs.Wide.{number}
use Rattle.machine.proofs.Exact.{scale_small, product_small, exact_is}
use Rattle.machine.proofs.addressing.exact_address.Goals as goal
use Rattle.machine.proofs.addressing.exact_address.Goals.{After-times, Start}

-- the scale is a small number, read back as itself
scale : (c : Start) → T (non_neg c.args.scale) × (nat_abs c.args.scale ≤ 8)
scale c = scale_small c.args.scale c.requires

product : (c : After-times) → number c.times.result ≡ nat_abs c.args.scale * c.args.index
product c = let e = to_z-of_z w16 c.args.scale c.ranges.scale in cc c.times.ensures

small : (c : After-times) → number c.times.result < 2 ^ 67
small c =
    let a = c.args in
    product_small (number c.times.result) (nat_abs a.scale) a.index (product c) (scale c.before).1 c.ranges.index.fits

pub returns : goal.returns
returns c =
    let a = c.args in
    let sum : number c.plus.result ≡ nat_abs a.scale * a.index + a.base = cc (c.plus.ensures, product (goal.at.returns c).After-times) in
    c.moved.ensures
    ∙ ap₂ (λ (x : ℕ) (z : ℤ). in_range (pos x +ℤ z)) sum (to_z-of_z w64 a.offset c.ranges.offset)
    ∙ ap in_range (sym (exact_is a.base a.index a.scale a.offset c.requires))
