-- The kind is the last that there is.
use mathlib.Core.Path.{◌≡◌, refl}
use native.Mathlib.Omega.{arith}
use Rattle.numbered.proofs.values.insertions.Goals as goal

pub returns-in_default : goal.returns-in_default
returns-in_default c = λ _. let kind = c.args.kind in
    let last : kind ≡ 0x18 = omega arith in
    rw (last) refl
