-- Operands of one sign overflow where the word of the sum has the other sign, and operands of two signs never.
use Rattle.std.proofs.Common.{◌≡◌, ◌^◌, not, ◌&&◌, leb, sym, refl, ◌∙◌}
use mathlib.Core.Bool.{beq}
use Rattle.words.specs.Bits.{bit}
use Rattle.words.specs.Signed.{signed_sum, leaves}
use Rattle.words.proofs.SignedLaws.{overflows}
use Rattle.words.proofs.signed.add_overflows.Goals as goal
use Rattle.words.proofs.signed.add_overflows.Goals.{After-add-sum}

-- the law, of what the function was given and of its sum
law :
    (c : After-add-sum) →
    let a = c.args in
    leaves 64 (signed_sum 64 a.a a.b (bit a.carry))
    ≡ (beq (leb (2 ^ 63) a.a) (leb (2 ^ 63) a.b) && not (beq (leb (2 ^ 63) a.a) (leb (2 ^ 63) c.add-sum.result.word)))
law c =
    overflows 64 c.args.a c.args.b _ c.args.carry _ refl c.ranges.a.fits c.ranges.b.fits c.add-sum.ensures

pub returns-then-negative-b : goal.returns-then-negative-b
returns-then-negative-b c = sym (law (goal.at.returns-then-negative-b c).After-add-sum ∙ rw c.if-negative-b.true)

pub returns-else-negative-b : goal.returns-else-negative-b
returns-else-negative-b c = c.if-negative-b.false ∙ sym (law (goal.at.returns-else-negative-b c).After-add-sum ∙ rw c.if-negative-b.false)
