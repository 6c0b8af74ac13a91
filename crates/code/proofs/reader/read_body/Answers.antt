-- `code::reader::read_body` meets its contract: the body fits, the fields up to the last are at most 15, and a scale between them is
-- one of the four. Assumes nothing.
use mathlib.Core.Path.{◌≡◌, ap, sym, ◌∙◌}
use mathlib.Core.Bool.{Bool}
use native.Mathlib.Omega.{arith}
use lib.IntN.{ℤ}
use mir.Syntax.{w16}
use mir.Val.{SFits, to_z, of_z}
use mir.ValLaws.{to_z-of_z}
use Rattle.machine.specs.Operands.{is_scale}
use Rattle.code.proofs.Reaches.{told, RightScale, body_short, body_none, body_first, body_one, body_scale, body_last, body_all}
use Rattle.code.proofs.reader.read_body.Goals as goal
use Rattle.code.proofs.reader.read_body.Goals.{Joined-else-last-gt2, else-last-gt2-via-then-last-gt2+else-not-is_scale, else-last-gt2-via-else-last-gt2}

-- the scale that was asked of is that of the bytes
asked : {r : Bool} (z : ℤ) {y : ℤ} → SFits w16 z → r ≡ is_scale (to_z w16 (of_z w16 z)) → z ≡ y → is_scale y ≡ r
asked z f e g = sym (e ∙ ap is_scale (to_z-of_z w16 z f ∙ g))

-- behind the test a scale is right
right_scale : (c : Joined-else-last-gt2) → RightScale c.args.code.now c.args.at c.last_field-last.result
right_scale c =
    elim c.else-last-gt2.branch [
      | else-last-gt2-via-then-last-gt2+else-not-is_scale w ↦ λ over.
          asked w.signed2.result (record { sfits = w.signed2.type_inv }) w.is_scale.ensures w.signed2.ensures ∙ w.if-not-is_scale.false
      | else-last-gt2-via-else-last-gt2 w ↦ λ over. absurd (omega (arith, w.if-last-gt2.false))
    ]

pub returns-then-end-at : goal.returns-then-end-at
returns-then-end-at c = told _ _ _ c.at.ensures ∙ search body_short

pub returns-then-last-eq0 : goal.returns-then-last-eq0
returns-then-last-eq0 c = search body_none

pub returns-then-code-at-gt15 : goal.returns-then-code-at-gt15
returns-then-code-at-gt15 c = told _ _ _ c.at-then-code-at-gt15.ensures ∙ search body_first

pub returns-then-last-eq1 : goal.returns-then-last-eq1
returns-then-last-eq1 c = search body_one

pub returns-then-not-is_scale : goal.returns-then-not-is_scale
returns-then-not-is_scale c =
    let read = c.signed2 in
    let wrong = asked read.result (record { sfits = read.type_inv }) c.is_scale.ensures read.ensures ∙ c.if-not-is_scale.true in
    told _ _ _ c.at-then-not-is_scale.ensures ∙ search (body_scale, wrong)

pub returns-then-code-at-gt15-2 : goal.returns-then-code-at-gt15-2
returns-then-code-at-gt15-2 c =
    let right = right_scale (goal.at.returns-then-code-at-gt15-2 c).Joined-else-last-gt2 in
    told _ _ _ c.at-then-code-at-gt15-2.ensures ∙ search (body_last, right)

pub returns : goal.returns
returns c = let right = right_scale (goal.at.returns c).Joined-else-last-gt2 in search (body_all, right)
