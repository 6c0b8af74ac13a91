-- The number that stands there, read as a signed one.
use mathlib.Core.Path.{ap, ◌∙◌}
use mir.Syntax.{w16}
use mir.ValLaws.{to_z-of_z}
use Rattle.words.specs.Signed.{signed_word}
use Rattle.code.specs.Records.{signed_at}
use Rattle.code.proofs.numbers.signed2.Goals as goal

pub returns : goal.returns
unfolding signed_at
returns c =
    let read = c.signed16 in
    to_z-of_z w16 read.result (record { sfits = read.type_inv }) ∙ read.ensures ∙ ap (signed_word 16) c.number2.ensures.0
