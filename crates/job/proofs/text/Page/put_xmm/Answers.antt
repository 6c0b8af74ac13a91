-- An xmm of zeros prints nothing; else the word, the five fields and the end of the line follow each other.
use native.Mathlib.Omega.{arith}
use lib.ListN.{length}
use Rattle.std.proofs.Common.{◌≡◌, ◌∙◌, sym}
use Rattle.job.proofs.Writing.{◌▸◌, spelled, looser, wrote_none}
use Rattle.job.proofs.Choices.{when_true, when_false, zeros}
use Rattle.job.proofs.text.Page.put_xmm.Goals as goal

pub returns-then-eq : goal.returns-then-eq
returns-then-eq c =
    let four : length c.args.words ≡ 4 = omega arith in
    looser (omega arith) (spelled (when_true _ _ (sym (zeros _ four) ∙ sym c.eq.ensures ∙ c.if-eq.true)) (wrote_none _))

pub returns : goal.returns
returns c =
    let four : length c.args.words ≡ 4 = omega arith in
    spelled (when_false _ _ (sym (zeros _ four) ∙ sym c.eq.ensures ∙ c.if-eq.false))
    (c.put_word.ensures
    ▸ c.put_field.ensures
    ▸ (rw c.from.ensures at c.put_field-2.ensures)
    ▸ (rw c.from-2.ensures at c.put_field-3.ensures)
    ▸ (rw c.from-3.ensures at c.put_field-4.ensures)
    ▸ (rw c.from-4.ensures at c.put_field-5.ensures)
    ▸ c.put_byte.ensures)
