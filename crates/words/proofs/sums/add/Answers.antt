-- The word is that of the two sums, and one of them carries where the whole does.
use Rattle.words.proofs.SumLaws.{added_both}
use Rattle.words.proofs.sums.add.Goals as goal

pub returns : goal.returns
returns g c =
    let carry = g.met.W.Word.from_bit _ _ c.from.ensures in
    rw (← carry) (added_both g.W.Word.bits _ _ _ _ _ _ c.plus-part.ensures c.plus-sum.ensures)
