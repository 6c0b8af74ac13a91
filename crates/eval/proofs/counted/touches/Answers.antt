-- `touches` meets its contract: where the bit of a kind is clear, the watch stays as it is, and behind the first six kinds it is else told by the kind.
-- Assumes nothing.
use mathlib.Core.Path.{refl}
use Rattle.eval.specs.Watch.{nothing_open, touched, open_after, reads_open, first_mark, watched}
use Rattle.eval.proofs.CountedLaws.{not_touched, sets_both}
use Rattle.eval.proofs.counted.touches.Goals as goal

pub returns : goal.returns
unfolding touched open_after reads_open first_mark watched
returns c =
    record {
      keeps_flags = λ z rule at w. not_touched rule _ c.args.kind at w refl c.requires z;
      sets_flags = λ z l rule at word mark. sets_both rule _ c.args.kind at nothing_open word mark refl c.requires l z;
    }
