-- The language's two's complement is the definition's.
use Rattle.std.proofs.Common.{refl, w64}
use Rattle.words.proofs.SignedLaws.{signed_is}
use Rattle.words.proofs.signed.signed64.Goals as goal

pub returns : goal.returns
returns c = signed_is w64 64 c.args.n refl refl c.ranges.n.fits _ c.cast_signed.ensures
