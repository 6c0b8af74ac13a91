-- The language's two's complement is the definition's.
use Rattle.std.proofs.Common.{refl, w16}
use Rattle.words.proofs.SignedLaws.{signed_is}
use Rattle.words.proofs.signed.signed16.Goals as goal

pub returns : goal.returns
returns c = signed_is w16 16 c.args.n refl refl c.ranges.n.fits _ c.cast_signed.ensures
