-- A part that is copied into is a run of stores.
use native.Mathlib.Omega.{arith}
use mathlib.Core.Path.{refl, sym, ◌∙◌}
use lib.ListN.{length}
use lib.Seq.{sets-eq, take-length}
use Rattle.std.proofs.lemmas.Slice.{put_mid-paste}
use Rattle.builder.proofs.write.copy.Goals as goal

pub returns : goal.returns
returns c =
    let bytes = c.args.bytes.now in
    let buffer = c.args.buffer.now in
    put_mid-paste _ _ buffer _ bytes (length bytes) c.copy_from_slice.ensures.after (omega arith) refl
    ∙ rw (take-length bytes) (sym (sets-eq bytes buffer c.args.at c.requires))
