-- One byte more stands behind those before it.
use Rattle.std.proofs.Common.{ℕ, sym, ap, ◌∙◌, take, take-suc, add-one, arith}
use Rattle.job.proofs.Writing.{◌▸◌, spelled}
use Rattle.job.proofs.text.Page.put_word.Goals as goal

pub loop-byte-preserved : goal.loop-byte-preserved
loop-byte-preserved c =
    let word = c.args.word.now in
    let i = c.loop-byte.byte-index in
    let more = ap (λ (k : ℕ). take k word) (add-one i) ∙ take-suc word i 0 (omega arith) in
    spelled (sym more) (c.loop-byte.invariant ▸ c.put_byte-page.ensures)
