-- The lists are as long as the job says, and each is read at its offset of the cells' 17 bytes.
use Rattle.std.proofs.Common.{◌≡◌, ℕ, ◌+◌, ◌*◌, sym, ap, ◌∙◌, get_or, arith}
use Rattle.code.specs.Records.{number_at}
use Rattle.code.proofs.NumberLaws.{one_byte}
use Rattle.job.proofs.Numbers.{taken_none, taken_more}
use Rattle.job.proofs.cells.read_cells.Goals as goal

pub loop-i-init : goal.loop-i-init
loop-i-init c = (taken_none 8 17 _ _ _, taken_none 1 17 _ _ _, taken_none 8 17 _ _ _)

pub loop-i-preserved : goal.loop-i-preserved
loop-i-preserved c =
    let bs = c.args.input.now in
    let i = c.loop-i.i in
    let read = c.loop-i.invariant in
    let tag_at : 406 + 17 * i + 8 ≡ 414 + 17 * i = omega arith in
    let value_at : 406 + 17 * i + 9 ≡ 415 + 17 * i = omega arith in
    let tag = ap (λ (k : ℕ). get_or bs k 0) tag_at ∙ sym (one_byte bs (414 + 17 * i)) in (
      taken_more read.0 (omega arith) c.number8.ensures,
      taken_more read.1 (omega arith) tag,
      taken_more read.2 (omega arith) (c.number8-in-loop-i.ensures ∙ ap (number_at 8 bs) value_at),
    )
