-- The kind byte and 0 for the lengths, and the comparison behind them.
use mathlib.Core.Path.{◌≡◌, refl, ap, ◌∙◌}
use mathlib.Core.List.{List, ◌∷◌, ◌++◌}
use native.Mathlib.Omega.{arith}
use lib.ListN.{length}
use Prim.Native.Nat.{ℕ, ◌+◌}
use Rattle.code.specs.Records.{is_ocmp}
use Rattle.code.specs.Writer.{bytes_of, bytes_of_record, bytes_of_ocmp}
use Rattle.code.proofs.Held.{length_bytes}
use Rattle.code.proofs.Layouts.{ocmp_agrees}
use Rattle.code.specs.Layout.{ocmp_layout}
use Rattle.builder.specs.Calls.{record_trouble}
use Rattle.builder.specs.Building.{opens}
use Rattle.builder.specs.Rendered.{layout_of}
use Rattle.builder.proofs.Checked.{used_ocmp, begins, trouble_is}
use Rattle.builder.proofs.calls.open_with.Goals as goal

pub check_fields-fields-requires : goal.check_fields-fields-requires
check_fields-fields-requires c =
    let put = c.put_record.ensures in
    let same = c.record_of_ocmp.ensures in
    let agrees = ocmp_agrees c.args.condition in
    let front = c.args.kind ∷ bytes_of c.args.lengths 0 in
    let size : length front ≡ 1 + c.args.lengths = omega (arith, length_bytes c.args.lengths 0) in
    let bytes : c.deref.result.now ≡ front ++ bytes_of_record (layout_of c.record_of_ocmp.result) =
    rw (c.deref.ensures.0, put.bytes, c.put_number.ensures.bytes, c.push.ensures.items, c.new-bytes.ensures) refl in
    begins is_ocmp used_ocmp same agrees front size bytes

pub returns-clause-opens : goal.returns-clause-opens
unfolding bytes_of_ocmp
returns-clause-opens c =
    let put = c.put_record.ensures in
    let same = c.record_of_ocmp.ensures in
    let front = c.args.kind ∷ bytes_of c.args.lengths 0 in
    let size : length front ≡ 1 + c.args.lengths = omega (arith, length_bytes c.args.lengths 0) in
    let items : c.put_record.new.out.items ≡ front ++ bytes_of_record (layout_of c.record_of_ocmp.result) =
    rw (put.bytes, c.put_number.ensures.bytes, c.push.ensures.items, c.new-bytes.ensures) refl in
    let trouble =
    trouble_is is_ocmp used_ocmp same (ocmp_agrees c.args.condition) front size (c.deref.ensures.0 ∙ items) put.record_typed
    c.check_fields-fields.ensures in
    let bytes = c.deref-2.ensures.0 ∙ items ∙ ap (λ (l : List ℕ). front ++ l) (ap bytes_of_record same) in
    c.open_part.ensures
    ∙ ap (λ (t : ℕ). opens c.args.part t c.deref-2.result.now c.args.build c.args.buffer.now) trouble
    ∙ ap (λ (l : List ℕ). opens c.args.part (record_trouble (ocmp_layout c.args.condition)) l c.args.build c.args.buffer.now) bytes
