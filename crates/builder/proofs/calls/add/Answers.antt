-- The record, and nothing before it.
use mathlib.Core.Path.{◌≡◌, refl, sym, ap, ◌∙◌}
use mathlib.Core.List.{[]}
use native.Mathlib.Omega.{arith}
use lib.ListN.{length}
use Rattle.std.specs.Prelude.{Err}
use Rattle.std.proofs.lemmas.Result.{err_from_is_err_and}
use Rattle.code.specs.Records.{is_ins}
use Rattle.code.specs.Writer.{bytes_of_record, bytes_of_ins}
use Rattle.code.proofs.Layouts.{ins_agrees}
use Rattle.builder.specs.Building.{call}
use Rattle.builder.specs.Rendered.{layout_of}
use Rattle.builder.proofs.Judged.{was_taken, taken_as, refused_as}
use Rattle.builder.proofs.Calling.{add_refusal, add_stored, add_longer, add_fits}
use Rattle.builder.proofs.Checked.{used_ins, begins, trouble_is}
use Rattle.builder.proofs.calls.add.Goals as goal

pub check_fields-fields-requires : goal.check_fields-fields-requires
check_fields-fields-requires c =
    let put = c.put_record.ensures in
    let same = c.record_of.ensures in
    let agrees = ins_agrees c.args.instruction in
    let bytes : c.deref.result.now ≡ bytes_of_record (layout_of c.record_of.result) = rw (c.deref.ensures.0, put.bytes, c.new-bytes.ensures) refl in
    begins is_ins used_ins same agrees [] refl bytes

pub returns-in_err-append : goal.returns-in_err-append
unfolding call bytes_of_ins
returns-in_err-append c =
    let i = c.args.instruction in
    let put = c.put_record.ensures in
    let same = c.record_of.ensures in
    let items : c.put_record.new.out.items ≡ bytes_of_record (layout_of c.record_of.result) = rw (put.bytes, c.new-bytes.ensures) refl in
    let trouble = trouble_is is_ins used_ins same (ins_agrees i) [] refl (c.deref.ensures.0 ∙ items) put.record_typed c.check_fields-fields.ensures in
    let bytes = c.deref-2.ensures.0 ∙ items ∙ ap bytes_of_record same in
    let p = err_from_is_err_and c.from_residual.result c.from_residual.ensures.1 in
    let appended = c.in_err-append.ensures in
    record {
      buffer_after = refused_as _ _ _ _ (p.1 ∙ ap Err p.2) (add_refusal _ _ i bytes trouble appended.answer) appended.err;
      call_typed = add_fits i same put.record_typed;
    }

pub longer-requires : goal.longer-requires
longer-requires c =
    let taken = was_taken _ _ _ _ _ c.in_ok-append.ensures.answer refl in
    omega (arith, ap length c.deref-2.ensures.0, c.len.ensures.value, taken.in_all)

pub returns : goal.returns
unfolding call bytes_of_ins
returns c =
    let i = c.args.instruction in
    let put = c.put_record.ensures in
    let same = c.record_of.ensures in
    let items : c.put_record.new.out.items ≡ bytes_of_record (layout_of c.record_of.result) = rw (put.bytes, c.new-bytes.ensures) refl in
    let trouble = trouble_is is_ins used_ins same (ins_agrees i) [] refl (c.deref.ensures.0 ∙ items) put.record_typed c.check_fields-fields.ensures in
    let bytes = c.deref-2.ensures.0 ∙ items ∙ ap bytes_of_record same in
    let appended = c.in_ok-append.ensures in
    record {
      buffer_after =
          taken_as _ _ _ _ (add_refusal _ _ i bytes trouble appended.answer) (add_stored _ _ i bytes appended.ok)
          (add_longer _ c.args.buffer.now i bytes (c.len.ensures.value ∙ ap length (sym c.deref-2.ensures.0)) c.longer.ensures);
      call_typed = add_fits i same put.record_typed;
    }
