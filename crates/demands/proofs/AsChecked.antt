-- What checking says of the bytes that a call adds is the number by which the builder refuses the call. Assumes nothing.
use Prim.Native.Nat.{ℕ, suc, ◌+◌, ◌*◌, ◌≤◌, ◌<◌}
use mathlib.Core.Path.{◌≡◌, refl, sym, ap, ◌∙◌}
use mathlib.Core.Bool.{Bool, true, ◌&&◌}
use mathlib.Core.List.{List, [], ◌∷◌, ◌++◌}
use native.Mathlib.Omega.{arith}
use borrow.Author.Tests.{leb-true, le-ltb, ne_eqb}
use lib.Dec.{leb}
use lib.ListN.{length, length-append, length-map}
use Rattle.machine.specs.Cells.{refused as check_refused}
use Rattle.machine.specs.declared.Operand.{Operand}
use Rattle.code.specs.declared.tree.Instruction.{Instruction}
use Rattle.code.specs.declared.tree.Ocmp.{Ocmp}
use Rattle.code.specs.Layout.{Layout, last_ins, layout, ocmp_layout, value, values}
use Rattle.code.specs.Records.{is_ins, is_structure, is_ocmp, body_length, operand_count, byte_at, behind}
use Rattle.code.specs.Reader.{Read, got, trouble, read_ocmp, read_part, read_structure, read_if, read_while, read_code, parse, verdict_of, check_code}
use Rattle.code.specs.Reached.{reached, rest_of_all, structure_of}
use Rattle.code.specs.Writer.{bytes_of, bytes_of_operand, bytes_of_operands, bytes_of_record, bytes_of_ins, bytes_of_ocmp}
use Rattle.code.proofs.Passing.{and_both, between_true}
use Rattle.code.proofs.KindLaws.{within}
use Rattle.code.proofs.Layouts.{Agrees, ins_agrees, ocmp_agrees, ocmp_counts}
use Rattle.code.proofs.Reaches.{reached_trouble, stops, ocmp_right}
use Rattle.code.proofs.Parts.{code_ins, code_structure}
use Rattle.code.proofs.Held.{Holds, split, holds_self, length_bytes, operand_length_le}
use Rattle.builder.specs.Calls.{Call, open_block, open_if_else, open_while, add, close, bytes_of_call, record_trouble, call_trouble, RecordTyped, CallTyped}
use Rattle.builder.specs.Rendered.{trouble_of}
use Rattle.builder.proofs.Checked.{record_says}

-- ---- a record is short
unfoldable small : ℕ → Bool
small k = leb (body_length k) 3 && leb (operand_count k) 3

kind_small : (k : ℕ) → is_ins k ≡ true → (body_length k ≤ 3) × (operand_count k ≤ 3)
unfolding small body_length operand_count
kind_small k h =
    let b = between_true 0x01 last_ins k h in
    let w = and_both (leb (body_length k) 3) (leb (operand_count k) 3) (within small last_ins 0x01 refl k b.0 (omega (arith, b.1))) in
    (leb-true _ _ w.0, leb-true _ _ w.1)

operands_short : (os : List Operand) → length (bytes_of_operands os) ≤ 13 * length os
unfolding bytes_of_operands
operands_short [] = omega arith
operands_short (o ∷ os) = omega (arith, length-append (bytes_of_operand o) (bytes_of_operands os), operand_length_le o, operands_short os)

record_short : (allowed : ℕ → Bool) (l : Layout) → Agrees allowed l → body_length l.kind ≤ 3 → operand_count l.kind ≤ 3
    → (0 < length (bytes_of_record l)) × (length (bytes_of_record l) ≤ 43)
unfolding bytes_of_record
record_short allowed l a b o =
    let total = length-append (values l.body) (bytes_of_operands l.operands) in
    (omega arith, omega (arith, total, length-map l.body value, a.shape.sized, a.shape.counted, operands_short l.operands))

-- ---- a reading with a trouble
trouble_at : (r : Read (Unit {0})) (n : ℕ) → trouble_of r ≡ suc n → (p : ℕ) × (r ≡ trouble (suc n) p)
trouble_at (got a m) n e = absurd (omega (arith, e))
trouble_at (trouble m p) n e = (p, ap (λ (x : ℕ). trouble x p) e)

-- ---- what is written from a place to the end: its code, and then all of it, are refused with that trouble
module _ (bs : List ℕ) (n p : ℕ) where
  abbrev e : ℕ
  e = length bs

  ins_trouble : 0 < e → is_ins (byte_at bs 0) ≡ true → rest_of_all bs e 0 ≡ trouble (suc n) p → read_code 32 bs e 0 ≡ trouble (suc n) p
  ins_trouble l k h =
      reached_trouble (read_code 32 bs e 0) (suc n) p (code_ins bs e 0 l 32 (trouble (suc n) p) k (omega arith) (sym h))

  ocmp_trouble : (at : ℕ) → at < e → is_ocmp (byte_at bs at) ≡ true → rest_of_all bs e at ≡ trouble (suc n) p → read_ocmp bs e at ≡ trouble (suc n) p
  ocmp_trouble at l k h = reached_trouble (read_ocmp bs e at) (suc n) p (ocmp_right bs e at (trouble (suc n) p) l k (sym h))

  structure_trouble : 0 < e → is_structure (byte_at bs 0) ≡ true → structure_of 31 bs e 0 ≡ trouble (suc n) p → read_code 32 bs e 0 ≡ trouble (suc n) p
  unfolding reached
  structure_trouble l k h =
      reached_trouble (read_code 32 bs e 0) (suc n) p (code_structure bs e 0 l 32 (trouble (suc n) p) k (omega arith) (sym (ap reached h)))

  while_trouble : byte_at bs 0 ≡ 0x22 → 5 ≤ e → read_ocmp bs e 5 ≡ trouble (suc n) p → structure_of 31 bs e 0 ≡ trouble (suc n) p
  unfolding structure_of read_structure read_while behind body_length
  while_trouble q l h = rw (q, le-ltb e 5 l) (stops _ (suc n) p _ h)

  if_trouble : byte_at bs 0 ≡ 0x21 → 9 ≤ e → read_ocmp bs e 9 ≡ trouble (suc n) p → structure_of 31 bs e 0 ≡ trouble (suc n) p
  unfolding structure_of read_structure read_if behind body_length
  if_trouble q l h = rw (q, le-ltb e 9 l) (stops _ (suc n) p _ h)

  all_refused : 0 < e → e ≤ 16384 → read_code 32 bs e 0 ≡ trouble (suc n) p → check_code bs ≡ check_refused (suc n) p
  unfolding check_code parse read_part verdict_of
  all_refused l m h = rw (ne_eqb e 0 (omega (arith, l)), le-ltb 16384 e m) (ap verdict_of (stops _ (suc n) p _ h))

-- a comparison that stands from a place to the end
module _ (bs : List ℕ) (c : Ocmp) (typed : RecordTyped (ocmp_layout c)) (at : ℕ) (held : Holds bs at (bytes_of_record (ocmp_layout c)))
    (ends : at + length (bytes_of_record (ocmp_layout c)) ≡ length bs) (n : ℕ) (h : record_trouble (ocmp_layout c) ≡ suc n) where
  ocmp_refused : (p : ℕ) × (read_ocmp bs (length bs) at ≡ trouble (suc n) p)
  unfolding bytes_of_record
  ocmp_refused =
      let l = ocmp_layout c in
      let a = ocmp_agrees c in
      let w = trouble_at (rest_of_all bs (length bs) at) n (record_says bs is_ocmp l a typed at (length bs) held ends ∙ h) in
      (w.0, ocmp_trouble bs n w.0 at (omega (arith, ends)) (rw held.0 a.right) w.1)

-- ---- the calls
abbrev Refused : Call → ℕ → Type 0
Refused c n = (p : ℕ) × (check_code (bytes_of_call c) ≡ check_refused (suc n) p)

add_checked : (i : Instruction) → RecordTyped (layout i) → (n : ℕ) → record_trouble (layout i) ≡ suc n → Refused (add i) n
unfolding bytes_of_call bytes_of_ins bytes_of_record
add_checked i typed n h =
    let bs = bytes_of_record (layout i) in
    let a = ins_agrees i in
    let k = kind_small (layout i).kind a.right in
    let short = record_short is_ins (layout i) a k.0 k.1 in
    let held = holds_self bs in
    let w = trouble_at (rest_of_all bs (length bs) 0) n (record_says bs is_ins (layout i) a typed 0 (length bs) held (omega arith) ∙ h) in
    (w.0, all_refused bs n w.0 short.0 (omega (arith, short.1)) (ins_trouble bs n w.0 short.0 (rw held.0 a.right) w.1))

module _ (c : Ocmp) (typed : RecordTyped (ocmp_layout c)) (n : ℕ) (h : record_trouble (ocmp_layout c) ≡ suc n) where
  text : List ℕ
  text = bytes_of_record (ocmp_layout c)

  short : (0 < length text) × (length text ≤ 43)
  unfolding text
  short =
      let a = ocmp_agrees c in
      let k = ocmp_counts (ocmp_layout c).kind a.right in
      record_short is_ocmp (ocmp_layout c) a (omega (arith, k.0)) (omega (arith, k.1))

  while_checked : Refused (open_while c) n
  unfolding bytes_of_call bytes_of_ocmp text
  while_checked =
      let bs = 0x22 ∷ bytes_of 4 0 ++ text in
      let size : length bs ≡ 5 + length text = omega (arith, length-append (bytes_of 4 0) text, length_bytes 4 0) in
      let held = (split bs 1 (bytes_of 4 0) text (holds_self bs).1 5 (omega (arith, length_bytes 4 0))).1 in
      let w = ocmp_refused bs c typed 5 held (sym size) n h in
      let some : 0 < length bs = omega (arith, size) in (
        w.0,
        all_refused bs n w.0 some (omega (arith, size, short.1))
            (structure_trouble bs n w.0 some refl (while_trouble bs n w.0 refl (omega (arith, size)) w.1)),
      )

  if_checked : Refused (open_if_else c) n
  unfolding bytes_of_call bytes_of_ocmp text
  if_checked =
      let bs = 0x21 ∷ bytes_of 4 0 ++ (bytes_of 4 0 ++ text) in
      let rest = bytes_of 4 0 ++ text in
      let size : length bs ≡ 9 + length text =
      omega (arith, length-append (bytes_of 4 0) rest, length-append (bytes_of 4 0) text, length_bytes 4 0) in
      let behind_one = (split bs 1 (bytes_of 4 0) rest (holds_self bs).1 5 (omega (arith, length_bytes 4 0))).1 in
      let held = (split bs 5 (bytes_of 4 0) text behind_one 9 (omega (arith, length_bytes 4 0))).1 in
      let w = ocmp_refused bs c typed 9 held (sym size) n h in
      let some : 0 < length bs = omega (arith, size) in (
        w.0,
        all_refused bs n w.0 some (omega (arith, size, short.1))
            (structure_trouble bs n w.0 some refl (if_trouble bs n w.0 refl (omega (arith, size)) w.1)),
      )

pub as_checked : (c : Call) → CallTyped c → (n : ℕ) → call_trouble c ≡ suc n → (p : ℕ) × (check_code (bytes_of_call c) ≡ check_refused (suc n) p)
unfolding CallTyped call_trouble
as_checked open_block typed n h = absurd (omega (arith, h))
as_checked (open_if_else c) typed n h = if_checked c typed n h
as_checked (open_while c) typed n h = while_checked c typed n h
as_checked (add i) typed n h = add_checked i typed n h
as_checked close typed n h = absurd (omega (arith, h))
