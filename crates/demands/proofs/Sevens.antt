-- Where reading answers 7: the scale of an MIndex record, the first of its fields that is wrong. By recursion on the depth. Assumes nothing.
use Prim.Native.Nat.{ℕ, zero, suc, ◌+◌, ◌-◌, ◌≤◌}
use mathlib.Core.Path.{◌≡◌, refl, sym, ◌∙◌}
use mathlib.Core.Bool.{Bool, true, false, not, ◌||◌, cond, false≢true}
use mathlib.Core.List.{List, [], ◌∷◌}
use mathlib.Core.Logic.{◌⊎◌, inl, inr, ⊎_elim}
use native.Mathlib.Omega.{arith}
use borrow.Author.Tests.{eqb-true, ltb-false}
use lib.Dec.{eqb, ltb, leb}
use lib.ListN.{length}
use Rattle.machine.specs.Operands.{is_scale}
use Rattle.code.specs.Layout.{Byte, number, amount, register, scale, numbers_from, shape}
use Rattle.code.specs.Tree.{Code}
use Rattle.code.specs.Records.{is_ins, is_code, is_ocmp, is_operand, body_length, operand_count, judged_fields, byte_at, number_at, signed_at, behind, ocmp_at}
use Rattle.code.specs.Reader.{Read, got, trouble, followed, unless, with_kind, with_fields, read_record, read_operands, read_with, read_ocmp, One, read_part, read_codes, read_block, read_if, read_while, read_structure, read_body, read_code, parse}
use Rattle.code.proofs.Passing.{clash, got_same, passed, either, went_on}
use Rattle.code.proofs.Sound.{ocmp_sound}
use Rattle.demands.specs.Scaling.{WrongScale}

module _ {A : Type 0} where
  -- a test whose trouble has another number is passed
  not_here : (t : Bool) (n q : ℕ) (k : Read A) (p : ℕ) → (n ≡ 7 → ⊥) → unless t n q k ≡ trouble 7 p → (t ≡ false) × (k ≡ trouble 7 p)
  not_here true n q k p h e = absurd (h (cc))
  not_here false n q k p h e = (refl, e)

  -- 7 comes from what is read, or from what follows it
  one_of : {B : Type 0} (r : Read B) (k : B → ℕ → Read A) (p : ℕ)
      → followed r k ≡ trouble 7 p → (r ≡ trouble 7 p) ⊎ ((b : B) × (m : ℕ) × (r ≡ got b m) × (k b m ≡ trouble 7 p))
  unfolding followed
  one_of (got b m) k p e = inr (b, m, refl, e)
  one_of (trouble n q) k p e = inl (cc)

-- register and xmm numbers have no 7
numbers_none : {A : Type 0} (f : ℕ) (bytes : List Byte) (bs : List ℕ) (at : ℕ) (k : Read A) (p : ℕ)
    → with_fields (numbers_from f bytes) bs at k ≡ trouble 7 p → k ≡ trouble 7 p
unfolding with_fields
numbers_none f [] bs at k p e = e
numbers_none f (number n ∷ bytes) bs at k p e =
    numbers_none (suc f) bytes bs at k p (not_here (ltb 15 (byte_at bs (at + f))) 4 (at + f) _ p (omega arith) e).1
numbers_none f (amount n ∷ bytes) bs at k p e = numbers_none (suc f) bytes bs at k p e

module _ (bs : List ℕ) where
  -- ---- a record
  abbrev past : ℕ → Read (Unit {0})
  past at = got tt (behind bs at)

  -- the fields of a record of kind k that ends inside
  module _ (at p : ℕ) (inside : behind bs at ≤ length bs) where
    index_seven : byte_at bs at ≡ 0x44 → with_fields (register 1 ∷ scale 2 ∷ register 4 ∷ []) bs at (past at) ≡ trouble 7 p → WrongScale bs p
    unfolding with_fields behind body_length
    index_seven k e =
        let w = not_here (ltb 15 (byte_at bs (at + 1))) 4 (at + 1) _ p (omega arith) e in
        go (is_scale (signed_at 2 bs (at + 2))) refl (ltb-false _ _ w.0) w.1
      where
        go : (t : Bool) → is_scale (signed_at 2 bs (at + 2)) ≡ t → byte_at bs (at + 1) ≤ 15
            → unless (not t) 7 (at + 2) (with_fields (register 4 ∷ []) bs at (past at)) ≡ trouble 7 p → WrongScale bs p
        go true s b e = clash (let w = (not_here (ltb 15 (byte_at bs (at + 4))) 4 (at + 4) _ p (omega arith) e).1 in cc)
        go false s b e =
            record {
              at = at;
              place = let q : at + 2 ≡ p = cc in sym q;
              kind = k;
              inside = let h : at + 1 + 12 ≤ length bs = rw k at inside in omega arith;
              base_right = b;
              scale_wrong = λ r. false≢true (sym s ∙ r);
            }

    fields_seven : (k : ℕ) → byte_at bs at ≡ k → with_fields (judged_fields k) bs at (past at) ≡ trouble 7 p → WrongScale bs p
    unfolding judged_fields with_fields
    fields_seven k q e = ins (is_ins k) e
      where
        rest : (t u : Bool) → u ≡ eqb k 0x44
            → with_fields (cond t (register 1 ∷ []) (cond u (register 1 ∷ scale 2 ∷ register 4 ∷ []) [])) bs at (past at) ≡ trouble 7 p
            → WrongScale bs p
        rest true u h e = clash (let w = (not_here (ltb 15 (byte_at bs (at + 1))) 4 (at + 1) _ p (omega arith) e).1 in cc)
        rest false true h e = index_seven (q ∙ eqb-true k 0x44 (sym h)) e
        rest false false h e = clash (cc)

        ins : (t : Bool)
            → with_fields (cond t (numbers_from 1 (shape k).body)
            (cond (eqb k 0x41 || eqb k 0x43) (register 1 ∷ []) (cond (eqb k 0x44) (register 1 ∷ scale 2 ∷ register 4 ∷ []) []))) bs at (past at)
            ≡ trouble 7 p
            → WrongScale bs p
        ins true e = clash (let w = numbers_none 1 (shape k).body bs at (past at) p e in cc)
        ins false e = rest (eqb k 0x41 || eqb k 0x43) (eqb k 0x44) refl e

  kind_none : {A : Type 0} (allowed : ℕ → Bool) (e at : ℕ) (k : Read A) (p : ℕ) → with_kind allowed bs e at k ≡ trouble 7 p → k ≡ trouble 7 p
  kind_none allowed e at k p h =
      let other = not (allowed (byte_at bs at)) in
      (not_here other 2 at k p (omega arith) (not_here (leb e at) 3 at (unless other 2 at k) p (omega arith) h).1).1

  record_seven : (allowed : ℕ → Bool) (e at p : ℕ) → e ≤ length bs → read_record allowed bs e at ≡ trouble 7 p → WrongScale bs p
  unfolding read_record
  record_seven allowed e at p l h =
      let w = not_here (ltb e (behind bs at)) 3 at _ p (omega arith) (kind_none allowed e at _ p h) in
      fields_seven at p (let m = ltb-false e (behind bs at) w.0 in omega arith) (byte_at bs at) refl w.1

  operands_seven : (n e at p : ℕ) → e ≤ length bs → read_operands n bs e at ≡ trouble 7 p → WrongScale bs p
  unfolding read_operands
  operands_seven zero e at p l h = clash (cc)
  operands_seven (suc n) e at p l h =
      ⊎_elim (λ r. record_seven is_operand e at p l r) (λ w. operands_seven n e w.1 p l w.3) (one_of (read_record is_operand bs e at) _ p h)

  with_seven : {A : Type 0} (allowed : ℕ → Bool) (a : A) (e at p : ℕ) → e ≤ length bs → read_with allowed a bs e at ≡ trouble 7 p → WrongScale bs p
  unfolding read_with
  with_seven allowed a e at p l h =
      ⊎_elim
      (λ r. record_seven allowed e at p l r)
      (λ w.
      ⊎_elim (λ r. operands_seven (operand_count (byte_at bs at)) e w.1 p l r) (λ v. clash (let x = v.3 in cc))
      (one_of (read_operands (operand_count (byte_at bs at)) bs e w.1) _ p w.3))
      (one_of (read_record allowed bs e at) _ p h)

  ocmp_seven : (e at p : ℕ) → e ≤ length bs → read_ocmp bs e at ≡ trouble 7 p → WrongScale bs p
  unfolding read_ocmp
  ocmp_seven e at p l h = with_seven is_ocmp (ocmp_at bs at) e at p l h

  -- ---- codes, each read by `one`
  module _ (one : One) (seven : (e at p : ℕ) → e ≤ length bs → one e at ≡ trouble 7 p → WrongScale bs p) where
    part_seven : (e at p : ℕ) → e ≤ length bs → read_part one e at ≡ trouble 7 p → WrongScale bs p
    unfolding read_part
    part_seven e at p l h =
        ⊎_elim (λ r. seven e at p l r)
        (λ w. clash (let x = (not_here (not (eqb w.1 e)) 6 w.1 (got w.0 e) p (omega arith) w.3).1 in cc))
        (one_of (one e at) _ p h)

    -- what is got of a part ends where the part does
    part_ends : (e at : ℕ) (c : Code) (m : ℕ) → read_part one e at ≡ got c m → m ≡ e
    unfolding read_part
    part_ends e at c m h =
        let w = went_on (one e at) _ c m h in
        sym (got_same w.0 c e m (passed (not (eqb w.1 e)) 6 w.1 (got w.0 e) c m w.3).1).1

    codes_seven : (n e at p : ℕ) → e ≤ length bs → read_codes one n e at ≡ trouble 7 p → WrongScale bs p
    unfolding read_codes
    codes_seven zero e at p l h = clash (cc)
    codes_seven (suc n) e at p l h =
        ⊎_elim (λ w. clash (let x = w.1 in cc))
        (λ w.
        ⊎_elim (λ r. seven e at p l r)
        (λ v. ⊎_elim (λ r. codes_seven n e v.1 p l r) (λ u. clash (let x = u.3 in cc)) (one_of (read_codes one n e v.1) _ p v.3))
        (one_of (one e at) _ p w.1))
        (either (eqb at e) _ _ (trouble 7 p) h)

    block_seven : (e at p : ℕ) → e ≤ length bs → at + 5 ≤ e → read_block one bs e at ≡ trouble 7 p → WrongScale bs p
    unfolding read_block
    block_seven e at p l k h =
        let size = number_at 4 bs (at + 1) in
        let t = not_here (ltb (e - (at + 5)) size) 6 at _ p (omega arith) h in
        let r : size ≤ e - (at + 5) = ltb-false _ _ t.0 in
        ⊎_elim (λ x. codes_seven size (at + 5 + size) (at + 5) p (omega arith) x) (λ w. clash (let x = w.3 in cc))
        (one_of (read_codes one size (at + 5 + size) (at + 5)) _ p t.1)

    while_seven : (e at p : ℕ) → e ≤ length bs → read_while one bs e at ≡ trouble 7 p → WrongScale bs p
    unfolding read_while
    while_seven e at p l h =
        let size = number_at 4 bs (at + 1) in
        ⊎_elim (λ r. ocmp_seven e (at + 5) p l r)
        (λ w.
        let o = ocmp_sound bs e (at + 5) w.0 w.1 w.2 in
        let t = not_here (ltb (e - w.1) size) 6 at _ p (omega arith) w.3 in
        let r : size ≤ e - w.1 = ltb-false _ _ t.0 in
        ⊎_elim (λ x. part_seven (w.1 + size) w.1 p (omega (arith, o.2)) x) (λ v. clash (let x = v.3 in cc))
        (one_of (read_part one (w.1 + size) w.1) _ p t.1))
        (one_of (read_ocmp bs e (at + 5)) _ p h)

    if_seven : (e at p : ℕ) → e ≤ length bs → read_if one bs e at ≡ trouble 7 p → WrongScale bs p
    unfolding read_if
    if_seven e at p l h =
        let size = number_at 4 bs (at + 1) in
        let other = number_at 4 bs (at + 5) in
        ⊎_elim (λ r. ocmp_seven e (at + 9) p l r)
        (λ w.
        let o = ocmp_sound bs e (at + 9) w.0 w.1 w.2 in
        let t = not_here (ltb (e - w.1) (size + other)) 6 at _ p (omega arith) w.3 in
        let r : size + other ≤ e - w.1 = ltb-false _ _ t.0 in
        ⊎_elim (λ x. part_seven (w.1 + size) w.1 p (omega (arith, o.2)) x)
        (λ v.
        let q = part_ends (w.1 + size) w.1 v.0 v.1 v.2 in
        ⊎_elim (λ x. part_seven (v.1 + other) v.1 p (omega (arith, o.2, q)) x) (λ u. clash (let x = u.3 in cc))
        (one_of (read_part one (v.1 + other) v.1) _ p v.3))
        (one_of (read_part one (w.1 + size) w.1) _ p t.1))
        (one_of (read_ocmp bs e (at + 9)) _ p h)

    structure_seven : (e at p : ℕ) → e ≤ length bs → behind bs at ≤ e → read_structure one bs e at ≡ trouble 7 p → WrongScale bs p
    unfolding read_structure behind body_length
    structure_seven e at p l k h =
        ⊎_elim
        (λ w. let m : at + 1 + 4 ≤ e = rw (eqb-true (byte_at bs at) 0x20 w.0) at k in block_seven e at p l (omega arith) w.1)
        (λ w. ⊎_elim (λ v. if_seven e at p l v.1) (λ v. while_seven e at p l v.1) (either (eqb (byte_at bs at) 0x21) _ _ (trouble 7 p) w.1))
        (either (eqb (byte_at bs at) 0x20) _ _ (trouble 7 p) h)

    body_seven : (e at p : ℕ) → e ≤ length bs → read_body one bs e at ≡ trouble 7 p → WrongScale bs p
    unfolding read_body
    body_seven e at p l h =
        ⊎_elim
        (λ w. with_seven is_code _ e at p l w.1)
        (λ w.
        let t = not_here (ltb e (behind bs at)) 3 at _ p (omega arith) w.1 in
        structure_seven e at p l (ltb-false _ _ t.0) t.1)
        (either (is_ins (byte_at bs at)) _ _ (trouble 7 p) h)

  code_seven : (d e at p : ℕ) → e ≤ length bs → read_code d bs e at ≡ trouble 7 p → WrongScale bs p
  unfolding read_code
  code_seven zero e at p l h = clash (let x = kind_none is_code e at (trouble 5 at) p h in let y : ◌≡◌ {A = ℕ} 5 7 = cc in omega (arith, y))
  code_seven (suc d) e at p l h = body_seven (read_code d bs) (λ e at p l h. code_seven d e at p l h) e at p l (kind_none is_code e at _ p h)

  pub parse_seven : (p : ℕ) → parse bs ≡ trouble 7 p → WrongScale bs p
  unfolding parse
  parse_seven p h =
      part_seven (read_code 32 bs) (λ e at p l h. code_seven 32 e at p l h) (length bs) 0 p (omega arith)
      (not_here (eqb (length bs) 0 || ltb 16384 (length bs)) 1 0 _ p (omega arith) h).1
