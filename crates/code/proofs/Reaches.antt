-- What each function of the reader answers is what the definition reaches, case by case. Assumes nothing.
use Prim.Native.Nat.{ℕ, zero, suc, ◌+◌, ◌-◌, ◌≤◌, ◌<◌}
use mathlib.Core.Path.{◌≡◌, refl, sym, ap, ◌∙◌}
use mathlib.Core.Bool.{Bool, true, false}
use mathlib.Core.List.{List}
use native.Mathlib.Omega.{arith}
use borrow.Author.Tests.{lt-ltb, le-ltb, le-leb, lt-leb}
use Rattle.machine.specs.Operands.{is_scale}
use Rattle.code.specs.Records.{is_ocmp, is_operand, body_length, operand_count, byte_at, signed_at, behind, ocmp_at}
use Rattle.code.specs.Kinds.{fields_to, LastField}
use Rattle.code.specs.Reader.{Read, got, trouble, followed, with_kind, with_fields, read_record, read_operands, read_with, read_ocmp}
use Rattle.code.specs.Reached.{reached, reach, rest_of_record, rest_of_all}
use Rattle.std.specs.Prelude.{Result, Ok, Err}
use Rattle.std.specs.Result.{IsErrAnd}
use Rattle.machine.specs.Rules.{rule_number}
use Rattle.machine.specs.declared.refusal.Refusal.{Refusal}
use Rattle.machine.specs.declared.refusal.Rule.{Rule}
use Rattle.code.proofs.Passing.{clash}

-- what the reader's functions answer
abbrev pub Reach : Type 0
Reach = Result ℕ Refusal

-- a refusal by a rule at a place
abbrev pub By : Rule → ℕ → Refusal → Type 0
By rule place r = r ≡ record { rule = rule; place = place }

-- what `?` hands on is what it found
pub handed_on : {T : Type 0} (r : Result T Refusal) (y : Refusal) → IsErrAnd r (λ z. z ≡ y) → r ≡ Err y
handed_on (Ok x) y h = absurd h
handed_on (Err z) y h = ap Err h

pub stopped : (r : Reach) (y : Refusal) → IsErrAnd r (λ z. z ≡ y) → (x : Read (Unit {0})) → reach (Err y) ≡ x → reach r ≡ x
stopped r y h x e = ap reach (handed_on r y h) ∙ e

-- what a refusal by a rule says
pub told : (r : Refusal) (rule : Rule) (place : ℕ) → By rule place r → reach (Err r) ≡ trouble (rule_number rule) place
unfolding reach
told r rule place is = rw is refl

-- readings without their trees
pub reached_got : {A : Type 0} (r : Read A) (m : ℕ) → got tt m ≡ reached r → (a : A) × (r ≡ got a m)
unfolding reached
reached_got (got a n) m h = (a, ap (got a) (let e : n ≡ m = cc in e))
reached_got (trouble n p) m h = clash (cc)

pub reached_trouble : {A : Type 0} (r : Read A) (n p : ℕ) → trouble n p ≡ reached r → r ≡ trouble n p
unfolding reached
reached_trouble (got a m) n p h = clash (cc)
reached_trouble (trouble x y) n p h =
    let e : x ≡ n = cc in
    let f : y ≡ p = cc in
    rw (e, f)

pub reached_unit : (r : Read (Unit {0})) → reached r ≡ r
unfolding reached
reached_unit (got tt m) = refl
reached_unit (trouble n p) = refl

-- trouble stops what would follow
pub stops : {A B : Type 0} (r : Read A) (n p : ℕ) (k : A → ℕ → Read B) → r ≡ trouble n p → followed r k ≡ trouble n p
unfolding followed
stops r n p k h = rw h

pub goes_on : {A B : Type 0} (r : Read A) (a : A) (m : ℕ) (k : A → ℕ → Read B) → r ≡ got a m → followed r k ≡ k a m
unfolding followed
goes_on r a m k h = rw h

-- the kind byte
module _ {A : Type 0} (allowed : ℕ → Bool) (bs : List ℕ) (e at : ℕ) (k : Read A) where
  pub kind_short : e ≤ at → with_kind allowed bs e at k ≡ trouble 3 at
  kind_short h = rw (le-leb e at h)

  pub kind_wrong : at < e → allowed (byte_at bs at) ≡ false → with_kind allowed bs e at k ≡ trouble 2 at
  kind_wrong l h = rw (lt-leb e at l, h)

  pub kind_right : at < e → allowed (byte_at bs at) ≡ true → with_kind allowed bs e at k ≡ k
  kind_right l h = rw (lt-leb e at l, h)

-- the scale is right, where there is one between the first field and the last
abbrev pub RightScale : List ℕ → ℕ → ℕ → Type 0
RightScale bs at last = 2 < last → is_scale (signed_at 2 bs (at + 2)) ≡ true

-- the judged fields up to a last one
module _ {A : Type 0} (bs : List ℕ) (at : ℕ) (k : Read A) where
  fields_none : (last : ℕ) → last ≡ 0 → with_fields (fields_to last) bs at k ≡ k
  unfolding with_fields
  fields_none zero h = refl
  fields_none (suc n) h = absurd (omega arith)

  fields_first : (last : ℕ) → (last ≡ 0 → ⊥) → 15 < byte_at bs (at + 1) → with_fields (fields_to last) bs at k ≡ trouble 4 (at + 1)
  unfolding with_fields
  fields_first zero h l = absurd (h refl)
  fields_first (suc zero) h l = rw (lt-ltb 15 (byte_at bs (at + 1)) l)
  fields_first (suc (suc zero)) h l = rw (lt-ltb 15 (byte_at bs (at + 1)) l)
  fields_first (suc (suc (suc n))) h l = rw (lt-ltb 15 (byte_at bs (at + 1)) l)

  fields_one : (last : ℕ) → last ≡ 1 → byte_at bs (at + 1) ≤ 15 → with_fields (fields_to last) bs at k ≡ k
  unfolding with_fields
  fields_one zero h l = absurd (omega arith)
  fields_one (suc zero) h l = rw (le-ltb 15 (byte_at bs (at + 1)) l)
  fields_one (suc (suc n)) h l = absurd (omega arith)

  fields_scale :
      (last : ℕ) → 2 < last → byte_at bs (at + 1) ≤ 15 → is_scale (signed_at 2 bs (at + 2)) ≡ false →
      with_fields (fields_to last) bs at k ≡ trouble 7 (at + 2)
  unfolding with_fields
  fields_scale zero g l s = absurd (omega arith)
  fields_scale (suc zero) g l s = absurd (omega arith)
  fields_scale (suc (suc zero)) g l s = absurd (omega arith)
  fields_scale (suc (suc (suc n))) g l s = rw (le-ltb 15 (byte_at bs (at + 1)) l, s)

  fields_last :
      (last : ℕ) → (last ≡ 0 → ⊥) → (last ≡ 1 → ⊥) → byte_at bs (at + 1) ≤ 15 → RightScale bs at last → 15 < byte_at bs (at + last) →
      with_fields (fields_to last) bs at k ≡ trouble 4 (at + last)
  unfolding with_fields
  fields_last zero h g l s m = absurd (h refl)
  fields_last (suc zero) h g l s m = absurd (g refl)
  fields_last (suc (suc zero)) h g l s m = rw (le-ltb 15 (byte_at bs (at + 1)) l, lt-ltb 15 (byte_at bs (at + 2)) m)
  fields_last (suc (suc (suc n))) h g l s m =
      rw (le-ltb 15 (byte_at bs (at + 1)) l, s (omega arith), lt-ltb 15 (byte_at bs (at + suc (suc (suc n)))) m)

  fields_all :
      (last : ℕ) → (last ≡ 0 → ⊥) → (last ≡ 1 → ⊥) → byte_at bs (at + 1) ≤ 15 → RightScale bs at last → byte_at bs (at + last) ≤ 15 →
      with_fields (fields_to last) bs at k ≡ k
  unfolding with_fields
  fields_all zero h g l s m = absurd (h refl)
  fields_all (suc zero) h g l s m = absurd (g refl)
  fields_all (suc (suc zero)) h g l s m = rw (le-ltb 15 (byte_at bs (at + 1)) l, le-ltb 15 (byte_at bs (at + 2)) m)
  fields_all (suc (suc (suc n))) h g l s m =
      rw (le-ltb 15 (byte_at bs (at + 1)) l, s (omega arith), le-ltb 15 (byte_at bs (at + suc (suc (suc n)))) m)

-- `read_body`
module _ (bs : List ℕ) (e at body : ℕ) (is : body ≡ body_length (byte_at bs at)) (in_part : at < e) where
  pub body_short : e - at - 1 < body → trouble 3 at ≡ rest_of_record bs e at
  unfolding reach rest_of_record behind
  body_short l =
      let m : e < at + 1 + body_length (byte_at bs at) = omega arith in
      rw (lt-ltb e (at + 1 + body_length (byte_at bs at)) m)

  module _ (fits : body ≤ e - at - 1) (last : ℕ) (f : LastField (byte_at bs at) last) where
    inner : rest_of_record bs e at ≡ with_fields (fields_to last) bs at (got tt (behind bs at))
    unfolding rest_of_record behind
    inner =
        let m : at + 1 + body_length (byte_at bs at) ≤ e = omega arith in
        rw (le-ltb e (at + 1 + body_length (byte_at bs at)) m, f.fields)

    ends : reach (Ok (at + 1 + body)) ≡ got tt (behind bs at)
    unfolding reach behind
    ends = rw is

    pub body_none : last ≡ 0 → reach (Ok (at + 1 + body)) ≡ rest_of_record bs e at
    body_none h = ends ∙ sym (inner ∙ fields_none bs at (got tt (behind bs at)) last h)

    pub body_first : (last ≡ 0 → ⊥) → 15 < byte_at bs (at + 1) → trouble 4 (at + 1) ≡ rest_of_record bs e at
    unfolding reach
    body_first h l = sym (inner ∙ fields_first bs at (got tt (behind bs at)) last h l)

    pub body_one : last ≡ 1 → byte_at bs (at + 1) ≤ 15 → reach (Ok (at + 1 + body)) ≡ rest_of_record bs e at
    body_one h l = ends ∙ sym (inner ∙ fields_one bs at (got tt (behind bs at)) last h l)

    pub body_scale :
        2 < last → byte_at bs (at + 1) ≤ 15 → is_scale (signed_at 2 bs (at + 2)) ≡ false → trouble 7 (at + 2) ≡ rest_of_record bs e at
    unfolding reach
    body_scale g l s = sym (inner ∙ fields_scale bs at (got tt (behind bs at)) last g l s)

    pub body_last :
        (last ≡ 0 → ⊥) → (last ≡ 1 → ⊥) → byte_at bs (at + 1) ≤ 15 → RightScale bs at last → 15 < byte_at bs (at + last) →
        trouble 4 (at + last) ≡ rest_of_record bs e at
    unfolding reach
    body_last h g l s m = sym (inner ∙ fields_last bs at (got tt (behind bs at)) last h g l s m)

    pub body_all :
        (last ≡ 0 → ⊥) → (last ≡ 1 → ⊥) → byte_at bs (at + 1) ≤ 15 → RightScale bs at last → byte_at bs (at + last) ≤ 15 →
        reach (Ok (at + 1 + body)) ≡ rest_of_record bs e at
    body_all h g l s m = ends ∙ sym (inner ∙ fields_all bs at (got tt (behind bs at)) last h g l s m)

-- `read_operand`
module _ (bs : List ℕ) (e at : ℕ) where
  pub operand_short : e ≤ at → trouble 3 at ≡ read_record is_operand bs e at
  unfolding reach read_record
  operand_short h = sym (kind_short is_operand bs e at _ h)

  pub operand_wrong : at < e → is_operand (byte_at bs at) ≡ false → trouble 2 at ≡ read_record is_operand bs e at
  unfolding reach read_record
  operand_wrong l h = sym (kind_wrong is_operand bs e at _ l h)

  pub operand_right :
      (x : Read (Unit {0})) → at < e → is_operand (byte_at bs at) ≡ true → x ≡ rest_of_record bs e at → x ≡ read_record is_operand bs e at
  unfolding read_record rest_of_record
  operand_right x l h g = g ∙ sym (kind_right is_operand bs e at _ l h)

-- `read_operands`
pub operands_go :
    (left : ℕ) (bs : List ℕ) (e at : ℕ) (r : Reach) (next : ℕ) → (n : ℕ) → left ≡ suc n →
    reach r ≡ read_record is_operand bs e at → r ≡ Ok next →
    read_operands left bs e at ≡ read_operands n bs e next
unfolding read_operands followed reach
operands_go left bs e at r next n h g k = rw (h, ← g, k)

pub operands_stop :
    (left : ℕ) (bs : List ℕ) (e at : ℕ) (r : Reach) (y : Refusal) → (left ≡ 0 → ⊥) →
    reach r ≡ read_record is_operand bs e at → r ≡ Err y →
    reach (Err y) ≡ read_operands left bs e at
unfolding read_operands followed reach
operands_stop zero bs e at r y h g k = absurd (h refl)
operands_stop (suc m) bs e at r y h g k = rw (← g, k)

pub operands_end : (left : ℕ) (bs : List ℕ) (e at : ℕ) → left ≡ 0 → reach (Ok at) ≡ read_operands left bs e at
unfolding read_operands reach
operands_end left bs e at h = rw h

-- `read_rest`
module _ (bs : List ℕ) (e at : ℕ) (r : Reach) (body : reach r ≡ rest_of_record bs e at) where
  pub rest_go :
      (next count : ℕ) (s : Reach) → r ≡ Ok next → count ≡ operand_count (byte_at bs at) →
      reach s ≡ read_operands count bs e next → reach s ≡ rest_of_all bs e at
  unfolding rest_of_all followed reach
  rest_go next count s k c h = rw (← body, k, ← c) h

  pub rest_stop : (y : Refusal) → r ≡ Err y → reach (Err y) ≡ rest_of_all bs e at
  unfolding rest_of_all followed reach
  rest_stop y k = rw (← body, k)

-- a record and its operands without what they say
erase : {A : Type 0} (r : Read (Unit {0})) (a : A) → reached (followed r (λ _ last. got a last)) ≡ r
unfolding reached followed
erase (got tt m) a = refl
erase (trouble n p) a = refl

erase_both :
    {A : Type 0} (r : Read (Unit {0})) (k : ℕ → Read (Unit {0})) (a : A) →
    reached (followed r (λ _ next. followed (k next) (λ _ last. got a last))) ≡ followed r (λ _ next. k next)
unfolding reached followed
erase_both (got tt m) k a = erase (k m) a
erase_both (trouble n p) k a = refl

module _ {A : Type 0} (allowed : ℕ → Bool) (a : A) (bs : List ℕ) (e at : ℕ) where
  pub with_short : e ≤ at → read_with allowed a bs e at ≡ trouble 3 at
  unfolding read_with read_record
  with_short h = stops _ 3 at _ (kind_short allowed bs e at _ h)

  pub with_wrong : at < e → allowed (byte_at bs at) ≡ false → read_with allowed a bs e at ≡ trouble 2 at
  unfolding read_with read_record
  with_wrong l h = stops _ 2 at _ (kind_wrong allowed bs e at _ l h)

  pub with_right : at < e → allowed (byte_at bs at) ≡ true → reached (read_with allowed a bs e at) ≡ rest_of_all bs e at
  unfolding read_with read_record rest_of_all rest_of_record
  with_right l h =
      ap
      (λ (r : Read (Unit {0})). reached (followed r (λ _ next. followed (read_operands (operand_count (byte_at bs at)) bs e next) (λ _ last. got a last))))
      (kind_right allowed bs e at (rest_of_record bs e at) l h)
      ∙ erase_both (rest_of_record bs e at) (λ next. read_operands (operand_count (byte_at bs at)) bs e next) a

-- `read_ocmp`
module _ (bs : List ℕ) (e at : ℕ) where
  pub ocmp_short : e ≤ at → trouble 3 at ≡ reached (read_ocmp bs e at)
  unfolding reach reached read_ocmp
  ocmp_short h = rw (with_short is_ocmp (ocmp_at bs at) bs e at h)

  pub ocmp_wrong : at < e → is_ocmp (byte_at bs at) ≡ false → trouble 2 at ≡ reached (read_ocmp bs e at)
  unfolding reach reached read_ocmp
  ocmp_wrong l h = rw (with_wrong is_ocmp (ocmp_at bs at) bs e at l h)

  pub ocmp_right :
      (x : Read (Unit {0})) → at < e → is_ocmp (byte_at bs at) ≡ true → x ≡ rest_of_all bs e at → x ≡ reached (read_ocmp bs e at)
  unfolding read_ocmp
  ocmp_right x l h g = g ∙ sym (with_right is_ocmp (ocmp_at bs at) bs e at l h)
