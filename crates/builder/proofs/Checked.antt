-- What the check of code says of a record that was written: the number of its first wrong field, in the order of its bytes. Assumes nothing.
use Prim.Native.Nat.{ℕ, zero, suc, ◌+◌, ◌≤◌}
use mathlib.Core.Path.{◌≡◌, refl, sym, ap, subst, subst⁻¹, ◌∙◌}
use mathlib.Core.Bool.{Bool, true, false, not, ◌||◌}
use mathlib.Core.List.{List, [], ◌∷◌, ◌++◌, map}
use native.Mathlib.Omega.{arith}
use borrow.Author.Tests.{leb-true, leb-false, le-ltb, lt-ltb, lt-leb}
use lib.Dec.{ltb, leb}
use lib.IntN.{ℤ}
use lib.ListN.{length, length-append}
use Rattle.machine.specs.Operands.{is_scale}
use Rattle.machine.specs.declared.Maddr.{Maddr}
use Rattle.machine.specs.declared.Maddr.TheVariants.{MConst, MReg, MIndex}
use Rattle.machine.specs.declared.Operand.{Operand}
use Rattle.machine.specs.declared.Operand.TheVariants.{OConst, OReg, OMem}
use Rattle.code.specs.Layout.{Byte, number, amount, Layout, values, numbers_from}
use Rattle.code.specs.Records.{is_ins, is_code, is_ocmp, is_operand, body_length, judged_fields, operand_count, byte_at, signed_at, behind}
use Rattle.code.specs.Reader.{Read, got, trouble, followed, unless, with_fields, read_record, read_operands}
use Rattle.code.specs.Kinds.{is_used}
use Rattle.code.specs.Reached.{Begins, rest_of_record, rest_of_all}
use Rattle.code.specs.WellFormed.{All}
use Rattle.code.specs.Writer.{bytes_of, signed_bytes, bytes_of_maddr, bytes_of_operand, bytes_of_operands, bytes_of_record}
use Rattle.code.proofs.Layouts.{Agrees}
use Rattle.code.proofs.Complete.{behind_structure}
use Rattle.code.proofs.Held.{Holds, holds_from, holds_behind, split, length_bytes, length_signed, signed_held}
use Rattle.code.proofs.ReadBack.{kind_is, count_is, parts, ends_at}
use Rattle.builder.specs.Calls.{first_of, number_trouble, scale_trouble, byte_trouble, maddr_trouble, operand_trouble, body_trouble, operands_trouble, record_trouble, MaddrTyped, OperandTyped, ByteTyped, RecordTyped}
use Rattle.builder.specs.Rendered.{trouble_of}

-- ---- the first of some claims, and the others
pub first : (A : Type 0) (As : List (Type 0)) → All (A ∷ As) → A
first A [] h = h
first A (B ∷ As) h = h.0

pub others : (A : Type 0) (As : List (Type 0)) → All (A ∷ As) → All As
others A [] h = tt
others A (B ∷ As) h = h.1

operands_typed : (bytes : List Byte) (os : List Operand) → All (map ByteTyped bytes ++ map OperandTyped os) → All (map OperandTyped os)
operands_typed [] os h = h
operands_typed (b ∷ bytes) os h = operands_typed bytes os (others (ByteTyped b) (map ByteTyped bytes ++ map OperandTyped os) h)

-- ---- a reading has the trouble n, or, where that is 0, goes on at m
abbrev pub Says : Read (Unit {0}) → ℕ → ℕ → Type 0
Says r zero m = r ≡ got tt m
Says r (suc n) m = (p : ℕ) × (r ≡ trouble (suc n) p)

says_number : (r : Read (Unit {0})) (n m : ℕ) → Says r n m → trouble_of r ≡ n
says_number r zero m h = ap trouble_of h
says_number r (suc n) m h = ap trouble_of h.1

-- the first of numbers
first_last : (n : ℕ) → first_of n 0 ≡ n
unfolding first_of
first_last zero = refl
first_last (suc n) = refl

first_assoc : (a b c : ℕ) → first_of (first_of a b) c ≡ first_of a (first_of b c)
unfolding first_of
first_assoc zero b c = refl
first_assoc (suc a) b c = refl

-- ---- one field, and what follows it
module _ (p : ℕ) (k : Read (Unit {0})) (t m : ℕ) (h : Says k t m) where
  number_says : (x y : ℕ) → y ≡ x → Says (unless (ltb 15 y) 4 p k) (first_of (number_trouble x) t) m
  unfolding first_of number_trouble
  number_says x y e = go (leb x 15) refl
    where
      go : (b : Bool) → leb x 15 ≡ b → Says (unless (ltb 15 y) 4 p k) (first_of (number_trouble x) t) m
      go true q = rw (e, q, le-ltb 15 x (leb-true x 15 q)) h
      go false q = rw (e, q, lt-ltb 15 x (leb-false x 15 q)) (p, refl)

  scale_says : (x y : ℤ) → y ≡ x → Says (unless (not (is_scale y)) 7 p k) (first_of (scale_trouble x) t) m
  unfolding first_of scale_trouble
  scale_says x y e = go (is_scale x) refl
    where
      go : (b : Bool) → is_scale x ≡ b → Says (unless (not (is_scale y)) 7 p k) (first_of (scale_trouble x) t) m
      go true q = rw (e, q) h
      go false q = rw (e, q) (p, refl)

-- the last field
number_last : (p m x y : ℕ) → y ≡ x → Says (unless (ltb 15 y) 4 p (got tt m)) (number_trouble x) m
number_last p m x y e =
    subst (λ (n : ℕ). Says (unless (ltb 15 y) 4 p (got tt m)) n m) (first_last (number_trouble x)) (number_says p (got tt m) 0 m refl x y e)

-- a reading, and what follows it
follows : (r : Read (Unit {0})) (n m t e : ℕ) (f : Unit {0} → ℕ → Read (Unit {0}))
    → Says r n m → Says (f tt m) t e → Says (followed r f) (first_of n t) e
unfolding first_of followed
follows r zero m t e f h k = rw h k
follows r (suc n) m t e f h k = (h.0, rw h.1 refl)

module _ (bs : List ℕ) where
  -- ---- an operand
  module _ (at e : ℕ) where
    -- its kind is one, and its body ends in the part
    opened : (k : ℕ) → byte_at bs at ≡ k → is_operand k ≡ true → behind bs at ≤ e
        → read_record is_operand bs e at ≡ with_fields (judged_fields k) bs at (got tt (behind bs at))
    unfolding read_record behind
    opened k q o l = rw (q, lt-leb e at (omega arith), o, le-ltb e (at + 1 + body_length k) (rw q at l)) refl

    maddr_says : (m : Maddr) → Holds bs at (bytes_of_maddr m) → MaddrTyped m → at + length (bytes_of_maddr m) ≤ e
        → Says (read_record is_operand bs e at) (maddr_trouble m) (at + length (bytes_of_maddr m))
    unfolding bytes_of_maddr maddr_trouble MaddrTyped body_length judged_fields with_fields
    maddr_says (MConst n) h f l =
        let b : behind bs at ≡ at + length (0x42 ∷ bytes_of 8 n) = behind_structure bs at 0x42 h.0 ∙ omega (arith, length_bytes 8 n) in
        opened 0x42 h.0 refl (omega (arith, b)) ∙ ap (got tt) b
    maddr_says (MReg r z) h f l =
        let b : behind bs at ≡ at + length (0x43 ∷ r.number ∷ signed_bytes 8 z) =
        behind_structure bs at 0x43 h.0 ∙ omega (arith, length_signed 8 z) in
        let one : byte_at bs (at + 1) ≡ r.number = ap (byte_at bs) (omega arith) ∙ h.1.0 in
        rw (opened 0x43 h.0 refl (omega (arith, b)), b) (number_last (at + 1) _ r.number (byte_at bs (at + 1)) one)
    maddr_says (MIndex base s index z) h f l =
        let rest = index.number ∷ signed_bytes 8 z in
        let b : behind bs at ≡ at + length (0x44 ∷ base.number ∷ signed_bytes 2 s ++ rest) =
        behind_structure bs at 0x44 h.0 ∙ omega (arith, length-append (signed_bytes 2 s) rest, length_signed 2 s, length_signed 8 z) in
        let one : byte_at bs (at + 1) ≡ base.number = ap (byte_at bs) (omega arith) ∙ h.1.0 in
        let w = split bs (suc (suc at)) (signed_bytes 2 s) rest h.1.1 (at + 4) (omega (arith, length_signed 2 s)) in
        let two : signed_at 2 bs (at + 2) ≡ s =
        signed_held 2 refl refl s bs (at + 2) (holds_from bs (suc (suc at)) (at + 2) (signed_bytes 2 s) w.0 (omega arith)) f.1 in
        rw (opened 0x44 h.0 refl (omega (arith, b)), b)
        (number_says (at + 1) _ _ _
        (scale_says (at + 2) _ _ _ (number_last (at + 4) _ index.number (byte_at bs (at + 4)) w.1.0) s (signed_at 2 bs (at + 2)) two)
        base.number (byte_at bs (at + 1)) one)

    operand_says : (o : Operand) → Holds bs at (bytes_of_operand o) → OperandTyped o → at + length (bytes_of_operand o) ≤ e
        → Says (read_record is_operand bs e at) (operand_trouble o) (at + length (bytes_of_operand o))
    unfolding bytes_of_operand operand_trouble OperandTyped body_length judged_fields with_fields
    operand_says (OConst n) h f l =
        let b : behind bs at ≡ at + length (0x40 ∷ bytes_of 8 n) = behind_structure bs at 0x40 h.0 ∙ omega (arith, length_bytes 8 n) in
        opened 0x40 h.0 refl (omega (arith, b)) ∙ ap (got tt) b
    operand_says (OReg r) h f l =
        let b : behind bs at ≡ at + 2 = behind_structure bs at 0x41 h.0 ∙ omega arith in
        let one : byte_at bs (at + 1) ≡ r.number = ap (byte_at bs) (omega arith) ∙ h.1.0 in
        rw (opened 0x41 h.0 refl (omega (arith, b)), b) (number_last (at + 1) _ r.number (byte_at bs (at + 1)) one)
    operand_says (OMem m) h f l = maddr_says m h f l

  -- operands in a row
  operands_say : (os : List Operand) (at e : ℕ) → Holds bs at (bytes_of_operands os) → All (map OperandTyped os) → at + length (bytes_of_operands os) ≡ e
      → Says (read_operands (length os) bs e at) (operands_trouble os) e
  unfolding bytes_of_operands operands_trouble read_operands
  operands_say [] at e h f l = ap (got tt) (omega (arith, l))
  operands_say (o ∷ os) at e h f l =
      let n = length (bytes_of_operand o) in
      let w = split bs at (bytes_of_operand o) (bytes_of_operands os) h (at + n) refl in
      let As = map OperandTyped os in
      let total = length-append (bytes_of_operand o) (bytes_of_operands os) in
      follows (read_record is_operand bs e at) (operand_trouble o) (at + n) (operands_trouble os) e _
      (operand_says at e o w.0 (first (OperandTyped o) As f) (omega (arith, total)))
      (operands_say os (at + n) e w.1 (others (OperandTyped o) As f) (omega (arith, total)))

  -- ---- the numbers of a body
  body_says : (bytes : List Byte) (f at x : ℕ) (k : Read (Unit {0})) (t m : ℕ) → Holds bs x (values bytes) → x ≡ at + f → Says k t m
      → Says (with_fields (numbers_from f bytes) bs at k) (first_of (body_trouble bytes) t) m
  unfolding with_fields body_trouble byte_trouble first_of
  body_says [] f at x k t m h e s = s
  body_says (number n ∷ bytes) f at x k t m h e s =
      let rest = body_says bytes (suc f) at (suc x) k t m h.1 (omega arith) s in
      subst (λ (j : ℕ). Says (unless (ltb 15 (byte_at bs (at + f))) 4 (at + f) (with_fields (numbers_from (suc f) bytes) bs at k)) j m)
      (sym (first_assoc (number_trouble n) (body_trouble bytes) t))
      (number_says (at + f) _ _ _ rest n (byte_at bs (at + f)) (ap (byte_at bs) (sym e) ∙ h.0))
  body_says (amount n ∷ bytes) f at x k t m h e s = body_says bytes (suc f) at (suc x) k t m h.1 (omega arith) s

  -- ---- a record
  module _ (allowed : ℕ → Bool) (l : Layout) (agrees : Agrees allowed l) (typed : RecordTyped l) (at e : ℕ) (held : Holds bs at (bytes_of_record l))
      (ends : at + length (bytes_of_record l) ≡ e) where
    inside : behind bs at ≤ e
    inside = omega (arith, ends_at allowed l agrees bs at held)

    fields_are : judged_fields (byte_at bs at) ≡ numbers_from 1 l.body
    fields_are = ap judged_fields (kind_is allowed l agrees bs at held) ∙ agrees.shape.judged

    head_says : Says (rest_of_record bs e at) (body_trouble l.body) (behind bs at)
    unfolding rest_of_record
    head_says =
        let stood = (parts allowed l agrees bs at held).0 in
        let read : Read (Unit {0}) = with_fields (numbers_from 1 l.body) bs at (got tt (behind bs at)) in
        let says = body_says l.body 1 at (suc at) (got tt (behind bs at)) 0 (behind bs at) stood (omega arith) refl in
        rw (le-ltb e (behind bs at) inside, fields_are) (subst (λ (n : ℕ). Says read n (behind bs at)) (first_last (body_trouble l.body)) says)

    pub record_reads : Says (rest_of_all bs e at) (record_trouble l) e
    unfolding rest_of_all record_trouble RecordTyped
    record_reads =
        let stood = (parts allowed l agrees bs at held).1 in
        let tail : Says (read_operands (operand_count (byte_at bs at)) bs e (behind bs at)) (operands_trouble l.operands) e =
        rw (count_is allowed l agrees bs at held)
        (operands_say l.operands (behind bs at) e stood (operands_typed l.body l.operands typed) (ends_at allowed l agrees bs at held ∙ ends)) in
        follows (rest_of_record bs e at) (body_trouble l.body) (behind bs at) (operands_trouble l.operands) e _ head_says tail

    pub record_says : trouble_of (rest_of_all bs e at) ≡ record_trouble l
    record_says = says_number _ _ e record_reads

-- ---- a record that was written behind what stood there
pub used_ins : (k : ℕ) → is_ins k ≡ true → is_used k ≡ true
used_ins k h = rw h refl

pub used_ocmp : (k : ℕ) → is_ocmp k ≡ true → is_used k ≡ true
used_ocmp k h = rw h (either_way (is_code k))
  where
    either_way : (b : Bool) → (b || true) ≡ true
    either_way true = refl
    either_way false = refl

module _ (allowed : ℕ → Bool) (used : (k : ℕ) → allowed k ≡ true → is_used k ≡ true) {given l : Layout} (same : given ≡ l) (its : Agrees allowed l)
    (front : List ℕ) {bytes : List ℕ} {at : ℕ} (p : length front ≡ at) (e : bytes ≡ front ++ bytes_of_record given) where
  agrees : Agrees allowed given
  agrees = subst⁻¹ (Agrees allowed) same its

  held : Holds bytes at (bytes_of_record given)
  held =
      subst⁻¹ (λ (bs : List ℕ). Holds bs at (bytes_of_record given)) e
      (subst (λ (k : ℕ). Holds (front ++ bytes_of_record given) k (bytes_of_record given)) p (holds_behind front (bytes_of_record given)))

  ends : at + length (bytes_of_record given) ≡ length bytes
  ends = omega (arith, p, ap length e, length-append front (bytes_of_record given))

  -- begins there
  pub begins : Begins is_used bytes (length bytes) at
  unfolding bytes_of_record
  begins =
      record {
        in_part = omega (arith, ends);
        inside = omega arith;
        kind = subst⁻¹ (λ (k : ℕ). is_used k ≡ true) held.0 (used given.kind agrees.right);
      }

  -- and reading it finds its trouble
  pub trouble_is : RecordTyped given → {r : ℕ} → r ≡ trouble_of (rest_of_all bytes (length bytes) at) → r ≡ record_trouble l
  trouble_is typed h =
      h ∙ record_says bytes allowed given agrees typed at (length bytes) held ends ∙ ap record_trouble same
