-- Bytes that stand in a row, and the numbers, the operands and the body that they spell. Assumes nothing.
use Prim.Native.Nat.{ℕ, zero, suc, ◌+◌, ◌-◌, ◌*◌, ◌/◌, ◌^◌, ◌≤◌, ◌<◌}
use mathlib.Core.Path.{◌≡◌, refl, sym, ap, subst, ◌∙◌}
use mathlib.Core.Bool.{true}
use mathlib.Core.List.{List, [], ◌∷◌, ◌++◌, append_assoc}
use native.Mathlib.Omega.{arith}
use lib.IntN.{ℤ, pos, negsuc}
use lib.ListN.{length, length-append}
use lib.Seq.{get_or-append_seam}
use Rattle.words.proofs.SignedLaws.{not_negative, is_negative}
use Rattle.machine.specs.Bytes.{byte}
use Rattle.machine.specs.Operands.{is_scale}
use Rattle.machine.proofs.Exact.{scale_small}
use Rattle.machine.proofs.SpellLaws.{byte_first, byte_next}
use Rattle.machine.specs.declared.Maddr.{Maddr}
use Rattle.machine.specs.declared.Maddr.TheVariants.{MConst, MReg, MIndex}
use Rattle.machine.specs.declared.Operand.{Operand}
use Rattle.machine.specs.declared.Operand.TheVariants.{OConst, OReg, OMem}
use Rattle.code.specs.Layout.{Byte, number, amount, values, numbers_from}
use Rattle.code.specs.Records.{is_operand, body_length, judged_fields, byte_at, number_at, signed_at, operand_at, behind, bytes_at, operands_at}
use Rattle.code.specs.Spells.{Fields, Operands}
use Rattle.code.specs.WellFormed.{Signed, WfMaddr, WfOperand}
use Rattle.code.specs.Writer.{bytes_of, signed_bytes, bytes_of_maddr, bytes_of_operand, bytes_of_operands}
use Rattle.code.proofs.Passing.{clash}
use Rattle.code.proofs.NumberLaws.{number_is}
use Rattle.code.proofs.Layouts.{WfBytes, WfOperands}
use Rattle.code.proofs.Complete.{behind_structure}
use Rattle.code.proofs.Sound.{operands_le}

-- the bytes from `at` on are xs
abbrev pub Holds : List ℕ → ℕ → List ℕ → Type 0
Holds bs at [] = Unit {0}
Holds bs at (x ∷ xs) = (byte_at bs at ≡ x) × Holds bs (suc at) xs

pub holds_from : (bs : List ℕ) (at x : ℕ) (xs : List ℕ) → Holds bs at xs → at ≡ x → Holds bs x xs
holds_from bs at x xs h e = subst (λ (n : ℕ). Holds bs n xs) e h

pub split :
    (bs : List ℕ) (at : ℕ) (xs ys : List ℕ) → Holds bs at (xs ++ ys) → (n : ℕ) → at + length xs ≡ n → Holds bs at xs × Holds bs n ys
split bs at [] ys h n e = (tt, holds_from bs at n ys h (omega arith))
split bs at (x ∷ xs) ys h n e =
    let w = split bs (suc at) xs ys h.1 n (omega arith) in
    ((h.0, w.0), w.1)

pub holds_behind : (pre xs : List ℕ) → Holds (pre ++ xs) (length pre) xs
holds_behind pre [] = tt
holds_behind pre (x ∷ xs) =
    let w : Holds ((pre ++ (x ∷ [])) ++ xs) (length (pre ++ (x ∷ []))) xs = holds_behind (pre ++ (x ∷ [])) xs in
    let l : length (pre ++ (x ∷ [])) ≡ suc (length pre) = simp length-append (omega arith) in
    let a : (pre ++ (x ∷ [])) ++ xs ≡ pre ++ (x ∷ xs) = append_assoc pre (x ∷ []) xs in
    (get_or-append_seam pre x xs 0, subst (λ (b : List ℕ). Holds b (suc (length pre)) xs) a (holds_from _ _ _ xs w l))

pub holds_self : (xs : List ℕ) → Holds xs 0 xs
holds_self xs = holds_behind [] xs

-- numbers
pub length_bytes : (n x : ℕ) → length (bytes_of n x) ≡ n
unfolding bytes_of
length_bytes zero x = refl
length_bytes (suc n) x = ap suc (length_bytes n (x / 256))

byte_held : (n x : ℕ) (bs : List ℕ) (at : ℕ) → Holds bs at (bytes_of n x) → (j : ℕ) → j < n → byte_at bs (at + j) ≡ byte j x
unfolding bytes_of
byte_held zero x bs at h j l = absurd (omega arith)
byte_held (suc n) x bs at h zero l = ap (byte_at bs) (omega arith) ∙ h.0 ∙ sym (byte_first x)
byte_held (suc n) x bs at h (suc j) l =
    ap (byte_at bs) (omega arith) ∙ byte_held n (x / 256) bs (suc at) h.1 j (omega arith) ∙ sym (byte_next j x)

pub number_held : (n x : ℕ) (bs : List ℕ) (at : ℕ) → Holds bs at (bytes_of n x) → x < 256 ^ n → number_at n bs at ≡ x
number_held n x bs at h l = number_is n x bs at l (byte_held n x bs at h)

pub length_signed : (n : ℕ) (z : ℤ) → length (signed_bytes n z) ≡ n
unfolding signed_bytes
length_signed n (pos k) = length_bytes n k
length_signed n (negsuc k) = length_bytes n (2 ^ (8 * n) - 1 - k)

pub signed_held :
    (n : ℕ) → 256 ^ n ≡ 2 ^ (8 * n) → 2 ^ (8 * n) ≡ 2 * 2 ^ (8 * n - 1) →
    (z : ℤ) (bs : List ℕ) (at : ℕ) → Holds bs at (signed_bytes n z) → Signed (8 * n) z → signed_at n bs at ≡ z
unfolding signed_bytes signed_at
signed_held n full twice (pos k) bs at h l =
    let e : number_at n bs at ≡ k = number_held n k bs at h (omega arith) in
    rw (e, not_negative (8 * n) k l)
signed_held n full twice (negsuc k) bs at h l =
    let x = 2 ^ (8 * n) - 1 - k in
    let e : number_at n bs at ≡ x = number_held n x bs at h (omega arith) in
    let m : 2 ^ (8 * n - 1) ≤ x = omega arith in
    rw (e, is_negative (8 * n) x m (omega arith)) (ap negsuc (omega arith))

-- a scale takes two bytes
scale_signed : (z : ℤ) → is_scale z ≡ true → Signed 16 z
scale_signed (pos n) h = let w = scale_small (pos n) h in omega (arith, w.1)
scale_signed (negsuc n) h = clash (cc)

-- operands; a record has at most 13 bytes
maddr_length_le : (m : Maddr) → length (bytes_of_maddr m) ≤ 13
unfolding bytes_of_maddr
maddr_length_le (MConst n) = omega (arith, length_bytes 8 n)
maddr_length_le (MReg r offset) = omega (arith, length_signed 8 offset)
maddr_length_le (MIndex base scale index offset) = simp length-append (omega (arith, length_signed 2 scale, length_signed 8 offset))

pub operand_length_le : (o : Operand) → length (bytes_of_operand o) ≤ 13
unfolding bytes_of_operand
operand_length_le (OConst n) = omega (arith, length_bytes 8 n)
operand_length_le (OReg r) = omega arith
operand_length_le (OMem m) = maddr_length_le m

pub record Held (bs : List ℕ) (at : ℕ) (o : Operand) : Type 0 where
  pub kind : is_operand (byte_at bs at) ≡ true
  pub fields : Fields (judged_fields (byte_at bs at)) bs at
  pub ends : behind bs at ≡ at + length (bytes_of_operand o)
  pub says : operand_at bs at ≡ o

module _ (bs : List ℕ) (at : ℕ) where
  next : suc at ≡ at + 1
  next = omega arith

  -- the byte behind the kind
  one_byte : (x : ℕ) → byte_at bs (suc at) ≡ x → byte_at bs (at + 1) ≡ x
  one_byte x h = rw next at h

  maddr_held : (m : Maddr) → Holds bs at (bytes_of_maddr m) → WfMaddr m → Held bs at (OMem m)
  unfolding bytes_of_maddr bytes_of_operand operand_at body_length judged_fields
  maddr_held (MConst n) h l =
      let e : number_at 8 bs (at + 1) ≡ n = number_held 8 n bs (at + 1) (holds_from bs (suc at) (at + 1) (bytes_of 8 n) h.1 next) l in
      record {
        kind = rw h.0;
        fields = rw h.0 tt;
        ends = behind_structure bs at 0x42 h.0 ∙ omega (arith, length_bytes 8 n);
        says = rw (h.0, e);
      }
  maddr_held (MReg r z) h l =
      let b = one_byte r.number h.1.0 in
      let e : signed_at 8 bs (at + 1 + 1) ≡ z =
      signed_held 8 refl refl z bs (at + 1 + 1) (holds_from bs (suc (suc at)) (at + 1 + 1) (signed_bytes 8 z) h.1.1 (omega arith)) l.1 in
      record {
        kind = rw h.0;
        fields = rw h.0 (omega (arith, b, l.0), tt);
        ends = behind_structure bs at 0x43 h.0 ∙ omega (arith, length_signed 8 z);
        says = rw (h.0, b, e);
      }
  maddr_held (MIndex base s index z) h l =
      let b = one_byte base.number h.1.0 in
      let w = split bs (suc (suc at)) (signed_bytes 2 s) (index.number ∷ signed_bytes 8 z) h.1.1 (at + 1 + 3) (omega (arith, length_signed 2 s)) in
      let d : signed_at 2 bs (at + 1 + 1) ≡ s =
      signed_held 2 refl refl s bs (at + 1 + 1) (holds_from bs (suc (suc at)) (at + 1 + 1) (signed_bytes 2 s) w.0 (omega arith)) (scale_signed s l.1) in
      let i : byte_at bs (at + 1 + 3) ≡ index.number = w.1.0 in
      let e : signed_at 8 bs (at + 1 + 4) ≡ z =
      signed_held 8 refl refl z bs (at + 1 + 4) (holds_from bs (suc (at + 1 + 3)) (at + 1 + 4) (signed_bytes 8 z) w.1.1 (omega arith)) l.3 in
      let f : byte_at bs (at + 4) ≡ index.number = ap (byte_at bs) (omega arith) ∙ i in
      let scaled : is_scale (signed_at 2 bs (at + 2)) ≡ true = ap is_scale (ap (signed_at 2 bs) (omega arith) ∙ d) ∙ l.1 in
      record {
        kind = rw h.0;
        fields = rw h.0 (omega (arith, b, l.0), (scaled, (omega (arith, f, l.2), tt)));
        ends =
            behind_structure bs at 0x44 h.0
            ∙ omega (arith, length-append (signed_bytes 2 s) (index.number ∷ signed_bytes 8 z), length_signed 2 s, length_signed 8 z);
        says = rw (h.0, b, d, i, e);
      }

  pub operand_held : (o : Operand) → Holds bs at (bytes_of_operand o) → WfOperand o → Held bs at o
  unfolding bytes_of_operand operand_at body_length judged_fields
  operand_held (OConst n) h l =
      let e : number_at 8 bs (at + 1) ≡ n = number_held 8 n bs (at + 1) (holds_from bs (suc at) (at + 1) (bytes_of 8 n) h.1 next) l in
      record {
        kind = rw h.0;
        fields = rw h.0 tt;
        ends = behind_structure bs at 0x40 h.0 ∙ omega (arith, length_bytes 8 n);
        says = rw (h.0, e);
      }
  operand_held (OReg r) h l =
      let b = one_byte r.number h.1.0 in
      record {
        kind = rw h.0;
        fields = rw h.0 (omega (arith, b), tt);
        ends = behind_structure bs at 0x41 h.0 ∙ omega arith;
        says = rw (h.0, b);
      }
  operand_held (OMem m) h l = maddr_held m h l

-- operands in a row
pub operands_held :
    (os : List Operand) (bs : List ℕ) (at : ℕ) → Holds bs at (bytes_of_operands os) → WfOperands os →
    Operands (length os) bs at (at + length (bytes_of_operands os))
unfolding bytes_of_operands
operands_held [] bs at h l = omega arith
operands_held (o ∷ os) bs at h l =
    let w = split bs at (bytes_of_operand o) (bytes_of_operands os) h (at + length (bytes_of_operand o)) refl in
    let s = operand_held bs at o w.0 l.0 in
    let r = operands_held os bs (at + length (bytes_of_operand o)) w.1 l.1 in
    let e : at + length (bytes_of_operand o) + length (bytes_of_operands os) ≡ at + length (bytes_of_operand o ++ bytes_of_operands os) =
    omega (arith, length-append (bytes_of_operand o) (bytes_of_operands os)) in
    let t : Operands (length os) bs (behind bs at) (at + length (bytes_of_operand o ++ bytes_of_operands os)) =
    subst (λ (x : ℕ). Operands (length os) bs x (at + length (bytes_of_operand o ++ bytes_of_operands os))) (sym s.ends)
    (subst (λ (x : ℕ). Operands (length os) bs (at + length (bytes_of_operand o)) x) e r)
    in
    (record { kind = s.kind; inside = operands_le (length os) bs (behind bs at) _ t; fields = s.fields }, t)

pub operands_say :
    (os : List Operand) (bs : List ℕ) (at : ℕ) → Holds bs at (bytes_of_operands os) → WfOperands os → operands_at (length os) bs at ≡ os
unfolding bytes_of_operands operands_at
operands_say [] bs at h l = refl
operands_say (o ∷ os) bs at h l =
    let w = split bs at (bytes_of_operand o) (bytes_of_operands os) h (at + length (bytes_of_operand o)) refl in
    let s = operand_held bs at o w.0 l.0 in
    rw (s.says, s.ends, operands_say os bs (at + length (bytes_of_operand o)) w.1 l.1)

-- the bytes of a body, and its numbers
pub bytes_say : (xs bs : List ℕ) (at : ℕ) → Holds bs at xs → (x : ℕ) → at ≡ x → bytes_at (length xs) bs x ≡ xs
bytes_say [] bs at h x e = refl
bytes_say (b ∷ xs) bs at h x e =
    let c : byte_at bs x ≡ b = ap (byte_at bs) (sym e) ∙ h.0 in
    rw (c, bytes_say xs bs (suc at) h.1 (x + 1) (omega arith))

pub fields_held :
    (bytes : List Byte) (f : ℕ) (bs : List ℕ) (at x : ℕ) →
    Holds bs x (values bytes) → x ≡ at + f → WfBytes bytes → Fields (numbers_from f bytes) bs at
fields_held [] f bs at x h e w = tt
fields_held (number n ∷ bytes) f bs at x h e w =
    let c : byte_at bs (at + f) ≡ n = ap (byte_at bs) (sym e) ∙ h.0 in
    (omega (arith, w.0), fields_held bytes (suc f) bs at (suc x) h.1 (omega arith) w.1)
fields_held (amount n ∷ bytes) f bs at x h e w = fields_held bytes (suc f) bs at (suc x) h.1 (omega arith) w.1
