-- Reading back what was written gives the tree: the bytes of a code spell it, by recursion on the tree, and what is spelled
-- is read. Assumes nothing.
use Prim.Native.Nat.{ℕ, suc, ◌+◌, ◌^◌, ◌≤◌, ◌<◌}
use mathlib.Core.Path.{◌≡◌, refl, sym, ap, subst, ◌∙◌}
use mathlib.Core.Bool.{Bool}
use mathlib.Core.List.{List, ◌++◌}
use native.Mathlib.Omega.{arith}
use lib.ListN.{length, length-append, length-map}
use Rattle.code.specs.declared.tree.Instruction.{Instruction}
use Rattle.code.specs.declared.tree.Ocmp.{Ocmp}
use Rattle.code.specs.Tree.{Code, Ins, Block, IfElse, While, Codes, ⟨⟩, ◌∷ᶜ◌}
use Rattle.code.specs.Layout.{Layout, layout, ocmp_layout, value, values}
use Rattle.code.specs.Records.{is_ins, is_ocmp, body_length, operand_count, byte_at, number_at, behind, bytes_at, operands_at, ins_at, ocmp_at}
use Rattle.code.specs.Reader.{got, parse}
use Rattle.code.specs.Spells.{Operands, Stands, IsOcmp, Spells, SpellsAll, Nests}
use Rattle.code.specs.WellFormed.{WfLayout, WfIns, WfOcmp, WfCode, WfCodes}
use Rattle.code.specs.Writer.{bytes_of, bytes_of_operands, bytes_of_record, bytes_of_ins, bytes_of_ocmp, bytes_of_code, bytes_of_codes, PlacedAt, PlacedAll}
use Rattle.code.proofs.Layouts.{Agrees, ins_agrees, ins_read, ocmp_agrees, ocmp_read, bounds}
use Rattle.code.proofs.Sound.{operands_le}
use Rattle.code.proofs.Complete.{parse_complete}
use Rattle.code.proofs.Held.{Holds, holds_from, split, holds_self, length_bytes, number_held, operands_held, operands_say, bytes_say, fields_held}

-- where the parts of a record stand that is laid out so
module _ (allowed : ℕ → Bool) (l : Layout) (agrees : Agrees allowed l) (bs : List ℕ) (at : ℕ) (held : Holds bs at (bytes_of_record l)) where
  pub kind_is : byte_at bs at ≡ l.kind
  unfolding bytes_of_record
  kind_is = held.0

  body_is : body_length (byte_at bs at) ≡ length (values l.body)
  body_is = ap body_length kind_is ∙ agrees.shape.sized ∙ sym (length-map l.body value)

  pub count_is : operand_count (byte_at bs at) ≡ length l.operands
  count_is = ap operand_count kind_is ∙ agrees.shape.counted

  pub parts : Holds bs (suc at) (values l.body) × Holds bs (behind bs at) (bytes_of_operands l.operands)
  unfolding bytes_of_record behind
  parts = split bs (suc at) (values l.body) (bytes_of_operands l.operands) held.1 (behind bs at) (omega (arith, body_is))

  pub ends_at : behind bs at + length (bytes_of_operands l.operands) ≡ at + length (bytes_of_record l)
  unfolding bytes_of_record behind
  ends_at = omega (arith, body_is, length-append (values l.body) (bytes_of_operands l.operands))

  body_said : bytes_at (body_length (byte_at bs at)) bs (at + 1) ≡ values l.body
  body_said = rw body_is (bytes_say (values l.body) bs (suc at) parts.0 (at + 1) (omega arith))

-- and what they say, where the fields are right
module _ (allowed : ℕ → Bool) (l : Layout) (agrees : Agrees allowed l) (wf : WfLayout l) (bs : List ℕ) (at : ℕ)
    (held : Holds bs at (bytes_of_record l)) where
  operands_said : operands_at (operand_count (byte_at bs at)) bs (behind bs at) ≡ l.operands
  operands_said =
      rw (count_is allowed l agrees bs at held)
      (operands_say l.operands bs (behind bs at) (parts allowed l agrees bs at held).1 (bounds l wf).1)

  stands : Stands allowed bs at (at + length (bytes_of_record l))
  stands =
      let e = at + length (bytes_of_record l) in
      let where_is = kind_is allowed l agrees bs at held in
      let stood = parts allowed l agrees bs at held in
      let there = operands_held l.operands bs (behind bs at) stood.1 (bounds l wf).1 in
      let o : Operands (operand_count (byte_at bs at)) bs (behind bs at) e =
      rw (← count_is allowed l agrees bs at held, ends_at allowed l agrees bs at held) at there in
      let f = fields_held l.body 1 bs at (suc at) stood.0 (omega arith) (bounds l wf).0 in
      record {
        head =
            record {
              kind = rw where_is agrees.right;
              inside = operands_le (operand_count (byte_at bs at)) bs (behind bs at) e o;
              fields = rw (where_is, agrees.shape.judged) f;
            };
        operands = o;
      }

module _ (bs : List ℕ) (at : ℕ) where
  -- an instruction's record spells it
  ins_written : (i : Instruction) → Holds bs at (bytes_of_ins i) → WfIns i → Stands is_ins bs at (at + length (bytes_of_ins i)) × (ins_at bs at ≡ i)
  unfolding bytes_of_ins WfIns ins_at
  ins_written i h w =
      let l = layout i in
      let a = ins_agrees i in
      let says : ins_at bs at ≡ i =
      rw (body_said is_ins l a bs at h, operands_said is_ins l a w bs at h, kind_is is_ins l a bs at h) (ins_read i) in
      (stands is_ins l a w bs at h, says)

  -- a comparison's record spells it
  ocmp_written : (c : Ocmp) → Holds bs at (bytes_of_ocmp c) → WfOcmp c → IsOcmp at c bs at (at + length (bytes_of_ocmp c))
  unfolding bytes_of_ocmp WfOcmp ocmp_at
  ocmp_written c h w =
      let l = ocmp_layout c in
      let a = ocmp_agrees c in
      let says : ocmp_at bs at ≡ c = rw (operands_said is_ocmp l a w bs at h, kind_is is_ocmp l a bs at h) (ocmp_read c) in
      record { place = refl; says = sym says; stands = stands is_ocmp l a w bs at h }

-- a length in four bytes
size_held : (bs : List ℕ) (at n : ℕ) → Holds bs at (bytes_of 4 n) → n < 2 ^ 32 → (x : ℕ) → at ≡ x → number_at 4 bs x ≡ n
size_held bs at n h l x e = number_held 4 n bs x (holds_from bs at x (bytes_of 4 n) h e) l

-- the bytes of a code spell it
mutual
  unfolding bytes_of_code bytes_of_codes WfCode WfCodes PlacedAt PlacedAll Spells SpellsAll

  pub code_written :
      (c : Code) (bs : List ℕ) (at e : ℕ) → Holds bs at (bytes_of_code c) → WfCode c → PlacedAt at c →
      length (bytes_of_code c) < 2 ^ 32 → at + length (bytes_of_code c) ≡ e → Spells c bs at e
  code_written (Ins p i) bs at e h l q m x =
      let w = ins_written bs at i h l in
      record { place = q; says = sym w.1; stands = subst (λ (n : ℕ). Stands is_ins bs at n) x w.0 }
  code_written (Block p cs) bs at e h l q m x =
      let B = bytes_of_codes cs in
      let n = bytes_of 4 (length B) in
      let k = length-append n B in
      let z = length_bytes 4 (length B) in
      let w = split bs (suc at) n B h.1 (at + 5) (omega arith) in
      let a = size_held bs (suc at) (length B) w.0 (omega arith) (at + 1) (omega arith) in (
        record { place = q.0; kind = h.0; ends = omega arith },
        codes_written cs bs (at + 5) e w.1 l q.1 (omega arith) (omega arith),
      )
  code_written (IfElse p r c a b) bs at e h l q m x =
      let A = bytes_of_code a in
      let B = bytes_of_code b in
      let C = bytes_of_ocmp c in
      let n = bytes_of 4 (length A) in
      let o = bytes_of 4 (length B) in
      let k1 = length-append n (o ++ (C ++ (A ++ B))) in
      let k2 = length-append o (C ++ (A ++ B)) in
      let k3 = length-append C (A ++ B) in
      let k4 = length-append A B in
      let z1 = length_bytes 4 (length A) in
      let z2 = length_bytes 4 (length B) in
      let w1 = split bs (suc at) n (o ++ (C ++ (A ++ B))) h.1 (at + 5) (omega arith) in
      let w2 = split bs (at + 5) o (C ++ (A ++ B)) w1.1 (at + 9) (omega arith) in
      let w3 = split bs (at + 9) C (A ++ B) w2.1 (at + 9 + length C) refl in
      let w4 = split bs (at + 9 + length C) A B w3.1 (at + 9 + length C + length A) refl in
      let s1 = size_held bs (suc at) (length A) w1.0 (omega arith) (at + 1) (omega arith) in
      let s2 = size_held bs (at + 5) (length B) w2.0 (omega arith) (at + 5) refl in
      let t = ocmp_written bs (at + 9) c w3.0 l.0 in (
        at + 9 + length C,
        record { place = q.1; says = t.says; stands = t.stands },
        record { place = q.0; kind = h.0; ends = omega arith },
        code_written a bs (at + 9 + length C) (at + 9 + length C + number_at 4 bs (at + 1)) w4.0 l.1 q.2 (omega arith) (omega arith),
        code_written b bs (at + 9 + length C + number_at 4 bs (at + 1)) e
            (holds_from bs (at + 9 + length C + length A) (at + 9 + length C + number_at 4 bs (at + 1)) B w4.1 (omega arith)) l.2
            (subst (λ (y : ℕ). PlacedAt y b) (ap (λ (y : ℕ). at + 9 + length C + y) (sym s1)) q.3) (omega arith) (omega arith),
      )
  code_written (While p r c b) bs at e h l q m x =
      let B = bytes_of_code b in
      let C = bytes_of_ocmp c in
      let n = bytes_of 4 (length B) in
      let k1 = length-append n (C ++ B) in
      let k2 = length-append C B in
      let z = length_bytes 4 (length B) in
      let w1 = split bs (suc at) n (C ++ B) h.1 (at + 5) (omega arith) in
      let w2 = split bs (at + 5) C B w1.1 (at + 5 + length C) refl in
      let s = size_held bs (suc at) (length B) w1.0 (omega arith) (at + 1) (omega arith) in
      let t = ocmp_written bs (at + 5) c w2.0 l.0 in (
        at + 5 + length C,
        record { place = q.1; says = t.says; stands = t.stands },
        record { place = q.0; kind = h.0; ends = omega arith },
        code_written b bs (at + 5 + length C) e w2.1 l.1 q.2 (omega arith) (omega arith),
      )

  pub codes_written :
      (cs : Codes) (bs : List ℕ) (at e : ℕ) → Holds bs at (bytes_of_codes cs) → WfCodes cs → PlacedAll at cs →
      length (bytes_of_codes cs) < 2 ^ 32 → at + length (bytes_of_codes cs) ≡ e → SpellsAll cs bs at e
  codes_written ⟨⟩ bs at e h l q m x = omega arith
  codes_written (c ∷ᶜ cs) bs at e h l q m x =
      let A = bytes_of_code c in
      let B = bytes_of_codes cs in
      let k = length-append A B in
      let w = split bs at A B h (at + length A) refl in (
        at + length A,
        code_written c bs at (at + length A) w.0 l.0 q.0 (omega arith) refl,
        codes_written cs bs (at + length A) e w.1 l.1 q.1 (omega arith) (omega arith),
      )

-- a code has at least one byte
pub code_bytes : (c : Code) → 0 < length (bytes_of_code c)
unfolding bytes_of_code bytes_of_ins bytes_of_record
code_bytes (Block p cs) = omega arith
code_bytes (IfElse p q c a b) = omega arith
code_bytes (While p q c b) = omega arith
code_bytes (Ins p i) = omega arith

-- reading a written tree back gives the tree, for a well-formed tree within the limits whose places are right
pub read_back :
    (c : Code) → WfCode c → PlacedAt 0 c → Nests c 32 → length (bytes_of_code c) ≤ 16384 →
    parse (bytes_of_code c) ≡ got c (length (bytes_of_code c))
read_back c l q n m =
    parse_complete (bytes_of_code c) c
    (record {
      spells = code_written c (bytes_of_code c) 0 (length (bytes_of_code c)) (holds_self (bytes_of_code c)) l q (omega arith) (omega arith);
      nests = n;
      some_bytes = code_bytes c;
      not_too_many = m;
    })
