-- What is spelled, and nests no deeper than is allowed, is read: by recursion on the tree. Assumes nothing.
use Prim.Native.Nat.{ℕ, zero, suc, ◌+◌, ◌-◌, ◌≤◌, ◌<◌}
use mathlib.Core.Path.{◌≡◌, refl, sym, ap, subst, ◌∙◌}
use mathlib.Core.Bool.{Bool, true, false}
use mathlib.Core.List.{List}
use native.Mathlib.Omega.{arith}
use borrow.Author.Tests.{eq-eqb, ne_eqb, le-ltb, lt-leb}
use lib.ListN.{length}
use Rattle.code.specs.declared.tree.Ocmp.{Ocmp}
use Rattle.code.specs.Tree.{Code, Ins, Block, IfElse, While, Codes, ⟨⟩, ◌∷ᶜ◌}
use Rattle.code.specs.Records.{is_ins, is_code, is_ocmp, is_operand, body_length, operand_count, judged_fields, byte_at, number_at, behind, ins_at, ocmp_at}
use Rattle.code.specs.Reader.{Read, got, followed, with_kind, read_record, read_operands, read_with, read_ocmp, One, read_part, read_codes, read_block, read_if, read_while, read_structure, read_body, read_code, parse}
use Rattle.code.specs.Spells.{IsRecord, Operands, Stands, IsBlock, IsOcmp, IsIfElse, IsWhile, Spells, SpellsAll, Nests, NestsAll, Parsed}
use Rattle.code.proofs.Passing.{fields_pass}
use Rattle.code.proofs.Sound.{behind_past, stands_past}

-- where a code ends
pub code_past : (c : Code) (bs : List ℕ) (at e : ℕ) → Spells c bs at e → at < e
unfolding Spells
code_past (Ins p i) bs at e s = stands_past is_ins bs at e s.stands
code_past (Block p cs) bs at e s = omega arith
code_past (IfElse p q c a b) bs at e s = omega (arith, stands_past is_ocmp bs (at + 9) s.0 s.1.stands)
code_past (While p q c b) bs at e s = omega (arith, stands_past is_ocmp bs (at + 5) s.0 s.1.stands)

pub codes_le : (cs : Codes) (bs : List ℕ) (at e : ℕ) → SpellsAll cs bs at e → at ≤ e
unfolding SpellsAll
codes_le ⟨⟩ bs at e s = omega arith
codes_le (c ∷ᶜ cs) bs at e s = omega (arith, code_past c bs at s.0 s.1, codes_le cs bs s.0 e s.2)

-- records
kind_pass :
    {A : Type 0} (allowed : ℕ → Bool) (bs : List ℕ) (e at : ℕ) (k : Read A) →
    at < e → allowed (byte_at bs at) ≡ true → with_kind allowed bs e at k ≡ k
kind_pass allowed bs e at k l h = rw (lt-leb e at l, h)

record_complete :
    (allowed : ℕ → Bool) (bs : List ℕ) (e at : ℕ) → IsRecord allowed bs at e →
    read_record allowed bs e at ≡ got tt (behind bs at)
unfolding read_record
record_complete allowed bs e at s =
    kind_pass allowed bs e at _ (omega (arith, behind_past bs at, s.inside)) s.kind
    ∙ rw (le-ltb e (behind bs at) s.inside) (fields_pass (judged_fields (byte_at bs at)) bs at (got tt (behind bs at)) s.fields)

wider :
    (allowed : ℕ → Bool) (bs : List ℕ) (at m e : ℕ) → m ≤ e → IsRecord allowed bs at m → IsRecord allowed bs at e
wider allowed bs at m e l s = record { kind = s.kind; inside = omega (arith, s.inside); fields = s.fields }

operands_complete :
    (n : ℕ) (bs : List ℕ) (e at m : ℕ) → m ≤ e → Operands n bs at m → read_operands n bs e at ≡ got tt m
unfolding read_operands followed
operands_complete zero bs e at m l h = ap (got tt) h
operands_complete (suc n) bs e at m l h =
    rw (record_complete is_operand bs e at (wider is_operand bs at m e l h.0))
    (operands_complete n bs e (behind bs at) m l h.1)

with_complete :
    {A : Type 0} (allowed : ℕ → Bool) (a : A) (bs : List ℕ) (e at m : ℕ) →
    m ≤ e → Stands allowed bs at m → read_with allowed a bs e at ≡ got a m
unfolding read_with followed
with_complete allowed a bs e at m l s =
    rw (record_complete allowed bs e at (wider allowed bs at m e l s.head))
    (rw (operands_complete (operand_count (byte_at bs at)) bs e (behind bs at) m l s.operands) refl)

ocmp_complete :
    (q : ℕ) (c : Ocmp) (bs : List ℕ) (e at m : ℕ) → m ≤ e → IsOcmp q c bs at m → read_ocmp bs e at ≡ got c m
unfolding read_ocmp
ocmp_complete q c bs e at m l s = with_complete is_ocmp (ocmp_at bs at) bs e at m l s.stands ∙ ap (λ (x : Ocmp). got x m) (sym s.says)

part_complete : (one : One) (e at : ℕ) (c : Code) → one e at ≡ got c e → read_part one e at ≡ got c e
unfolding read_part followed
part_complete one e at c h = rw (h, eq-eqb e e refl)

-- a structure is read by its kind
structure_reads :
    (one : One) (bs : List ℕ) (e at k : ℕ) → byte_at bs at ≡ k → is_code k ≡ true → is_ins k ≡ false → behind bs at ≤ e →
    with_kind is_code bs e at (read_body one bs e at) ≡ read_structure one bs e at
unfolding read_body
structure_reads one bs e at k h c i l =
    let w : is_code (byte_at bs at) ≡ true = rw h c in
    let v : is_ins (byte_at bs at) ≡ false = rw h i in
    kind_pass is_code bs e at (read_body one bs e at) (omega (arith, behind_past bs at)) w
    ∙ rw (v, le-ltb e (behind bs at) l) refl

ins_code : (k : ℕ) → is_ins k ≡ true → is_code k ≡ true
ins_code k h = rw h

ins_reads :
    (one : One) (bs : List ℕ) (e at m : ℕ) → is_ins (byte_at bs at) ≡ true → m ≤ e → Stands is_ins bs at m →
    read_body one bs e at ≡ got (Ins at (ins_at bs at)) m
unfolding read_body
ins_reads one bs e at m k l s =
    rw k
    (with_complete is_code (Ins at (ins_at bs at)) bs e at m l
    (record {
      head = record { kind = ins_code (byte_at bs at) k; inside = s.head.inside; fields = s.head.fields };
      operands = s.operands;
    }))

module _ (one : One) (bs : List ℕ) (e at m : ℕ) where
  block_reads :
      (p : ℕ) (cs : Codes) → IsBlock p bs at m → m ≤ e →
      read_codes one (number_at 4 bs (at + 1)) m (at + 5) ≡ got cs m →
      read_structure one bs e at ≡ got (Block p cs) m
  unfolding read_structure read_block followed
  block_reads p cs s l h =
      let size = number_at 4 bs (at + 1) in
      let r : size ≤ e - (at + 5) = omega arith in
      rw (eq-eqb (byte_at bs at) 0x20 s.kind, le-ltb (e - (at + 5)) size r, ← s.ends, h, s.place)

  while_reads :
      (p q : ℕ) (c : Ocmp) (next : ℕ) (b : Code) → IsOcmp q c bs (at + 5) next → IsWhile p bs at next m → next ≤ m → m ≤ e →
      one m next ≡ got b m →
      read_structure one bs e at ≡ got (While p q c b) m
  unfolding read_structure read_while followed
  while_reads p q c next b o s n l h =
      let size = number_at 4 bs (at + 1) in
      let r : size ≤ e - next = omega arith in
      rw (s.kind, ocmp_complete q c bs e (at + 5) next (omega arith) o, le-ltb (e - next) size r, ← s.ends)
      (rw (part_complete one m next b h, s.place, o.place) refl)

  if_reads :
      (p q : ℕ) (c : Ocmp) (next : ℕ) (a b : Code) → IsOcmp q c bs (at + 9) next → IsIfElse p bs at next m → next ≤ m → m ≤ e →
      one (next + number_at 4 bs (at + 1)) next ≡ got a (next + number_at 4 bs (at + 1)) →
      one m (next + number_at 4 bs (at + 1)) ≡ got b m →
      read_structure one bs e at ≡ got (IfElse p q c a b) m
  unfolding read_structure read_if followed
  if_reads p q c next a b o s n l g h =
      let size = number_at 4 bs (at + 1) in
      let other = number_at 4 bs (at + 5) in
      let r : size + other ≤ e - next = omega arith in
      rw (s.kind, ocmp_complete q c bs e (at + 9) next (omega arith) o, le-ltb (e - next) (size + other) r)
      (rw (part_complete one (next + size) next a g, ← s.ends, part_complete one m (next + size) b h, s.place, o.place) refl)

-- the place behind the body of each structure
pub behind_structure : (bs : List ℕ) (at k : ℕ) → byte_at bs at ≡ k → behind bs at ≡ at + 1 + body_length k
unfolding behind
behind_structure bs at k h = rw h

mutual
  unfolding Spells SpellsAll Nests NestsAll read_code read_structure read_block read_if read_while read_codes followed body_length

  pub code_complete :
      (c : Code) (d : ℕ) (bs : List ℕ) (e at m : ℕ) → Spells c bs at m → Nests c d → m ≤ e → read_code d bs e at ≡ got c m
  code_complete (Ins p i) zero bs e at m s n l = absurd (omega arith)
  code_complete (Ins p i) (suc d) bs e at m s n l =
      let k = s.stands.head.kind in
      kind_pass is_code bs e at _ (omega (arith, stands_past is_ins bs at m s.stands)) (ins_code (byte_at bs at) k)
      ∙ ins_reads (read_code d bs) bs e at m k l s.stands
      ∙ rw (s.place, s.says)
  code_complete (Block p cs) d bs e at m s n l =
      let size = number_at 4 bs (at + 1) in
      let z = s.0.ends in
      let w = codes_complete cs n.0 size bs m (at + 5) s.1 n.2 (omega arith) in
      subst (λ (x : ℕ). read_code x bs e at ≡ got (Block p cs) m) (sym n.1)
      (structure_reads (read_code n.0 bs) bs e at 0x20 s.0.kind refl refl (omega (arith, behind_structure bs at 0x20 s.0.kind))
      ∙ block_reads (read_code n.0 bs) bs e at m p cs s.0 l w)
  code_complete (IfElse p q c a b) d bs e at m s n l =
      let size = number_at 4 bs (at + 1) in
      let z = s.2.ends in
      let o = stands_past is_ocmp bs (at + 9) s.0 s.1.stands in
      let f = code_complete a n.0 bs (s.0 + size) s.0 (s.0 + size) s.3 n.2 (omega arith) in
      let g = code_complete b n.0 bs m (s.0 + size) m s.4 n.3 (omega arith) in
      subst (λ (x : ℕ). read_code x bs e at ≡ got (IfElse p q c a b) m) (sym n.1)
      (structure_reads (read_code n.0 bs) bs e at 0x21 s.2.kind refl refl (omega (arith, behind_structure bs at 0x21 s.2.kind))
      ∙ if_reads (read_code n.0 bs) bs e at m p q c s.0 a b s.1 s.2 (omega arith) l f g)
  code_complete (While p q c b) d bs e at m s n l =
      let z = s.2.ends in
      let o = stands_past is_ocmp bs (at + 5) s.0 s.1.stands in
      let f = code_complete b n.0 bs m s.0 m s.3 n.2 (omega arith) in
      subst (λ (x : ℕ). read_code x bs e at ≡ got (While p q c b) m) (sym n.1)
      (structure_reads (read_code n.0 bs) bs e at 0x22 s.2.kind refl refl (omega (arith, behind_structure bs at 0x22 s.2.kind))
      ∙ while_reads (read_code n.0 bs) bs e at m p q c s.0 b s.1 s.2 (omega arith) l f)

  pub codes_complete :
      (cs : Codes) (d n : ℕ) (bs : List ℕ) (e at : ℕ) → SpellsAll cs bs at e → NestsAll cs d → e ≤ at + n →
      read_codes (read_code d bs) n e at ≡ got cs e
  codes_complete ⟨⟩ d zero bs e at s n l = refl
  codes_complete ⟨⟩ d (suc k) bs e at s n l = rw (eq-eqb at e s)
  codes_complete (c ∷ᶜ cs) d zero bs e at s n l =
      absurd (omega (arith, code_past c bs at s.0 s.1, codes_le cs bs s.0 e s.2))
  codes_complete (c ∷ᶜ cs) d (suc k) bs e at s n l =
      let a = code_past c bs at s.0 s.1 in
      let b = codes_le cs bs s.0 e s.2 in
      rw (ne_eqb at e (λ h. omega arith), code_complete c d bs e at s.0 s.1 n.0 b)
      (rw (codes_complete cs d k bs e s.0 s.2 n.1 (omega arith)) refl)

pub parse_complete : (bs : List ℕ) (c : Code) → Parsed bs c → parse bs ≡ got c (length bs)
unfolding parse
parse_complete bs c h =
    let x : length bs ≡ 0 → ⊥ = λ e. omega (arith, h.some_bytes) in
    rw (ne_eqb (length bs) 0 x, le-ltb 16384 (length bs) h.not_too_many)
    (part_complete (read_code 32 bs) (length bs) 0 c
    (code_complete c 32 bs (length bs) 0 (length bs) h.spells h.nests (omega arith)))
