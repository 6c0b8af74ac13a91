-- What is read is spelled, and nests no deeper than was allowed: by recursion on the depth. Assumes nothing.
use Prim.Native.Nat.{ℕ, zero, suc, ◌+◌, ◌-◌, ◌≤◌, ◌<◌}
use mathlib.Core.Path.{◌≡◌, refl, sym, subst}
use mathlib.Core.Bool.{Bool, true, not, ◌||◌}
use mathlib.Core.List.{List}
use mathlib.Core.Logic.{⊎_elim}
use native.Mathlib.Omega.{arith}
use borrow.Author.Tests.{eqb-true, eqb-false, ltb-false, leb-false, not-false}
use lib.Dec.{eqb, ltb, leb}
use lib.ListN.{length}
use Rattle.code.specs.declared.tree.Ocmp.{Ocmp}
use Rattle.code.specs.Tree.{Code, Ins, Block, IfElse, While, Codes, ⟨⟩, ◌∷ᶜ◌}
use Rattle.code.specs.Records.{is_ins, is_structure, is_code, is_ocmp, is_operand, body_length, operand_count, judged_fields, byte_at, number_at, behind, ins_at, ocmp_at}
use Rattle.code.specs.Reader.{Read, got, trouble, unless, with_kind, read_record, read_operands, read_with, read_ocmp, One, read_part, read_codes, read_block, read_if, read_while, read_structure, read_body, read_code, parse}
use Rattle.code.specs.Spells.{IsRecord, Operands, Stands, IsOcmp, Spells, SpellsAll, Nests, NestsAll, Parsed}
use Rattle.code.proofs.Passing.{clash, got_same, passed, either, fields_passed, went_on, or_right, or_none, between_true}

-- where things end
pub behind_past : (bs : List ℕ) (at : ℕ) → at < behind bs at
unfolding behind
behind_past bs at = omega arith

pub operands_le : (n : ℕ) (bs : List ℕ) (at e : ℕ) → Operands n bs at e → at ≤ e
operands_le zero bs at e h = omega arith
operands_le (suc n) bs at e h = omega (arith, behind_past bs at, operands_le n bs (behind bs at) e h.1)

pub stands_past : (allowed : ℕ → Bool) (bs : List ℕ) (at e : ℕ) → Stands allowed bs at e → at < e
stands_past allowed bs at e s = omega (arith, behind_past bs at, s.head.inside)

pub record Sound (d : ℕ) (bs : List ℕ) (e at : ℕ) (c : Code) (m : ℕ) : Type 0 where
  pub spells : Spells c bs at m
  pub nests : Nests c d
  pub past : at < m
  pub within : m ≤ e

-- records
module _ (allowed : ℕ → Bool) (bs : List ℕ) (e at : ℕ) where
  pub kind_passed :
      {A : Type 0} (k : Read A) (a : A) (m : ℕ) → with_kind allowed bs e at k ≡ got a m →
      (at < e) × (allowed (byte_at bs at) ≡ true) × (k ≡ got a m)
  kind_passed k a m h =
      let w = passed (leb e at) 3 at (unless (not (allowed (byte_at bs at))) 2 at k) a m h in
      let v = passed (not (allowed (byte_at bs at))) 2 at k a m w.1 in
      (leb-false _ _ w.0, not-false _ v.0, v.1)

  record_sound :
      (u : Unit {0}) (m : ℕ) → read_record allowed bs e at ≡ got u m → IsRecord allowed bs at e × (behind bs at ≡ m)
  unfolding read_record
  record_sound u m h =
      let k = kind_passed _ u m h in
      let b = passed (ltb e (behind bs at)) 3 at _ u m k.2 in
      let f = fields_passed (judged_fields (byte_at bs at)) bs at (got tt (behind bs at)) u m b.1 in
      (record { kind = k.1; inside = ltb-false _ _ b.0; fields = f.0 }, (got_same tt u _ m f.1).1)

operands_sound :
    (n : ℕ) (bs : List ℕ) (e at : ℕ) (u : Unit {0}) (m : ℕ) →
    at ≤ e → read_operands n bs e at ≡ got u m → Operands n bs at m × (m ≤ e)
unfolding read_operands
operands_sound zero bs e at u m l h = ((got_same tt u at m h).1, omega (arith, (got_same tt u at m h).1))
operands_sound (suc n) bs e at u m l h =
    let w = went_on (read_record is_operand bs e at) _ u m h in
    let r = record_sound is_operand bs e at w.0 w.1 w.2 in
    let o = operands_sound n bs e w.1 u m (omega (arith, r.0.inside, r.1)) w.3 in
    let p : Operands n bs (behind bs at) m = subst (λ (x : ℕ). Operands n bs x m) (sym r.1) o.0 in
    ((record { kind = r.0.kind; inside = operands_le n bs (behind bs at) m p; fields = r.0.fields }, p), o.1)

with_sound :
    {A : Type 0} (allowed : ℕ → Bool) (a : A) (bs : List ℕ) (e at : ℕ) (b : A) (m : ℕ) →
    read_with allowed a bs e at ≡ got b m → (a ≡ b) × Stands allowed bs at m × (m ≤ e)
unfolding read_with
with_sound allowed a bs e at b m h =
    let w = went_on (read_record allowed bs e at) _ b m h in
    let r = record_sound allowed bs e at w.0 w.1 w.2 in
    let v = went_on (read_operands (operand_count (byte_at bs at)) bs e w.1) _ b m w.3 in
    let o = operands_sound (operand_count (byte_at bs at)) bs e w.1 v.0 v.1 (omega (arith, r.0.inside, r.1)) v.2 in
    let g = got_same a b v.1 m v.3 in
    let p : Operands (operand_count (byte_at bs at)) bs (behind bs at) m =
    subst (λ (x : ℕ). Operands (operand_count (byte_at bs at)) bs (behind bs at) x) g.1
    (subst (λ (x : ℕ). Operands (operand_count (byte_at bs at)) bs x v.1) (sym r.1) o.0)
    in (
      g.0,
      record {
        head = record { kind = r.0.kind; inside = operands_le (operand_count (byte_at bs at)) bs (behind bs at) m p; fields = r.0.fields };
        operands = p;
      },
      omega (arith, o.1, g.1),
    )

pub ocmp_sound : (bs : List ℕ) (e at : ℕ) (c : Ocmp) (m : ℕ) → read_ocmp bs e at ≡ got c m → IsOcmp at c bs at m × (at < m) × (m ≤ e)
unfolding read_ocmp
ocmp_sound bs e at c m h =
    let w = with_sound is_ocmp (ocmp_at bs at) bs e at c m h in
    (record { place = refl; says = sym w.0; stands = w.1 }, stands_past is_ocmp bs at m w.1, w.2)

-- a Block's body is four bytes, and a structure that is neither a Block nor an IfElse is a While
five : (bs : List ℕ) (at e : ℕ) → byte_at bs at ≡ 0x20 → behind bs at ≤ e → at + 5 ≤ e
unfolding behind body_length
five bs at e k l = let h : at + 1 + 4 ≤ e = rw k at l in omega arith

third : (k : ℕ) → (0x20 ≤ k) × (k ≤ 0x22) → (k ≡ 0x20 → ⊥) → (k ≡ 0x21 → ⊥) → k ≡ 0x22
third k s x y = omega arith

-- parts and lists of codes, each code read by `one`
module _ (one : One) (d : ℕ) (bs : List ℕ)
    (sound_one : (e at : ℕ) (c : Code) (m : ℕ) → one e at ≡ got c m → Sound d bs e at c m) where
  pub part_sound : (e at : ℕ) (c : Code) (m : ℕ) → read_part one e at ≡ got c m → Sound d bs e at c e × (m ≡ e)
  unfolding read_part
  part_sound e at c m h =
      let w = went_on (one e at) _ c m h in
      let t = passed (not (eqb w.1 e)) 6 w.1 (got w.0 e) c m w.3 in
      let g = got_same w.0 c e m t.1 in
      let f = sound_one e at w.0 w.1 w.2 in
      let q : w.1 ≡ e = eqb-true _ _ (not-false _ t.0) in
      (subst (λ (x : ℕ). Sound d bs e at c x) q (subst (λ (x : Code). Sound d bs e at x w.1) g.0 f), sym g.1)

  abbrev All : ℕ → ℕ → Codes → ℕ → Type 0
  All e at cs m = SpellsAll cs bs at e × NestsAll cs d × (m ≡ e)

  all_none : (e at : ℕ) (cs : Codes) (m : ℕ) → at ≡ e → got ⟨⟩ e ≡ got cs m → All e at cs m
  unfolding SpellsAll NestsAll
  all_none e at cs m l h =
      let g = got_same ⟨⟩ cs e m h in
      subst (λ (x : Codes). All e at x m) g.0 (l, tt, sym g.1)

  all_more :
      (e at : ℕ) (c : Code) (next : ℕ) (cs' : Codes) (last : ℕ) (cs : Codes) (m : ℕ) →
      Sound d bs e at c next → All e next cs' last → got (c ∷ᶜ cs') last ≡ got cs m → All e at cs m
  unfolding SpellsAll NestsAll
  all_more e at c next cs' last cs m f a h =
      let g = got_same (c ∷ᶜ cs') cs last m h in
      subst (λ (x : Codes). All e at x m) g.0
      ((next, f.spells, a.0), (f.nests, a.1), omega (arith, g.1, a.2))

  codes_sound :
      (n e at : ℕ) (cs : Codes) (m : ℕ) → at ≤ e → e ≤ at + n → read_codes one n e at ≡ got cs m → All e at cs m
  unfolding read_codes
  codes_sound zero e at cs m l k h = all_none e at cs m (omega arith) h
  codes_sound (suc n) e at cs m l k h =
      ⊎_elim
      (λ w. all_none e at cs m (eqb-true _ _ w.0) w.1)
      (λ w.
      let v = went_on (one e at) _ cs m w.1 in
      let f = sound_one e at v.0 v.1 v.2 in
      let u = went_on (read_codes one n e v.1) _ cs m v.3 in
      let a = codes_sound n e v.1 u.0 u.1 f.within (omega (arith, f.past)) u.2 in
      all_more e at v.0 v.1 u.0 u.1 cs m f a u.3)
      (either (eqb at e) _ _ (got cs m) h)

  -- the structures
  block_sound :
      (e at : ℕ) (c : Code) (m : ℕ) → byte_at bs at ≡ 0x20 → at + 5 ≤ e → read_block one bs e at ≡ got c m → Sound (suc d) bs e at c m
  unfolding read_block Spells Nests
  block_sound e at c m k l h =
      let size = number_at 4 bs (at + 1) in
      let t = passed (ltb (e - (at + 5)) size) 6 at _ c m h in
      let r : size ≤ e - (at + 5) = ltb-false _ _ t.0 in
      let w = went_on (read_codes one size (at + 5 + size) (at + 5)) _ c m t.1 in
      let a = codes_sound size (at + 5 + size) (at + 5) w.0 w.1 (omega arith) (omega arith) w.2 in
      let g = got_same (Block at w.0) c w.1 m w.3 in
      let q : m ≡ at + 5 + size = omega (arith, a.2, g.1) in
      subst (λ (x : Code). Sound (suc d) bs e at x m) g.0
      (record {
        spells =
            (record { place = refl; kind = k; ends = q }, subst (λ (x : ℕ). SpellsAll w.0 bs (at + 5) x) (sym q) a.0);
        nests = (d, refl, a.1);
        past = omega arith;
        within = omega arith;
      })

  while_sound :
      (e at : ℕ) (c : Code) (m : ℕ) → byte_at bs at ≡ 0x22 → read_while one bs e at ≡ got c m → Sound (suc d) bs e at c m
  unfolding read_while Spells Nests
  while_sound e at c m k h =
      let size = number_at 4 bs (at + 1) in
      let w = went_on (read_ocmp bs e (at + 5)) _ c m h in
      let o = ocmp_sound bs e (at + 5) w.0 w.1 w.2 in
      let t = passed (ltb (e - w.1) size) 6 at _ c m w.3 in
      let r : size ≤ e - w.1 = ltb-false _ _ t.0 in
      let v = went_on (read_part one (w.1 + size) w.1) _ c m t.1 in
      let b = part_sound (w.1 + size) w.1 v.0 v.1 v.2 in
      let g = got_same (While at (at + 5) w.0 v.0) c v.1 m v.3 in
      let q : m ≡ w.1 + size = omega (arith, b.1, g.1) in
      subst (λ (x : Code). Sound (suc d) bs e at x m) g.0
      (record {
        spells = (
          w.1,
          o.0,
          record { place = refl; kind = k; ends = q },
          subst (λ (x : ℕ). Spells v.0 bs w.1 x) (sym q) b.0.spells,
        );
        nests = (d, refl, b.0.nests);
        past = omega (arith, o.1, b.0.past);
        within = omega (arith, o.2);
      })

  if_sound :
      (e at : ℕ) (c : Code) (m : ℕ) → byte_at bs at ≡ 0x21 → read_if one bs e at ≡ got c m → Sound (suc d) bs e at c m
  unfolding read_if Spells Nests
  if_sound e at c m k h =
      let size = number_at 4 bs (at + 1) in
      let other = number_at 4 bs (at + 5) in
      let w = went_on (read_ocmp bs e (at + 9)) _ c m h in
      let o = ocmp_sound bs e (at + 9) w.0 w.1 w.2 in
      let t = passed (ltb (e - w.1) (size + other)) 6 at _ c m w.3 in
      let r : size + other ≤ e - w.1 = ltb-false _ _ t.0 in
      let v = went_on (read_part one (w.1 + size) w.1) _ c m t.1 in
      let b = part_sound (w.1 + size) w.1 v.0 v.1 v.2 in
      let u = went_on (read_part one (v.1 + other) v.1) _ c m v.3 in
      let n = part_sound (v.1 + other) v.1 u.0 u.1 u.2 in
      let g = got_same (IfElse at (at + 9) w.0 v.0 u.0) c u.1 m u.3 in
      let q : m ≡ w.1 + size + other = omega (arith, b.1, n.1, g.1) in
      let x : v.1 + other ≡ m = omega (arith, n.1, g.1) in
      subst (λ (x : Code). Sound (suc d) bs e at x m) g.0
      (record {
        spells = (
          w.1,
          o.0,
          record { place = refl; kind = k; ends = q },
          b.0.spells,
          subst (λ (y : ℕ). Spells u.0 bs y m) b.1 (subst (λ (y : ℕ). Spells u.0 bs v.1 y) x n.0.spells),
        );
        nests = (d, refl, b.0.nests, n.0.nests);
        past = omega (arith, o.1, b.0.past, n.0.past);
        within = omega (arith, o.2);
      })

  structure_sound :
      (e at : ℕ) (c : Code) (m : ℕ) → is_structure (byte_at bs at) ≡ true → behind bs at ≤ e →
      read_structure one bs e at ≡ got c m → Sound (suc d) bs e at c m
  unfolding read_structure
  structure_sound e at c m k l h =
      let s = between_true 0x20 0x22 (byte_at bs at) k in
      ⊎_elim
      (λ w. let q = eqb-true _ _ w.0 in block_sound e at c m q (five bs at e q l) w.1)
      (λ w.
      ⊎_elim
      (λ v. if_sound e at c m (eqb-true _ _ v.0) v.1)
      (λ v. while_sound e at c m (third _ s (eqb-false _ _ w.0) (eqb-false _ _ v.0)) v.1)
      (either (eqb (byte_at bs at) 0x21) _ _ (got c m) w.1))
      (either (eqb (byte_at bs at) 0x20) _ _ (got c m) h)

  ins_sound :
      (e at : ℕ) (c : Code) (m : ℕ) → is_ins (byte_at bs at) ≡ true →
      read_with is_code (Ins at (ins_at bs at)) bs e at ≡ got c m → Sound (suc d) bs e at c m
  unfolding Spells Nests
  ins_sound e at c m k h =
      let w = with_sound is_code (Ins at (ins_at bs at)) bs e at c m h in
      let s = w.1 in
      subst (λ (x : Code). Sound (suc d) bs e at x m) w.0
      (record {
        spells =
            record {
              place = refl;
              says = refl;
              stands =
                  record {
                    head = record { kind = k; inside = s.head.inside; fields = s.head.fields };
                    operands = s.operands;
                  };
            };
        nests = omega arith;
        past = stands_past is_code bs at m s;
        within = w.2;
      })

  body_sound :
      (e at : ℕ) (c : Code) (m : ℕ) → is_code (byte_at bs at) ≡ true → read_body one bs e at ≡ got c m → Sound (suc d) bs e at c m
  unfolding read_body
  body_sound e at c m k h =
      ⊎_elim
      (λ w. ins_sound e at c m w.0 w.1)
      (λ w.
      let t = passed (ltb e (behind bs at)) 3 at _ c m w.1 in
      structure_sound e at c m (or_right _ _ k w.0) (ltb-false _ _ t.0) t.1)
      (either (is_ins (byte_at bs at)) _ _ (got c m) h)

pub code_sound : (d : ℕ) (bs : List ℕ) (e at : ℕ) (c : Code) (m : ℕ) → read_code d bs e at ≡ got c m → Sound d bs e at c m
unfolding read_code
code_sound zero bs e at c m h =
    let w = kind_passed is_code bs e at (trouble 5 at) c m h in
    let x = w.2 in
    clash (cc)
code_sound (suc d) bs e at c m h =
    let w = kind_passed is_code bs e at _ c m h in
    body_sound (read_code d bs) d bs (λ e at c m h. code_sound d bs e at c m h) e at c m w.1 w.2

-- all bytes
pub parse_sound : (bs : List ℕ) (c : Code) (e : ℕ) → parse bs ≡ got c e → Parsed bs c × (e ≡ length bs)
unfolding parse
parse_sound bs c e h =
    let w = passed (eqb (length bs) 0 || ltb 16384 (length bs)) 1 0 _ c e h in
    let n = or_none _ _ w.0 in
    let p = part_sound (read_code 32 bs) 32 bs (λ e at c m h. code_sound 32 bs e at c m h) (length bs) 0 c e w.1 in
    let x : length bs ≡ 0 → ⊥ = eqb-false _ _ n.0 in
    let y : length bs ≤ 16384 = ltb-false _ _ n.1 in
    (record { spells = p.0.spells; nests = p.0.nests; some_bytes = omega arith; not_too_many = y }, p.1)
