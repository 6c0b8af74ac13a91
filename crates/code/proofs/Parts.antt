-- What the functions of the reader's cycle answer is what the definition reaches, case by case. Assumes nothing.
use Prim.Native.Nat.{ℕ, zero, suc, ◌+◌, ◌-◌, ◌≤◌, ◌<◌}
use mathlib.Core.Path.{◌≡◌, refl, sym, ap, ◌∙◌}
use mathlib.Core.Bool.{true, false}
use mathlib.Core.List.{List}
use native.Mathlib.Omega.{arith}
use native.Mathlib.Numerals.{sub-one}
use borrow.Author.Tests.{eq-eqb, ne_eqb, lt-ltb, le-ltb}
use lib.Dec.{eqb}
use lib.ListN.{length}
use Rattle.machine.specs.Cells.{accepted, refused}
use Rattle.code.specs.declared.tree.Ocmp.{Ocmp}
use Rattle.code.specs.Tree.{Code, Ins, Block, IfElse, While, ⟨⟩, ◌∷ᶜ◌}
use Rattle.code.specs.Records.{is_ins, is_structure, is_code, body_length, byte_at, number_at, behind, ins_at}
use Rattle.code.specs.Reader.{Read, got, trouble, followed, with_body, read_ocmp, One, read_part, read_codes, read_block, read_if, read_while, read_structure, read_body, read_code, parse, verdict_of, check_code}
use Rattle.code.specs.Reached.{reached, reach, rest_of_all, structure_of}
use Rattle.std.specs.Prelude.{Ok, Err}
use Rattle.machine.specs.Rules.{rule_number}
use Rattle.machine.specs.declared.refusal.Refusal.{Refusal}
use Rattle.code.proofs.Passing.{between_true}
use Rattle.code.proofs.Sound.{code_sound, part_sound, ocmp_sound}
use Rattle.code.proofs.KindLaws.{no_ins}
use Rattle.code.proofs.Classes.{ins_is_code, structure_is_code}
use Rattle.code.proofs.Reaches.{Reach, reached_got, reached_trouble, stops, goes_on, kind_short, kind_wrong, kind_right, with_right}

-- a node is left away, and its parts' end stays
pub erase_map : {A B : Type 0} (r : Read A) (f : A → B) → reached (followed r (λ a last. got (f a) last)) ≡ reached r
unfolding reached followed
erase_map (got a m) f = refl
erase_map (trouble n p) f = refl

-- from an answer to the reading
module _ {A : Type 0} (r : Reach) (x : Read A) (of : reach r ≡ reached x) where
  pub went : (m : ℕ) → r ≡ Ok m → (a : A) × (x ≡ got a m)
  unfolding reach
  went m h = reached_got x m (let e : got tt m ≡ reach r = rw h in e ∙ of)

  pub halted : (y : Refusal) → r ≡ Err y → x ≡ trouble (rule_number y.rule) y.place
  unfolding reach
  halted y h = reached_trouble x _ _ (let e : trouble (rule_number y.rule) y.place ≡ reach r = rw h in e ∙ of)

  pub halts : {B : Type 0} (k : A → ℕ → Read B) (y : Refusal) → r ≡ Err y → reach (Err y) ≡ reached (followed x k)
  unfolding reach reached
  halts k y h = rw (stops x _ _ k (halted y h))

-- `read_code`
pub code_short : (d : ℕ) (bs : List ℕ) (e at : ℕ) → e ≤ at → trouble 3 at ≡ reached (read_code d bs e at)
unfolding read_code reach reached
code_short zero bs e at h = rw (kind_short is_code bs e at (trouble 5 at) h)
code_short (suc d) bs e at h = rw (kind_short is_code bs e at (read_body (read_code d bs) bs e at) h)

module _ (bs : List ℕ) (e at : ℕ) (in_part : at < e) where
  pub code_wrong : (d : ℕ) → is_code (byte_at bs at) ≡ false → trouble 2 at ≡ reached (read_code d bs e at)
  unfolding read_code reach reached
  code_wrong zero h = rw (kind_wrong is_code bs e at (trouble 5 at) in_part h)
  code_wrong (suc d) h = rw (kind_wrong is_code bs e at (read_body (read_code d bs) bs e at) in_part h)

  pub code_deep : (d : ℕ) → is_code (byte_at bs at) ≡ true → d ≡ 0 → trouble 5 at ≡ reached (read_code d bs e at)
  unfolding read_code reach reached
  code_deep zero h z = rw (kind_right is_code bs e at (trouble 5 at) in_part h)
  code_deep (suc d) h z = absurd (omega arith)

  pub code_ins :
      (d : ℕ) (x : Read (Unit {0})) → is_ins (byte_at bs at) ≡ true → (d ≡ 0 → ⊥) → x ≡ rest_of_all bs e at →
      x ≡ reached (read_code d bs e at)
  unfolding read_code read_body
  code_ins zero x h z g = absurd (z refl)
  code_ins (suc d) x h z g =
      let c = ins_is_code (byte_at bs at) h in
      g ∙ sym
      (ap reached (kind_right is_code bs e at (read_body (read_code d bs) bs e at) in_part c ∙ rw h refl)
      ∙ with_right is_code (Ins at (ins_at bs at)) bs e at in_part c)

  pub code_structure :
      (d : ℕ) (x : Read (Unit {0})) → is_structure (byte_at bs at) ≡ true → (d ≡ 0 → ⊥) → x ≡ reached (structure_of (d - 1) bs e at) →
      x ≡ reached (read_code d bs e at)
  unfolding read_code read_body structure_of
  code_structure zero x h z g = absurd (z refl)
  code_structure (suc d) x h z g =
      let c = structure_is_code (byte_at bs at) h in
      let w = between_true 0x20 0x22 (byte_at bs at) h in
      let i : is_ins (byte_at bs at) ≡ false = no_ins (byte_at bs at) w.0 in
      let f : x ≡ reached (with_body bs e at (read_structure (read_code d bs) bs e at)) = rw sub-one at g in
      f ∙ sym (ap reached (kind_right is_code bs e at (read_body (read_code d bs) bs e at) in_part c ∙ rw i refl))

-- `read_structure`
block_body : (k : ℕ) → k ≡ 0x20 → body_length k ≡ 4
unfolding body_length
block_body k h = rw h

if_body : (k : ℕ) → k ≡ 0x21 → body_length k ≡ 8
unfolding body_length
if_body k h = rw h

pub last_structure : (k : ℕ) → is_structure k ≡ true → (k ≡ 0x20 → ⊥) → (k ≡ 0x21 → ⊥) → k ≡ 0x22
last_structure k h x y = let w = between_true 0x20 0x22 k h in omega arith

while_body : (k : ℕ) → k ≡ 0x22 → body_length k ≡ 4
unfolding body_length
while_body k h = rw h

module _ (d : ℕ) (bs : List ℕ) (e at body : ℕ) (in_part : at < e) (is : body ≡ body_length (byte_at bs at)) where
  pub structure_short : e - at - 1 < body → trouble 3 at ≡ reached (structure_of d bs e at)
  unfolding reach reached structure_of behind
  structure_short l =
      let m : e < at + 1 + body_length (byte_at bs at) = omega arith in
      rw (lt-ltb e (at + 1 + body_length (byte_at bs at)) m)

  module _ (fits : body ≤ e - at - 1) where
    inner : structure_of d bs e at ≡ read_structure (read_code d bs) bs e at
    unfolding structure_of behind
    inner =
        let m : at + 1 + body_length (byte_at bs at) ≤ e = omega arith in
        rw (le-ltb e (at + 1 + body_length (byte_at bs at)) m)

    pub block_fits : byte_at bs at ≡ 0x20 → at + 5 ≤ e
    block_fits h = omega (arith, block_body (byte_at bs at) h)

    pub if_fits : byte_at bs at ≡ 0x21 → at + 9 ≤ e
    if_fits h = omega (arith, if_body (byte_at bs at) h)

    pub while_fits : byte_at bs at ≡ 0x22 → at + 5 ≤ e
    while_fits h = omega (arith, while_body (byte_at bs at) h)

    module _ (r : Reach) where
      pub structure_block :
          byte_at bs at ≡ 0x20 → reach r ≡ reached (read_block (read_code d bs) bs e at) → reach r ≡ reached (structure_of d bs e at)
      unfolding read_structure
      structure_block h g = g ∙ sym (ap reached (inner ∙ rw h refl))

      pub structure_if :
          byte_at bs at ≡ 0x21 → reach r ≡ reached (read_if (read_code d bs) bs e at) → reach r ≡ reached (structure_of d bs e at)
      unfolding read_structure
      structure_if h g = g ∙ sym (ap reached (inner ∙ rw h refl))

      pub structure_while :
          byte_at bs at ≡ 0x22 → reach r ≡ reached (read_while (read_code d bs) bs e at) → reach r ≡ reached (structure_of d bs e at)
      unfolding read_structure
      structure_while h g = g ∙ sym (ap reached (inner ∙ rw h refl))

-- `read_block`
module _ (one : One) (bs : List ℕ) (e at size : ℕ) (is : size ≡ number_at 4 bs (at + 1)) where
  pub block_over : e - (at + 5) < size → trouble 6 at ≡ reached (read_block one bs e at)
  unfolding reach reached read_block
  block_over l = rw (← is, lt-ltb (e - (at + 5)) size l)

  pub block_in :
      (r : Reach) → size ≤ e - (at + 5) →
      reach r ≡ reached (read_codes one (at + 5 + size - (at + 5)) (at + 5 + size) (at + 5)) →
      reach r ≡ reached (read_block one bs e at)
  unfolding read_block
  block_in r l g =
      let n : at + 5 + size - (at + 5) ≡ size = omega arith in
      let f : reach r ≡ reached (read_codes one size (at + 5 + size) (at + 5)) = rw n at g in
      f ∙ sym (rw (← is, le-ltb (e - (at + 5)) size l) (erase_map (read_codes one size (at + 5 + size) (at + 5)) (Block at)))

-- `read_part`
full_of : (one : One) (e at : ℕ) (c : Code) (next : ℕ) → one e at ≡ got c next → next ≡ e → reach (Ok e) ≡ reached (read_part one e at)
unfolding read_part reach reached followed
full_of one e at c next h x = rw (h, eq-eqb next e x)

module _ (one : One) (e at : ℕ) (r : Reach) (of : reach r ≡ reached (one e at)) where
  pub part_stops : (y : Refusal) → r ≡ Err y → reach (Err y) ≡ reached (read_part one e at)
  unfolding read_part
  part_stops y h = halts r (one e at) of _ y h

  pub part_more : (next : ℕ) → r ≡ Ok next → (next ≡ e → ⊥) → trouble 6 next ≡ reached (read_part one e at)
  unfolding read_part reach reached followed
  part_more next h x = let w = went r (one e at) of next h in rw (w.1, ne_eqb next e x)

  pub part_full : (next : ℕ) → r ≡ Ok next → next ≡ e → reach (Ok e) ≡ reached (read_part one e at)
  part_full next h x = let w = went r (one e at) of next h in full_of one e at w.0 next w.1 x

-- where a part, and a comparison, have been read to
pub part_end :
    (d : ℕ) (bs : List ℕ) (e at : ℕ) (r : Reach) → reach r ≡ reached (read_part (read_code d bs) e at) → (m : ℕ) → r ≡ Ok m → m ≡ e
part_end d bs e at r of m h =
    let w = went r (read_part (read_code d bs) e at) of m h in
    (part_sound (read_code d bs) d bs (λ e at c m h. code_sound d bs e at c m h) e at w.0 m w.1).1

pub ocmp_end : (bs : List ℕ) (e at : ℕ) (r : Reach) → reach r ≡ reached (read_ocmp bs e at) → (m : ℕ) → r ≡ Ok m → (at < m) × (m ≤ e)
ocmp_end bs e at r of m h =
    let w = went r (read_ocmp bs e at) of m h in
    let s = ocmp_sound bs e at w.0 m w.1 in
    (s.1, s.2)

-- `read_while`
module _ (one : One) (bs : List ℕ) (e at size : ℕ) (is : size ≡ number_at 4 bs (at + 1))
    (r : Reach) (of : reach r ≡ reached (read_ocmp bs e (at + 5))) where
  pub while_stops : (y : Refusal) → r ≡ Err y → reach (Err y) ≡ reached (read_while one bs e at)
  unfolding read_while
  while_stops y h = halts r (read_ocmp bs e (at + 5)) of _ y h

  module _ (next : ℕ) (h : r ≡ Ok next) where
    pub while_over : e - next < size → trouble 6 at ≡ reached (read_while one bs e at)
    unfolding read_while reach reached followed
    while_over l = let w = went r (read_ocmp bs e (at + 5)) of next h in rw (w.1, ← is, lt-ltb (e - next) size l)

    pub while_part :
        (s : Reach) → size ≤ e - next → reach s ≡ reached (read_part one (next + size) next) →
        reach s ≡ reached (read_while one bs e at)
    unfolding read_while
    while_part s l g =
        let w = went r (read_ocmp bs e (at + 5)) of next h in
        g ∙ sym
        (ap reached (goes_on (read_ocmp bs e (at + 5)) w.0 next _ w.1)
        ∙ rw (← is, le-ltb (e - next) size l) (erase_map (read_part one (next + size) next) (While at (at + 5) w.0)))

-- `read_if`
module _ (one : One) (bs : List ℕ) (e at size other : ℕ)
    (is : size ≡ number_at 4 bs (at + 1)) (is_other : other ≡ number_at 4 bs (at + 5))
    (r : Reach) (of : reach r ≡ reached (read_ocmp bs e (at + 9))) where
  pub if_stops : (y : Refusal) → r ≡ Err y → reach (Err y) ≡ reached (read_if one bs e at)
  unfolding read_if
  if_stops y h = halts r (read_ocmp bs e (at + 9)) of _ y h

  module _ (next : ℕ) (h : r ≡ Ok next) where
    pub if_over : e - next < size + other → trouble 6 at ≡ reached (read_if one bs e at)
    unfolding read_if reach reached followed
    if_over l =
        let w = went r (read_ocmp bs e (at + 9)) of next h in
        rw (w.1, ← is, ← is_other, lt-ltb (e - next) (size + other) l)

    module _ (s : Reach) (l : size + other ≤ e - next) (of_first : reach s ≡ reached (read_part one (next + size) next)) where
      parts :
          (c : Ocmp) → read_ocmp bs e (at + 9) ≡ got c next →
          read_if one bs e at
          ≡ followed (read_part one (next + size) next) (λ yes_part mid.
          followed (read_part one (mid + other) mid) (λ no_part last. got (IfElse at (at + 9) c yes_part no_part) last))
      unfolding read_if
      parts c g =
          goes_on (read_ocmp bs e (at + 9)) c next _ g ∙ rw (← is, ← is_other, le-ltb (e - next) (size + other) l) refl

      pub if_first_stops : (y : Refusal) → s ≡ Err y → reach (Err y) ≡ reached (read_if one bs e at)
      if_first_stops y k =
          let w = went r (read_ocmp bs e (at + 9)) of next h in
          rw (parts w.0 w.1) (halts s (read_part one (next + size) next) of_first _ y k)

      pub if_last :
          (mid : ℕ) → s ≡ Ok mid → (t : Reach) → reach t ≡ reached (read_part one (mid + other) mid) →
          reach t ≡ reached (read_if one bs e at)
      if_last mid k t g =
          let w = went r (read_ocmp bs e (at + 9)) of next h in
          let v = went s (read_part one (next + size) next) of_first mid k in
          g ∙ sym
          (ap reached (parts w.0 w.1 ∙ goes_on (read_part one (next + size) next) v.0 mid _ v.1)
          ∙ erase_map (read_part one (mid + other) mid) (IfElse at (at + 9) w.0 v.0))

-- `read_codes`: what holds at the head of its loop
pub record Going (d : ℕ) (bs : List ℕ) (e from at : ℕ) : Type 0 where
  pub past : from ≤ at
  pub within : at ≤ e
  pub left : ℕ
  pub enough : e ≤ at + left
  pub same :
      reached (read_codes (read_code d bs) (e - from) e from) ≡ reached (read_codes (read_code d bs) left e at)

pub codes_begin : (d : ℕ) (bs : List ℕ) (e from : ℕ) → from ≤ e → Going d bs e from from
codes_begin d bs e from l = record { past = omega arith; within = l; left = e - from; enough = omega arith; same = refl }

tail_of :
    (one : One) (n e at : ℕ) (c : Code) (next : ℕ) → (at ≡ e → ⊥) → one e at ≡ got c next →
    reached (read_codes one (suc n) e at) ≡ reached (read_codes one n e next)
unfolding read_codes
tail_of one n e at c next x h =
    rw (ne_eqb at e x)
    (ap reached (goes_on (one e at) c next _ h) ∙ erase_map (read_codes one n e next) (λ cs. c ∷ᶜ cs))

stop_of : (one : One) (n e at x p : ℕ) → (at ≡ e → ⊥) → one e at ≡ trouble x p → read_codes one (suc n) e at ≡ trouble x p
unfolding read_codes
stop_of one n e at x p z h = rw (ne_eqb at e z) (stops (one e at) x p _ h)

module _ (d : ℕ) (bs : List ℕ) (e from at : ℕ) (g : Going d bs e from at) (in_part : at < e) (r : Reach)
    (of : reach r ≡ reached (read_code d bs e at)) where
  pub codes_go : (next : ℕ) → r ≡ Ok next → Going d bs e from next
  codes_go next h = of_left g.left g.enough g.same
    where
      of_left :
          (n : ℕ) → e ≤ at + n →
          reached (read_codes (read_code d bs) (e - from) e from) ≡ reached (read_codes (read_code d bs) n e at) →
          Going d bs e from next
      of_left zero l s = absurd (omega arith)
      of_left (suc n) l s =
          let w = went r (read_code d bs e at) of next h in
          let f = code_sound d bs e at w.0 next w.1 in
          record {
            past = omega (arith, g.past, f.past);
            within = f.within;
            left = n;
            enough = omega (arith, f.past);
            same = s ∙ tail_of (read_code d bs) n e at w.0 next (λ z. omega arith) w.1;
          }

  pub codes_past : (next : ℕ) → r ≡ Ok next → at < next
  codes_past next h =
      let w = went r (read_code d bs e at) of next h in
      (code_sound d bs e at w.0 next w.1).past

  pub codes_stop : (y : Refusal) → r ≡ Err y → reach (Err y) ≡ reached (read_codes (read_code d bs) (e - from) e from)
  unfolding reach reached
  codes_stop y h = of_left g.left g.enough g.same
    where
      of_left :
          (m : ℕ) → e ≤ at + m →
          reached (read_codes (read_code d bs) (e - from) e from) ≡ reached (read_codes (read_code d bs) m e at) →
          reach (Err y) ≡ reached (read_codes (read_code d bs) (e - from) e from)
      of_left zero l s = absurd (omega arith)
      of_left (suc m) l s =
          let w = halted r (read_code d bs e at) of y h in
          sym (s ∙ ap reached (stop_of (read_code d bs) m e at _ _ (λ z. omega arith) w))

end_of : (one : One) (n e at : ℕ) → at ≡ e → read_codes one n e at ≡ got ⟨⟩ e
unfolding read_codes
end_of one zero e at h = refl
end_of one (suc n) e at h = rw (eq-eqb at e h)

pub codes_end :
    (d : ℕ) (bs : List ℕ) (e from at : ℕ) → Going d bs e from at → e ≤ at →
    reach (Ok e) ≡ reached (read_codes (read_code d bs) (e - from) e from)
unfolding reach reached
codes_end d bs e from at g l =
    sym (g.same ∙ ap reached (end_of (read_code d bs) g.left e at (let w = g.within in omega arith)))

-- `check_code`
module _ (bs : List ℕ) where
  pub check_empty : eqb (length bs) 0 ≡ true → refused 1 0 ≡ check_code bs
  unfolding check_code parse verdict_of
  check_empty h = rw h

  pub check_long : 16384 < length bs → refused 1 0 ≡ check_code bs
  unfolding check_code parse verdict_of
  check_long h = rw (ne_eqb (length bs) 0 (λ z. omega arith), lt-ltb 16384 (length bs) h)

  module _ (some : eqb (length bs) 0 ≡ false) (few : length bs ≤ 16384) (r : Reach)
      (of : reach r ≡ reached (read_part (read_code 32 bs) (length bs) 0)) where
    parsed : parse bs ≡ read_part (read_code 32 bs) (length bs) 0
    unfolding parse
    parsed = rw (some, le-ltb 16384 (length bs) few)

    pub check_accepts : (m : ℕ) → r ≡ Ok m → accepted ≡ check_code bs
    unfolding check_code verdict_of
    check_accepts m h =
        let w = went r (read_part (read_code 32 bs) (length bs) 0) of m h in
        rw (parsed, w.1)

    pub check_refuses : (y : Refusal) → r ≡ Err y → refused (rule_number y.rule) y.place ≡ check_code bs
    unfolding check_code verdict_of
    check_refuses y h = rw (parsed, halted r (read_part (read_code 32 bs) (length bs) 0) of y h)
