-- Every tree that bytes spell is well formed: its fields are bytes, numbers of eight bytes, and registers and scales that were checked.
-- Assumes nothing.
use Prim.Native.Nat.{ℕ, zero, suc, ◌+◌, ◌-◌, ◌^◌, ◌≤◌, ◌<◌}
use mathlib.Core.Path.{◌≡◌, refl, sym, ap, ◌∙◌}
use mathlib.Core.Bool.{Bool, true, false, ◌||◌}
use mathlib.Core.List.{List, [], ◌∷◌}
use native.Mathlib.Omega.{arith}
use borrow.Author.Tests.{ltb-false, leb-false, le-ltb, lt-leb}
use lib.Dec.{ltb}
use lib.IntN.{ℤ, pos, negsuc}
use lib.ListN.{length, get_or}
use lib.Pow.{pow_pos}
use Rattle.words.specs.Signed.{signed_word, leaves}
use Rattle.words.proofs.SignedLaws.{is_outside, word_within}
use Rattle.machine.specs.Operands.{is_scale}
use Rattle.machine.specs.declared.Operand.{Operand}
use Rattle.code.specs.Layout.{Byte, number, amount, numbers_from, shape}
use Rattle.code.specs.Tree.{Code, Ins, Block, IfElse, While, Codes, ⟨⟩, ◌∷ᶜ◌}
use Rattle.code.specs.Records.{is_ins, is_ocmp, is_operand, body_length, operand_count, judged_fields, byte_at, number_at, signed_at, operand_at, behind, bytes_at, operands_at, ins_at, ocmp_at}
use Rattle.code.specs.Reader.{got, parse}
use Rattle.code.specs.Spells.{Fields, IsRecord, Operands, Stands, Spells, SpellsAll}
use Rattle.code.specs.WellFormed.{Bytes, Signed, WfScale, WfOperand, WfIns, WfOcmp, WfCode, WfCodes}
use Rattle.code.proofs.Passing.{never, between_true}
use Rattle.code.proofs.NumberLaws.{number_lt}
use Rattle.code.proofs.KindLaws.{each, ◌▹◌}
use Rattle.code.proofs.Layouts.{ins_body, ins_fields, like, firsts, ins_laid, ocmp_laid, WfBytes, WfOperands, bounded}
use Rattle.code.proofs.Sound.{parse_sound}

-- two operands
abbrev pub WfTwo : Operand → Operand → Type 0
WfTwo a b = WfOperand a × WfOperand b

-- a whole number is one of n bits exactly where it does not leave their range
pub stays_signed : (n : ℕ) (z : ℤ) → leaves n z ≡ false → Signed n z
stays_signed n (pos k) h = omega (arith, leb-false (suc (2 ^ (n - 1) - 1)) k (sym (is_outside n (pos k)) ∙ h), pow_pos (n - 1))
stays_signed n (negsuc k) h = go (ltb (2 ^ (n - 1) - 1) k) refl (sym (is_outside n (negsuc k)) ∙ h)
  where
    go : (t : Bool) → ltb (2 ^ (n - 1) - 1) k ≡ t → (t || false) ≡ false → k < 2 ^ (n - 1)
    go true p e = absurd (never e)
    go false p e = omega (arith, ltb-false (2 ^ (n - 1) - 1) k p, pow_pos (n - 1))

pub signed_stays : (n : ℕ) (z : ℤ) → Signed n z → leaves n z ≡ false
signed_stays n (pos k) h = is_outside n (pos k) ∙ lt-leb (suc (2 ^ (n - 1) - 1)) k (omega arith)
signed_stays n (negsuc k) h = is_outside n (negsuc k) ∙ rw (le-ltb (2 ^ (n - 1) - 1) k (omega arith))

-- a word as a signed number is one
pub signed_of : (n x : ℕ) → 2 ^ n ≡ 2 ^ (n - 1) + 2 ^ (n - 1) → x < 2 ^ n → Signed n (signed_word n x)
signed_of n x twice fits = stays_signed n _ (word_within n x twice fits)

-- numbers of bytes
module _ (bs : List ℕ) (bytes : Bytes bs) where
  pub word_lt : (at : ℕ) → number_at 8 bs at < 2 ^ 64
  word_lt at = number_lt bs bytes 8 at

  pub signed8 : (at : ℕ) → Signed 64 (signed_at 8 bs at)
  unfolding signed_at
  signed8 at = signed_of 64 (number_at 8 bs at) refl (number_lt bs bytes 8 at)

  -- an operand, by its kind
  operand_forms_wf :
      (at k : ℕ) → 0x40 ≤ k → k < 0x45 → byte_at bs at ≡ k → Fields (judged_fields k) bs at → WfOperand (operand_at bs at)
  unfolding operand_at judged_fields
  operand_forms_wf at =
      each (λ k. byte_at bs at ≡ k → Fields (judged_fields k) bs at → WfOperand (operand_at bs at)) 5 0x40
      ((λ h f. rw h (word_lt (at + 1)))
      ▹ (λ h f. rw h (omega (arith, f.0)))
      ▹ (λ h f. rw h (word_lt (at + 1)))
      ▹ (λ h f. rw h (omega (arith, f.0), signed8 (at + 1 + 1)))
      ▹ (λ h f. rw h (omega (arith, f.0), scaled at f.1.0, omega (arith, f.1.1, fourth at), signed8 (at + 1 + 4)))
      ▹ tt)
    where
      fourth : (at : ℕ) → byte_at bs (at + 1 + 3) ≡ byte_at bs (at + 4)
      fourth at = ap (byte_at bs) (omega arith)

      scaled : (at : ℕ) → WfScale (signed_at 2 bs (at + 2)) → WfScale (signed_at 2 bs (at + 1 + 1))
      scaled at h = ap (λ (p : ℕ). is_scale (signed_at 2 bs p)) (omega arith) ∙ h

  pub operand_wf : (at e : ℕ) → IsRecord is_operand bs at e → WfOperand (operand_at bs at)
  operand_wf at e s =
      let k = between_true 0x40 0x44 (byte_at bs at) s.kind in
      operand_forms_wf at (byte_at bs at) k.0 (omega (arith, k.1)) refl s.fields

  pub operands_wf : (n at e : ℕ) → Operands n bs at e → WfOperands (operands_at n bs at)
  unfolding operands_at
  operands_wf zero at e s = tt
  operands_wf (suc n) at e s = (operand_wf at e s.0, operands_wf n (behind bs at) e s.1)

  -- byte i of those from a place on
  byte_of : (n p i : ℕ) → i < n → get_or (bytes_at n bs p) i 0 ≡ byte_at bs (p + i)
  byte_of zero p i l = absurd (omega arith)
  byte_of (suc n) p zero l = ap (byte_at bs) (omega arith)
  byte_of (suc n) p (suc i) l = byte_of n (p + 1) i (omega arith) ∙ ap (byte_at bs) (omega arith)

  -- a body of some sorts of bytes, the first at f from the kind byte
  later :
      (at f n : ℕ) (b : ℕ → ℕ) → ((i : ℕ) → i < suc n → b i ≡ byte_at bs (at + f + i)) →
      (i : ℕ) → i < n → b (suc i) ≡ byte_at bs (at + suc f + i)
  later at f n b is i l = is (suc i) (omega arith) ∙ ap (byte_at bs) (omega arith)

  body_wf :
      (at : ℕ) (sorts : List Byte) (f : ℕ) (b : ℕ → ℕ) → ((i : ℕ) → i < length sorts → b i ≡ byte_at bs (at + f + i)) →
      Fields (numbers_from f sorts) bs at → WfBytes (like sorts b)
  body_wf at [] f b is h = tt
  body_wf at (number n ∷ sorts) f b is h =
      let first : b 0 ≡ byte_at bs (at + f) = is 0 (omega arith) ∙ ap (byte_at bs) (omega arith) in
      (omega (arith, h.0), body_wf at sorts (suc f) _ (later at f (length sorts) b is) h.1)
  body_wf at (amount n ∷ sorts) f b is h =
      (rw (is 0 (omega arith)) (bytes (at + f + 0)), body_wf at sorts (suc f) _ (later at f (length sorts) b is) h)

  -- as many operands as the kind has
  firsts_are : (n at : ℕ) → firsts n (operands_at n bs at) ≡ operands_at n bs at
  unfolding operands_at
  firsts_are zero at = refl
  firsts_are (suc n) at = ap (λ os. operand_at bs at ∷ os) (firsts_are n (behind bs at))

  firsts_wf : (n at e : ℕ) → Operands n bs at e → WfOperands (firsts n (operands_at n bs at))
  firsts_wf n at e s = rw (firsts_are n at) (operands_wf n at e s)

  pub ins_wf : (at e : ℕ) → Stands is_ins bs at e → WfIns (ins_at bs at)
  unfolding WfIns ins_at
  ins_wf at e s =
      let k = byte_at bs at in
      let is = s.head.kind in
      let size = ins_body k is in
      let sorts = (shape k).body in
      let body = bytes_at (body_length k) bs (at + 1) in
      let count = operand_count k in
      let os = operands_at count bs (behind bs at) in
      let b : ℕ → ℕ = λ i. get_or body i 0 in
      let body_fits = body_wf at sorts 1 b (λ i l. byte_of (body_length k) (at + 1) i (omega arith)) (rw (ins_fields k is) at s.head.fields) in
      rw (ins_laid k body os is) (bounded k (like sorts b) (firsts count os) body_fits (firsts_wf count (behind bs at) e s.operands))

  pub ocmp_wf : (at e : ℕ) → Stands is_ocmp bs at e → WfOcmp (ocmp_at bs at)
  unfolding WfOcmp ocmp_at
  ocmp_wf at e s =
      let k = byte_at bs at in
      let count = operand_count k in
      let os = operands_at count bs (behind bs at) in
      rw (ocmp_laid k [] os s.head.kind) (bounded k [] (firsts count os) tt (firsts_wf count (behind bs at) e s.operands))

  mutual
    unfolding Spells SpellsAll WfCode WfCodes

    pub code_wf : (c : Code) (at e : ℕ) → Spells c bs at e → WfCode c
    code_wf (Ins p i) at e s = rw s.says (ins_wf at e s.stands)
    code_wf (Block p cs) at e s = codes_wf cs (at + 5) e s.1
    code_wf (IfElse p q c a b) at e s =
        let size = number_at 4 bs (at + 1) in
        (rw s.1.says (ocmp_wf (at + 9) s.0 s.1.stands), code_wf a s.0 (s.0 + size) s.3, code_wf b (s.0 + size) e s.4)
    code_wf (While p q c b) at e s = (rw s.1.says (ocmp_wf (at + 5) s.0 s.1.stands), code_wf b s.0 e s.3)

    pub codes_wf : (cs : Codes) (at e : ℕ) → SpellsAll cs bs at e → WfCodes cs
    codes_wf ⟨⟩ at e s = tt
    codes_wf (c ∷ᶜ cs) at e s = (code_wf c at s.0 s.1, codes_wf cs s.0 e s.2)

pub parse_wf : (bs : List ℕ) → Bytes bs → (c : Code) (e : ℕ) → parse bs ≡ got c e → WfCode c
parse_wf bs bytes c e h = code_wf bs bytes c 0 (length bs) (parse_sound bs c e h).0.spells
