-- The text where Source is written another way: each equation is a clause of the definitions, with `choose` read as a condition and a carry of 0
-- left out, or a law of the lists and words. The difference of words: where b is the larger, 2^64 is added once.
use Prim.Native.Nat.{ℕ, zero, suc, ◌+◌, ◌*◌, ◌-◌, ◌%◌, ◌^◌, ◌<◌, ◌≤◌}
use mathlib.Core.Path.{◌≡◌, refl, sym, ap, fun_ext}
use mathlib.Core.Bool.{Bool, true, false, not, ◌&&◌, cond}
use mathlib.Core.Option.{Option, some}
use native.Mathlib.Nat.{add-zero, mod-lt, mod-eq_of_lt}
use native.Mathlib.Omega.{arith}
use borrow.Author.Tests.{ltb-true, ltb-false, eqb-true, eqb-false, le-leb}
use lib.Dec.{eqb, ltb, leb}
use lib.IntN.{ℤ, pos, negsuc, sub_ℕ, ◌-ℤ◌}
use lib.ListN.{length}
use lib.Seq.{get_or-set_same, get_or-set_other}
use Rattle.words.specs.Words.{Two, Four, two_to_nat}
use Rattle.words.proofs.PartLaws.{two_to_nat_lt}
use Rattle.words.specs.Sums.{sum_carry, sub_mod}
use Rattle.words.specs.Flags.{update_cf}
use Rattle.machine.specs.Bytes.{wrap}
use Rattle.machine.specs.declared.reg.Reg.{Reg}
use Rattle.machine.specs.declared.Operand.{Operand}
use Rattle.machine.proofs.RegisterLaws.{xmm_same, xmm_other}
use Rattle.code.specs.declared.tree.Instruction.TheVariants.{Add64, AddCarry64, Pcmpeqd}
use Rattle.machine.specs.Memory.{Memory}
use Rattle.eval.specs.FlagRule.{base_flags, base_rule}
use Rattle.source.specs.Source.{State, eval_reg, eval_xmm, update_reg', update_xmm', choose, if_some, eval_ins, eval_while, eval_code, eval_codes}
use Rattle.source.specs.Upstream.{Upstream, IntToNatN, add64_text, add_carry64_text, pcmpeqd_text}

choose_is : {A B : Type 0} (b : Bool) (f g : A → B) (a : A) → choose b f g a ≡ cond b (f a) (g a)
unfolding choose
choose_is true f g a = refl
choose_is false f g a = refl

-- the remainder of a whole number, which meets the clause of `int_to_natN`: negsuc k is -(k + 1)
remainder : ℕ → ℤ → ℕ
remainder n (pos i) = i % n
remainder n (negsuc k) = n - 1 - k % n

remainder_is : IntToNatN remainder
unfolding remainder
remainder_is n i h = mod-eq_of_lt h

remainder_lt : (n : ℕ) (i : ℤ) → 0 < n → remainder n i < n
unfolding remainder
remainder_lt n (pos i) h = mod-lt i h
remainder_lt n (negsuc k) h = omega (arith, h)

round_is : (b : Bool) (o : State → Option State) (w : State → Option State) (s : State)
    → choose b (λ u. if_some (o u) (λ s1. choose s1.ok w some s1)) some s
    ≡ cond (not b) (some s) (if_some (o s) (λ s1. cond s1.ok (w s1) (some s1)))
unfolding choose
round_is true o w s = ap (if_some (o s)) (fun_ext (λ s1. choose_is s1.ok w some s1))
round_is false o w s = refl

-- a sum with no carry in
no_carry : (fill flags a b : ℕ) → base_flags fill flags a b 0 ≡ update_cf flags (leb (2 ^ 64) (a + b))
unfolding base_flags sum_carry
no_carry fill flags a b = rw (add-zero (a + b))

difference : (a b : ℕ) → a < 2 ^ 64 → b < 2 ^ 64 → sub_mod 64 a b ≡ wrap (sub_ℕ a b)
unfolding sub_mod wrap
difference a b h k = go (ltb a b) refl
  where
    go : (x : Bool) → ltb a b ≡ x → (a + (2 ^ 64 - b)) % 2 ^ 64 ≡ wrap (sub_ℕ a b)
    go true e = let l : a < b = ltb-true a b e in rw e (omega arith)
    go false e = let l : b ≤ a = ltb-false a b e in rw e (omega arith)

difference_of : (a b : ℕ) → a < 2 ^ 64 → b < 2 ^ 64 → sub_mod 64 a b ≡ wrap (pos a -ℤ pos b)
unfolding sub_mod wrap
difference_of a zero h k = omega arith
difference_of a (suc b) h k = difference a (suc b) h k

-- a list that is written at one place
regs_make : (r r' : Reg) (v : ℕ) (s : State) → r.number < length s.regs
    → eval_reg r' (update_reg' r v s) ≡ cond (eqb r'.number r.number) v (eval_reg r' s)
regs_make r r' v s h = go (eqb r'.number r.number) refl
  where
    go : (b : Bool) → eqb r'.number r.number ≡ b → eval_reg r' (update_reg' r v s) ≡ cond b v (eval_reg r' s)
    go true e = rw (eqb-true r'.number r.number e) (get_or-set_same s.regs r.number v 0 h)
    go false e = get_or-set_other s.regs r.number r'.number v 0 (eqb-false r'.number r.number e)

xmms_make : (x x' : ℕ) (v : Four ℕ) (s : State) → 4 * x + 3 < length s.xmms
    → eval_xmm x' (update_xmm' x v s) ≡ cond (eqb x' x) v (eval_xmm x' s)
xmms_make x x' v s h = go (eqb x' x) refl
  where
    go : (b : Bool) → eqb x' x ≡ b → eval_xmm x' (update_xmm' x v s) ≡ cond b v (eval_xmm x' s)
    go true e = rw (eqb-true x' x e) (xmm_same s.xmms x v h)
    go false e = xmm_other s.xmms x x' v (eqb-false x' x e)

amount : (amt : ℕ) → ltb amt 32 ≡ (leb 0 amt && ltb amt 32)
amount amt = rw (le-leb 0 amt (omega arith))

pair : (int_to_natN : ℕ → ℤ → ℕ) → IntToNatN int_to_natN → (x : Two ℕ) → x.lo < 2 ^ 32 → x.hi < 2 ^ 32
    → two_to_nat 32 x ≡ int_to_natN (2 ^ 64) (pos (x.lo + x.hi * 2 ^ 32))
unfolding two_to_nat
pair int_to_natN meets x l h = sym (meets (2 ^ 64) (x.lo + x.hi * 2 ^ 32) (two_to_nat_lt 32 x l h))

module _ (load_mem64 : ℤ → Memory → ℕ) (int_to_nat64 : ℤ → ℕ) (fill : ℕ) where
  ins_pcmpeqd : (dst src : ℕ) → eval_ins load_mem64 int_to_nat64 fill base_rule (Pcmpeqd dst src) ≡ pcmpeqd_text load_mem64 int_to_nat64 fill dst src
  unfolding eval_ins
  ins_pcmpeqd dst src = refl

  ins_add : (dst src : Operand) → eval_ins load_mem64 int_to_nat64 fill base_rule (Add64 dst src) ≡ add64_text load_mem64 int_to_nat64 fill dst src
  unfolding eval_ins
  ins_add dst src = simp no_carry

  ins_add_carry : (dst src : Operand)
      → eval_ins load_mem64 int_to_nat64 fill base_rule (AddCarry64 dst src) ≡ add_carry64_text load_mem64 int_to_nat64 fill dst src
  unfolding eval_ins base_flags sum_carry
  ins_add_carry dst src = refl

  pub text : Upstream load_mem64 int_to_nat64 fill
  unfolding eval_code eval_codes eval_while
  text = record {
    ins_add = ins_add;
    ins_add_carry = ins_add_carry;
    difference = difference_of;
    regs_make = regs_make;
    xmms_make = xmms_make;
    amount = amount;
    ins_pcmpeqd = ins_pcmpeqd;
    pair = pair;
    some_natN = (remainder, remainder_is, remainder_lt);
    code_ins = λ p ins fuel s. refl;
    code_block = λ p l fuel s. refl;
    code_if_else = λ p q c ifTrue ifFalse fuel s. choose_is _ _ _ _;
    code_while = λ p q b c fuel s. refl;
    codes_nil = λ fuel s. refl;
    codes_cons = λ c tl fuel s. refl;
    while_zero = λ b c s0. refl;
    while_suc = λ b c fuel s0. round_is _ _ _ _;
  }
