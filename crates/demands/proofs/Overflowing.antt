-- The run and the byte machine compute to the paragraph's clause, and the source has it by `runs_on`, whether its checks pass or not. Of the other
-- instructions each text is the same under two rules by computing. What the rules leave is what is told of each bit of a flags word.
use Prim.Native.Nat.{ℕ, ◌+◌, ◌-◌, ◌%◌, ◌^◌, ◌<◌, ◌≤◌}
use mathlib.Core.Path.{◌≡◌, refl, sym, ◌∙◌, subst}
use mathlib.Core.Bool.{Bool, true, false, cond, ◌||◌}
use mathlib.Core.List.{List}
use mathlib.Core.Option.{Option}
use native.Mathlib.Nat.{add-zero, mod-eq_of_lt}
use native.Mathlib.Omega.{arith}
use borrow.Author.Tests.{ltb-true, ltb-false, ne_eqb}
use lib.Dec.{eqb, ltb}
use lib.IntN.{ℤ}
use Rattle.words.specs.Bits.{bit}
use Rattle.words.specs.Flags.{cf, overflow}
use Rattle.words.specs.Signed.{signed_word, signed_sum, leaves}
use Rattle.words.specs.Sums.{sum_mod, sum_carry, Added}
use Rattle.words.proofs.FlagLaws.{cf_update_cf, update_cf_lt, update_of_lt}
use Rattle.words.proofs.SumLaws.{sum_mod_lt}
use Rattle.words.proofs.SignedLaws.{not_negative, is_negative, word_within, word_is_sum}
use Rattle.machine.specs.Memory.{Memory}
use Rattle.machine.specs.Bytes.{wrap}
use Rattle.machine.specs.declared.Operand.{Operand}
use Rattle.code.specs.declared.tree.Instruction.{Instruction}
use Rattle.code.specs.declared.tree.Instruction.TheVariants.{Add64, AddCarry64}
use Rattle.code.specs.declared.tree.Ocmp.{Ocmp}
use Rattle.code.specs.declared.tree.Ocmp.TheVariants.{OEq, ONe, OLe, OGe, OLt, OGt}
use Rattle.code.specs.Layout.{layout}
use Rattle.code.proofs.Accepted.{stays_signed, signed_stays, signed_of}
use Rattle.code.proofs.Layouts.{of_each, every_ins}
use Rattle.eval.specs.declared.answer.Evaluation.{Evaluation}
use Rattle.eval.specs.declared.answer.Evaluation.TheVariants.{Base, Board}
use Rattle.eval.specs.FlagRule.{FlagRule, base_flags, board_flags, flag_rule}
use Rattle.eval.specs.Config.{Env, with_rule, Config, ends, done}
use Rattle.eval.specs.Watch.{touched, watched}
use Rattle.eval.specs.Counted.{Counted, Part}
use Rattle.eval.specs.Running.{run_ocmp, decide}
use Rattle.eval.specs.Instructions.{two_word, two_flags, cell_of, valid_operand, eval_operand, valid_dst_operand, update_operand, act, run_ins, valid_ocmp, ocmp_number, eval_ocmp}
use Rattle.source.specs.Source.{State, eval_ins}
use Rattle.source.specs.Source as Source
use Rattle.source.proofs.RunsOn.{put_flags, put_twice, runs_on}
use Rattle.bytemachine.specs.ByteMachine.{BState, exec_ins}
use Rattle.demands.specs.Counting.{BitsOf}
use Rattle.demands.specs.Overflowing.{Adds, NotByRule, GivesFlags, Overflowing}
use Rattle.demands.proofs.Counting.{filled, carried}
use Rattle.demands.proofs.Demands.{demands}

-- ---- flags
board_is : (fill flags a b c : ℕ) → BitsOf fill (sum_carry 64 (a + b + c)) (leaves 64 (signed_sum 64 a b c)) (board_flags fill flags a b c)
unfolding board_flags
board_is fill flags a b c = filled fill _ _

base_is : (fill flags a b c : ℕ) → BitsOf flags (sum_carry 64 (a + b + c)) (overflow flags) (base_flags fill flags a b c)
unfolding base_flags
base_is fill flags a b c = carried flags _

carry_as_before : (fill flags a b c : ℕ) → cf (board_flags fill flags a b c) ≡ cf (base_flags fill flags a b c)
unfolding base_flags
carry_as_before fill flags a b c = (board_is fill flags a b c).carry_is ∙ sym (cf_update_cf flags _)

gives_flags : (e : Evaluation) → GivesFlags (flag_rule e)
unfolding base_flags board_flags
gives_flags Base fill flags a b c f g = update_cf_lt flags _ g
gives_flags Board fill flags a b c f g = update_cf_lt _ _ (update_of_lt fill _ f)

-- ---- words as signed numbers
wraps_back : (x : ℕ) → x < 2 ^ 64 → wrap (signed_word 64 x) ≡ x
unfolding wrap
wraps_back x h = go (ltb x (2 ^ 63)) refl
  where
    go : (t : Bool) → ltb x (2 ^ 63) ≡ t → wrap (signed_word 64 x) ≡ x
    go true p = rw (not_negative 64 x (ltb-true _ _ p)) (mod-eq_of_lt h)
    go false p =
        let k : 2 ^ 63 ≤ x = ltb-false _ _ p in
        let e : (2 ^ 64 - 1 - x) % 2 ^ 64 ≡ 2 ^ 64 - 1 - x = mod-eq_of_lt (omega arith) in
        rw (is_negative 64 x k h) (omega arith)

module _ (a b : ℕ) (carry : Bool) where
  abbrev word : ℕ
  word = sum_mod 64 (a + b + bit carry)

  is_added : Added 64 (a + b + bit carry) word (sum_carry 64 (a + b + bit carry))
  is_added = record { word_is = refl; carry_is = refl }

  clear_so : a < 2 ^ 64 → b < 2 ^ 64 → leaves 64 (signed_sum 64 a b (bit carry)) ≡ false → signed_word 64 word ≡ signed_sum 64 a b (bit carry)
  clear_so h k = word_is_sum 64 a b word carry _ refl h k is_added

  set_so : leaves 64 (signed_sum 64 a b (bit carry)) ≡ true → signed_word 64 word ≡ signed_sum 64 a b (bit carry) → ⊥
  set_so over e =
      let within : leaves 64 (signed_sum 64 a b (bit carry)) ≡ false = subst (λ z. leaves 64 z ≡ false) e (word_within 64 word refl (sum_mod_lt 64 _)) in
      let z : ◌≡◌ {A = ℕ} 0 1 = cc in omega arith

-- ---- the other instructions
abbrev by_rule : Instruction → Bool
by_rule i = eqb (layout i).kind 0x02 || eqb (layout i).kind 0x04

not_by_rule : (i : Instruction) → NotByRule i → by_rule i ≡ false
not_by_rule i n = rw (ne_eqb _ 0x02 n.0, ne_eqb _ 0x04 n.1)

-- what is the same of all instructions, but that these two are left out, is the same of the others
module _ {A : Type 0} (x : A) (f g : Instruction → A) where
  abbrev but_two : (Instruction → A) → Instruction → A
  but_two h i = cond (by_rule i) x (h i)

  others : ((bytes : List ℕ) (os : List Operand) → of_each (but_two f) bytes os ≡ of_each (but_two g) bytes os)
      → (i : Instruction) → NotByRule i → f i ≡ g i
  others e i n =
      subst (λ (b : Bool). cond b x (f i) ≡ cond b x (g i)) (not_by_rule i n) (every_ins (but_two f) (but_two g) e i)

run_others : (i : Instruction) → NotByRule i → (env : Env) (rule : FlagRule) (p : ℕ) (s : Config)
    → run_ins (with_rule rule env) p i s ≡ run_ins env p i s
unfolding run_ins act two_word two_flags cell_of valid_operand eval_operand valid_dst_operand update_operand
run_others i n env rule p s = others (ends done s) (λ i. run_ins (with_rule rule env) p i s) (λ i. run_ins env p i s) (λ bytes os. refl) i n

source_others : (i : Instruction) → NotByRule i → (load_mem64 : ℤ → Memory → ℕ) (int_to_nat64 : ℤ → ℕ) (fill : ℕ) (rule other : FlagRule) (s : State)
    → eval_ins load_mem64 int_to_nat64 fill rule i s ≡ eval_ins load_mem64 int_to_nat64 fill other i s
unfolding eval_ins Source.eval_operand Source.valid_shift_operand Source.update_operand' Source.update_operand Source.update_xmm
source_others i n load int fill rule other s =
    others (tt, s) (λ i. eval_ins load int fill rule i s) (λ i. eval_ins load int fill other i s) (λ bytes os. refl) i n

machine_others : (i : Instruction) → NotByRule i → (fill : ℕ) (rule other : FlagRule) (s : BState)
    → exec_ins fill rule i s ≡ exec_ins fill other i s
unfolding exec_ins
machine_others i n fill rule other s = others s (λ i. exec_ins fill rule i s) (λ i. exec_ins fill other i s) (λ bytes os. refl) i n

run_comparisons : (env : Env) (rule : FlagRule) (limit : Option ℕ) (q : ℕ) (c : Ocmp) (yes_way no_way : Part) (s : Config) (k : Counted)
    → decide (with_rule rule env) limit q c yes_way no_way s k ≡ decide env limit q c yes_way no_way s k
unfolding decide run_ocmp valid_ocmp ocmp_number eval_ocmp cell_of valid_operand eval_operand touched watched
run_comparisons env rule limit q (OEq a b) yes_way no_way s k = refl
run_comparisons env rule limit q (ONe a b) yes_way no_way s k = refl
run_comparisons env rule limit q (OLe a b) yes_way no_way s k = refl
run_comparisons env rule limit q (OGe a b) yes_way no_way s k = refl
run_comparisons env rule limit q (OLt a b) yes_way no_way s k = refl
run_comparisons env rule limit q (OGt a b) yes_way no_way s k = refl

-- ---- Add64 and AddCarry64
add64_is : Adds Add64 (λ flags. 0)
unfolding run_ins act two_word two_flags exec_ins eval_ins sum_mod
add64_is = record {
  runs = λ env p dst src s. rw add-zero;
  evaluates = λ load int fill rule dst src s. rw add-zero (runs_on load int fill (Add64 dst src) dst src _ _ _ s (put_flags fill _));
  executes = λ fill rule dst src s. rw add-zero;
}

add_carry64_is : Adds AddCarry64 (λ flags. bit (cf flags))
unfolding run_ins act two_word two_flags exec_ins eval_ins sum_mod
add_carry64_is = record {
  runs = λ env p dst src s. refl;
  evaluates = λ load int fill rule dst src s. runs_on load int fill (AddCarry64 dst src) dst src _ _ _ s (put_twice fill _ _);
  executes = λ fill rule dst src s. refl;
}

-- ---- the claims
pub overflowing : Overflowing
overflowing = record {
  add64 = add64_is;
  add_carry64 = add_carry64_is;
  run_others = run_others;
  source_others = source_others;
  machine_others = machine_others;
  run_comparisons = run_comparisons;
  base = base_is;
  as_before = carry_as_before;
  board = board_is;
  stays = stays_signed 64;
  in_range = signed_stays 64;
  is_signed = λ x h. signed_of 64 x refl h;
  same_word = wraps_back;
  clear = clear_so;
  set = set_so;
  gives_flags = gives_flags;
  each = λ e code addresses tags fill fuel limit start values. demands code _ fuel limit start values;
}
