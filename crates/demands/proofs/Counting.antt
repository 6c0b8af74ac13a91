-- Each text has the paragraph's clause: the run's and the byte machine's compute to it, and the source's has it by `runs_on`, whether its checks
-- pass or not. A record of one instruction is read back as what was written.
use Prim.Native.Nat.{ℕ, ◌≤◌}
use mathlib.Core.Path.{◌≡◌, refl, ◌∙◌, ap, subst, subst⁻¹}
use mathlib.Core.Bool.{Bool, false}
use mathlib.Core.List.{List, [], ◌∷◌}
use native.Mathlib.Omega.{arith}
use lib.Dec.{eqb}
use lib.ListN.{length, length-append}
use Rattle.words.specs.Flags.{overflow, update_cf, update_of}
use Rattle.words.proofs.FlagLaws.{cf_update_cf, update_cf_rest, overflow_update_cf, overflow_update_of, update_of_low, update_of_high}
use Rattle.words.proofs.CountLaws.{popcnt_zero, lzcnt_zero, tzcnt_zero, popcnt_lowest, lzcnt_highest, tzcnt_lowest}
use Rattle.machine.specs.declared.Operand.{Operand}
use Rattle.code.specs.declared.tree.Instruction.{Instruction}
use Rattle.code.specs.declared.tree.Instruction.TheVariants.{Popcnt64, Lzcnt64, Tzcnt64}
use Rattle.code.specs.Layout.{layout, laid}
use Rattle.code.specs.Tree.{Ins}
use Rattle.code.specs.Reader.{got, parse}
use Rattle.code.specs.Spells.{Nests}
use Rattle.code.specs.WellFormed.{WfOperand, WfLayout, WfIns, WfCode}
use Rattle.code.specs.Writer.{bytes_of_operands, bytes_of_record, bytes_of_ins, bytes_of_code, PlacedAt}
use Rattle.code.proofs.Held.{operand_length_le}
use Rattle.code.proofs.Reading.{writing}
use Rattle.eval.specs.Instructions.{two_word, two_flags, act, run_ins}
use Rattle.source.specs.Source.{eval_ins}
use Rattle.source.proofs.RunsOn.{put_flags, clear_flags, runs_on}
use Rattle.bytemachine.specs.ByteMachine.{exec_ins}
use Rattle.demands.specs.Counting.{BitsOf, Counting}

-- ---- flags
pub filled : (fill : ℕ) (carry over : Bool) → BitsOf fill carry over (update_cf (update_of fill over) carry)
filled fill carry over =
    let f = update_of fill over in
    let rest = update_cf_rest f carry in
    record {
      carry_is = cf_update_cf f carry;
      overflow_is = overflow_update_cf f carry ∙ overflow_update_of fill over;
      between = omega (arith, update_of_low fill over);
      above = omega (arith, update_of_high fill over);
    }

pub carried : (flags : ℕ) (carry : Bool) → BitsOf flags carry (overflow flags) (update_cf flags carry)
carried flags carry =
    let rest = update_cf_rest flags carry in
    record { carry_is = cf_update_cf flags carry; overflow_is = overflow_update_cf flags carry; between = omega arith; above = omega arith }

-- ---- an instruction of a destination and a source is read
module _ (k : ℕ) (i : Instruction) (dst src : Operand) (laid_so : layout i ≡ laid k [] (dst ∷ src ∷ [])) where
  abbrev bytes : List ℕ
  bytes = k ∷ bytes_of_operands (dst ∷ src ∷ [])

  its_bytes : bytes_of_code (Ins 0 i) ≡ bytes
  unfolding bytes_of_code bytes_of_ins bytes_of_record
  its_bytes = ap bytes_of_record laid_so

  short : length bytes ≤ 16384
  unfolding bytes_of_operands
  short = simp length-append (omega (arith, operand_length_le dst, operand_length_le src))

  read_so : WfOperand dst → WfOperand src → parse bytes ≡ got (Ins 0 i) (length bytes)
  unfolding WfCode WfIns PlacedAt Nests
  read_so f g =
      subst (λ (bs : List ℕ). parse bs ≡ got (Ins 0 i) (length bs)) its_bytes
      ((writing (Ins 0 i)).read_back (subst⁻¹ WfLayout laid_so (f, g)) refl (omega arith) (rw its_bytes short))

-- ---- the three
pub counting : Counting
unfolding run_ins act two_word two_flags exec_ins eval_ins
counting = record {
  popcnt64 = record {
    is_read = λ dst src. read_so 0x19 (Popcnt64 dst src) dst src refl;
    runs = λ env p dst src s. refl;
    evaluates = λ load int fill rule dst src s. runs_on load int fill (Popcnt64 dst src) dst src _ _ _ s (clear_flags fill);
    executes = λ fill rule dst src s. refl;
  };
  lzcnt64 = record {
    is_read = λ dst src. read_so 0x1a (Lzcnt64 dst src) dst src refl;
    runs = λ env p dst src s. refl;
    evaluates = λ load int fill rule dst src s. runs_on load int fill (Lzcnt64 dst src) dst src _ _ _ s (put_flags fill _);
    executes = λ fill rule dst src s. refl;
  };
  tzcnt64 = record {
    is_read = λ dst src. read_so 0x1b (Tzcnt64 dst src) dst src refl;
    runs = λ env p dst src s. refl;
    evaluates = λ load int fill rule dst src s. runs_on load int fill (Tzcnt64 dst src) dst src _ _ _ s (put_flags fill _);
    executes = λ fill rule dst src s. refl;
  };
  ones_of_zero = popcnt_zero 64;
  leading_of_zero = lzcnt_zero 64;
  trailing_of_zero = tzcnt_zero 64;
  ones = popcnt_lowest 64;
  leading = lzcnt_highest 64;
  trailing = tzcnt_lowest 64;
  popcnt_flags = λ fill b. filled fill false false;
  zeros_flags = λ fill b. carried fill (eqb b 0);
}
