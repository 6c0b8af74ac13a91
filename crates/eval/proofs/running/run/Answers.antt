-- `run` meets its contract: what the checks refuse is refused by the definition, and the rest is `evaluate`. Every value of the parameters'
-- types is an input. Assumes nothing.
use Prim.Native.Nat.{◌^◌}
use native.Mathlib.Omega.{arith}
use denote.Struct.Field.{u32-field, u64-field}
use Rattle.eval.specs.Inputs.{IsInput}
use Rattle.eval.proofs.InputLaws.{words_of}
use Rattle.eval.proofs.Asked.{refused_run, both_accepted}
use Rattle.eval.proofs.NeededLaws.{refused_run_needs}
use Rattle.eval.proofs.running.run.Goals as goal
use Rattle.eval.proofs.running.run.Goals.{After-shared_slice_known-1}

-- what owning the parameters tells
is_input : (c : After-shared_slice_known-1) → IsInput c.args.code.now c.args.start c.args.setting
is_input c =
    let start = c.well_formed.1.1.1.1.0.1.1 in
    let setting = c.well_formed.1.1.1.1.1.0.1.1 in
    let regs = start.0 in
    let xmms = start.1.0 in
    record {
      bytes = λ i. omega (arith, c.type_inv.code i);
      state =
          record {
            regs_words = words_of u64-field.row.own_val (2 ^ 64) (omega arith) (λ x vs s. s.1) 16 _ regs.0 regs.1.0.1 regs.1.1;
            xmms_words = words_of u32-field.row.own_val (2 ^ 32) (omega arith) (λ x vs s. s.1) 64 _ xmms.0 xmms.1.0.1 xmms.1.1;
            flags_word = start.1.1.0.1;
          };
      fill_word = setting.0.1;
      limit_word = setting.1.1.0.1;
    }

pub returns-in-Err : goal.returns-in-Err
returns-in-Err c =
    record {
      values_after = rw c.from.ensures (refused_run _ _ _ _ _ _ _ _ _ c.check.ensures _ c.in-Err.is _ c.nothing_open.ensures);
      needed_value = refused_run_needs _ _ _ _ _ _ _ _ _ c.check.ensures _ c.in-Err.is;
      input = is_input (goal.at.returns-in-Err c).After-shared_slice_known-1;
    }

pub evaluate-requires : goal.evaluate-requires
evaluate-requires c =
    let both = both_accepted _ _ _ c.check.ensures _ c.in_default.is in
    record { code_value = both.0; values_value = both.1 }

pub returns : goal.returns
returns c =
    record {
      values_after = c.evaluate.ensures.values_after;
      needed_value = c.evaluate.ensures.needed_value;
      input = is_input (goal.at.returns c).After-shared_slice_known-1;
    }
