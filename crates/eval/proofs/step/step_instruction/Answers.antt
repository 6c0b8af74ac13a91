-- `step_instruction` meets its contract: what `instruction` runs is counted where it is done. Assumes nothing.
use mathlib.Core.Path.{refl}
use Rattle.eval.proofs.Asked.{ins_starts}
use Rattle.eval.proofs.InstructionLaws.{handed_on}
use Rattle.eval.proofs.StepLaws.{ins_below, step_fits, ins_stopped, ins_ended, ins_counted}
use Rattle.eval.proofs.step.step_instruction.Goals as goal

pub returns-then-used_up : goal.returns-then-used_up
returns-then-used_up c = record { evaluates_step = rw c.at.ensures (search ins_stopped); tested_none = refl }

pub returns-in_err-place : goal.returns-in_err-place
returns-in_err-place c =
    let was = c.in_err-place.was in
    rw (handed_on _ _ c.from_residual.ensures.1) (record { evaluates_step = search ins_ended; tested_none = refl })

pub bounds-lent-at : goal.bounds-lent-at
bounds-lent-at c = search ins_starts

pub count_instruction-requires : goal.count_instruction-requires
count_instruction-requires c =
    let asked = c.requires in
    record { kind_bound = ins_below _ _ asked.ins_at; counted_bound = search step_fits }

pub returns : goal.returns
returns c = let was = c.in_ok-place.was in record { evaluates_step = search ins_counted; tested_none = c.count_instruction.ensures.tested_none }
