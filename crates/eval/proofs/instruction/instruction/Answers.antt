-- Each kind stands as an instruction of its family, whose function runs it. Assumes nothing.
use Rattle.eval.proofs.Asked.{ins_starts, two_asked, two_ran, lane_asked, lea_asked, lea_ran, mul_asked, mul_ran, mulx_asked, mulx_ran, no_other}
use Rattle.eval.proofs.instruction.instruction.Goals as goal

pub bounds-lent-at : goal.bounds-lent-at
bounds-lent-at c = search ins_starts

pub two_operands-requires : goal.two_operands-requires
two_operands-requires c =
    let asked = c.requires in let w = two_asked _ _ asked.ins_at _ c.is_two.ensures (search) in
    record { operands_from = w.0; at_value = w.1; long = asked.long }

pub returns-then-is_two : goal.returns-then-is_two
returns-then-is_two c = search two_ran

pub lane_instruction-requires : goal.lane_instruction-requires
lane_instruction-requires c =
    let asked = c.requires in
    record { ins_at = asked.ins_at; bound = lane_asked _ _ asked.ins_at _ c.is_two.ensures (search) (search); long = asked.long }

pub returns-then-kind-gt14 : goal.returns-then-kind-gt14
returns-then-kind-gt14 c = c.lane_instruction.ensures

pub add_lea-requires : goal.add_lea-requires
add_lea-requires c =
    let asked = c.requires in
    record { operands_from = lea_asked _ _ asked.ins_at (search); long = asked.long }

pub multiply-requires : goal.multiply-requires
multiply-requires c =
    let asked = c.requires in
    record { operands_from = mul_asked _ _ asked.ins_at (search); long = asked.long }

pub multiply_into-requires : goal.multiply_into-requires
multiply_into-requires c =
    let asked = c.requires in
    record { operands_from = mulx_asked _ _ asked.ins_at (search); long = asked.long }

pub returns-in-3 : goal.returns-in-3
returns-in-3 c = search lea_ran

pub returns-in-8 : goal.returns-in-8
returns-in-8 c = search mul_ran

pub returns-in-9 : goal.returns-in-9
returns-in-9 c = search mulx_ran

pub returns-in_default : goal.returns-in_default
returns-in_default c = absurd (search no_other)
