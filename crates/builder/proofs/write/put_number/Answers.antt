-- The bytes that were put, and those of what is left of the number, make the whole.
use mathlib.Core.Path.{sym, ◌∙◌}
use native.Mathlib.Omega.{arith}
use Rattle.builder.proofs.Writing.{number_step, number_done}
use Rattle.builder.proofs.write.put_number.Goals as goal

pub loop-i-preserved : goal.loop-i-preserved
loop-i-preserved c =
    let loop = c.loop-i in
    record {
      len = omega arith;
      bytes = rw c.push.ensures.items (number_step loop.out.items loop.i _ loop.rest (omega arith) ∙ loop.invariant.bytes);
    }

pub returns-clause-bytes : goal.returns-clause-bytes
returns-clause-bytes c =
    let loop = c.loop-i in
    sym (number_done loop.out.items loop.i _ loop.rest (omega arith)) ∙ loop.invariant.bytes
