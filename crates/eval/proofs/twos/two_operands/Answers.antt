-- Each check that fails is the fault of the definition; where all pass, what is put is the word and the flags of the kind.
-- Assumes nothing.
use mathlib.Core.List.{[]}
use native.Mathlib.Omega.{arith}
use Rattle.eval.specs.Config.{config}
use Rattle.eval.specs.Promises.{env_of}
use Rattle.eval.proofs.Asked.{operand_starts, second_there, Operands2, reads_nothing, shifts_too_far, writes_nowhere, writes}
use Rattle.eval.proofs.twos.two_operands.Goals as goal
use Rattle.eval.proofs.twos.two_operands.Goals.{After-load-src}

-- what was found of the operands, where the source has been loaded
operands :
    (c : After-load-src) →
    let a = c.args in
    Operands2 (env_of a.lent.now) (config a.state.now a.values.now) a.lent.now.code.now a.at c.resolve-dst.result c.load-src.result
operands c =
    let s = c.args.state.now in record { dst = c.resolve-dst.ensures s.flags s.xmms; src = c.load-src.ensures; kind = c.requires.at_value }

pub bounds-lent-at : goal.bounds-lent-at
bounds-lent-at c = omega (arith, operand_starts)

pub overflow_add-at : goal.overflow_add-at
overflow_add-at c = omega (arith, operand_starts)

pub load-src-requires : goal.load-src-requires
load-src-requires c = let next = (c.resolve-dst.ensures 0 []).next in search second_there

pub returns-then-src-ne0 : goal.returns-then-src-ne0
returns-then-src-ne0 c = let w = operands (goal.at.returns-then-src-ne0 c).After-load-src in rw c.at.ensures (search reads_nothing)

pub returns-then-too_far : goal.returns-then-too_far
returns-then-too_far c = let w = operands (goal.at.returns-then-too_far c).After-load-src in rw c.at-then-too_far.ensures (search shifts_too_far)

pub returns-then-dst-gt1 : goal.returns-then-dst-gt1
returns-then-dst-gt1 c = let w = operands (goal.at.returns-then-dst-gt1 c).After-load-src in rw c.at-then-dst-gt1.ensures (search writes_nowhere)

pub effect_of-effect-requires : goal.effect_of-effect-requires
effect_of-effect-requires c = let w = operands (goal.at.effect_of-effect-requires c).After-load-src in search

pub put-requires : goal.put-requires
put-requires c = search (operands (goal.at.put-requires c).After-load-src).dst.bounds

pub returns : goal.returns
returns c = let w = operands (goal.at.returns c).After-load-src in search writes
