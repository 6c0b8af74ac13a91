-- `all` tests the operands from the first on, the definition from the last.
use mathlib.Core.Path.{refl, ◌∙◌}
use native.Mathlib.Omega.{arith}
use Rattle.std.proofs.Common.{rules, tests}
use Rattle.std.proofs.lemmas.Iterator.{YieldsList-from_range}
use Rattle.std.proofs.lemmas.Iterator.Search.{all_from_yields_List}
use Rattle.numbered.specs.Given.{operand_given}
use Rattle.numbered.proofs.Given.{all_given}
use Rattle.numbered.proofs.operands.are_operands.Goals as goal

pub returns : goal.returns
returns c =
    let given = c.args.given in
    let all_of = YieldsList-from_range 0 c.args.count c.args.count refl (omega arith) in
    all_from_yields_List (operand_given given) _ _ _ c.all.ensures.ran all_of (λ x b q k. search (rules, tests)) ∙ all_given given c.args.count
