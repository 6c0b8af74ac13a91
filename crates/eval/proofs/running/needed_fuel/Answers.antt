-- `needed_fuel` meets its contract: a run that is Spent needs all of its fuel. Assumes nothing.
use mathlib.Core.Path.{sym, ◌∙◌}
use Rattle.eval.proofs.running.needed_fuel.Goals as goal

pub returns-then-ends_spent : goal.returns-then-ends_spent
returns-then-ends_spent c = rw (sym c.ends_spent.ensures ∙ c.if-ends_spent.true)

pub returns : goal.returns
returns c = rw (sym c.ends_spent.ensures ∙ c.if-ends_spent.false)
