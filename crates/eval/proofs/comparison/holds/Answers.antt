-- `holds` meets its contract: each arm is the entry of its kind in the definition's list.
use Rattle.eval.specs.Promises.{comparison}
use Rattle.eval.proofs.OtherKinds.{no_ocmp}
use Rattle.eval.proofs.comparison.holds.Goals as goal

pub returns-in-48 : goal.returns-in-48
unfolding comparison
returns-in-48 c = rw c.in-48.is

pub returns-in-49 : goal.returns-in-49
unfolding comparison
returns-in-49 c = rw c.in-49.is

pub returns-in-50 : goal.returns-in-50
unfolding comparison
returns-in-50 c = rw c.in-50.is

pub returns-in-51 : goal.returns-in-51
unfolding comparison
returns-in-51 c = rw c.in-51.is

pub returns-in-52 : goal.returns-in-52
unfolding comparison
returns-in-52 c = rw c.in-52.is

pub returns-in-53 : goal.returns-in-53
unfolding comparison
returns-in-53 c = rw c.in-53.is

pub returns-in_default : goal.returns-in_default
unfolding comparison
returns-in_default c = let r = c.in_default.in_default-own.rest in absurd (no_ocmp _ c.requires r.0.0.0.0.0.1 r.0.0.0.0.1 r.0.0.0.1 r.0.0.1 r.0.1 r.1)
