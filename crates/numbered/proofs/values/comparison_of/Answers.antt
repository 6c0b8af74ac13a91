-- A comparison where the numbers are one's.
use Rattle.numbered.proofs.KindsGiven.{gives_comparison}
use Rattle.numbered.proofs.values.comparison_of.Goals as goal

pub returns : goal.returns
returns c = search gives_comparison
