-- 0D and 0E are the kinds of the shifts.
use native.Mathlib.Omega.{arith}
use Rattle.eval.proofs.OtherKinds.{shift_kinds, no_shift}
use Rattle.eval.proofs.twos.too_far.Goals as goal

pub returns-in-13 : goal.returns-in-13
returns-in-13 c = rw (shift_kinds _ c.in-13.if-kind-lt13-own.false c.in-13.if-kind-lt15-own.true)

pub returns-in_default : goal.returns-in_default
returns-in_default c = rw (no_shift c.args.kind (λ e. omega arith) (λ e. omega arith))

pub returns-in_default-2 : goal.returns-in_default-2
returns-in_default-2 c = rw (no_shift c.args.kind (λ e. omega arith) (λ e. omega arith))
