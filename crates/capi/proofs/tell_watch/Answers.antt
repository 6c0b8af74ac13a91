-- What is open was told, and the mark's numbers are those of its variant.
use Prim.Native.Nat.{ℕ}
use mathlib.Core.Path.{◌≡◌, sym, ap, ◌∙◌}
use Rattle.eval.specs.Watch.{Mark}
use Rattle.capi.specs.Told.{told_mark}
use Rattle.capi.proofs.tell_watch.Goals as goal

-- the numbers of a mark that is known, and of what was told to be open
known : {m n : Mark} {o p : ℕ} → m ≡ n → o ≡ p → told_mark n o ≡ told_mark m p
known {m} {n} {o} {p} e f = ap (λ (x : ℕ). told_mark n x) f ∙ sym (ap (λ (x : Mark). told_mark x p) e)

pub returns-in-None : goal.returns-in-None
returns-in-None c = known c.in-None.is c.tell_open.ensures

pub returns-in-Some : goal.returns-in-Some
returns-in-Some c = known c.in-Some.is c.tell_open.ensures
