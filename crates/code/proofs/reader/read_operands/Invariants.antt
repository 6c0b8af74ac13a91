-- `code::reader::read_operands` meets its contract. The loop's invariant: reading all of the operands reaches what
-- reading those that are left reaches from here. Assumes nothing.
use Prim.Native.Nat.{◌-◌}
use mathlib.Core.Path.{◌≡◌}
use Rattle.code.specs.Reader.{read_operands}
use Rattle.code.proofs.reader.read_operands.Given as goal

abbrev pub invariant-loop : goal.invariant-loop
invariant-loop l =
    read_operands l.count l.code l.end l.from ≡ read_operands (l.count - l.counter) l.code l.end l.at
