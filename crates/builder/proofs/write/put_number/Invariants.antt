-- The bytes that were put, and those of what is left of the number, make the whole.
use mathlib.Core.Path.{◌≡◌}
use mathlib.Core.List.{◌++◌}
use Prim.Native.Nat.{◌+◌, ◌-◌}
use Rattle.arrayvec.specs.ArrayVec.{array_vec_len}
use Rattle.code.specs.Writer.{bytes_of}
use Rattle.builder.proofs.write.put_number.Given as goal

abbrev pub invariant-loop-i : goal.invariant-loop-i
invariant-loop-i l = record {
  len : array_vec_len l.out ≡ array_vec_len l.initial.out + l.i;
  bytes : l.out.items ++ bytes_of (l.count - l.i) l.rest ≡ l.initial.out.items ++ bytes_of l.count l.number;
}
