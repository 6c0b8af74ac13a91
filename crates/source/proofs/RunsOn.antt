-- What the source leaves where a check may fail: it clears ok and runs on, and no check and no write looks at ok.
use Prim.Native.Nat.{ℕ}
use mathlib.Core.Path.{◌≡◌, refl, ap}
use mathlib.Core.Bool.{Bool, true, false, ◌&&◌, cond, and_self}
use lib.IntN.{ℤ}
use Rattle.words.specs.Flags.{update_cf, update_of}
use Rattle.machine.specs.Operands.{valid_dst}
use Rattle.machine.specs.Memory.{Memory}
use Rattle.machine.specs.declared.Operand.{Operand}
use Rattle.machine.specs.declared.Operand.TheVariants.{OConst, OReg, OMem}
use Rattle.code.specs.declared.tree.Instruction.{Instruction}
use Rattle.source.specs.Source.{State, with_ok, with_flags, St, return, ◌>>=◌, ◌>>◌, get, fail, check, eval_maddr, update_reg', update_mem, valid_operand, valid_dst_operand, update_operand_preserve_flags', update_flags, update_cf_of, update_operand', update_operand}

-- ---- `let?` ands ok of three states, each as clear as the one before: what is left behind a checked write, one to a constant, a check and a
-- checked write, and `get`
ok_written : (a b : Bool) → (a && (a && b) && (a && b && (a && b) && (a && b))) ≡ (a && b)
ok_written true true = refl
ok_written true false = refl
ok_written false b = refl

ok_constant : (a b : Bool) → (a && (a && false) && b) ≡ (a && false)
ok_constant true b = refl
ok_constant false b = refl

ok_checked_twice : (a b c : Bool) → (a && (a && b) && (a && b && (a && b && c) && (a && b && c))) ≡ (a && b && c)
ok_checked_twice true true true = refl
ok_checked_twice true true false = refl
ok_checked_twice true false c = refl
ok_checked_twice false b c = refl

ok_got : (a b c : Bool) → (a && a && (a && b && c)) ≡ (a && b && c)
ok_got true b c = refl
ok_got false b c = refl

-- ---- checks and writes
check_leaves : (valid : State → Bool) (s : State) → check valid s ≡ (tt, with_ok (s.ok && valid s) s)
unfolding check ◌>>=◌
check_leaves valid s = go s.ok (valid s)
  where
    go : (a b : Bool) → (get >>= (λ s. cond b (return tt) fail)) (with_ok a s) ≡ (tt, with_ok (a && b) s)
    go true true = refl
    go true false = refl
    go false true = refl
    go false false = refl

valid_dst_ok : (dst : Operand) (ok : Bool) (s : State) → valid_dst_operand dst (with_ok ok s) ≡ valid_dst_operand dst s
unfolding valid_dst_operand valid_operand
valid_dst_ok (OConst n) ok s = refl
valid_dst_ok (OReg r) ok s = refl
valid_dst_ok (OMem m) ok s = refl

write_ok : (dst : Operand) (v : ℕ) (ok ok' : Bool) (s : State)
    → with_ok ok (update_operand_preserve_flags' dst v (with_ok ok' s)) ≡ with_ok ok (update_operand_preserve_flags' dst v s)
unfolding update_operand_preserve_flags'
write_ok (OConst n) v ok ok' s = refl
write_ok (OReg r) v ok ok' s = refl
write_ok (OMem m) v ok ok' s = refl

-- flags that are put, whatever they were
pub put_flags : (fill flags : ℕ) (t : State) → update_flags flags (with_flags fill t) ≡ (tt, with_flags flags t)
unfolding update_flags ◌>>=◌
put_flags fill flags t = simp and_self

-- and put again
pub put_twice : (fill first flags : ℕ) (t : State) → (update_flags first >> update_flags flags) (with_flags fill t) ≡ (tt, with_flags flags t)
unfolding update_flags ◌>>=◌
put_twice fill first flags t = simp and_self

pub clear_flags : (fill : ℕ) (t : State) → update_cf_of false false (with_flags fill t) ≡ (tt, with_flags (update_cf (update_of fill false) false) t)
unfolding update_cf_of ◌>>=◌
clear_flags fill t = simp and_self

behind_get : (f : State → St (Unit {0})) (s : State) (b c : Bool) (u : State)
    → (f s s).1 ≡ with_ok (s.ok && b && c) u → ((get >>= f) s).1 ≡ with_ok (s.ok && b && c) u
unfolding ◌>>=◌
behind_get f s b c u e = rw (e, ok_got)

module _ (load_mem64 : ℤ → Memory → ℕ) (int_to_nat64 : ℤ → ℕ) (fill : ℕ) where
  update_leaves : (dst : Operand) (i : Instruction) (v : ℕ) (s : State)
      → update_operand load_mem64 int_to_nat64 fill dst i v s
      ≡ (tt, with_flags fill (with_ok (s.ok && valid_dst_operand dst s) (update_operand_preserve_flags' dst v s)))
  unfolding update_operand update_operand' update_operand_preserve_flags' valid_dst_operand valid_operand valid_dst ◌>>=◌
  update_leaves (OConst n) i v s = rw check_leaves (ap (λ ok. (tt, with_ok ok (with_flags fill s))) (ok_constant s.ok _))
  update_leaves (OReg r) i v s =
      rw check_leaves (ap (λ ok. (tt, with_ok ok (with_flags fill (update_reg' r v s)))) (ok_written s.ok _))
  update_leaves (OMem m) i v s =
      rw check_leaves (ap (λ ok. (tt, with_ok ok (with_flags fill (update_mem (eval_maddr m s) v s)))) (ok_written s.ok _))

  -- a source is checked, a destination checked and written, and then flags are set by m
  one_write : (i : Instruction) (dst src : Operand) (v flags : ℕ) (m : St (Unit {0})) (s : State)
      → ((t : State) → m (with_flags fill t) ≡ (tt, with_flags flags t))
      → ((check (valid_operand src) >> (update_operand load_mem64 int_to_nat64 fill dst i v >> m)) s).1
      ≡ with_ok (s.ok && valid_operand src s && valid_dst_operand dst s) (with_flags flags (update_operand_preserve_flags' dst v s))
  unfolding ◌>>=◌
  one_write i dst src v flags m s sets =
      rw (check_leaves, update_leaves, sets, valid_dst_ok, ok_checked_twice) (ap (with_flags flags) (write_ok dst v _ _ s))

  -- the same behind `get`, of the state that it got
  pub runs_on : (i : Instruction) (dst src : Operand) (v : State → ℕ) (flags : ℕ) (m : State → St (Unit {0})) (s : State)
      → ((t : State) → m s (with_flags fill t) ≡ (tt, with_flags flags t))
      → ((get >>= (λ s. check (valid_operand src) >> (update_operand load_mem64 int_to_nat64 fill dst i (v s) >> m s))) s).1
      ≡ with_ok (s.ok && valid_operand src s && valid_dst_operand dst s) (with_flags flags (update_operand_preserve_flags' dst (v s) s))
  runs_on i dst src v flags m s sets =
      behind_get _ s (valid_operand src s) (valid_dst_operand dst s) (with_flags flags (update_operand_preserve_flags' dst (v s) s))
      (one_write i dst src (v s) flags (m s) s sets)
