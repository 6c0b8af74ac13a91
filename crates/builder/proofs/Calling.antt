-- What the code of a call leaves is what the definition of the call says, for each kind of call.
use Prim.Native.Nat.{ℕ, ◌+◌}
use mathlib.Core.Path.{◌≡◌, refl, ap, ◌∙◌, subst}
use mathlib.Core.Bool.{Bool, ◌&&◌, ◌||◌}
use mathlib.Core.List.{List, [], ◌∷◌, ◌++◌}
use native.Mathlib.Omega.{arith}
use borrow.Author.Tests.{ltb-true, leb-true}
use lib.Dec.{eqb, ltb, leb}
use lib.ListN.{length}
use lib.Seq.{sets}
use Rattle.code.specs.declared.tree.Instruction.{Instruction}
use Rattle.code.specs.declared.tree.Ocmp.{Ocmp}
use Rattle.code.specs.Layout.{Layout, layout, ocmp_layout}
use Rattle.code.specs.Writer.{bytes_of, bytes_of_ins, bytes_of_ocmp}
use Rattle.builder.specs.declared.build.Build.{Build}
use Rattle.builder.specs.Calls.{open_block, open_if_else, open_while, add, close, bytes_of_call, record_trouble, call_trouble, RecordTyped, CallTyped}
use Rattle.builder.specs.Building.{kind_of, field_of, start_of, is_part, takes_code, takes_close, call_fits, depth_of, judge, refusal, longer, build_after, buffer_after, Outcome, opens, call}
use Rattle.builder.specs.Rendered.{Closable}
use Rattle.std.proofs.lemmas.Bool.{and_parts}
use Rattle.builder.proofs.Judged.{was_taken, same_judge}

-- ---- an instruction that is added: the trouble in its fields, and its bytes, by other names
module _ (b : Build) (entry : List ℕ) {bytes : List ℕ} (i : Instruction) (s : bytes ≡ bytes_of_ins i) where
  pub add_refusal : {trouble n : ℕ} → trouble ≡ record_trouble (layout i)
      → n ≡ judge (takes_code b) trouble (b.depth + 1) (b.length + length bytes) (length entry) → n ≡ refusal (add i) b (length entry)
  unfolding refusal call_fits call_trouble depth_of bytes_of_call
  add_refusal e h = h ∙ rw (e, s) refl

  pub add_stored : {exit : List ℕ} → exit ≡ sets entry b.length bytes → exit ≡ buffer_after (add i) b entry
  unfolding buffer_after bytes_of_call
  add_stored h = h ∙ ap (sets entry b.length) s

  pub add_longer : {now : Build} {n : ℕ} → n ≡ length bytes → now ≡ longer b n → now ≡ build_after (add i) b
  unfolding build_after bytes_of_call
  add_longer p h = h ∙ ap (longer b) (p ∙ ap length s)

-- ---- a structure that is opened
module _ (b : Build) (entry : List ℕ) {o : Outcome} where
  pub block_is : o ≡ opens 0 0 (0x20 ∷ 0 ∷ 0 ∷ 0 ∷ 0 ∷ []) b entry → o ≡ call open_block b entry
  unfolding call refusal call_fits call_trouble depth_of build_after buffer_after bytes_of_call bytes_of
  block_is h = h

  pub if_else_is :
      (c : Ocmp) → o ≡ opens 1 (record_trouble (ocmp_layout c)) (0x21 ∷ bytes_of 8 0 ++ bytes_of_ocmp c) b entry
      → o ≡ call (open_if_else c) b entry
  unfolding call refusal call_fits call_trouble depth_of build_after buffer_after bytes_of_call bytes_of
  if_else_is c h = h

  pub while_is :
      (c : Ocmp) → o ≡ opens 2 (record_trouble (ocmp_layout c)) (0x22 ∷ bytes_of 4 0 ++ bytes_of_ocmp c) b entry
      → o ≡ call (open_while c) b entry
  unfolding call refusal call_fits call_trouble depth_of build_after buffer_after bytes_of_call bytes_of
  while_is c h = h

-- ---- the call is one of the types

pub add_fits : (i : Instruction) {l : Layout} → l ≡ layout i → RecordTyped l → CallTyped (add i)
unfolding CallTyped
add_fits i = subst RecordTyped

pub if_else_fits : (c : Ocmp) {l : Layout} → l ≡ ocmp_layout c → RecordTyped l → CallTyped (open_if_else c)
unfolding CallTyped
if_else_fits c = subst RecordTyped

pub while_fits : (c : Ocmp) {l : Layout} → l ≡ ocmp_layout c → RecordTyped l → CallTyped (open_while c)
unfolding CallTyped
while_fits c = subst RecordTyped

-- ---- a close

pub closable :
    (b : Build) (room : ℕ) → 0 ≡ refusal close b room → Closable b room
unfolding refusal call_fits call_trouble depth_of bytes_of_call takes_close is_part
closable b room e =
    let taken = was_taken _ _ _ _ _ e refl in
    let a = and_parts (ltb 0 b.depth && is_part b) (eqb (kind_of b) 0 || ltb (start_of b) b.length) taken.it_fits in
    let c = and_parts (ltb 0 b.depth) (is_part b) a.0 in
    let d = and_parts _ (leb (start_of b) b.length) c.1 in
    let f = and_parts _ (leb (field_of b + 4) (start_of b)) d.0 in
    let g = and_parts (leb b.depth 32) (leb (kind_of b) 2) f.0 in
    record {
      some_open = ltb-true 0 b.depth c.0;
      not_many = leb-true b.depth 32 g.0;
      behind_field = leb-true (field_of b + 4) (start_of b) f.1;
      in_build = leb-true (start_of b) b.length d.1;
      in_room = omega (arith, taken.in_room);
      in_all = omega (arith, taken.in_all);
    }

-- in a buffer of the limit too
pub in_limit : {b : Build} {room : ℕ} → Closable b room → Closable b 16384
in_limit c =
    record {
      some_open = c.some_open;
      not_many = c.not_many;
      behind_field = c.behind_field;
      in_build = c.in_build;
      in_room = c.in_all;
      in_all = c.in_all;
    }

-- a close adds no bytes
pub close_refusal :
    (b : Build) (room : ℕ) {fits : Bool} {depth length r : ℕ} → fits ≡ takes_close b → depth ≡ b.depth → length ≡ b.length
    → r ≡ judge fits 0 depth length room → r ≡ refusal close b room
unfolding refusal call_fits call_trouble depth_of bytes_of_call
close_refusal b room e f g h = same_judge _ _ _ _ _ _ _ _ e f (omega (arith, g)) h
