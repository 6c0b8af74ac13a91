-- What a single call leaves, of any build and any buffer. Assumes nothing.
use Prim.Native.Nat.{ℕ, ◌+◌, ◌-◌, ◌≤◌}
use mathlib.Core.Path.{◌≡◌, refl, sym}
use mathlib.Core.Bool.{Bool, true, false, ◌&&◌, ◌||◌, cond}
use mathlib.Core.List.{List}
use native.Mathlib.Omega.{arith}
use borrow.Author.Tests.{leb-true, eqb-true, eqb-false}
use lib.Dec.{eqb, leb, ltb}
use lib.ListN.{length, drop}
use lib.Seq.{sets, length-sets}
use Rattle.code.specs.Writer.{bytes_of}
use Rattle.code.proofs.Held.{length_bytes}
use Rattle.builder.specs.declared.build.Build.{Build}
use Rattle.builder.specs.Calls.{Call, open_block, open_if_else, open_while, add, close, bytes_of_call, call_trouble}
use Rattle.builder.specs.Building.{kind_of, field_of, start_of, is_part, takes_close, call_fits, depth_of, refusal, turned, shut, build_after, stored, place_of, buffer_after, Outcome, outcome, call}
use Rattle.built.specs.Claims.{Judged}
use Rattle.std.proofs.lemmas.Bool.{and_parts}
use Rattle.built.proofs.Filling.{drop_sets}
use Rattle.built.proofs.Fields.{call_known, call_small}
use Rattle.built.proofs.Judging.{judged_field, judged_51, judged_53, judged_52, judged_0}

module _ (c : Call) (b : Build) (buffer : List ℕ) where
  -- the number of its refusal
  abbrev pub number : ℕ
  number = refusal c b (length buffer)

  -- what it leaves if it is taken
  abbrev taken_so : Outcome
  taken_so = outcome 0 (build_after c b) (buffer_after c b buffer)

  -- taken or refused
  pub either : (P : Outcome → Type 0) → (number ≡ 0 → P taken_so) → ((number ≡ 0 → ⊥) → P (outcome number b buffer)) → P (call c b buffer)
  unfolding call
  either P f g = go (eqb number 0) refl
    where
      go : (t : Bool) → eqb number 0 ≡ t → P (cond t taken_so (outcome number b buffer))
      go true e = f (eqb-true number 0 e)
      go false e = g (eqb-false number 0 e)

  answer_is : (call c b buffer).answer ≡ number
  answer_is = either (λ o. o.answer ≡ number) (λ e. sym e) (λ k. refl)

-- no store changes the length of the buffer
stored_length : (c : Call) (b : Build) (buffer : List ℕ) → length (buffer_after c b buffer) ≡ length buffer
unfolding buffer_after
stored_length open_block b buffer = length-sets buffer b.length (bytes_of_call open_block)
stored_length (open_if_else c) b buffer = length-sets buffer b.length (bytes_of_call (open_if_else c))
stored_length (open_while c) b buffer = length-sets buffer b.length (bytes_of_call (open_while c))
stored_length (add i) b buffer = length-sets buffer b.length (bytes_of_call (add i))
stored_length close b buffer = length-sets buffer (field_of b) (bytes_of 4 (b.length - start_of b))

closed_length : (t : Bool) (b : Build) → (cond t (turned b) (shut b)).length ≡ b.length
closed_length true b = refl
closed_length false b = refl

-- a part that can be closed has its length within the build
part_inside : (b : Build) → is_part b ≡ true → field_of b + 4 ≤ b.length
unfolding is_part
part_inside b h =
    let fields = leb (field_of b + 4) (start_of b) in
    let starts = leb (start_of b) b.length in
    let front = leb b.depth 32 && leb (kind_of b) 2 in
    let w = and_parts (front && fields) starts h in
    omega (arith, leb-true (field_of b + 4) (start_of b) (and_parts front fields w.0).1, leb-true (start_of b) b.length w.1)

length_inside : (b : Build) → takes_close b ≡ true → field_of b + 4 ≤ b.length
unfolding takes_close
length_inside b h =
    let is_open = ltb 0 b.depth in
    let has_code = eqb (kind_of b) 0 || ltb (start_of b) b.length in
    part_inside b (and_parts is_open (is_part b) (and_parts (is_open && is_part b) has_code h).0).1

-- a taken call stores nothing behind the build that it leaves
pushed : (n : ℕ) (vs buffer : List ℕ) → drop (n + length vs) (sets buffer n vs) ≡ drop (n + length vs) buffer
pushed n vs buffer = drop_sets (n + length vs) n vs buffer (omega arith)

untouched :
    (c : Call) (b : Build) (buffer : List ℕ) → call_fits c b ≡ true
    → drop (build_after c b).length (buffer_after c b buffer) ≡ drop (build_after c b).length buffer
unfolding build_after buffer_after call_fits
untouched open_block b buffer h = pushed b.length (bytes_of_call open_block) buffer
untouched (open_if_else c) b buffer h = pushed b.length (bytes_of_call (open_if_else c)) buffer
untouched (open_while c) b buffer h = pushed b.length (bytes_of_call (open_while c)) buffer
untouched (add i) b buffer h = pushed b.length (bytes_of_call (add i)) buffer
untouched close b buffer h =
    let n = b.length - start_of b in
    rw (closed_length (eqb (kind_of b) 1) b)
    (drop_sets b.length (field_of b) (bytes_of 4 n) buffer (omega (arith, length_bytes 4 n, length_inside b h)))

-- and it stores within the room
within_close :
    (b : Build) (room : ℕ) → call_fits close b ≡ true → b.length + length (bytes_of_call close) ≤ room
    → field_of b + length (bytes_of 4 (b.length - start_of b)) ≤ room
unfolding call_fits bytes_of_call
within_close b room h k = omega (arith, k, length_bytes 4 (b.length - start_of b), length_inside b h)

within : (c : Call) (b : Build) (room : ℕ) → call_fits c b ≡ true → b.length + length (bytes_of_call c) ≤ room → place_of c b + length (stored c b) ≤ room
within open_block b room h k = k
within (open_if_else c) b room h k = k
within (open_while c) b room h k = k
within (add i) b room h k = k
within close b room h k = within_close b room h k

pub judged : (c : Call) (b : Build) (buffer : List ℕ) → Judged c b buffer
unfolding refusal
judged c b buffer =
    let fits = call_fits c b in
    let trouble = call_trouble c in
    let small = call_small c in
    let depth = depth_of c b in
    let bytes = b.length + length (bytes_of_call c) in
    let room = length buffer in
    let e = answer_is c b buffer in
    record {
      is_51 = rw e (judged_51 fits trouble depth bytes room small);
      fields = call_known c;
      is_4 = rw e (judged_field fits trouble depth bytes room small 4 (omega arith) (omega arith));
      is_7 = rw e (judged_field fits trouble depth bytes room small 7 (omega arith) (omega arith));
      is_53 = rw e (judged_53 fits trouble depth bytes room small);
      is_52 = rw e (judged_52 fits trouble depth bytes room small);
      is_taken = rw e (judged_0 fits trouble depth bytes room small);
      refused =
          either c b buffer (λ o. (o.answer ≡ 0 → ⊥) → o ≡ outcome o.answer b buffer) (λ t k. absurd (k refl)) (λ k h. refl);
      in_bounds = rw e (λ t. let w = (judged_0 fits trouble depth bytes room small).0 t in within c b room w.0 w.3.0);
      same_room = either c b buffer (λ o. length o.buffer ≡ room) (λ t. stored_length c b buffer) (λ k. refl);
      behind =
          either c b buffer (λ o. drop o.build.length o.buffer ≡ drop o.build.length buffer)
          (λ t. untouched c b buffer ((judged_0 fits trouble depth bytes room small).0 t).0) (λ k. refl);
    }
