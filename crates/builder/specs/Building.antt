-- What a call does: one definition for every call, build and buffer. A build that no call left is answered by it too. Where its depth is above 32, or its
-- innermost part has a kind above 2 or does not begin behind its length and within the build, the part takes neither code nor close. Any other is taken
-- at its word.
use Rattle.std.specs.Prelude.{ℕ, ◌+◌, ◌-◌, Bool, true, false, ◌&&◌, ◌||◌, cond, Result, Ok, Err, List, eqb, ltb, leb, length, get_or, set, replicate}
use Rattle.std.proofs.lemmas.List.Edits.{sets}
use Rattle.machine.specs.Rules.{rule_number}
use Rattle.builder.specs.declared.build.Build.{Build}
use Rattle.builder.specs.declared.refusal.BuildRefusal.{BuildRefusal}
use Rattle.builder.specs.declared.refusal.BuildRefusal.TheVariants.{Misfit, Field, TooDeep, NoRoom}
use Rattle.code.specs.Writer.{bytes_of}
use Rattle.builder.specs.Calls.{Call, open_block, open_if_else, open_while, add, close, bytes_of_call, first_of, call_trouble}

-- the build that was begun: no bytes, and nothing is open
abbrev pub empty : Build
empty = record { length = 0; depth = 0; parts = replicate 32 0; fields = replicate 32 0; starts = replicate 32 0 }

-- ---- the innermost open part

-- its kind: 0 a Block's codes, 1 an IfElse's true part, 2 an IfElse's false part or a While's
abbrev pub kind_of : Build → ℕ
kind_of b = get_or b.parts (b.depth - 1) 0

-- the place of the length that counts it
abbrev pub field_of : Build → ℕ
field_of b = get_or b.fields (b.depth - 1) 0

-- where it begins
abbrev pub start_of : Build → ℕ
start_of b = get_or b.starts (b.depth - 1) 0

-- it can be one that a call left
unfoldable pub is_part : Build → Bool
is_part b = leb b.depth 32 && leb (kind_of b) 2 && leb (field_of b + 4) (start_of b) && leb (start_of b) b.length

-- it takes a code: a Block any, the others one; and where nothing is open, a build that is empty
unfoldable pub takes_code : Build → Bool
takes_code b = cond (eqb b.depth 0) (eqb b.length 0) (is_part b && (eqb (kind_of b) 0 || eqb (start_of b) b.length))

-- it can be closed: a Block at any time, the others with their code
unfoldable pub takes_close : Build → Bool
takes_close b = ltb 0 b.depth && is_part b && (eqb (kind_of b) 0 || ltb (start_of b) b.length)

-- ---- refusals

-- whether a call fits the open part
unfoldable pub call_fits : Call → Build → Bool
call_fits open_block b = takes_code b
call_fits (open_if_else c) b = takes_code b
call_fits (open_while c) b = takes_code b
call_fits (add i) b = takes_code b
call_fits close b = takes_close b

-- the depth at which a call works: that of the code which it adds, or of what it closes
unfoldable pub depth_of : Call → Build → ℕ
depth_of open_block b = b.depth + 1
depth_of (open_if_else c) b = b.depth + 1
depth_of (open_while c) b = b.depth + 1
depth_of (add i) b = b.depth + 1
depth_of close b = b.depth

-- n unless the condition holds, and then what follows
unfoldable pub unless : Bool → ℕ → ℕ → ℕ
unless true n next = next
unless false n next = n

-- the refusals in their order: whether the call fits, the trouble in its fields, its depth, the build's bytes with its own, the room
unfoldable pub judge : Bool → ℕ → ℕ → ℕ → ℕ → ℕ
judge fits trouble depth bytes room =
    unless fits 51 (first_of trouble (unless (leb depth 32) 53 (unless (leb bytes room && leb bytes 16384) 52 0)))

-- the number of a call's refusal, 0 where it is taken
unfoldable pub refusal : Call → Build → ℕ → ℕ
refusal c b room = judge (call_fits c b) (call_trouble c) (depth_of c b) (b.length + length (bytes_of_call c)) room

-- ---- what a taken call leaves

-- n bytes more
abbrev pub longer : Build → ℕ → Build
longer b n = record { length = b.length + n; depth = b.depth; parts = b.parts; fields = b.fields; starts = b.starts }

-- n bytes more, a structure whose first length stands behind its kind byte, and a part of it is open
abbrev pub opened : ℕ → Build → ℕ → Build
opened kind b n =
    record {
      length = b.length + n;
      depth = b.depth + 1;
      parts = set b.parts b.depth kind;
      fields = set b.fields b.depth (b.length + 1);
      starts = set b.starts b.depth (b.length + n);
    }

-- the true part is closed, and the false part is open; its length stands behind the true part's
abbrev pub turned : Build → Build
turned b =
    record {
      length = b.length;
      depth = b.depth;
      parts = set b.parts (b.depth - 1) 2;
      fields = set b.fields (b.depth - 1) (field_of b + 4);
      starts = set b.starts (b.depth - 1) b.length;
    }

-- the innermost part is closed, and its structure is complete
abbrev pub shut : Build → Build
shut b = record { length = b.length; depth = b.depth - 1; parts = b.parts; fields = b.fields; starts = b.starts }

-- the build after a taken call
unfoldable pub build_after : Call → Build → Build
build_after open_block b = opened 0 b (length (bytes_of_call open_block))
build_after (open_if_else c) b = opened 1 b (length (bytes_of_call (open_if_else c)))
build_after (open_while c) b = opened 2 b (length (bytes_of_call (open_while c)))
build_after (add i) b = longer b (length (bytes_of_call (add i)))
build_after close b = cond (eqb (kind_of b) 1) (turned b) (shut b)

-- what a taken call stores: the bytes that it adds; a close stores the length of what it closes
abbrev pub stored : Call → Build → List ℕ
stored open_block b = bytes_of_call open_block
stored (open_if_else c) b = bytes_of_call (open_if_else c)
stored (open_while c) b = bytes_of_call (open_while c)
stored (add i) b = bytes_of_call (add i)
stored close b = bytes_of 4 (b.length - start_of b)

-- and where: behind the build's bytes, or where that length stands
abbrev pub place_of : Call → Build → ℕ
place_of open_block b = b.length
place_of (open_if_else c) b = b.length
place_of (open_while c) b = b.length
place_of (add i) b = b.length
place_of close b = field_of b

-- the buffer after a taken call
unfoldable pub buffer_after : Call → Build → List ℕ → List ℕ
buffer_after c b buffer = sets buffer (place_of c b) (stored c b)

-- ---- a call

-- what a call leaves: its answer, the build and the buffer
pub record Outcome : Type 0 where
  pub answer : ℕ
  pub build : Build
  pub buffer : List ℕ

-- an outcome by its parts
abbrev pub outcome : ℕ → Build → List ℕ → Outcome
outcome n b buffer = record { answer = n; build = b; buffer = buffer }

-- the number of a refusal
abbrev pub number_of : BuildRefusal → ℕ
number_of Misfit = 51
number_of (Field rule) = rule_number rule
number_of TooDeep = 53
number_of NoRoom = 52

-- 0, or the number of a refusal
abbrev pub answer_of : {A : Type 0} → Result A BuildRefusal → ℕ
answer_of (Ok x) = 0
answer_of (Err r) = number_of r

-- what a call on a build answers, beside the buffer that it leaves: a refused one leaves the build as it was
abbrev pub left : Build → Result Build BuildRefusal → List ℕ → Outcome
left b (Ok next) buffer = outcome 0 next buffer
left b (Err r) buffer = outcome (number_of r) b buffer

-- taken, with the build and the buffer that this leaves, or refused by a number other than 0 and nothing changed
abbrev pub answered : ℕ → Build → Build → List ℕ → List ℕ → Outcome
answered n b next buffer written = cond (eqb n 0) (outcome 0 next written) (outcome n b buffer)

-- a call that adds these bytes, with this trouble in their fields, and opens a part of this kind
abbrev pub opens : ℕ → ℕ → List ℕ → Build → List ℕ → Outcome
opens kind trouble bytes b buffer =
    answered (judge (takes_code b) trouble (b.depth + 1) (b.length + length bytes) (length buffer))
    b (opened kind b (length bytes)) buffer (sets buffer b.length bytes)

-- a call
unfoldable pub call : Call → Build → List ℕ → Outcome
call c b buffer = answered (refusal c b (length buffer)) b (build_after c b) buffer (buffer_after c b buffer)
