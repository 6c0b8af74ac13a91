-- The claims of request 2026-01, with 7 by request 2026-08, in one record: `Builder`. What it says of a single call holds of every call, build and
-- buffer; what it says of calls in a row holds of every call of the types (`CallTyped`), which the contracts of the calls promise of theirs.
use Rattle.std.specs.Prelude.{ℕ, ◌+◌, ◌≤◌, ◌<◌, ◌≡◌, true, cond, List, [], ◌∷◌, ◌⊎◌, eqb, length, take, drop}
use Rattle.machine.specs.Cells.{accepted}
use Rattle.code.specs.Tree.{Code}
use Rattle.code.specs.Reader.{got, parse, check_code}
use Rattle.code.specs.Spells.{Nests}
use Rattle.code.specs.WellFormed.{WfCode}
use Rattle.code.specs.Writer.{bytes_of_code, place_code}
use Rattle.builder.specs.declared.build.Build.{Build}
use Rattle.builder.specs.Calls.{Call, bytes_of_call, call_trouble, CallTyped}
use Rattle.builder.specs.Building.{empty, takes_code, takes_close, call_fits, depth_of, stored, place_of, Outcome, outcome, call}
use Rattle.built.specs.Sketch.{Sketch, bytes_so_far, calls_of_code, calls_so_far, parts_open, code_fits, close_fits}

-- each holds exactly when the other does
abbrev pub Exactly : Type 0 → Type 0 → Type 0
Exactly A B = (A → B) × (B → A)

-- ---- a single call, of any build and any buffer: also of a build that no call left
module _ (c : Call) (b : Build) (buffer : List ℕ) where
  -- what it leaves
  abbrev pub leaves : Outcome
  leaves = call c b buffer

  -- the number of bytes that the build has with the call's
  abbrev pub bytes_with : ℕ
  bytes_with = b.length + length (bytes_of_call c)

  -- the conditions that are judged, in their order: the call fits the open part
  abbrev pub Fits : Type 0
  Fits = call_fits c b ≡ true

  -- its fields are right: each register and xmm number is at most 15, and each scale one of the four
  abbrev pub Right : Type 0
  Right = call_trouble c ≡ 0

  -- its code stands at most 32 deep
  abbrev pub Shallow : Type 0
  Shallow = depth_of c b ≤ 32

  -- and the bytes are not too many
  abbrev pub Short : Type 0
  Short = (bytes_with ≤ length buffer) × (bytes_with ≤ 16384)

  -- each refusal exactly where the call fails its test and passes those before it
  pub record Judged : Type 0 where
    pub is_51 : Exactly (leaves.answer ≡ 51) (Fits → ⊥)
    -- the first field that is wrong, in the order of the record's bytes, decides between 4 and 7; there is no other number
    pub fields : (call_trouble c ≡ 0) ⊎ ((call_trouble c ≡ 4) ⊎ (call_trouble c ≡ 7))
    pub is_4 : Exactly (leaves.answer ≡ 4) (Fits × (call_trouble c ≡ 4))
    pub is_7 : Exactly (leaves.answer ≡ 7) (Fits × (call_trouble c ≡ 7))
    pub is_53 : Exactly (leaves.answer ≡ 53) (Fits × Right × (Shallow → ⊥))
    pub is_52 : Exactly (leaves.answer ≡ 52) (Fits × Right × Shallow × (Short → ⊥))
    pub is_taken : Exactly (leaves.answer ≡ 0) (Fits × Right × Shallow × Short)
    -- after a refusal build and buffer are what they were
    pub refused : (leaves.answer ≡ 0 → ⊥) → leaves ≡ outcome leaves.answer b buffer
    -- a taken call stores within the buffer, which keeps its length, and touches no byte behind the build
    pub in_bounds : leaves.answer ≡ 0 → place_of c b + length (stored c b) ≤ length buffer
    pub same_room : length leaves.buffer ≡ length buffer
    pub behind : drop leaves.build.length leaves.buffer ≡ drop leaves.build.length buffer

-- ---- calls in a row, each given build and buffer as the call before left them

-- what they leave
unfoldable pub after : List Call → Build → List ℕ → Outcome
after [] b buffer = outcome 0 b buffer
after (c ∷ cs) b buffer = let o = call c b buffer in after cs o.build o.buffer

-- those that are taken
unfoldable pub taken : List Call → Build → List ℕ → List Call
taken [] b buffer = []
taken (c ∷ cs) b buffer =
    let o = call c b buffer in
    let rest = taken cs o.build o.buffer in
    cond (eqb o.answer 0) (c ∷ rest) rest

-- every call is one of the types
unfoldable pub AllTyped : List Call → Type 0
AllTyped [] = Unit {0}
AllTyped (c ∷ cs) = CallTyped c × AllTyped cs

-- a build is finished: nothing is open, and its outermost code is complete
abbrev pub IsFinished : Build → Type 0
IsFinished b = (b.depth ≡ 0) × (0 < b.length)

module _ (calls : List Call) (buffer : List ℕ) where
  -- build and buffer after the calls, begun empty
  abbrev pub end : Outcome
  end = after calls empty buffer

  -- the calls that were taken
  abbrev pub taken_calls : List Call
  taken_calls = taken calls empty buffer

  -- the bytes of the build
  abbrev pub front : List ℕ
  front = take end.build.length end.buffer

  -- s is what was built so far
  pub record SoFar (s : Sketch) : Type 0 where
    -- its calls are those that were taken
    pub its_calls : calls_so_far s ≡ taken_calls
    -- the front of the buffer is its bytes, and every byte behind is as it was
    pub its_bytes : front ≡ bytes_so_far s
    pub its_length : end.build.length ≡ length (bytes_so_far s)
    pub behind : drop end.build.length end.buffer ≡ drop end.build.length buffer
    -- as many parts are open, and a code or a close fits where it fits there: so 51 says what it is to say
    pub its_depth : end.build.depth ≡ parts_open s
    pub its_codes : takes_code end.build ≡ code_fits s
    pub its_closes : takes_close end.build ≡ close_fits s

  -- c is the finished code
  pub record Finished (c : Code) : Type 0 where
    -- the calls that were taken are those of this tree, and of no other, whatever places that has
    pub its_calls : calls_of_code c ≡ taken_calls
    pub no_other : (d : Code) → calls_of_code d ≡ taken_calls → place_code 0 d ≡ c
    -- its bytes are accepted, and read back as this tree with its places
    pub its_bytes : front ≡ bytes_of_code c
    pub is_accepted : check_code front ≡ accepted
    pub reads_back : parse front ≡ got c (length front)

  -- what the calls build
  pub record Builds : Type 0 where
    -- something was built so far
    pub so_far : (s : Sketch) × SoFar s
    -- and where the build is finished, a code
    pub finished : IsFinished end.build → (c : Code) × Finished c
    -- to one byte string: whatever calls finish with this tree leave its bytes
    pub one_string : (c : Code) → calls_of_code c ≡ taken_calls → IsFinished end.build × (front ≡ bytes_of_code c)

-- ---- the claims
pub record Builder : Type 0 where
  -- every call is judged so
  pub judged : (c : Call) (b : Build) (buffer : List ℕ) → Judged c b buffer
  -- calls in a row build so
  pub builds : (calls : List Call) (buffer : List ℕ) → AllTyped calls → Builds calls buffer
  -- no code within the limits is left out: in every buffer that holds it its calls are all taken, and leave its bytes
  pub every_code : (c : Code) (buffer : List ℕ) → WfCode c → Nests c 32 → length (bytes_of_code c) ≤ 16384
      → length (bytes_of_code c) ≤ length buffer
      → (taken_calls (calls_of_code c) buffer ≡ calls_of_code c)
      × IsFinished (end (calls_of_code c) buffer).build
      × (front (calls_of_code c) buffer ≡ bytes_of_code c)
