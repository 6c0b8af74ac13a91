-- What the functions of the evaluator promise: the contracts below `run`, of an operand, a comparison, an instruction, a step, a code and a list of codes.
-- They are said of the parts that are lent: addresses and tags, code bytes, registers, xmm words, flags, values, and what is counted.
use Rattle.std.specs.Prelude.{ℕ, ◌+◌, ◌-◌, ◌/◌, ◌%◌, ◌≤◌, ◌<◌, min, ◌≡◌, Bool, true, false, not, cond, List, [], ◌∷◌, eqb, ltb, leb, length, get_or, set, Result, Ok, Err}
use Rattle.std.proofs.Math.Option.{Option, some}
use Rattle.std.specs.Borrow.{Bor, MutBor}
use denote.Triple.Both.{Both}
use Rattle.machine.specs.Operands.{eval_maddr, wild_or}
use Rattle.machine.specs.Cells.{find_cell, is_cell}
use Rattle.machine.specs.declared.State.{State}
use Rattle.machine.specs.declared.Maddr.{Maddr}
use Rattle.machine.specs.declared.Operand.{Operand}
use Rattle.machine.specs.declared.Operand.TheVariants.{OMem}
use Rattle.code.specs.declared.tree.Ocmp.{Ocmp}
use Rattle.code.specs.Tree.{Code, Codes}
use Rattle.code.specs.Records.{is_ins, is_ocmp, byte_at, number_at, ins_at, ocmp_at}
use Rattle.code.specs.Spells.{Stands, Spells, SpellsAll}
use Rattle.eval.specs.FlagRule.{FlagRule, flag_rule, base_rule}
use Rattle.eval.specs.Config.{Env, Config, config, with_regs, with_flags, with_values, Outcome, done, fault, stopped, spent, End}
use Rattle.eval.specs.Config as Config
use Rattle.eval.specs.Instructions.{valid_operand, eval_operand, valid_dst_operand, update_operand, valid_ocmp, ocmp_number, eval_ocmp, run_ins}
use Rattle.eval.specs.Watch.{Mark, watch, touched, open_after, reads_open, watched}
use Rattle.eval.specs.Counted.{Counted, counted, Ended, ended}
use Rattle.eval.specs.Running.{step_ins, step_ocmp, run_code, run_codes}
use Rattle.eval.specs.LeastFuel.{is_spent}
use Rattle.eval.specs.declared.answer.Watch.{Watch}
use Rattle.eval.specs.declared.counted.Counter.{Counter}
use Rattle.eval.specs.declared.lent.Lent.{Lent}
use Rattle.eval.specs.declared.exit.Stop.{Stop}
use Rattle.eval.specs.declared.operand.Sought.{Sought}
use Rattle.eval.specs.declared.operand.Loaded.{Loaded}
use Rattle.eval.specs.declared.operand.Slot.{Slot}
use Rattle.eval.specs.declared.comparison.Decided.{Decided}
use Rattle.eval.specs.declared.cycle.Way.{Way}
use Rattle.eval.specs.declared.arithmetic.Effect.{Effect}

-- ---- what is lent
-- the environment of lent addresses and tags, a fill word and a flag rule
abbrev pub environment : List ℕ → List ℕ → ℕ → FlagRule → Env
environment addresses tags fill rule = record { addresses = addresses; tags = tags; fill = fill; rule = rule }

-- the environment of what is lent
abbrev pub env_of : Lent → Env
env_of lent = environment lent.addresses.now lent.tags.now lent.fill (flag_rule lent.evaluation)

-- the configuration of lent parts
abbrev pub held : List ℕ → List ℕ → ℕ → List ℕ → Config
held regs xmms flags values = record { regs = regs; xmms = xmms; flags = flags; values = values }

-- ---- operands
-- what a Sought says of a memory operand: 0, or the number of the check that fails, 36 where the exact address is wild and `absent` where merely no
-- 64-bit cell is there; and its cell
pub record Seeks (addresses tags regs : List ℕ) (m : Maddr) (absent : ℕ) (r : Sought) : Type 0 where
  pub number : r.number ≡ cond (is_cell (find_cell addresses tags (eval_maddr m regs))) 0 (wild_or absent (OMem m) regs)
  pub cell : (i : ℕ) → find_cell addresses tags (eval_maddr m regs) ≡ some i → r.index ≡ i

-- what a Loaded says of a source: the number of the check that fails, or 0; its word; and the place behind it
pub record Loads (env : Env) (s : Config) (o : Operand) (end : ℕ) (r : Loaded) : Type 0 where
  pub number : r.number ≡ cond (valid_operand env o s) 0 (wild_or 31 o s.regs)
  pub word : r.number ≡ 0 → r.word ≡ eval_operand env o s
  pub next : r.next ≡ end

-- no destination, with the number of its check, and the place behind it
abbrev pub no_slot : ℕ → ℕ → Slot
no_slot number next = record { how = number; index = 0; word = 0; next = next }

-- the registers with a word put into a slot
abbrev pub put_regs : Slot → ℕ → List ℕ → List ℕ
put_regs t v regs = cond (eqb t.how 0) (set regs t.index v) regs

-- the cells' values with a word put into a slot
abbrev pub put_values : Slot → ℕ → List ℕ → List ℕ
put_values t v values = cond (eqb t.how 0) values (set values t.index v)

-- a slot is a register, or one of n cells
pub record InBounds (t : Slot) (n : ℕ) : Type 0 where
  pub register : t.how ≡ 0 → t.index < 16
  pub cell : (t.how ≡ 0 → ⊥) → t.index < n

-- what a valid Slot says of a destination: its word, and how it is written, whatever the cells then hold
pub record Writes (env : Env) (s : Config) (o : Operand) (t : Slot) : Type 0 where
  pub word : t.word ≡ eval_operand env o s
  pub update :
      (v : ℕ) (values : List ℕ) →
      update_operand env o v (with_values values s) ≡ with_values (put_values t v values) (with_regs (put_regs t v s.regs) s)

-- what a Slot says of a destination: 0 is a register and 1 a cell, and then where it is written; any other number is that of the check that fails
pub record Resolves (env : Env) (s : Config) (o : Operand) (end : ℕ) (t : Slot) : Type 0 where
  pub valid : t.how ≤ 1 → valid_dst_operand env o s ≡ true
  pub fails : 1 < t.how → (valid_dst_operand env o s ≡ false) × (t.how ≡ wild_or 32 o s.regs)
  pub writes : t.how ≤ 1 → Writes env s o t
  pub bounds : t.how ≤ 1 → InBounds t (length s.values)
  pub next : t.next ≡ end

-- ---- instructions
-- a word and flags
pub record IsEffect (word flags : ℕ) (e : Effect) : Type 0 where
  pub word_is : e.word ≡ word
  pub flags_is : e.flags ≡ flags

-- an exit: the place behind what was done, or what ended the run
abbrev pub Exit : Type 0
Exit = Result ℕ Stop

-- what it says: done, or of what ended the run 1 is spent, 37 is stopped, and any other number is a fault
abbrev pub how : Exit → Outcome
how (Ok p) = done
how (Err s) = cond (eqb s.number 1) (spent s.place) (cond (eqb s.number 37) (stopped s.number s.place) (fault s.number s.place))

-- whether it is spent
abbrev pub ends_spent : Exit → Bool
ends_spent (Ok p) = false
ends_spent (Err s) = eqb s.number 1

-- an exit that leaves t ends as a run does, and goes on at the place behind
pub record Ran (end : End) (behind : ℕ) (r : Exit) (t : Config) : Type 0 where
  pub ends : Config.ends (how r) t ≡ end
  pub next : (p : ℕ) → r ≡ Ok p → p ≡ behind

-- an instruction stands at a place, inside the bytes
abbrev pub InsAt : List ℕ → ℕ → Type 0
InsAt bs at = (e : ℕ) × Stands is_ins bs at e × (e ≤ length bs)

-- an exit from s to t is that of the instruction that stands at a place
abbrev pub RunsIns : Env → List ℕ → ℕ → Config → Exit → Config → Type 0
RunsIns env bs at s r t = (e : ℕ) → Stands is_ins bs at e → Ran (run_ins env at (ins_at bs at) s) e r t

-- ---- comparisons
-- OEq, ONe, OLe, OGe, OLt and OGt of two words, by the kind byte
unfoldable pub comparison : ℕ → ℕ → ℕ → Bool
comparison k a b =
    get_or (eqb a b ∷ not (eqb a b) ∷ leb a b ∷ leb b a ∷ ltb a b ∷ ltb b a ∷ []) (k - 0x30) false

-- a comparison stands at a place, inside the bytes
abbrev pub OcmpAt : List ℕ → ℕ → Type 0
OcmpAt bs at = (e : ℕ) × Stands is_ocmp bs at e × (e ≤ length bs)

-- an answer of a comparison as the laws of the cycle go by it: 1 where it holds, 0 where it does not, or the number of the check that fails; and the
-- place behind
pub record Compared : Type 0 where
  pub how : ℕ
  pub next : ℕ

-- of one that passes its check
abbrev pub told : Decided → Compared
told d = record { how = cond d.holds 1 0; next = d.next }

-- of any
abbrev pub answered : Result Decided ℕ → Compared
answered (Ok d) = told d
answered (Err n) = record { how = n; next = 0 }

-- the number of a check that fails is neither 0 nor 1
abbrev pub Above : Result Decided ℕ → Type 0
Above (Ok d) = Unit {0}
Above (Err n) = 1 < n

-- what a Compared says: 1 where it holds, 0 where it does not, or the number of the check that fails; where that passes, the place behind
pub record Compares (env : Env) (s : Config) (c : Ocmp) (end : ℕ) (r : Compared) : Type 0 where
  pub how : r.how ≡ cond (valid_ocmp env c s) (cond (eval_ocmp env c s) 1 0) (ocmp_number env c s)
  pub next : r.how ≤ 1 → r.next ≡ end

-- a Compared from s is that of the comparison that stands at a place
abbrev pub ComparesAt : Env → List ℕ → ℕ → Config → Compared → Type 0
ComparesAt env bs at s r = (e : ℕ) → Stands is_ocmp bs at e → Compares env s (ocmp_at bs at) e r

-- ---- steps
-- a value behind a reference, as it is given and as it is left
abbrev Shared : Type 0 → Type 0
Shared A = Both (Bor A) (Bor A)

-- one that may be changed there
abbrev Changed : Type 0 → Type 0
Changed A = Both (MutBor A) (MutBor A)

-- whether carry is open, as a word says it: below 4 its bit 0, else as it is behind the instruction, of this kind, that set both flags last. No row of the
-- table behind 06 asks the rule, and a kind is below 32
abbrev pub carry_in : ℕ → Bool
carry_in word = cond (ltb word 4) (eqb (word % 2) 1) (open_after (touched base_rule (word % 32)).carry false)

-- whether overflow is: bit 1, or the same
abbrev pub overflow_in : ℕ → Bool
overflow_in word = cond (ltb word 4) (eqb (word / 2 % 2) 1) (open_after (touched base_rule (word % 32)).overflow false)

-- a watch, of the word that says what is open, and the mark
abbrev pub watch_of : ℕ → Mark → Watch
watch_of word mark = watch (carry_in word) (overflow_in word) mark

-- what is counted: the steps made, and the watch
abbrev pub tally : Counter → Counted
tally k = counted k.steps (watch_of k.opened k.mark)

-- the least fuel with which a loop was tested; where none was, one more than the fuel of the run
abbrev pub least_tested : Counter → ℕ
least_tested k = k.tested

-- the least tested fuel where a round has begun with so much left: a While tests it, and an IfElse, which chooses, does not
abbrev pub tested_with : Bool → ℕ → ℕ → ℕ
tested_with chooses left least = cond chooses least (min left least)

-- a kind that leaves the watch as it was
abbrev pub KeepsFlags : ℕ → Type 0
KeepsFlags k = (rule : FlagRule) (at : ℕ) (w : Watch) → watched rule k at w ≡ w

-- a kind of which the watch behind it is told by the kind alone
abbrev pub SetsFlags : ℕ → Type 0
SetsFlags k = (rule : FlagRule) (at word : ℕ) (mark : Mark) → watched rule k at (watch_of word mark) ≡ watch_of k mark

-- what is open behind a kind that opens nothing, as two bits, of what was
pub record Kept (rule : FlagRule) (k was r : ℕ) : Type 0 where
  pub below : r < 4
  pub carry : eqb (r % 2) 1 ≡ open_after (touched rule k).carry (eqb (was % 2) 1)
  pub over : eqb (r / 2 % 2) 1 ≡ open_after (touched rule k).overflow (eqb (was / 2 % 2) 1)
  -- where all of it is kept, none was read
  pub unread : r ≡ was → (mark : Mark) → reads_open k (watch (eqb (was % 2) 1) (eqb (was / 2 % 2) 1) mark) ≡ false

-- an exit that leaves t, with l counted, ends as a part of a run does, and goes on at the place behind
pub record Reached (end : Ended) (behind : ℕ) (r : Exit) (t : Config) (l : Counted) : Type 0 where
  pub ends : ended (how r) t l ≡ end
  pub next : (p : ℕ) → r ≡ Ok p → p ≡ behind

-- an exit from s and k to t and l is that of the instruction that stands at a place, as a step
abbrev pub StepsIns : Env → Option ℕ → List ℕ → ℕ → Config → Counted → Exit → Config → Counted → Type 0
StepsIns env limit bs at s k r t l =
    (e : ℕ) → Stands is_ins bs at e → Reached (step_ins env limit at (ins_at bs at) s k) e r t l

-- what a Compared says of a comparison at q, as a step from s and k that leaves l counted: 1 where it holds, 0 where it does not, or the number with which
-- the run ends there; where it goes on, with the flags that it sets, the place behind
pub record Decides (env : Env) (limit : Option ℕ) (s : Config) (k : Counted) (c : Ocmp) (q end : ℕ) (r : Compared) (l : Counted) : Type 0 where
  pub stops : 1 < r.how → step_ocmp env limit q c s k ≡ ended (how (Err (record { number = r.how; place = q }))) s l
  pub goes : r.how ≤ 1 → step_ocmp env limit q c s k ≡ ended done (with_flags env.fill s) l
  pub holds : r.how ≤ 1 → r.how ≡ cond (eval_ocmp env c s) 1 0
  pub next : r.how ≤ 1 → r.next ≡ end

-- a Compared is that of the comparison that stands at a place, as a step
abbrev pub DecidesAt : Env → Option ℕ → List ℕ → ℕ → Config → Counted → Compared → Counted → Type 0
DecidesAt env limit bs at s k r l = (e : ℕ) → Stands is_ocmp bs at e → Decides env limit s k (ocmp_at bs at) at e r l

-- ---- less fuel
-- what less fuel would have done, where the least tested fuel was `was` and is `is`. With less by e: the same where e is below `is`, and spent where it is
-- not, but is below `was`. It only falls, and not to 0
pub record LessFuel (Same Spent : ℕ → Type 0) (was is : ℕ) : Type 0 where
  pub most : is ≤ was
  pub some : 0 < was → 0 < is
  pub same : (e : ℕ) → e < is → Same e
  pub spent : (e : ℕ) → is ≤ e → e < was → Spent e

-- ---- codes
-- a code stands at a place, inside the bytes
pub record CodeAt (bs : List ℕ) (at : ℕ) : Type 0 where
  pub code : Code
  pub end : ℕ
  pub spelled : Spells code bs at end
  pub inside : end ≤ length bs

-- a list of codes stands between two places, inside the bytes
pub record CodesAt (bs : List ℕ) (from end : ℕ) : Type 0 where
  pub codes : Codes
  pub spelled : SpellsAll codes bs from end
  pub inside : end ≤ length bs

-- where the codes of a part begin: behind the length of a Block; any other code is a list of one
abbrev pub codes_from : List ℕ → ℕ → ℕ
codes_from bs at = cond (eqb (byte_at bs at) 0x20) (at + 5) at

-- an exit from s and k to t and l is that of the code that stands at a place, whichever it is
abbrev pub Runs : Env → Option ℕ → List ℕ → ℕ → ℕ → Config → Counted → Exit → Config → Counted → Type 0
Runs env limit bs at fuel s k r t l = (c : Code) (e : ℕ) → Spells c bs at e → Reached (run_code env limit c fuel s k) e r t l

-- an exit from s and k to t and l is that of the list of codes between two places, whichever it is
abbrev pub RunsAll : Env → Option ℕ → List ℕ → ℕ → ℕ → ℕ → Config → Counted → Exit → Config → Counted → Type 0
RunsAll env limit bs from e fuel s k r t l = (cs : Codes) → SpellsAll cs bs from e → Reached (run_codes env limit cs fuel s k) e r t l

-- the code that stands at a place is spent, whichever it is
abbrev pub Spends : Env → Option ℕ → List ℕ → ℕ → ℕ → Config → Counted → Type 0
Spends env limit bs at fuel s k = (c : Code) (e : ℕ) → Spells c bs at e → is_spent (run_code env limit c fuel s k).end.how ≡ true

-- the list of codes between two places is spent, whichever it is
abbrev pub SpendsAll : Env → Option ℕ → List ℕ → ℕ → ℕ → ℕ → Config → Counted → Type 0
SpendsAll env limit bs from e fuel s k = (cs : Codes) → SpellsAll cs bs from e → is_spent (run_codes env limit cs fuel s k).end.how ≡ true

-- ---- an IfElse, which chooses between two parts, and a While, which does not
-- an IfElse or a While stands at a place, inside the bytes
pub record TestedAt (bs : List ℕ) (at : ℕ) (chooses : Bool) : Type 0 where
  pub code : CodeAt bs at
  pub kind : byte_at bs at ≡ cond chooses 0x21 0x22

-- where its comparison stands: behind two lengths, or behind one
abbrev pub test_at : ℕ → Bool → ℕ
test_at at chooses = cond chooses (at + 9) (at + 5)

-- its comparison ends at a place
abbrev pub BehindTest : List ℕ → ℕ → Bool → ℕ → Type 0
BehindTest bs at chooses next = (e : ℕ) → Stands is_ocmp bs (test_at at chooses) e → next ≡ e

-- the fuel of the part that is run next: all of it in an IfElse, one less in a While
abbrev pub part_fuel : Bool → ℕ → ℕ
part_fuel chooses left = cond chooses left (left - 1)

-- the way behind the comparison that answered x: the first part where it holds, and else the second, which in a While is empty and stands at its end
abbrev pub way_from : List ℕ → ℕ → Bool → Compared → Way
way_from bs at chooses x =
    let second = x.next + number_at 4 bs (at + 1) in
    let end = cond chooses (second + number_at 4 bs (at + 5)) second in
    cond (eqb x.how 1) (record { part = x.next; behind = second; end = end }) (record { part = second; behind = end; end = end })

-- ---- the cycle, of what it is lent
module _ (lent : Shared Lent) (state : Changed State) (values : Changed (List ℕ)) where
  -- the code's bytes
  abbrev bytes : List ℕ
  bytes = lent.entry.now.code.now

  -- the environment that is lent
  abbrev env : Env
  env = env_of lent.entry.now

  -- the limit
  abbrev limit : Option ℕ
  limit = some lent.entry.now.limit

  -- the configuration that is given
  abbrev given : Config
  given = config state.entry.now values.entry.now

  -- the configuration that is left
  abbrev left : Config
  left = config state.exit.now values.exit.now

  -- what is left, and the exit, are those of the instruction at a place
  abbrev pub EvaluatesIns : ℕ → Exit → Type 0
  EvaluatesIns at r = RunsIns env bytes at given r left

  module _ (counter : Changed Counter) where
    -- what was counted before
    abbrev before : Counted
    before = tally counter.entry.now

    -- what is counted then
    abbrev after : Counted
    after = tally counter.exit.now

    -- the same of that instruction as a step
    abbrev pub EvaluatesStep : ℕ → Exit → Type 0
    EvaluatesStep at r = StepsIns env limit bytes at given before r left after

    -- what is left, and the exit, are those of the code at a place, with fuel
    abbrev pub Evaluates : ℕ → ℕ → Exit → Type 0
    Evaluates at fuel r = Runs env limit bytes at fuel given before r left after

    -- what less fuel would have done with it
    abbrev pub WithLess : ℕ → ℕ → Exit → Type 0
    WithLess at fuel r =
        LessFuel (λ e. Evaluates at (fuel - e) r) (λ e. Spends env limit bytes at (fuel - e) given before)
        (least_tested counter.entry.now) (least_tested counter.exit.now)

    -- what is left, and the exit, are those of the list of codes between two places, with fuel
    abbrev pub EvaluatesAll : ℕ → ℕ → ℕ → Exit → Type 0
    EvaluatesAll from end fuel r = RunsAll env limit bytes from end fuel given before r left after

    -- what less fuel would have done with them
    abbrev pub WithLessAll : ℕ → ℕ → ℕ → Exit → Type 0
    WithLessAll from end fuel r =
        LessFuel (λ e. EvaluatesAll from end (fuel - e) r) (λ e. SpendsAll env limit bytes from end (fuel - e) given before)
        (least_tested counter.entry.now) (least_tested counter.exit.now)
