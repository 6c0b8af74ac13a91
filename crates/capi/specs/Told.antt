-- What the C interface says of an answer, a report and a watch, and how it is told an evaluation, in numbers.
use Rattle.std.specs.Prelude.{ℕ, Bool, true, false, cond, List, eqb, Option, Some, None}
use Rattle.machine.specs.declared.State.{State}
use Rattle.machine.specs.Cells.{Verdict}
use Rattle.machine.specs.Cells.{accepted as check_accepted, refused as check_refused}
use Rattle.eval.specs.Config.{Config, Outcome, done, fault, stopped, spent, refused}
use Rattle.eval.specs.Watch.{Mark, Unmarked, Marked}
use Rattle.eval.specs.Counted.{Ended}
use Rattle.eval.specs.Inputs.{IsInput}
use Rattle.eval.specs.declared.answer.Watch.{Watch}
use Rattle.eval.specs.declared.answer.Setting.{Setting}
use Rattle.eval.specs.declared.answer.Evaluation.{Evaluation}
use Rattle.eval.specs.declared.answer.Evaluation.TheVariants.{Base, Board}
use Rattle.least.specs.Report.{Report, least, cap_spent, not_run, Reported}

-- a number with a place or an index
pub record Refusal : Type 0 where
  pub number : ℕ
  pub place : ℕ

-- a number and a place as a Refusal
abbrev pub refusal : ℕ → ℕ → Refusal
refusal n p = record { number = n; place = p }

-- the number and place of what a check says: accepted is 0 at 0
abbrev pub refusal_of : Verdict → Refusal
refusal_of check_accepted = refusal 0 0
refusal_of (check_refused n p) = refusal n p

-- a kind of outcome, with a number and a place
pub record Told : Type 0 where
  pub kind : ℕ
  pub number : ℕ
  pub place : ℕ

-- a kind, a number and a place as a Told
abbrev pub told : ℕ → ℕ → ℕ → Told
told kind n p = record { kind = kind; number = n; place = p }

-- the kind, number and place of each outcome: Done 0, Fault 1, Spent 2, Refused 3, Stopped 4; what a kind lacks is 0
abbrev pub told_of : Outcome → Told
told_of done = told 0 0 0
told_of (fault n p) = told 1 n p
told_of (stopped n p) = told 4 n p
told_of (spent p) = told 2 0 p
told_of (refused n p) = told 3 n p

-- the kind, number and place of a report: those of the outcome with the least fuel; the cap is spent is 5, and a refusal 3
abbrev pub told_report : Report → Told
told_report (least f o) = told_of o
told_report (cap_spent n p) = told 5 n p
told_report (not_run n p) = told 3 n p

-- its fuel, and 0 where there is none
abbrev pub told_fuel : Report → ℕ
told_fuel (least f o) = f
told_fuel (cap_spent n p) = 0
told_fuel (not_run n p) = 0

-- a watch in numbers: whether it is marked, the mark's place, and what is open
pub record ToldWatch : Type 0 where
  pub marked : ℕ
  pub mark : ℕ
  pub opened : ℕ

-- these three as a ToldWatch
abbrev pub watch_numbers : ℕ → ℕ → ℕ → ToldWatch
watch_numbers marked mark opened = record { marked = marked; mark = mark; opened = opened }

-- the number of what is open, of carry and of overflow
abbrev pub told_open : Bool → Bool → ℕ
told_open false false = 0
told_open true false = 1
told_open false true = 2
told_open true true = 3

-- the numbers of a mark, beside that of what is open: no mark is 0, at 0
abbrev pub told_mark : Mark → ℕ → ToldWatch
told_mark Unmarked opened = watch_numbers 0 0 opened
told_mark (Marked p) opened = watch_numbers 1 p opened

-- the numbers of a watch
abbrev pub told_watch : Watch → ToldWatch
told_watch w = told_mark w.mark (told_open w.carry w.overflow)

-- an end in numbers, what it leaves, the steps made, and the watch in numbers
pub record Ending : Type 0 where
  pub how : Told
  pub config : Config
  pub steps : ℕ
  pub watch : ToldWatch

-- what is told, what is left, steps and a watch as an Ending
abbrev pub ending : Told → Config → ℕ → ToldWatch → Ending
ending t s steps w = record { how = t; config = s; steps = steps; watch = w }

-- the numbers of an end
abbrev pub ending_of : Ended → Ending
ending_of e = ending (told_of e.end.how) e.end.config e.counted.steps (told_watch e.counted.watch)

-- an end in numbers, and a fuel
pub record LeastEnding : Type 0 where
  pub fuel : ℕ
  pub ending : Ending

-- a fuel and an end in numbers as a LeastEnding
abbrev pub least_ending : ℕ → Ending → LeastEnding
least_ending fuel e = record { fuel = fuel; ending = e }

-- the numbers of a report, and of what it leaves
abbrev pub least_ending_of : Reported → LeastEnding
least_ending_of r =
    least_ending (told_fuel r.how) (ending (told_report r.how) r.config r.counted.steps (told_watch r.counted.watch))

-- the evaluation that a number names: 0 is the base's and 1 the board's; no other names one
abbrev pub evaluation_given : ℕ → Option Evaluation
evaluation_given n = cond (eqb n 0) (Some Base) (cond (eqb n 1) (Some Board) None)

-- the end that leaves s where no evaluation is given: refused, number and place are 0, no step was made, and its watch is unmarked with nothing open
abbrev pub none_given : Config → Ending
none_given s = ending (told 3 0 0) s 0 (watch_numbers 0 0 0)

-- the numbers of a run from s by the evaluation that is given. Where that is none, it is refused: number and place are 0, no step was made, and its
-- watch is unmarked with nothing open
abbrev pub run_given : Option Evaluation → (Evaluation → Ended) → Config → Ending
run_given (Some e) run s = ending_of (run e)
run_given None run s = ending (told 3 0 0) s 0 (watch_numbers 0 0 0)

-- the numbers of the least fuel by the evaluation that is given
abbrev pub least_given : Option Evaluation → (Evaluation → Reported) → Config → LeastEnding
least_given (Some e) search s = least_ending_of (search e)
least_given None search s = least_ending 0 (none_given s)

-- the state that is lent in parts
abbrev pub lent_state : List ℕ → List ℕ → ℕ → State
lent_state regs xmms flags = record { regs = regs; xmms = xmms; flags = flags }

-- fill word, fuel, step limit and evaluation
abbrev pub lent_setting : ℕ → ℕ → ℕ → Evaluation → Setting
lent_setting fill fuel limit evaluation = record { fill = fill; fuel = fuel; limit = limit; evaluation = evaluation }

-- what is run with the setting of the evaluation that is given is an input
abbrev pub InputGiven : Option Evaluation → List ℕ → State → (Evaluation → Setting) → Type 0
InputGiven (Some e) code start setting = IsInput code start (setting e)
InputGiven None code start setting = Unit {0}
