-- What the tests of the code choose is what the lines' definitions choose.
use Prim.Native.Nat.{ℕ, zero, suc, ◌≤◌, ◌<◌}
use mathlib.Core.Path.{◌≡◌, refl, sym, ap, ◌∙◌}
use mathlib.Core.Bool.{Bool, true, false, ◌&&◌, cond}
use mathlib.Core.List.{List, [], ◌∷◌, ◌++◌, append-nil}
use native.Mathlib.Omega.{arith}
use lib.Dec.{eqb}
use lib.ListN.{length, get_or}
use Rattle.std.specs.Cmp.Lexicographic.{pointwise}
use borrow.Author.Tests.{le-ltb}
use Rattle.eval.specs.Config.{outcome, config}
use Rattle.eval.specs.Counted.{ended_of}
use Rattle.eval.specs.declared.answer.Answer.{Answer}
use Rattle.eval.specs.declared.answer.Run.{Run}
use Rattle.eval.specs.declared.answer.Answer.TheVariants.{Done, Fault, Stopped, Spent, Refused}
use Rattle.job.specs.Text.{decimal, newline, word_done, word_fault, word_stopped, word_spent, word_refused, word_at, name_of, line, numbered_line, first_line, end_lines, is_refused, render}

pub when_true : {b : Bool} (x y : List ℕ) → b ≡ true → x ≡ cond b x y
when_true x y e = sym (ap (λ (t : Bool). cond t x y) e)

pub when_false : {b : Bool} (x y : List ℕ) → b ≡ false → y ≡ cond b x y
when_false x y e = sym (ap (λ (t : Bool). cond t x y) e)

-- the code's table of letters
abbrev letters : List (List ℕ)
letters =
    (97 ∷ 120 ∷ []) ∷ (98 ∷ 120 ∷ []) ∷ (99 ∷ 120 ∷ []) ∷ (100 ∷ 120 ∷ [])
    ∷ (115 ∷ 105 ∷ []) ∷ (100 ∷ 105 ∷ []) ∷ (98 ∷ 112 ∷ []) ∷ (115 ∷ 112 ∷ []) ∷ []

-- the names by letters
pub name_short : (i : ℕ) → i < 8 → 82 ∷ get_or letters i [] ≡ name_of i
unfolding name_of
name_short zero h = refl
name_short (suc zero) h = refl
name_short (suc (suc zero)) h = refl
name_short (suc (suc (suc zero))) h = refl
name_short (suc (suc (suc (suc zero)))) h = refl
name_short (suc (suc (suc (suc (suc zero))))) h = refl
name_short (suc (suc (suc (suc (suc (suc zero)))))) h = refl
name_short (suc (suc (suc (suc (suc (suc (suc zero))))))) h = refl
name_short (suc (suc (suc (suc (suc (suc (suc (suc i)))))))) h = absurd (omega arith)

-- the names by numbers
pub name_long : (i : ℕ) → 8 ≤ i → 82 ∷ decimal i ≡ name_of i
unfolding name_of
name_long i h = when_false _ _ (le-ltb i 8 h)

all_four : (p q r s : Bool) → (p && (q && (r && (s && true)))) ≡ (p && q && r && s)
all_four false q r s = refl
all_four true false r s = refl
all_four true true false s = refl
all_four true true true false = refl
all_four true true true true = refl

-- the code's test of an xmm is that of its line
pub zeros :
    (ws : List ℕ) → length ws ≡ 4
    → pointwise eqb ws (0 ∷ 0 ∷ 0 ∷ 0 ∷ [])
    ≡ (eqb (get_or ws 0 0) 0 && eqb (get_or ws 1 0) 0 && eqb (get_or ws 2 0) 0 && eqb (get_or ws 3 0) 0)
zeros [] h = absurd (omega arith)
zeros (a ∷ []) h = absurd (omega arith)
zeros (a ∷ b ∷ []) h = absurd (omega arith)
zeros (a ∷ b ∷ c ∷ []) h = absurd (omega arith)
zeros (a ∷ b ∷ c ∷ d ∷ []) h = all_four (eqb a 0) (eqb b 0) (eqb c 0) (eqb d 0)
zeros (a ∷ b ∷ c ∷ d ∷ e ∷ ws) h = absurd (omega arith)

-- the first lines, of an answer whose variant is known
pub line_done : {a : Answer} → a ≡ Done → word_done ++ newline ≡ first_line (outcome a)
unfolding first_line
line_done e = sym (ap (λ (b : Answer). first_line (outcome b)) e)

pub line_fault : {a : Answer} (n p : ℕ) → a ≡ Fault n p → numbered_line word_fault n p ≡ first_line (outcome a)
unfolding first_line
line_fault n p e = sym (ap (λ (b : Answer). first_line (outcome b)) e)

pub line_stopped : {a : Answer} (n p : ℕ) → a ≡ Stopped n p → numbered_line word_stopped n p ≡ first_line (outcome a)
unfolding first_line
line_stopped n p e = sym (ap (λ (b : Answer). first_line (outcome b)) e)

pub line_spent : {a : Answer} (p : ℕ) → a ≡ Spent p → word_spent ++ line word_at p ≡ first_line (outcome a)
unfolding first_line
line_spent p e = sym (ap (λ (b : Answer). first_line (outcome b)) e)

pub line_refused : {a : Answer} (n p : ℕ) → a ≡ Refused n p → numbered_line word_refused n p ≡ first_line (outcome a)
unfolding first_line
line_refused n p e = sym (ap (λ (b : Answer). first_line (outcome b)) e)

-- an answer that the code's test does not take for a refusal
pub not_refused : (a : Answer) → ((n p : ℕ) → a ≡ Refused n p → ⊥) → is_refused (outcome a) ≡ false
not_refused Done h = refl
not_refused (Fault n p) h = refl
not_refused (Stopped n p) h = refl
not_refused (Spent p) h = refl
not_refused (Refused n p) h = absurd (h n p refl)

-- what is printed of an end, by whether it is a refusal
pub print_refused :
    (r : Run) (xs ts vs : List ℕ) {n p : ℕ} → r.answer ≡ Refused n p → first_line (outcome r.answer) ≡ render xs ts (ended_of r vs)
unfolding render
print_refused r xs ts vs e =
    sym (append-nil (first_line (outcome r.answer)))
    ∙ ap (λ (l : List ℕ). first_line (outcome r.answer) ++ l)
    (when_true [] (end_lines xs ts (config r.state vs) r.steps) (ap (λ (a : Answer). is_refused (outcome a)) e))

pub print_lines :
    (r : Run) (xs ts vs : List ℕ) → is_refused (outcome r.answer) ≡ false
    → first_line (outcome r.answer) ++ end_lines xs ts (config r.state vs) r.steps ≡ render xs ts (ended_of r vs)
unfolding render
print_lines r xs ts vs e =
    ap (λ (l : List ℕ). first_line (outcome r.answer) ++ l) (when_false [] (end_lines xs ts (config r.state vs) r.steps) e)
