-- Operands: which are destinations, the cell that a memory operand names, and the numbers of their checks. Addresses of cells are words, so an
-- exact address that is no word is none of them.
use Rattle.std.proofs.Common.{◌≡◌, ℕ, ◌^◌, ◌<◌, Bool, true, false, cond, not, eqb, List, [], ◌∷◌, get_or, ℤ, pos, negsuc, sym, refl, ap, ◌∙◌, arith, leb-true}
use Rattle.std.specs.Prelude.{Option as Maybe, Some, None, Result, Ok, Err, ok_or}
use mathlib.Core.Option.{Option, none, some}
use Rattle.machine.specs.Registers.{Rsp}
use Rattle.machine.specs.Operands.{eval_maddr, in_range, word_of, wild, wild_operand, wild_or, unread_number, valid_dst}
use Rattle.machine.specs.Cells.{accepted, check_cells, find_cell, index_of, leads, led_to}
use Rattle.machine.specs.declared.reg.Reg.{Reg}
use Rattle.machine.specs.declared.NoCell.{NoCell}
use Rattle.machine.specs.declared.NoCell.TheVariants.{Absent, Wild}
use Rattle.machine.specs.declared.Maddr.{Maddr}
use Rattle.machine.specs.declared.Operand.{Operand}
use Rattle.machine.specs.declared.Operand.TheVariants.{OConst, OReg, OMem}
use Rattle.machine.proofs.FindLaws.{find_none, find_hit}
use Rattle.machine.proofs.Accepting.{cells_within}

-- ---- destinations
pub constant_no_dst : (n : ℕ) → valid_dst (OConst n) ≡ false
unfolding valid_dst
constant_no_dst n = refl

pub register_dst : (r : Reg) → valid_dst (OReg r) ≡ not (eqb r.number Rsp.number)
unfolding valid_dst
register_dst r = refl

pub memory_dst : (m : Maddr) → valid_dst (OMem m) ≡ true
unfolding valid_dst
memory_dst m = refl

-- ---- an exact address and its word
pub in_range_some : (z : ℤ) (w : ℕ) → in_range z ≡ some w → (z ≡ pos w) × (wild z ≡ false)
unfolding in_range
in_range_some (pos n) w e = go (wild (pos n)) refl e
  where
    go : (b : Bool) → wild (pos n) ≡ b → cond b none (some n) ≡ some w → (pos n ≡ pos w) × (wild (pos n) ≡ false)
    go true h f = absurd (let x : ◌≡◌ {A = ℕ} 0 1 = cc in omega arith)
    go false h f = (cc, h)
in_range_some (negsuc n) w e = absurd (let x : ◌≡◌ {A = ℕ} 0 1 = cc in omega arith)

pub in_range_none : (z : ℤ) → in_range z ≡ none → wild z ≡ true
unfolding in_range wild
in_range_none (pos n) e = go (wild (pos n)) refl e
  where
    go : (b : Bool) → wild (pos n) ≡ b → cond b none (some n) ≡ none → wild (pos n) ≡ true
    go true h f = h
    go false h f = absurd (let x : ◌≡◌ {A = ℕ} 0 1 = cc in omega arith)
in_range_none (negsuc n) e = refl

-- no word is wild
pub word_tame : (z : ℤ) (a : ℕ) → wild z ≡ true → a < 2 ^ 64 → pos a ≡ z → ⊥
unfolding wild
word_tame z a e l p = let f : wild (pos a) ≡ true = ap wild p ∙ e in omega (arith, l, leb-true (2 ^ 64) a f)

-- ---- a word, or Wild where there is none
pub tame_word : (o : Maybe ℕ) (w : ℕ) → Ok w ≡ ok_or o Wild → word_of o ≡ some w
tame_word (Some x) w e = cc
tame_word None w e = absurd (let x : ◌≡◌ {A = ℕ} 0 1 = cc in omega arith)

pub no_word : (o : Maybe ℕ) (n : NoCell) → Err n ≡ ok_or o Wild → (word_of o ≡ none) × (n ≡ Wild)
no_word (Some x) n e = absurd (let x : ◌≡◌ {A = ℕ} 0 1 = cc in omega arith)
no_word None n e = (refl, cc)

-- ---- the cell at an exact address
module _ (xs ts : List ℕ) (z : ℤ) where
  pub find_inside : (w : ℕ) → in_range z ≡ some w → find_cell xs ts z ≡ find_cell xs ts (pos w)
  find_inside w e = ap (find_cell xs ts) (in_range_some z w e).0

  pub find_outside : wild z ≡ true → ((k : ℕ) → get_or xs k 0 < 2 ^ 64) → find_cell xs ts z ≡ none
  find_outside e small = find_none xs ts z (λ k h p. word_tame z (get_or xs k 0) e (small k) p)

  -- what a memory operand leads to: what is found at its word, and nothing where it has none
  abbrev LeadsTo : Result ℕ NoCell → Type 0
  LeadsTo r = led_to r ≡ leads xs ts z

  pub leads_to_found : (w : ℕ) → in_range z ≡ some w → (f : Maybe ℕ) → index_of f ≡ find_cell xs ts (pos w) → LeadsTo (ok_or f Absent)
  leads_to_found w e (Some i) found = rw ((in_range_some z w e).1, find_inside w e, sym found)
  leads_to_found w e None found = rw ((in_range_some z w e).1, find_inside w e, sym found)

  pub leads_outside : in_range z ≡ none → ((k : ℕ) → get_or xs k 0 < 2 ^ 64) → LeadsTo (Err Wild)
  leads_outside e small = let w = in_range_none z e in rw (w, find_outside w small)

  -- accepted cells end at 2^64 at the latest, so none of 64 bits is at a wild address
  pub find_wild : (vs : List ℕ) → check_cells xs ts vs ≡ accepted → wild z ≡ true → find_cell xs ts z ≡ none
  find_wild vs cells e = go (find_cell xs ts z) refl
    where
      go : (k : Option ℕ) → find_cell xs ts z ≡ k → k ≡ none
      go none h = refl
      go (some i) h =
          let hit = find_hit xs ts z i h in
          let end = cells_within xs ts vs cells i hit.inside in
          absurd (word_tame z (get_or xs i 0) e (omega (arith, rw hit.tag at end)) hit.address)

-- ---- wild operands, and the numbers of their checks
pub constant_tame : (n : ℕ) (regs : List ℕ) → wild_operand (OConst n) regs ≡ false
unfolding wild_operand
constant_tame n regs = refl

pub register_tame : (r : Reg) (regs : List ℕ) → wild_operand (OReg r) regs ≡ false
unfolding wild_operand
register_tame r regs = refl

pub memory_wild : (m : Maddr) (regs : List ℕ) → wild_operand (OMem m) regs ≡ wild (eval_maddr m regs)
unfolding wild_operand
memory_wild m regs = refl

pub wild_or_above : (n : ℕ) (o : Operand) (regs : List ℕ) → 1 < n → 1 < wild_or n o regs
wild_or_above n o regs l = go (wild_operand o regs)
  where
    go : (b : Bool) → 1 < cond b 36 n
    go true = omega arith
    go false = l

pub wild_or_below : (n : ℕ) (o : Operand) (regs : List ℕ) → n < 37 → wild_or n o regs < 37
wild_or_below n o regs l = go (wild_operand o regs)
  where
    go : (b : Bool) → cond b 36 n < 37
    go true = omega arith
    go false = l

module _ (valid : Operand → Bool) (regs : List ℕ) (o : Operand) (os : List Operand) where
  pub unread_here : valid o ≡ false → unread_number valid regs (o ∷ os) ≡ wild_or 31 o regs
  unfolding unread_number
  unread_here e = rw e

  pub unread_later : valid o ≡ true → unread_number valid regs (o ∷ os) ≡ unread_number valid regs os
  unfolding unread_number
  unread_later e = rw e

pub unread_above : (valid : Operand → Bool) (regs : List ℕ) (os : List Operand) → 1 < unread_number valid regs os
unfolding unread_number
unread_above valid regs [] = omega arith
unread_above valid regs (o ∷ os) = go (valid o) (unread_above valid regs os)
  where
    go : (b : Bool) → 1 < unread_number valid regs os → 1 < cond b (unread_number valid regs os) (wild_or 31 o regs)
    go true h = h
    go false h = wild_or_above 31 o regs (omega arith)

pub unread_below : (valid : Operand → Bool) (regs : List ℕ) (os : List Operand) → unread_number valid regs os < 37
unfolding unread_number
unread_below valid regs [] = omega arith
unread_below valid regs (o ∷ os) = go (valid o) (unread_below valid regs os)
  where
    go : (b : Bool) → unread_number valid regs os < 37 → cond b (unread_number valid regs os) (wild_or 31 o regs) < 37
    go true h = h
    go false h = wild_or_below 31 o regs (omega arith)
