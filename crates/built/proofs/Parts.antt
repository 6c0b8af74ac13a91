-- What the build keeps of an open part, each from the place where its structure begins: its kind, the place of its length, and where its codes begin.
-- Assumes nothing.
use Prim.Native.Nat.{ℕ, ◌+◌, ◌≤◌}
use mathlib.Core.Path.{◌≡◌}
use native.Mathlib.Omega.{arith}
use lib.ListN.{length, length-append}
use Rattle.code.specs.Tree.{Codes}
use Rattle.code.specs.Writer.{bytes_of_ocmp, bytes_of_code, bytes_of_codes}
use Rattle.code.proofs.Held.{length_bytes}
use Rattle.built.specs.Sketch.{Open, block, true_part, while_part, false_part, Sketch, ◌▷◌, bytes_of_open, bytes_so_far}

-- the codes that are complete in it
abbrev pub inside : Open → Codes
inside (block cs) = cs
inside (true_part c cs) = cs
inside (while_part c cs) = cs
inside (false_part c a cs) = cs

-- its kind
abbrev pub kind : Open → ℕ
kind (block cs) = 0
kind (true_part c cs) = 1
kind (while_part c cs) = 2
kind (false_part c a cs) = 2

-- where the length that counts it stands, in a structure that begins at `at`
abbrev pub field : ℕ → Open → ℕ
field at (block cs) = at + 1
field at (true_part c cs) = at + 1
field at (while_part c cs) = at + 1
field at (false_part c a cs) = at + 5

-- and where its codes begin
abbrev pub start : ℕ → Open → ℕ
start at (block cs) = at + 5
start at (true_part c cs) = at + 9 + length (bytes_of_ocmp c)
start at (while_part c cs) = at + 5 + length (bytes_of_ocmp c)
start at (false_part c a cs) = at + 9 + length (bytes_of_ocmp c) + length (bytes_of_code a)

-- where the next record lands
abbrev pub size : Sketch → ℕ
size s = length (bytes_so_far s)

open_length : (at : ℕ) (o : Open) → at + length (bytes_of_open o) ≡ start at o + length (bytes_of_codes (inside o))
unfolding bytes_of_open
open_length at (block cs) = simp (length-append, length_bytes) (omega arith)
open_length at (true_part c cs) = simp (length-append, length_bytes) (omega arith)
open_length at (while_part c cs) = simp (length-append, length_bytes) (omega arith)
open_length at (false_part c a cs) = simp (length-append, length_bytes) (omega arith)

-- the codes of the innermost open part end the sketch
pub size_open : (s : Sketch) (o : Open) → size (s ▷ o) ≡ start (size s) o + length (bytes_of_codes (inside o))
unfolding bytes_so_far
size_open s o = omega (arith, length-append (bytes_so_far s) (bytes_of_open o), open_length (size s) o)

-- its length stands before its codes
pub field_start : (at : ℕ) (o : Open) → field at o + 4 ≤ start at o
field_start at (block cs) = omega arith
field_start at (true_part c cs) = omega arith
field_start at (while_part c cs) = omega arith
field_start at (false_part c a cs) = omega arith

pub kind_bound : (o : Open) → kind o ≤ 2
kind_bound (block cs) = omega arith
kind_bound (true_part c cs) = omega arith
kind_bound (while_part c cs) = omega arith
kind_bound (false_part c a cs) = omega arith
