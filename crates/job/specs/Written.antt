-- What a writer leaves in the output buffer.
use Rattle.std.specs.Prelude.{ℕ, ◌+◌, ◌≤◌, ◌≡◌, List, length, take, drop}
use Rattle.std.proofs.lemmas.List.Edits.{sets}
use Rattle.job.specs.declared.text.Page.{Page}

-- n bytes more can be printed
abbrev pub HasRoom : ℕ → Page → Type 0
HasRoom n p = p.at + n ≤ 65536

-- `text` was printed behind what stood on the page, and nothing else was written; it has at most `most` bytes
pub record Wrote (most : ℕ) (before : Page) (text : List ℕ) (after : Page) : Type 0 where
  pub same_reference : after.out.ghost_name ≡ before.out.ghost_name
  pub bytes : after.out.now ≡ sets before.out.now before.at text
  pub place : after.at ≡ before.at + length text
  pub within : after.at ≤ before.at + most

-- the text stands at the start of the buffer, n bytes long, and what lies behind it is as before
pub record Printed (text before after : List ℕ) (n : ℕ) : Type 0 where
  pub bytes : take n after ≡ text
  pub rest : drop n after ≡ drop n before
  pub count : n ≡ length text
  pub within : n ≤ length after
