-- `machine::cells::find_cell` meets its contract: the address stands at the one place where it can stand, or nowhere, and the tag
-- there says whether that is a 64-bit cell.
use Rattle.std.proofs.Common.{pos, sym, ◌∙◌, arith, eq-eqb, ne_eqb, eqb-true}
use Rattle.machine.proofs.FindLaws.{find_none, find_elsewhere, find_here}
use Rattle.machine.proofs.cells.find_cell.Goals as goal
use Rattle.machine.proofs.cells.find_cell.Goals.{else-addresses-at-via-then-addresses-at+else-tags-at-eq-WORD, else-addresses-at-via-else-addresses-at}

pub returns-then-is_empty : goal.returns-then-is_empty
returns-then-is_empty c =
    let none = eqb-true _ 0 (sym c.is_empty.ensures ∙ c.if-is_empty.true) in
    sym (find_none c.args.addresses.now c.args.tags.now (pos c.args.address) (λ k h e. omega (arith, none)))

pub returns-then-tags-at-eq-WORD : goal.returns-then-tags-at-eq-WORD
returns-then-tags-at-eq-WORD c =
    let p = c.place_of-at in
    sym
    (find_here c.args.addresses.now c.args.tags.now c.args.address p.result p.ensures.by_index p.ensures.upper_bound
    c.requires.tags c.if-addresses-at.true
    ∙ rw (eq-eqb _ 64 c.if-tags-at-eq-WORD.true))

pub returns-else-addresses-at : goal.returns-else-addresses-at
returns-else-addresses-at c =
    let p = c.place_of-at in
    elim c.else-addresses-at.branch [
      | else-addresses-at-via-then-addresses-at+else-tags-at-eq-WORD w ↦
          sym
          (find_here c.args.addresses.now c.args.tags.now c.args.address p.result p.ensures.by_index p.ensures.upper_bound
          c.requires.tags w.if-addresses-at.true
          ∙ rw (ne_eqb _ 64 w.if-tags-at-eq-WORD.false))
      | else-addresses-at-via-else-addresses-at w ↦
          sym (find_elsewhere c.args.addresses.now c.args.tags.now c.args.address p.result p.ensures.by_index w.if-addresses-at.false)
    ]
