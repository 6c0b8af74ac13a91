-- `machine::cells::cell_of` meets its contract: what is found at the word of the exact address, and a wild one where that is no word.
use Rattle.std.proofs.Common.{sym, ◌∙◌}
use Rattle.std.proofs.lemmas.Result.{err_from_is_err_and}
use Rattle.machine.specs.Operands.{eval_maddr}
use Rattle.machine.proofs.OperandLaws.{tame_word, no_word, leads_to_found, leads_outside}
use Rattle.machine.proofs.cells.cell_of.Goals as goal

pub returns-in_err-word : goal.returns-in_err-word
returns-in_err-word c =
    let a = c.args in
    let told = err_from_is_err_and c.from_residual.result c.from_residual.ensures.1 in
    let outside = no_word c.operand_address.result _ (sym c.in_err-word.was ∙ c.ok_or.ensures.value) in
    rw (told.1, told.2, outside.1)
    (leads_outside a.addresses.now a.tags.now (eval_maddr a.m a.regs.now) (sym c.operand_address.ensures ∙ outside.0)
    (λ i. (c.type_inv.addresses i).fits))

pub returns : goal.returns
returns c =
    let a = c.args in
    let inside = tame_word c.operand_address.result _ (sym c.in_ok-word.was ∙ c.ok_or.ensures.value) in
    rw c.ok_or-2.ensures.value
    (leads_to_found a.addresses.now a.tags.now (eval_maddr a.m a.regs.now) _ (sym c.operand_address.ensures ∙ inside) c.find_cell.result
    c.find_cell.ensures)
