-- A refusal prints its first line alone; any other end has the other lines behind it.
use native.Mathlib.Omega.{arith}
use Rattle.job.proofs.Writing.{◌▸◌, spelled, looser}
use Rattle.job.proofs.Choices.{print_refused, print_lines, not_refused}
use Rattle.job.proofs.text.Page.put_run.Goals as goal

pub returns-in-Refused : goal.returns-in-Refused
returns-in-Refused c =
    let args = c.args in
    let text = print_refused args.run.now args.addresses.now args.tags.now args.values.now c.in-Refused.is in
    looser (omega arith) (spelled text c.put_answer-page.ensures)

pub returns : goal.returns
returns c =
    let args = c.args in
    let told = not_refused args.run.now.answer c.in_default.not-Refused in
    let text = print_lines args.run.now args.addresses.now args.tags.now args.values.now told in
    spelled text (c.put_answer-page.ensures ▸ c.put_end.ensures)
