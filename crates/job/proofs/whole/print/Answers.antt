-- A refusal is printed as it is, and an accepted job's run.
use mathlib.Core.Path.{◌≡◌, sym, ap, ◌∙◌}
use native.Mathlib.Omega.{arith}
use Rattle.machine.specs.Cells.{accepted, verdict}
use Rattle.job.specs.Job.{check_job}
use Rattle.job.proofs.Writing.{spelled, looser}
use Rattle.job.proofs.Checking.{complete}
use Rattle.job.proofs.Outputs.{output_refused, output_run, lent_none}
use Rattle.job.proofs.Inputs.{job_input}
use Rattle.job.proofs.whole.print.Goals as goal

pub run_cells-requires : goal.run_cells-requires
run_cells-requires c =
    let bs = c.args.input.now in
    let passed : check_job bs ≡ accepted = sym c.check_job.ensures ∙ ap verdict c.in-Ok.is in
    record {
      blank = c.requires.blank;
      input_value = (passed, complete bs passed);
      in_bounds = (omega arith, omega arith, omega arith);
    }

pub returns-in-Err : goal.returns-in-Err
returns-in-Err c =
    let bs = c.args.input.now in
    let refused = sym c.check_job.ensures ∙ ap verdict c.in-Err.is in
    record {
      wrote = looser (omega arith) (spelled (output_refused bs refused) (rw c.from.ensures at c.put_answer.ensures));
      lists =
          record {
            of_addresses = lent_none bs _ c.args.addresses.now refused;
            of_tags = lent_none bs _ c.args.tags.now refused;
            of_values = lent_none bs _ c.args.values.now refused;
          };
      input = job_input bs (λ i. omega (arith, c.type_inv.input i));
    }

pub returns-in-Ok : goal.returns-in-Ok
returns-in-Ok c =
    let bs = c.args.input.now in
    let passed = sym c.check_job.ensures ∙ ap verdict c.in-Ok.is in
    record {
      wrote = spelled (output_run bs passed) c.run_cells.ensures.wrote;
      lists = c.run_cells.ensures.lists;
      input = job_input bs (λ i. omega (arith, c.type_inv.input i));
    }
