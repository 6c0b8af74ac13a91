-- The parts that are lent are as long as the job says.
use mathlib.Core.Path.{◌≡◌, sym, ◌∙◌}
use native.Mathlib.Omega.{arith}
use lib.Seq.{length-take-le}
use Rattle.job.specs.Job.{count_of}
use Rattle.job.proofs.Outputs.{lent_part}
use Rattle.job.proofs.whole.run_cells.Goals as goal

pub slice_bounds-run_job-end-2 : goal.slice_bounds-run_job-end-2
slice_bounds-run_job-end-2 c =
    sym (length-take-le c.number2-count.result c.args.addresses.now (omega arith))

pub slice_bounds-run_job-end-4 : goal.slice_bounds-run_job-end-4
slice_bounds-run_job-end-4 c =
    sym (length-take-le c.number2-count.result c.args.tags.now (omega arith))

pub slice_bounds-run_job-end-6 : goal.slice_bounds-run_job-end-6
slice_bounds-run_job-end-6 c =
    sym (length-take-le c.number2-count.result c.args.values.now (omega arith))

pub run_job-requires : goal.run_job-requires
run_job-requires c =
    let n = c.number2-count.result in
    let told : n ≡ count_of c.args.input.now = c.number2-count.ensures.0 in
    record {
      blank = c.requires.blank;
      complete = c.requires.input_value.1;
      room = (
        length-take-le n c.args.addresses.now (omega arith) ∙ told,
        length-take-le n c.args.tags.now (omega arith) ∙ told,
        length-take-le n
            c.args.values.now (omega arith) ∙ told,
      );
    }

pub returns : goal.returns
returns c =
    let bs = c.args.input.now in
    let n = c.number2-count.result in
    let told : n ≡ count_of bs = c.number2-count.ensures.0 in
    let passed = c.requires.input_value.0 in
    record {
      wrote = c.run_job.ensures.wrote;
      lists =
          record {
            of_addresses =
                lent_part bs c.args.addresses.now c.run_job.new.addresses _ n passed c.run_job.ensures.holding.0
                (c.run_job.auto.addresses ∙ length-take-le n c.args.addresses.now (omega (arith, told)));
            of_tags =
                lent_part bs c.args.tags.now c.run_job.new.tags _ n passed c.run_job.ensures.holding.1
                (c.run_job.auto.tags ∙ length-take-le n c.args.tags.now (omega (arith, told)));
            of_values =
                lent_part bs c.args.values.now c.run_job.new.values _ n passed c.run_job.ensures.holding.2
                (c.run_job.auto.values ∙ length-take-le n c.args.values.now (omega (arith, told)));
          };
    }
