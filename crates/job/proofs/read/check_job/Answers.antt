-- Each test of the code decides the test of the definition that stands at its place.
use Prim.Native.Nat.{◌≤◌, ◌<◌}
use mathlib.Core.Path.{sym}
use native.Mathlib.Omega.{arith}
use lib.ListN.{length}
use Rattle.job.specs.Job.{count_of, code_at}
use Rattle.job.proofs.Checking.{too_long, too_short, too_many, cut_short, all_there}
use Rattle.job.proofs.read.check_job.Goals as goal

pub returns-then-n-gt34198 : goal.returns-then-n-gt34198
returns-then-n-gt34198 c = rw c.at.ensures (sym (too_long _ c.if-n-gt34198.true))

pub returns-then-n-lt406 : goal.returns-then-n-lt406
returns-then-n-lt406 c = rw c.at-then-n-lt406.ensures (sym (too_short _ c.if-n-gt34198.false c.if-n-lt406.true))

pub returns-then-count-gt1024 : goal.returns-then-count-gt1024
returns-then-count-gt1024 c =
    let bs = c.args.input.now in
    let many : 1024 < count_of bs = omega arith in
    rw c.at-then-count-gt1024.ensures (sym (too_many bs c.if-n-gt34198.false c.if-n-lt406.false many))

pub returns-then-n-count : goal.returns-then-n-count
returns-then-n-count c =
    let bs = c.args.input.now in
    let few : count_of bs ≤ 1024 = omega arith in
    let cut : length bs < code_at bs = omega arith in
    rw c.at-then-n-count.ensures (sym (cut_short bs c.if-n-gt34198.false c.if-n-lt406.false few cut))

pub returns : goal.returns
returns c =
    let bs = c.args.input.now in
    let few : count_of bs ≤ 1024 = omega arith in
    let whole : code_at bs ≤ length bs = omega arith in
    sym (all_there bs c.if-n-gt34198.false c.if-n-lt406.false few whole)
