-- The evaluator's cycle meets its contracts. A list of codes and a code are what their bytes spell; each function runs its parts by the
-- other, and the laws of CycleLaws say that the run's definition goes the same way, those of LessLaws what it does with less fuel. Assumes nothing.
use Rattle.std.proofs.Common.{◌≡◌, ℕ, ◌∙◌, false, eqb, eq-eqb, ne_eqb, inl, inr}
use mathlib.Core.Option.{some}
use Rattle.code.specs.Records.{byte_at}
use Rattle.eval.specs.Config.{config}
use Rattle.eval.specs.Promises.{env_of, tally, least_tested, told}
use Rattle.eval.proofs.CycleLaws.{ins_ran, going_starts, block_goes, codes_go, codes_stop, codes_done}
use Rattle.eval.proofs.InstructionLaws.{handed_on}
use Rattle.eval.proofs.Asked.{told_below, told_fails, told_holds, next_code, next_ins, next_less, rest_less, rest_less_ins, past_block, test_stands, testing_starts, some_fuel, goes_round, turn_stopped, behind_test, turns_over, turns_spent, Turn, turn_code, taking, taken_codes, taken_long, taken_less, taken_falls, taken_stops, taken_done, taken_goes}
use Rattle.eval.proofs.LessLaws.{going_starts_less, ins_goes_less, ins_stops_less, block_goes_less, codes_go_less, codes_stop_less, codes_done_less, testing_starts_less, turns_spent_less, BegunLess, begins_less, turn_stopped_less, turns_over_less, taken_stops_less, taken_done_less, taken_goes_less}
use Rattle.eval.proofs.cycle.+evaluating.Goals as goal
use Rattle.eval.proofs.cycle.+evaluating.Goals.{eval_code-After-step_comparison, eval_code-Joined-else-not-decided, eval_code-then-chooses, eval_code-else-chooses+then-left-ne0, eval_code-else-not-decided-via-then-not-decided+else-not-chooses, eval_code-else-not-decided-via-else-not-decided}

-- ---- a list of codes
pub eval_codes-loop-next-init : goal.eval_codes-loop-next-init
eval_codes-loop-next-init t c = record { runs = search going_starts; less = search going_starts_less }

pub eval_codes-step_instruction-requires-clause-ins_at : goal.eval_codes-step_instruction-requires-clause-ins_at
eval_codes-step_instruction-requires-clause-ins_at t c = let g = c.loop-next.invariant.runs in search next_ins

pub eval_codes-returns-in_err-next : goal.eval_codes-returns-in_err-next
eval_codes-returns-in_err-next t c =
    let inv = c.loop-next.invariant in
    let ran = c.step_instruction.ensures in
    let was = c.in_err-next.was in
    rw (handed_on _ _ c.from_residual.ensures.1) (record {
      evaluates_all = search (codes_stop, ins_ran);
      with_less_all = ins_stops_less inv.less c.loop-next-test.true c.if-kind-lt32.true ran.evaluates_step ran.tested_none _ was;
    })

pub eval_codes-loop-next-smaller-then-kind-lt32 : goal.eval_codes-loop-next-smaller-then-kind-lt32
eval_codes-loop-next-smaller-then-kind-lt32 t c = let g = c.loop-next.invariant.runs in let was = c.in_ok-next.was in search rest_less_ins

pub eval_codes-loop-next-preserved-then-kind-lt32 : goal.eval_codes-loop-next-preserved-then-kind-lt32
eval_codes-loop-next-preserved-then-kind-lt32 t c =
    let inv = c.loop-next.invariant in
    let ran = c.step_instruction.ensures in
    let was = c.in_ok-next.was in
    record {
      runs = search (codes_go, ins_ran);
      less = ins_goes_less inv.less c.loop-next-test.true c.if-kind-lt32.true ran.evaluates_step ran.tested_none _ was
          c.step_instruction.auto.values;
    }

pub eval_codes-loop-next-preserved-then-kind-eq32 : goal.eval_codes-loop-next-preserved-then-kind-eq32
eval_codes-loop-next-preserved-then-kind-eq32 t c =
    let inv = c.loop-next.invariant in
    record { runs = search block_goes; less = block_goes_less inv.less c.if-kind-eq32.true c.loop-next-test.true }

pub eval_codes-eval_code-requires : goal.eval_codes-eval_code-requires
eval_codes-eval_code-requires t c =
    let g = c.loop-next.invariant.runs in (search next_less, (search next_code, (search past_block, search)))

pub eval_codes-returns-in_err-next-2 : goal.eval_codes-returns-in_err-next-2
eval_codes-returns-in_err-next-2 t c =
    let inv = c.loop-next.invariant in
    let went = c.eval_code.ensures in
    let was = c.in_err-next-2.was in
    rw (handed_on _ _ c.from_residual-in_err-next-2.ensures.1)
    (record { evaluates_all = search codes_stop; with_less_all = codes_stop_less inv.less c.loop-next-test.true went.with_less _ was })

pub eval_codes-loop-next-smaller : goal.eval_codes-loop-next-smaller
eval_codes-loop-next-smaller t c = let g = c.loop-next.invariant.runs in let was = c.in_ok-next-2.was in search rest_less

pub eval_codes-loop-next-preserved : goal.eval_codes-loop-next-preserved
eval_codes-loop-next-preserved t c =
    let inv = c.loop-next.invariant in
    let went = c.eval_code.ensures in
    let was = c.in_ok-next-2.was in
    record {
      runs = search codes_go;
      less = codes_go_less inv.less c.loop-next-test.true went.with_less _ was c.eval_code.auto.values;
    }

pub eval_codes-returns : goal.eval_codes-returns
eval_codes-returns t c =
    let inv = c.loop-next.invariant in
    record { evaluates_all = search codes_done; with_less_all = codes_done_less inv.less c.loop-next-test.false }

-- ---- a code
-- there is fuel for the round
fuelled :
    (t : ℕ) (c : eval_code-After-step_comparison t) → eqb (byte_at c.args.lent.now.code.now c.args.at) 0x21 ≡ false → c.loop-counter.left ≡ 0 → ⊥
fuelled t c =
    some_fuel _ _ (elim c.if-chooses.branch [
      | eval_code-then-chooses w ↦ inl (eq-eqb _ _ w.if-chooses.true)
      | eval_code-else-chooses+then-left-ne0 w ↦ inr (ne_eqb _ _ w.if-chooses.false, w.if-left-ne0.true)
    ])

-- what less fuel would have done up to there
begun :
    (t : ℕ) (c : eval_code-After-step_comparison t) →
    let a = c.args in
    let l = c.loop-counter in
    BegunLess (env_of a.lent.now) (some a.lent.now.limit) a.lent.now.code.now a.at a.fuel
    (config a.state.now a.values.now) (tally a.counter.now) (least_tested a.counter.now)
    (eqb (byte_at a.lent.now.code.now a.at) 0x21) c.test_at-test.result l.left (config l.state l.values)
    (tally l.counter) (least_tested c.step_comparison.new.counter)
begun t c =
    begins_less c.loop-counter.invariant.less (fuelled t c)
    (c.step_comparison.ensures.tested_none ∙ c.count_test.ensures.counted_after)

-- the round that the comparison began
turn :
    (t : ℕ) (c : eval_code-Joined-else-not-decided t) →
    let a = c.args in
    let l = c.loop-counter in
    let x = c.step_comparison in
    Turn (env_of a.lent.now) (some a.lent.now.limit) a.lent.now.code.now a.at a.fuel t
    (config a.state.now a.values.now) (tally a.counter.now) c.test_at-test.result l.left
    (config l.state l.values) (tally l.counter) (told c.in-Ok.decided) (tally x.new.counter) c.way_from-way.result
    (eqb (byte_at a.lent.now.code.now a.at) 0x21)
turn t c =
    let a = c.args in
    let l = c.loop-counter in
    record {
      head = l.invariant.runs;
      some_fuel =
          some_fuel _ _ (elim c.if-chooses.branch [
            | eval_code-then-chooses w ↦ inl (eq-eqb _ _ w.if-chooses.true)
            | eval_code-else-chooses+then-left-ne0 w ↦ inr (ne_eqb _ _ w.if-chooses.false, w.if-left-ne0.true)
          ]);
      compared =
          rw c.count_test.ensures.counted_unchanged at c.in-Ok.ensures.decides;
      read = told_below _;
      holds =
          goes_round _ _ (elim c.else-not-decided.branch [
            | eval_code-else-not-decided-via-then-not-decided+else-not-chooses w ↦ inl (told_fails _ w.if-not-decided.true, eq-eqb _ _ w.if-not-chooses.false)
            | eval_code-else-not-decided-via-else-not-decided w ↦ inr (told_holds _ w.if-not-decided.false)
          ]);
      way_is = c.way_from-way.ensures;
      long = c.requires.long;
      measured = c.decreases;
    }

pub eval_code-loop-counter-init : goal.eval_code-loop-counter-init
eval_code-loop-counter-init t c = record { runs = search testing_starts; less = search testing_starts_less }

pub eval_code-step_comparison-requires-clause-ocmp_at : goal.eval_code-step_comparison-requires-clause-ocmp_at
eval_code-step_comparison-requires-clause-ocmp_at t c = let head = c.loop-counter.invariant.runs in search test_stands

pub eval_code-returns-in-Err : goal.eval_code-returns-in-Err
eval_code-returns-in-Err t c =
    let x = (goal.at.eval_code-returns-in-Err t c).After-step_comparison in
    let answer = rw c.count_test.ensures.counted_unchanged at c.in-Err.ensures.decides in
    let above = c.in-Err.ensures.above in
    let f = fuelled t x in
    let head = c.loop-counter.invariant.runs in
    rw c.at.ensures (record {
      evaluates = turn_stopped _ _ _ _ _ _ _ _ _ _ _ (record { how = c.in-Err.number; next = 0 }) _ _ head f answer above;
      with_less = turn_stopped_less (begun t x) (record { how = c.in-Err.number; next = 0 }) _ answer above;
    })

pub eval_code-way_from-way-requires-clause-behind_test : goal.eval_code-way_from-way-requires-clause-behind_test
eval_code-way_from-way-requires-clause-behind_test t c =
    let answer = rw c.count_test.ensures.counted_unchanged at c.in-Ok.ensures.decides in
    behind_test _ _ _ _ _ _ _ _ _ _ _ (told c.in-Ok.decided) _ _ c.loop-counter.invariant.runs answer (told_below _)

pub eval_code-returns-then-not-chooses : goal.eval_code-returns-then-not-chooses
eval_code-returns-then-not-chooses t c =
    let x = (goal.at.eval_code-returns-then-not-chooses t c).After-step_comparison in
    let way_is = c.way_from-way.ensures in
    let answer = rw c.count_test.ensures.counted_unchanged at c.in-Ok.ensures.decides in
    record {
      evaluates =
          turns_over _ _ _ _ _ _ _ _ _ _ _ (told c.in-Ok.decided) _ _ c.loop-counter.invariant.runs (fuelled t x) answer _ way_is
          (told_fails _ c.if-not-decided.true) (ne_eqb _ _ c.if-not-chooses.true);
      with_less = turns_over_less (begun t x) (told c.in-Ok.decided) _ answer _ way_is (told_fails _ c.if-not-decided.true) (ne_eqb _ _ c.if-not-chooses.true);
    }

pub eval_code-first_code-requires : goal.eval_code-first_code-requires
eval_code-first_code-requires t c = let w = turn t (goal.at.eval_code-first_code-requires t c).Joined-else-not-decided in search turn_code

pub eval_code-eval_codes-requires : goal.eval_code-eval_codes-requires
eval_code-eval_codes-requires t c =
    let w = taking (turn t (goal.at.eval_code-eval_codes-requires t c).Joined-else-not-decided) c.first_code.ensures c.part_fuel-given.ensures in
    (search taken_less, (search taken_codes, search taken_long))

pub eval_code-returns-in_err-eval_codes : goal.eval_code-returns-in_err-eval_codes
eval_code-returns-in_err-eval_codes t c =
    let at = goal.at.eval_code-returns-in_err-eval_codes t c in
    let w = taking (turn t at.Joined-else-not-decided) c.first_code.ensures c.part_fuel-given.ensures in
    let b = begun t at.After-step_comparison in
    let was = c.in_err-eval_codes.was in
    rw (handed_on _ _ c.from_residual.ensures.1) (record {
      evaluates = search taken_stops;
      with_less = taken_stops_less b w c.eval_codes.ensures.with_less_all _ was;
    })

pub eval_code-returns-then-chooses-2 : goal.eval_code-returns-then-chooses-2
eval_code-returns-then-chooses-2 t c =
    let at = goal.at.eval_code-returns-then-chooses-2 t c in
    let w = taking (turn t at.Joined-else-not-decided) c.first_code.ensures c.part_fuel-given.ensures in
    let b = begun t at.After-step_comparison in
    let ran = c.eval_codes.ensures in let was = c.in_ok-eval_codes.was in
    record {
      evaluates = taken_done _ _ _ _ _ _ _ _ _ _ _ _ _ _ _ _ _ _ _ _ ran.evaluates_all _ w (eq-eqb _ _ c.if-chooses-2.true) _ was;
      with_less = taken_done_less b w ran.with_less_all (eq-eqb _ _ c.if-chooses-2.true) _ was;
    }

pub eval_code-loop-counter-smaller : goal.eval_code-loop-counter-smaller
eval_code-loop-counter-smaller t c =
    let w = taking (turn t (goal.at.eval_code-loop-counter-smaller t c).Joined-else-not-decided) c.first_code.ensures c.part_fuel-given.ensures in
    search taken_falls

pub eval_code-loop-counter-preserved : goal.eval_code-loop-counter-preserved
eval_code-loop-counter-preserved t c =
    let at = goal.at.eval_code-loop-counter-preserved t c in
    let w = taking (turn t at.Joined-else-not-decided) c.first_code.ensures c.part_fuel-given.ensures in
    let b = begun t at.After-step_comparison in
    let ran = c.eval_codes.ensures in let was = c.in_ok-eval_codes.was in
    let same = c.eval_codes.auto.values in
    record {
      runs = taken_goes _ _ _ _ _ _ _ _ _ _ _ _ _ _ _ _ _ _ _ _ ran.evaluates_all _ w (ne_eqb _ _ c.if-chooses-2.false) _ was same;
      less = taken_goes_less b w ran.with_less_all (ne_eqb _ _ c.if-chooses-2.false) _ was same;
    }

pub eval_code-returns : goal.eval_code-returns
eval_code-returns t c =
    let inv = c.loop-counter.invariant in
    let looped = ne_eqb _ _ c.if-chooses.false in
    rw c.at-2.ensures (record { evaluates = search turns_spent; with_less = turns_spent_less inv.less looped c.if-left-ne0.false })
