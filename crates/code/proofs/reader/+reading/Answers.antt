-- The reader's cycle meets its contracts: each function answers what the definition reaches. Assumes nothing.
use Rattle.std.proofs.Common.{◌∙◌, arith, rules}
use Rattle.code.proofs.Classes.{ins_kind, structure_kind, not_code, code_used, ins_is_code, structure_is_code, no_0, no_1}
use Rattle.code.proofs.Reaches.{told, stopped}
use Rattle.code.proofs.Parts.{code_short, code_wrong, code_deep, code_ins, code_structure, last_structure, structure_short, block_fits, if_fits, while_fits, structure_block, structure_if, structure_while, block_over, block_in, part_stops, part_more, part_full, part_end, ocmp_end, while_stops, while_over, while_part, if_stops, if_over, if_first_stops, if_last, codes_begin, codes_go, codes_past, codes_stop, codes_end}
use Rattle.code.proofs.reader.+reading.Goals as goal

-- a Block
pub read_block-returns-then-end-from : goal.read_block-returns-then-end-from
read_block-returns-then-end-from t c = told _ _ _ c.at.ensures ∙ search block_over

pub read_block-returns : goal.read_block-returns
read_block-returns t c = search block_in

-- a code
pub read_code-returns-then-end-at : goal.read_code-returns-then-end-at
read_code-returns-then-end-at t c = told _ _ _ c.at.ensures ∙ search code_short

pub read_code-returns-then-depth-eq0 : goal.read_code-returns-then-depth-eq0
read_code-returns-then-depth-eq0 t c = told _ _ _ c.at-then-depth-eq0.ensures ∙ search (code_deep, ins_is_code, ins_kind)

pub read_code-read_rest-requires : goal.read_code-read_rest-requires
read_code-read_rest-requires t c = search (code_used, ins_is_code, ins_kind)

pub read_code-returns-then-depth-eq0-2 : goal.read_code-returns-then-depth-eq0-2
read_code-returns-then-depth-eq0-2 t c = told _ _ _ c.at-then-depth-eq0-2.ensures ∙ search (code_deep, structure_is_code, structure_kind)

pub read_code-read_structure-requires : goal.read_code-read_structure-requires
read_code-read_structure-requires t c = search (rules, structure_kind)

pub read_code-returns-else-depth-eq0 : goal.read_code-returns-else-depth-eq0
read_code-returns-else-depth-eq0 t c = search (code_ins, ins_kind)

pub read_code-returns-else-depth-eq0-2 : goal.read_code-returns-else-depth-eq0-2
read_code-returns-else-depth-eq0-2 t c = search (code_structure, structure_kind)

pub read_code-returns-in_default : goal.read_code-returns-in_default
read_code-returns-in_default t c =
    let f = no_0 c.class_of.result c.in_default.not-Instruction in
    let g = no_1 c.class_of.result c.in_default.not-Structure in
    told _ _ _ c.at-in_default.ensures ∙ search (code_wrong, not_code)

-- a list of codes
pub read_codes-loop-at-init : goal.read_codes-loop-at-init
read_codes-loop-at-init t c = search codes_begin

pub read_codes-loop-at-smaller : goal.read_codes-loop-at-smaller
read_codes-loop-at-smaller t c = omega (arith, codes_past _ _ _ _ _ c.loop-at.invariant c.loop-at-test.true _ c.read_code.ensures _ c.in_ok-at.was)

pub read_codes-loop-at-preserved : goal.read_codes-loop-at-preserved
read_codes-loop-at-preserved t c = let was = c.in_ok-at.was in search codes_go

pub read_codes-returns-in_err-at : goal.read_codes-returns-in_err-at
read_codes-returns-in_err-at t c = stopped _ _ c.from_residual.ensures.1 _ (let was = c.in_err-at.was in search codes_stop)

pub read_codes-returns : goal.read_codes-returns
read_codes-returns t c = search codes_end

-- an IfElse
pub read_if-returns-in_err-next : goal.read_if-returns-in_err-next
read_if-returns-in_err-next t c = stopped _ _ c.from_residual.ensures.1 _ (let was = c.in_err-next.was in search if_stops)

pub read_if-overflow_sub-end : goal.read_if-overflow_sub-end
read_if-overflow_sub-end t c = omega (arith, ocmp_end _ _ _ _ c.read_ocmp.ensures _ c.in_ok-next.was)

pub read_if-returns-then-end-next : goal.read_if-returns-then-end-next
read_if-returns-then-end-next t c =
    told _ _ _ c.at.ensures
    ∙ if_over _ _ _ _ _ _ c.number4-size.ensures.0 c.number4-other.ensures.0 _ c.read_ocmp.ensures _ c.in_ok-next.was c.if-end-next.true

pub read_if-read_part-requires : goal.read_if-read_part-requires
read_if-read_part-requires t c = let within = ocmp_end _ _ _ _ c.read_ocmp.ensures _ c.in_ok-next.was in search rules

pub read_if-returns-in_err-mid : goal.read_if-returns-in_err-mid
read_if-returns-in_err-mid t c =
    stopped _ _ c.from_residual-in_err-mid.ensures.1 _ (let was = c.in_ok-next.was in let stop = c.in_err-mid.was in search if_first_stops)

pub read_if-overflow_add-mid : goal.read_if-overflow_add-mid
read_if-overflow_add-mid t c = let mid = part_end _ _ _ _ _ c.read_part.ensures _ c.in_ok-mid.was in search rules

pub read_if-read_part-requires-2 : goal.read_if-read_part-requires-2
read_if-read_part-requires-2 t c =
    let within = ocmp_end _ _ _ _ c.read_ocmp.ensures _ c.in_ok-next.was in
    let mid = part_end _ _ _ _ _ c.read_part.ensures _ c.in_ok-mid.was in
    search rules

pub read_if-returns : goal.read_if-returns
read_if-returns t c = let was = c.in_ok-next.was in let first = c.in_ok-mid.was in search if_last

-- a part
pub read_part-returns-in_err-next : goal.read_part-returns-in_err-next
read_part-returns-in_err-next t c = stopped _ _ c.from_residual.ensures.1 _ (let was = c.in_err-next.was in search part_stops)

pub read_part-returns-then-next-end : goal.read_part-returns-then-next-end
read_part-returns-then-next-end t c = told _ _ _ c.at.ensures ∙ (let was = c.in_ok-next.was in search part_more)

pub read_part-returns : goal.read_part-returns
read_part-returns t c = let was = c.in_ok-next.was in search part_full

-- a structure
pub read_structure-returns-then-end-at : goal.read_structure-returns-then-end-at
read_structure-returns-then-end-at t c = told _ _ _ c.at.ensures ∙ search structure_short

pub read_structure-read_block-requires : goal.read_structure-read_block-requires
read_structure-read_block-requires t c = search (rules, block_fits)

pub read_structure-returns-in-32 : goal.read_structure-returns-in-32
read_structure-returns-in-32 t c = search structure_block

pub read_structure-read_if-requires : goal.read_structure-read_if-requires
read_structure-read_if-requires t c = search (rules, if_fits)

pub read_structure-returns-in-33 : goal.read_structure-returns-in-33
read_structure-returns-in-33 t c = search structure_if

pub read_structure-read_while-requires : goal.read_structure-read_while-requires
read_structure-read_while-requires t c = search (rules, while_fits, last_structure)

pub read_structure-returns-in_default : goal.read_structure-returns-in_default
read_structure-returns-in_default t c = search (structure_while, last_structure)

-- a While
pub read_while-returns-in_err-next : goal.read_while-returns-in_err-next
read_while-returns-in_err-next t c = stopped _ _ c.from_residual.ensures.1 _ (let was = c.in_err-next.was in search while_stops)

pub read_while-overflow_sub-end : goal.read_while-overflow_sub-end
read_while-overflow_sub-end t c = omega (arith, ocmp_end _ _ _ _ c.read_ocmp.ensures _ c.in_ok-next.was)

pub read_while-returns-then-end-next : goal.read_while-returns-then-end-next
read_while-returns-then-end-next t c = told _ _ _ c.at.ensures ∙ (let was = c.in_ok-next.was in search while_over)

pub read_while-read_part-requires : goal.read_while-read_part-requires
read_while-read_part-requires t c = let within = ocmp_end _ _ _ _ c.read_ocmp.ensures _ c.in_ok-next.was in search rules

pub read_while-returns : goal.read_while-returns
read_while-returns t c = let was = c.in_ok-next.was in search while_part
