-- The kernels tried of document 01, P1 to P14, and P2 on the board, as one table from inputs to outcomes; then limits, kernels that read a flag, and searches
-- for the least fuel. Of each table there is one claim: Running gives these ends, and the last these reports. Examples of code, of cells and of a job stand
-- behind them.
use Rattle.std.specs.Prelude.{ℕ, ◌≡◌, refl, true, false, List, [], ◌∷◌, ◌++◌, length, set, replicate}
use Rattle.std.proofs.Math.Bool.{xor}
use Rattle.std.proofs.Math.Option.{some}
use Rattle.words.specs.Words.{nat_to_four, two_select, two_to_nat, four_select, four_insert}
use Rattle.words.specs.Bits.{to_vec, from_vec, map2, ixor, ishl}
use Rattle.words.specs.Counts.{tzcnt}
use Rattle.words.specs.Counts.{zeros as zeros_first}
use Rattle.words.specs.Types.{shl_lanes, shuffle_lanes, shift_quad}
use Rattle.words.specs.Sums.{sum_mod, sum_carry, sub_mod, mul_div, mul_mod}
use Rattle.words.specs.Signed.{signed_word, signed_sum, leaves}
use Rattle.words.specs.Flags.{cf, overflow, update_cf, update_of}
use Rattle.machine.specs.Bytes.{spelled}
use Rattle.machine.specs.Registers.{Rax, xmm_at, set_xmm}
use Rattle.machine.specs.Operands.{eval_maddr, wild, wild_operand, valid_dst}
use Rattle.machine.specs.Cells.{Verdict, accepted, refused, is_tag, cell_rule, check_from, check_cells, find_cell, eqℤ}
use Rattle.machine.specs.declared.Operand.TheVariants.{OConst, OReg}
use Rattle.code.specs.declared.tree.Instruction.TheVariants.{Add64}
use Rattle.code.specs.Tree.{Ins}
use Rattle.code.specs.Records.{body_length, operand_count, judged_fields, number_at, signed_at, operand_at, behind, operands_at, ins_at, ocmp_at}
use Rattle.code.specs.Reader.{got, followed, with_fields, read_record, read_operands, read_with, read_ocmp, read_part, read_codes, read_block, read_if, read_while, read_structure, read_body, read_code, parse, verdict_of, check_code}
use Rattle.eval.specs.declared.answer.Evaluation.TheVariants.{Base, Board}
use Rattle.eval.specs.FlagRule.{base_flags, board_flags, flag_rule}
use Rattle.eval.specs.Config.{Env, with_rule, Config, with_flags, with_values, Outcome, done, fault, stopped, spent, check}
use Rattle.eval.specs.declared.answer.Watch.{Watch}
use Rattle.eval.specs.Watch.{Unmarked, Marked, watch, nothing_open, touched, open_after, reads_open, first_mark, watched}
use Rattle.eval.specs.Counted.{counted, Ended, ended, continue, used_up, count, step}
use Rattle.eval.specs.Instructions.{two_word, two_flags, quads_word, quads_flags, shifts_word, inserts_word, cell_of, valid_operand, eval_operand, valid_dst_operand, update_operand, act, run_ins, valid_ocmp, eval_ocmp}
use Rattle.job.specs.Text.{digits, name_of, first_line, reg_lines, xmm_lines, cell_lines, render}
use Rattle.job.specs.Job.{numbers, largest_limit, check_job, end_checked, output}
use Rattle.eval.specs.Promises.{environment}
use Rattle.eval.specs.Running.{run_ocmp, decide, rounds, run_code, run_checked, run_read, run_of}
use Rattle.eval.specs.LeastFuel.{is_spent, first_unspent}
use Rattle.least.specs.Report.{Report, least, cap_spent, not_run, Reported, least_fuel_of}

-- what document 01 gives to a kernel, with the step limit of request 2026-04 and the evaluation of request 2026-06, and the end that they name
pub record Kernel : Type 0 where
  pub code : List ℕ
  pub env : Env
  pub fuel : ℕ
  pub limit : ℕ
  pub start : Config
  pub end : Ended

-- registers, xmm words and flags all 0, and no cells
abbrev zeros : Config
zeros = record { regs = replicate 16 0; xmms = replicate 64 0; flags = 0; values = [] }

-- with v in a register: Rax is 0, Rdx 3
abbrev reg : ℕ → ℕ → Config → Config
reg r v s = record { regs = set s.regs r v; xmms = s.xmms; flags = s.flags; values = s.values }

-- all 0 but for Rax
abbrev rax : ℕ → Config
rax v = reg 0 v zeros

-- all 0 but for the four words of xmm 0, lo0 first
abbrev xmm0 : ℕ → ℕ → ℕ → ℕ → Config
xmm0 a b c d = record { regs = replicate 16 0; xmms = a ∷ b ∷ c ∷ d ∷ replicate 60 0; flags = 0; values = [] }

-- no cells, and a fill word; the base's evaluation
abbrev no_cells : ℕ → Env
no_cells fill = environment [] [] fill (flag_rule Base)

-- a 64-bit cell at an address, fill 0; the base's evaluation
abbrev one_cell : ℕ → Env
one_cell a = environment (a ∷ []) (64 ∷ []) 0 (flag_rule Base)

-- the board's evaluation in its place
abbrev on_board : Env → Env
on_board = with_rule (flag_rule Board)

-- both flags open, and nothing read
abbrev both_open : Watch
both_open = watch true true Unmarked

-- a row of a table: code, cells, fill and evaluation, fuel, limit, start, how it ends, and with what, how many steps and which watch
abbrev row_at : List ℕ → Env → ℕ → ℕ → Config → Outcome → Config → ℕ → Watch → Kernel
row_at code env fuel limit start how end steps w =
    record { code = code; env = env; fuel = fuel; limit = limit; start = start; end = ended how end (counted steps w) }

-- a row with a limit of 100
abbrev row : List ℕ → Env → ℕ → Config → Outcome → Config → ℕ → Watch → Kernel
row code env fuel start how end steps w = row_at code env fuel 100 start how end steps w

-- Add64 Rax, 1
abbrev add_one : List ℕ
add_one = 0x02 ∷ 0x41 ∷ 0x00 ∷ 0x40 ∷ 0x01 ∷ 0x00 ∷ 0x00 ∷ 0x00 ∷ 0x00 ∷ 0x00 ∷ 0x00 ∷ 0x00 ∷ []

-- While Rax differs from Rax, an empty Block
abbrev never : List ℕ
never = 0x22 ∷ 0x05 ∷ 0x00 ∷ 0x00 ∷ 0x00 ∷ 0x31 ∷ 0x41 ∷ 0x00 ∷ 0x41 ∷ 0x00 ∷ 0x20 ∷ 0x00 ∷ 0x00 ∷ 0x00 ∷ 0x00 ∷ []

-- While Rax differs from 0, Sub64 Rax, 1
abbrev count_down : List ℕ
count_down =
    0x22 ∷ 0x0c ∷ 0x00 ∷ 0x00 ∷ 0x00 ∷ 0x31 ∷ 0x41 ∷ 0x00 ∷ 0x40 ∷ 0x00 ∷ 0x00 ∷ 0x00 ∷ 0x00 ∷ 0x00 ∷ 0x00 ∷ 0x00 ∷ 0x00
    ∷ 0x07 ∷ 0x41 ∷ 0x00 ∷ 0x40 ∷ 0x01 ∷ 0x00 ∷ 0x00 ∷ 0x00 ∷ 0x00 ∷ 0x00 ∷ 0x00 ∷ 0x00 ∷ []

-- the table: code, cells, fill and evaluation, fuel, start, how it ends, with what, how many steps, and the watch
pub kernels : List Kernel
kernels =
    -- P1: Add64 Rax 2^64-1 and 1
    row add_one (no_cells 0) 0 (rax 18446744073709551615) done (with_flags 1 (rax 0)) 1 nothing_open
    -- P2: Add64 1 and 1, flags 2048
    ∷ row add_one (no_cells 0) 0 (with_flags 2048 (rax 1)) done (with_flags 2048 (rax 2)) 1 nothing_open
    -- P2 on the board
    ∷ row add_one (on_board (no_cells 0)) 0 (with_flags 2048 (rax 1)) done (with_flags 0 (rax 2)) 1 nothing_open
    -- P3: Sub64 0 less 1, fill 9
    ∷ row (0x07 ∷ 0x41 ∷ 0x00 ∷ 0x40 ∷ 0x01 ∷ 0x00 ∷ 0x00 ∷ 0x00 ∷ 0x00 ∷ 0x00 ∷ 0x00 ∷ 0x00 ∷ [])
    (no_cells 9) 0 (rax 0) done (with_flags 9 (rax 18446744073709551615)) 1 both_open
    -- P4: Mulx64, both destinations Rax, Rdx 2^63, source 2
    ∷ row (0x09 ∷ 0x41 ∷ 0x00 ∷ 0x41 ∷ 0x00 ∷ 0x40 ∷ 0x02 ∷ 0x00 ∷ 0x00 ∷ 0x00 ∷ 0x00 ∷ 0x00 ∷ 0x00 ∷ 0x00 ∷ [])
    (no_cells 0) 0 (reg 3 9223372036854775808 (rax 0)) done (reg 3 9223372036854775808 (rax 1)) 1 nothing_open
    -- P5: Xor64 Rax with Rax, fill 2^64-1
    ∷ row (0x0b ∷ 0x41 ∷ 0x00 ∷ 0x41 ∷ 0x00 ∷ []) (no_cells 18446744073709551615) 0 (rax 5) done (with_flags 18446744073709549566 (rax 0)) 1 nothing_open
    -- P6: Shl64 of 1 by 63
    ∷ row (0x0e ∷ 0x41 ∷ 0x00 ∷ 0x40 ∷ 0x3f ∷ 0x00 ∷ 0x00 ∷ 0x00 ∷ 0x00 ∷ 0x00 ∷ 0x00 ∷ 0x00 ∷ [])
    (no_cells 0) 0 (rax 1) done (rax 9223372036854775808) 1 both_open
    -- P6: by 64
    ∷ row (0x0e ∷ 0x41 ∷ 0x00 ∷ 0x40 ∷ 0x40 ∷ 0x00 ∷ 0x00 ∷ 0x00 ∷ 0x00 ∷ 0x00 ∷ 0x00 ∷ 0x00 ∷ []) (no_cells 0) 0 (rax 1) (fault 33 0) (rax 1) 0 nothing_open
    -- P7: Pslld word 1 by 31
    ∷ row (0x11 ∷ 0x00 ∷ 0x1f ∷ []) (no_cells 0) 0 (xmm0 1 0 0 0) done (xmm0 2147483648 0 0 0) 1 nothing_open
    -- P7: by 32
    ∷ row (0x11 ∷ 0x00 ∷ 0x20 ∷ []) (no_cells 0) 0 (xmm0 1 0 0 0) (fault 34 0) (xmm0 1 0 0 0) 0 nothing_open
    -- P8: VPSLLDQ (1,2,3,4) by 4
    ∷ row (0x18 ∷ 0x00 ∷ 0x00 ∷ 0x04 ∷ []) (no_cells 0) 0 (xmm0 1 2 3 4) done (xmm0 0 1 2 3) 1 nothing_open
    -- P8: by 5
    ∷ row (0x18 ∷ 0x00 ∷ 0x00 ∷ 0x05 ∷ []) (no_cells 0) 0 (xmm0 1 2 3 4) (fault 35 0) (xmm0 1 2 3 4) 0 nothing_open
    -- P9: Pshufd (10,11,12,13) by 27
    ∷ row (0x13 ∷ 0x00 ∷ 0x00 ∷ 0x1b ∷ []) (no_cells 0) 0 (xmm0 10 11 12 13) done (xmm0 13 12 11 10) 1 nothing_open
    -- P10: While with a false condition, fuel 0
    ∷ row never (no_cells 0) 0 zeros (spent 0) zeros 0 nothing_open
    -- P10: fuel 1
    ∷ row never (no_cells 0) 1 zeros done zeros 1 both_open
    -- P11: reading MReg Rax, offset 1, into Rbx, Rax 2^64-1, a 64-bit cell at 0
    ∷ row (0x01 ∷ 0x41 ∷ 0x01 ∷ 0x43 ∷ 0x00 ∷ 0x01 ∷ 0x00 ∷ 0x00 ∷ 0x00 ∷ 0x00 ∷ 0x00 ∷ 0x00 ∷ 0x00 ∷ [])
    (one_cell 0) 0 (with_values (6 ∷ []) (rax 18446744073709551615)) (fault 36 0) (with_values (6 ∷ []) (rax 18446744073709551615)) 0 nothing_open
    -- P12: Mov64 of 1 to Rsp
    ∷ row (0x01 ∷ 0x41 ∷ 0x07 ∷ 0x40 ∷ 0x01 ∷ 0x00 ∷ 0x00 ∷ 0x00 ∷ 0x00 ∷ 0x00 ∷ 0x00 ∷ 0x00 ∷ []) (no_cells 0) 0 zeros (fault 32 0) zeros 0 nothing_open
    -- P13: Pextrq (1,2,3,4) index 1 into Rax
    ∷ row (0x15 ∷ 0x00 ∷ 0x01 ∷ 0x41 ∷ 0x00 ∷ []) (no_cells 0) 0 (xmm0 1 2 3 4) done (reg 0 17179869187 (xmm0 1 2 3 4)) 1 nothing_open
    -- P13: Pinsrd of 7, index 5, fills word 1
    ∷ row (0x16 ∷ 0x00 ∷ 0x05 ∷ 0x40 ∷ 0x07 ∷ 0x00 ∷ 0x00 ∷ 0x00 ∷ 0x00 ∷ 0x00 ∷ 0x00 ∷ 0x00 ∷ [])
    (no_cells 0) 0 (xmm0 1 2 3 4) done (xmm0 1 7 3 4) 1 nothing_open
    -- P14: from 3, fuel 4; three rounds of a comparison and a Sub64, and the comparison that ends the loop
    ∷ row count_down (no_cells 0) 4 (rax 3) done (rax 0) 7 both_open
    -- P14: fuel 3
    ∷ row count_down (no_cells 0) 3 (rax 3) (spent 0) (rax 0) 6 both_open
    ∷ []

-- limits at and around the steps that are made
pub limited : List Kernel
limited =
    -- P14: as many as it makes is not Stopped
    row_at count_down (no_cells 0) 4 7 (rax 3) done (rax 0) 7 both_open
    -- one fewer: at the comparison that would end the loop
    ∷ row_at count_down (no_cells 0) 4 6 (rax 3) (stopped 37 5) (rax 0) 6 both_open
    -- at the third Sub64
    ∷ row_at count_down (no_cells 0) 4 5 (rax 3) (stopped 37 17) (rax 1) 5 both_open
    -- one step: at the first Sub64
    ∷ row_at count_down (no_cells 0) 4 1 (rax 3) (stopped 37 17) (rax 3) 1 both_open
    -- none: at the first comparison
    ∷ row_at count_down (no_cells 0) 4 0 (rax 3) (stopped 37 5) (rax 3) 0 nothing_open
    -- fuel 3: as many steps and then no fuel is Spent
    ∷ row_at count_down (no_cells 0) 3 6 (rax 3) (spent 0) (rax 0) 6 both_open
    -- P10: no fuel and no step is Spent
    ∷ row_at never (no_cells 0) 0 0 zeros (spent 0) zeros 0 nothing_open
    -- Add64 Rax, 1, with no step and with one
    ∷ row_at add_one (no_cells 0) 0 0 (rax 5) (stopped 37 0) (rax 5) 0 nothing_open
    ∷ row_at add_one (no_cells 0) 0 1 (rax 5) done (rax 6) 1 nothing_open
    -- P8 by 5: Stopped ahead of the check that would fail, and with a step to make the Fault
    ∷ row_at (0x18 ∷ 0x00 ∷ 0x00 ∷ 0x05 ∷ []) (no_cells 0) 0 0 (xmm0 1 2 3 4) (stopped 37 0) (xmm0 1 2 3 4) 0 nothing_open
    ∷ row_at (0x18 ∷ 0x00 ∷ 0x00 ∷ 0x05 ∷ []) (no_cells 0) 0 1 (xmm0 1 2 3 4) (fault 35 0) (xmm0 1 2 3 4) 0 nothing_open
    ∷ []

-- a record of a kind, a register and a constant below 256
abbrev with_reg : ℕ → ℕ → ℕ → List ℕ
with_reg kind r n = kind ∷ 0x41 ∷ r ∷ 0x40 ∷ n ∷ replicate 7 0

-- a Block of some records, of fewer than 256 bytes
abbrev block : List ℕ → List ℕ
block bytes = 0x20 ∷ length bytes ∷ replicate 3 0 ++ bytes

-- Sub64 of 1 from Rbx, at 5, opens both; what follows is at 17
abbrev behind_sub : List ℕ → List ℕ
behind_sub bytes = block (with_reg 0x07 0x01 1 ++ bytes)

-- the start: Rbx 1, of which Sub64 leaves 0
abbrev rbx : Config
rbx = reg 1 1 zeros

-- kernels of request 2026-07 that read a flag, and their watches
pub watching : List Kernel
watching =
    -- Sub64, and Adcx64 of 0 to Rax: it reads the fill word's carry, so that Rax differs under two fill words, and the watch says where
    row (behind_sub (with_reg 0x05 0x00 0)) (no_cells 0) 0 rbx done (rax 0) 2 (watch false true (Marked 17))
    ∷ row (behind_sub (with_reg 0x05 0x00 0)) (no_cells 1) 0 rbx done (rax 1) 2 (watch false true (Marked 17))
    -- the same with AddCarry64; on the board it closes overflow too
    ∷ row (behind_sub (with_reg 0x04 0x00 0)) (no_cells 0) 0 rbx done (rax 0) 2 (watch false true (Marked 17))
    ∷ row (behind_sub (with_reg 0x04 0x00 0)) (no_cells 1) 0 rbx done (rax 1) 2 (watch false true (Marked 17))
    ∷ row (behind_sub (with_reg 0x04 0x00 0)) (on_board (no_cells 0)) 0 rbx done (rax 0) 2 (watch false false (Marked 17))
    ∷ row (behind_sub (with_reg 0x04 0x00 0)) (on_board (no_cells 1)) 0 rbx done (rax 1) 2 (watch false false (Marked 17))
    -- with Adox64, which reads overflow
    ∷ row (behind_sub (with_reg 0x06 0x00 0)) (no_cells 0) 0 rbx done (rax 0) 2 (watch true false (Marked 17))
    ∷ row (behind_sub (with_reg 0x06 0x00 0)) (no_cells 2048) 0 rbx done (rax 1) 2 (watch true false (Marked 17))
    -- with Add64 of 0 to Rbx between, which closes carry: Rax is the same under both
    ∷ row (behind_sub (with_reg 0x02 0x01 0 ++ with_reg 0x05 0x00 0)) (no_cells 0) 0 rbx done (rax 0) 3 (watch false true Unmarked)
    ∷ row (behind_sub (with_reg 0x02 0x01 0 ++ with_reg 0x05 0x00 0)) (no_cells 1) 0 rbx done (rax 0) 3 (watch false true Unmarked)
    -- it keeps overflow by the base's rule, and closes it by the board's
    ∷ row (behind_sub (with_reg 0x02 0x01 0 ++ with_reg 0x06 0x00 0)) (no_cells 2048) 0 rbx done (rax 1) 3 (watch false false (Marked 29))
    ∷ row (behind_sub (with_reg 0x02 0x01 0 ++ with_reg 0x06 0x00 0)) (on_board (no_cells 2048)) 0 rbx done (rax 0) 3 (watch false false Unmarked)
    -- Xor64 of 0 to Rbx closes both, and Tzcnt64 to Rbx closes carry and opens overflow: fill 2049
    ∷ row (behind_sub (with_reg 0x0b 0x01 0 ++ with_reg 0x05 0x00 0 ++ with_reg 0x06 0x00 0)) (no_cells 2049) 0 rbx done (rax 0) 4 nothing_open
    ∷ row (behind_sub (with_reg 0x1b 0x01 1 ++ with_reg 0x05 0x00 0 ++ with_reg 0x06 0x00 0)) (no_cells 2049) 0 rbx done (rax 1) 4
    (watch false false (Marked 41))
    -- two that read an open carry: the mark is at the first
    ∷ row (behind_sub (with_reg 0x05 0x00 0 ++ with_reg 0x07 0x01 0 ++ with_reg 0x05 0x00 0)) (no_cells 1) 0 rbx done (rax 2) 4 (watch false true (Marked 17))
    -- an Adox64 to Rsp faults, and marks nothing
    ∷ row (behind_sub (with_reg 0x06 0x07 0)) (no_cells 2048) 0 rbx (fault 32 17) (with_flags 2048 zeros) 1 both_open
    -- no step is left for the Adcx64, which marks nothing
    ∷ row_at (behind_sub (with_reg 0x05 0x00 0)) (no_cells 1) 0 1 rbx (stopped 37 17) (with_flags 1 zeros) 1 both_open
    -- Adcx64 reads the start's carry, which is not open
    ∷ row (with_reg 0x05 0x00 0) (no_cells 0) 0 (with_flags 1 zeros) done (rax 1) 1 nothing_open
    -- If Rax is Rax, Adcx64: a comparison opens both
    ∷ row (0x21 ∷ 0x0c ∷ 0x00 ∷ 0x00 ∷ 0x00 ∷ 0x05 ∷ 0x00 ∷ 0x00 ∷ 0x00 ∷ 0x30 ∷ 0x41 ∷ 0x00 ∷ 0x41 ∷ 0x00 ∷ with_reg 0x05 0x00 0 ++ block [])
    (no_cells 1) 0 zeros done (rax 1) 2 (watch false true (Marked 14))
    ∷ []

-- what least fuel is given, a cap in place of fuel, and what it reports
pub record Search : Type 0 where
  pub code : List ℕ
  pub env : Env
  pub cap : ℕ
  pub limit : ℕ
  pub start : Config
  pub report : Reported

-- a row: code, cap, limit, start, what is reported, and with what, how many steps and which watch; no cells, fill 0 and the base's evaluation
abbrev search_at : List ℕ → ℕ → ℕ → Config → Report → Config → ℕ → Watch → Search
search_at code cap limit start how end steps w = record {
  code = code;
  env = no_cells 0;
  cap = cap;
  limit = limit;
  start = start;
  report = record { how = how; config = end; counted = counted steps w };
}

-- While register r differs from 0, a body of fewer than 256 bytes
abbrev while_not_0 : ℕ → List ℕ → List ℕ
while_not_0 r body = 0x22 ∷ length body ∷ replicate 3 0 ++ with_reg 0x31 r 0 ++ body

-- it counts down
abbrev counts_down : ℕ → List ℕ
counts_down r = while_not_0 r (with_reg 0x07 r 1)

-- Rax and Rbx
abbrev rax_rbx : ℕ → ℕ → Config
rax_rbx a b = reg 1 b (rax a)

-- searches of request 2026-09
pub searches : List Search
searches =
    -- P14: 4, and with a larger cap
    search_at count_down 4 100 (rax 3) (least 4 done) (rax 0) 7 both_open
    ∷ search_at count_down 100 100 (rax 3) (least 4 done) (rax 0) 7 both_open
    -- the cap is spent: as with fuel 3, and with none
    ∷ search_at count_down 3 100 (rax 3) (cap_spent 61 0) (rax 0) 6 both_open
    ∷ search_at count_down 0 100 (rax 3) (cap_spent 61 0) (rax 3) 0 nothing_open
    -- P10: a false condition is tested
    ∷ search_at never 9 100 zeros (least 1 done) zeros 1 both_open
    -- no loop: 0, also where a check fails
    ∷ search_at add_one 0 100 (rax 5) (least 0 done) (rax 6) 1 nothing_open
    ∷ search_at (0x18 ∷ 0x00 ∷ 0x00 ∷ 0x05 ∷ []) 9 100 (xmm0 1 2 3 4) (least 0 (fault 35 0)) (xmm0 1 2 3 4) 0 nothing_open
    -- a limit of 2 stops P14 at the second comparison, behind a test that counts, and lowers the answer; so does one of 1, at the first Sub64, and of 0
    ∷ search_at count_down 9 2 (rax 3) (least 2 (stopped 37 5)) (rax 2) 2 both_open
    ∷ search_at count_down 9 1 (rax 3) (least 1 (stopped 37 17)) (rax 3) 1 both_open
    ∷ search_at count_down 9 0 (rax 3) (least 1 (stopped 37 5)) (rax 3) 0 nothing_open
    -- no fuel comes before the limit
    ∷ search_at count_down 0 0 (rax 3) (cap_spent 61 0) (rax 3) 0 nothing_open
    -- a fault in a body: Mov64 of 1 to Rsp
    ∷ search_at (while_not_0 0 (with_reg 0x01 7 1)) 9 100 (rax 3) (least 1 (fault 32 17)) (rax 3) 1 both_open
    -- two loops in a row: the one that needs more decides, wherever it stands
    ∷ search_at (block (counts_down 0 ++ counts_down 1)) 9 100 (rax_rbx 3 1) (least 4 done) zeros 10 both_open
    ∷ search_at (block (counts_down 0 ++ counts_down 1)) 9 100 (rax_rbx 1 3) (least 4 done) zeros 10 both_open
    -- a loop in a loop: its tests in the first round need more than those of the later rounds
    ∷ search_at (while_not_0 0 (block (counts_down 1 ++ with_reg 0x07 0 1))) 9 100 (rax_rbx 2 3) (least 5 done) zeros 13 both_open
    -- and here the last tests need most, the inner loop's in the third round and the one that ends the outer loop
    ∷ search_at (while_not_0 0 (block (counts_down 1 ++ with_reg 0x07 0 1))) 9 100 (rax_rbx 3 1) (least 4 done) zeros 12 both_open
    -- bad code
    ∷ search_at (0x02 ∷ 0x41 ∷ 0x00 ∷ []) 9 100 (rax 3) (not_run 3 3) (rax 3) 0 nothing_open
    ∷ []

-- Running, with all that it computes with opened
unfoldable pub ran : Kernel → Ended
unfolding run_of run_read run_checked run_code rounds decide run_ocmp continue used_up count step check touched open_after reads_open first_mark watched
    cell_of valid_operand eval_operand valid_dst_operand update_operand act run_ins valid_ocmp eval_ocmp base_flags board_flags two_word two_flags
    quads_word quads_flags shifts_word inserts_word
    find_cell eqℤ eval_maddr wild wild_operand valid_dst xmm_at set_xmm
    cf overflow update_cf update_of
    signed_word signed_sum leaves sum_mod sum_carry sub_mod mul_div mul_mod shl_lanes shuffle_lanes shift_quad
    tzcnt zeros_first to_vec from_vec map2 xor ixor ishl nat_to_four two_select two_to_nat four_select four_insert
    followed with_fields read_record read_operands read_with read_ocmp read_part read_codes
    read_block read_if read_while read_structure read_body read_code parse verdict_of check_code
    body_length operand_count judged_fields number_at spelled signed_at operand_at behind operands_at ins_at ocmp_at
    is_tag cell_rule check_from check_cells
ran k = run_of k.code k.env k.fuel (some k.limit) k.start

-- what Running makes of each row
unfoldable pub ends_of : List Kernel → List Ended
ends_of [] = []
ends_of (k ∷ ks) = ran k ∷ ends_of ks

-- what document 01 names for each row, for P11 request 2026-03, for the steps request 2026-04, for P2 on the board request 2026-06, and for the watch
-- request 2026-07
unfoldable pub named : List Kernel → List Ended
named [] = []
named (k ∷ ks) = k.end ∷ named ks

-- the claim of the kernels tried
pub kernels_hold : ends_of kernels ≡ named kernels
unfolding ends_of named kernels ran
kernels_hold = refl

-- and of the limits
pub limited_hold : ends_of limited ≡ named limited
unfolding ends_of named limited ran
limited_hold = refl

-- and of the watch: the kernel of the first two rows has another Rax under each of its fill words
pub watching_holds : ends_of watching ≡ named watching
unfolding ends_of named watching ran
watching_holds = refl

-- what is reported of each row of searches
unfoldable pub reports_of : List Search → List Reported
reports_of [] = []
reports_of (k ∷ ks) = least_fuel_of k.code k.env k.cap (some k.limit) k.start ∷ reports_of ks

-- what is named for each
unfoldable pub named_reports : List Search → List Reported
named_reports [] = []
named_reports (k ∷ ks) = k.report ∷ named_reports ks

-- the claim of the searches
pub searches_hold : reports_of searches ≡ named_reports searches
unfolding reports_of named_reports searches least_fuel_of first_unspent is_spent ran
searches_hold = refl

-- Add64 Rax, 1, as bytes and as a tree; the first eleven bytes alone give 3 at 3
pub code_is : parse add_one ≡ got (Ins 0 (Add64 (OReg Rax) (OConst 1))) 12
unfolding ran
code_is = refl

-- the first eleven bytes alone
pub code_cut : check_code (0x02 ∷ 0x41 ∷ 0x00 ∷ 0x40 ∷ 0x01 ∷ 0x00 ∷ 0x00 ∷ 0x00 ∷ 0x00 ∷ 0x00 ∷ 0x00 ∷ []) ≡ refused 3 3
unfolding ran
code_cut = refl

-- checks of cells tagged 64, each of value 0, at these addresses
unfoldable pub checked : List (List ℕ) → List Verdict
unfolding ran
checked [] = []
checked (xs ∷ xss) = check_cells xs (replicate (length xs) 64) (replicate (length xs) 0) ∷ checked xss

-- at 0 and 7: 15 at 1; at 0 and 8: accepted; at 2^64-8 accepted, at 2^64-7 not
pub cells_hold : checked ((0 ∷ 7 ∷ []) ∷ (0 ∷ 8 ∷ []) ∷ (18446744073709551608 ∷ []) ∷ (18446744073709551609 ∷ []) ∷ [])
    ≡ refused 15 1 ∷ accepted ∷ accepted ∷ refused 15 0 ∷ []
unfolding checked
cells_hold = refl

-- the run of the job: Add64 of Rax, 5, to a cell at 4096 tagged 64 with value 7
pub job : List Kernel
job =
    row_at (0x02 ∷ 0x42 ∷ 0x00 ∷ 0x10 ∷ 0x00 ∷ 0x00 ∷ 0x00 ∷ 0x00 ∷ 0x00 ∷ 0x00 ∷ 0x41 ∷ 0x00 ∷ [])
    (one_cell 4096) 0 largest_limit (with_values (7 ∷ []) (rax 5)) done (with_values (12 ∷ []) (rax 5)) 1 nothing_open
    ∷ []

-- done, 1 step, flags 0, Rax 5, the cell 12, and all else 0
pub job_holds : ends_of job ≡ named job
unfolding ends_of named job ran
job_holds = refl

-- the same job as its 435 bytes: fuel, fill and flags; Rax and the other registers; the xmm words; one cell; the code
pub job_bytes : List ℕ
job_bytes =
    replicate 20 0
    ++ 0x05 ∷ replicate 127 0
    ++ replicate 256 0
    ++ 0x01 ∷ 0x00 ∷ []
    ++ 0x00 ∷ 0x10 ∷ 0x00 ∷ 0x00 ∷ 0x00 ∷ 0x00 ∷ 0x00 ∷ 0x00 ∷ 64 ∷ 0x07 ∷ replicate 7 0
    ++ 0x02 ∷ 0x42 ∷ 0x00 ∷ 0x10 ∷ 0x00 ∷ 0x00 ∷ 0x00 ∷ 0x00 ∷ 0x00 ∷ 0x00 ∷ 0x41 ∷ 0x00 ∷ []

-- what it prints, in bytes: "done", "steps 1", "flags 0", "Rax 5" and "cell 4096 64 12", each with a line feed
pub job_text : List ℕ
job_text =
    100 ∷ 111 ∷ 110 ∷ 101 ∷ 10 ∷ []
    ++ 115 ∷ 116 ∷ 101 ∷ 112 ∷ 115 ∷ 32 ∷ 49 ∷ 10 ∷ []
    ++ 102 ∷ 108 ∷ 97 ∷ 103 ∷ 115 ∷ 32 ∷ 48 ∷ 10 ∷ []
    ++ 82 ∷ 97 ∷ 120 ∷ 32 ∷ 53 ∷ 10 ∷ []
    ++ 99 ∷ 101 ∷ 108 ∷ 108 ∷ 32 ∷ 52 ∷ 48 ∷ 57 ∷ 54 ∷ 32 ∷ 54 ∷ 52 ∷ 32 ∷ 49 ∷ 50 ∷ 10 ∷ []

-- the five lines
pub job_prints : output job_bytes ≡ job_text
unfolding ran job_bytes job_text output check_job end_checked numbers render first_line reg_lines xmm_lines cell_lines name_of digits
job_prints = refl
