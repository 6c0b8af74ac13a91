-- The byte machine where a run would fault or be spent: one table of inputs and of what is seen at the end, and one claim.
use Rattle.std.specs.Prelude.{ℕ, ◌%◌, ◌≡◌, refl, List, [], ◌∷◌, negsuc, get_or, replicate}
use Rattle.std.proofs.Math.Option.{Option, none, some}
use Rattle.words.specs.Bits.{ishl}
use Rattle.words.specs.Types.{shl_lanes, shift_quad}
use Rattle.machine.specs.Registers.{Rax, Rsp, xmm_at, set_xmm}
use Rattle.machine.specs.Operands.{eval_maddr}
use Rattle.machine.specs.Bytes.{byte, wrap, spelled, read_bytes, distance, write_bytes}
use Rattle.machine.specs.declared.Maddr.TheVariants.{MConst, MReg}
use Rattle.machine.specs.declared.Operand.TheVariants.{OConst, OReg, OMem}
use Rattle.code.specs.declared.tree.Instruction.TheVariants.{Mov64, Shl64, Pslld, VPSLLDQ}
use Rattle.code.specs.declared.tree.Ocmp.TheVariants.{OEq, ONe}
use Rattle.code.specs.Tree.{Code, Ins, Block, While, ⟨⟩}
use Rattle.eval.specs.FlagRule.{base_rule}
use Rattle.bytemachine.specs.ByteMachine.{BState, read, write, exec_ins, test, branch, go_on, loop, exec, execs}

-- code, fuel, and what is seen at the end; none where the machine halts out of fuel
pub record Example : Type 0 where
  pub code : Code
  pub fuel : ℕ
  pub shown : Option (List ℕ)

-- Rax 1, xmm 0 (1,2,3,4), the byte at x is x modulo 256, all else 0; fill 0, F*'s flag rule
abbrev start : BState
start = record { regs = 1 ∷ replicate 15 0; xmms = 1 ∷ 2 ∷ 3 ∷ 4 ∷ replicate 60 0; flags = 0; bytes = λ x. x % 256 }

-- Rax, Rsp, the words of xmm 0, and the bytes at 2^64-3 and at 4
unfoldable pub seen : Option BState → Option (List ℕ)
seen none = none
seen (some b) =
    some (get_or b.regs 0 0 ∷ get_or b.regs 7 0 ∷ get_or b.xmms 0 0 ∷ get_or b.xmms 1 0 ∷ get_or b.xmms 2 0 ∷ get_or b.xmms 3 0
    ∷ b.bytes 18446744073709551613 ∷ b.bytes 4 ∷ [])

-- a row of the table
abbrev example : Code → ℕ → Option (List ℕ) → Example
example code fuel shown = record { code = code; fuel = fuel; shown = shown }

-- the table
pub examples : List Example
examples =
    -- a While met at fuel 0 halts the machine, whatever its condition
    example (While 0 5 (ONe (OReg Rax) (OReg Rax)) (Block 10 ⟨⟩)) 0 none
    ∷ example (While 0 5 (OEq (OReg Rax) (OReg Rax)) (Block 10 ⟨⟩)) 3 none
    -- it ends behind a While with a false condition
    ∷ example (While 0 5 (ONe (OReg Rax) (OReg Rax)) (Block 10 ⟨⟩)) 1 (some (1 ∷ 0 ∷ 1 ∷ 2 ∷ 3 ∷ 4 ∷ 253 ∷ 4 ∷ []))
    -- Rsp is written like any register
    ∷ example (Ins 0 (Mov64 (OReg Rsp) (OConst 9))) 0 (some (1 ∷ 9 ∷ 1 ∷ 2 ∷ 3 ∷ 4 ∷ 253 ∷ 4 ∷ []))
    -- a constant as destination takes nothing
    ∷ example (Ins 0 (Mov64 (OConst 5) (OConst 9))) 0 (some (1 ∷ 0 ∷ 1 ∷ 2 ∷ 3 ∷ 4 ∷ 253 ∷ 4 ∷ []))
    -- a shift by the width or more gives 0
    ∷ example (Ins 0 (Shl64 (OReg Rax) (OConst 64))) 0 (some (0 ∷ 0 ∷ 1 ∷ 2 ∷ 3 ∷ 4 ∷ 253 ∷ 4 ∷ []))
    ∷ example (Ins 0 (Pslld 0 32)) 0 (some (1 ∷ 0 ∷ 0 ∷ 0 ∷ 0 ∷ 0 ∷ 253 ∷ 4 ∷ []))
    -- VPSLLDQ acts as by 4
    ∷ example (Ins 0 (VPSLLDQ 0 0 5)) 0 (some (1 ∷ 0 ∷ 0 ∷ 1 ∷ 2 ∷ 3 ∷ 253 ∷ 4 ∷ []))
    -- eight bytes from 2^64-4 up are read, and from 1-4 up are written, low first, each address modulo 2^64
    ∷ example (Ins 0 (Mov64 (OReg Rax) (OMem (MConst 18446744073709551612)))) 0
    (some (0x0302_0100_fffe_fdfc ∷ 0 ∷ 1 ∷ 2 ∷ 3 ∷ 4 ∷ 253 ∷ 4 ∷ []))
    ∷ example (Ins 0 (Mov64 (OMem (MReg Rax (negsuc 3))) (OConst 0x0807_0605_0403_0201))) 0 (some (1 ∷ 0 ∷ 1 ∷ 2 ∷ 3 ∷ 4 ∷ 1 ∷ 8 ∷ []))
    ∷ []

-- what the machine shows for each row
unfoldable pub shown_of : List Example → List (Option (List ℕ))
unfolding exec execs exec_ins test branch go_on loop read write seen eval_maddr byte wrap spelled read_bytes distance write_bytes
    xmm_at set_xmm ishl shl_lanes shift_quad
shown_of [] = []
shown_of (e ∷ es) = seen (exec 0 base_rule e.code e.fuel start) ∷ shown_of es

-- what is named for each row
unfoldable pub named : List Example → List (Option (List ℕ))
named [] = []
named (e ∷ es) = e.shown ∷ named es

-- the one claim
pub examples_hold : shown_of examples ≡ named examples
unfolding shown_of named examples
examples_hold = refl
