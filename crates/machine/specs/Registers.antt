-- The registers and the xmm words of a state: `regs_t` and `xmms_t` as lists.
use Rattle.std.specs.Prelude.{◌≡◌, ℕ, ◌+◌, ◌*◌, ◌^◌, ◌<◌, List, length, slice_index, slice_set}
use Rattle.words.specs.Words.{Four, mkfour}
use Rattle.machine.specs.declared.reg.Reg.{Reg}
use Rattle.machine.specs.declared.State.{State}

-- the register of a number
abbrev pub reg : ℕ → Reg
reg n = record { number = n }

-- the factor and the low half of Mul64
abbrev pub Rax : Reg
Rax = reg 0

-- the second factor of Mulx64, and the high half of Mul64
abbrev pub Rdx : Reg
Rdx = reg 3

-- no destination
abbrev pub Rsp : Reg
Rsp = reg 7

-- `s.regs r`
abbrev pub reg_at : List ℕ → Reg → ℕ
reg_at regs r = slice_index regs r.number

-- the registers with v at r
abbrev pub set_reg : List ℕ → Reg → ℕ → List ℕ
set_reg regs r v = slice_set regs r.number v

-- `s.xmms i`: the four words at 4 * i
unfoldable pub xmm_at : List ℕ → ℕ → Four ℕ
xmm_at xmms i = mkfour (slice_index xmms (4 * i)) (slice_index xmms (4 * i + 1)) (slice_index xmms (4 * i + 2)) (slice_index xmms (4 * i + 3))

-- the xmm words with q at xmm i
unfoldable pub set_xmm : List ℕ → ℕ → Four ℕ → List ℕ
set_xmm xmms i q =
    slice_set (slice_set (slice_set (slice_set xmms (4 * i) q.lo0) (4 * i + 1) q.lo1) (4 * i + 2) q.hi2) (4 * i + 3) q.hi3

-- n words, each below a bound
pub record WordsBelow (n bound : ℕ) (ws : List ℕ) : Type 0 where
  pub many : length ws ≡ n
  pub small : (i : ℕ) → slice_index ws i < bound

-- what every value of the type State meets
pub record IsState (s : State) : Type 0 where
  pub regs_words : WordsBelow 16 (2 ^ 64) s.regs
  pub xmms_words : WordsBelow 64 (2 ^ 32) s.xmms
  pub flags_word : s.flags < 2 ^ 64
