-- What every code, start and setting of the types meets.
use Rattle.std.specs.Prelude.{ℕ, ◌<◌, ◌^◌, List}
use Rattle.machine.specs.Registers.{IsState}
use Rattle.machine.specs.declared.State.{State}
use Rattle.code.specs.WellFormed.{Bytes}
use Rattle.eval.specs.declared.answer.Setting.{Setting}

-- code of bytes, a start of words, a fill word, and a limit that is a word
pub record IsInput (code : List ℕ) (start : State) (setting : Setting) : Type 0 where
  pub bytes : Bytes code
  pub state : IsState start
  pub fill_word : setting.fill < 2 ^ 64
  pub limit_word : setting.limit < 2 ^ 64
