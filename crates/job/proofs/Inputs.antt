-- What a job's bytes give the run is an input: numbers of bytes are words of their size. Assumes nothing.
use Prim.Native.Nat.{ℕ, zero, suc, ◌+◌, ◌^◌, ◌<◌}
use mathlib.Core.List.{List}
use native.Mathlib.Nat.{one-le-pow, zero-lt-suc}
use native.Mathlib.Omega.{arith}
use lib.ListN.{get_or}
use lib.Seq.{get_or-drop}
use Rattle.machine.specs.Registers.{WordsBelow}
use Rattle.code.specs.WellFormed.{Bytes}
use Rattle.code.proofs.NumberLaws.{number_lt}
use Rattle.eval.specs.Inputs.{IsInput}
use Rattle.job.specs.Job.{numbers, code_at, code_of, state_of, setting_of}
use Rattle.job.proofs.Outputs.{length_numbers}

module _ (bs : List ℕ) (bytes : Bytes bs) where
  numbers_small : (size stride n at i : ℕ) → get_or (numbers size stride n bs at) i 0 < 256 ^ size
  unfolding numbers
  numbers_small size stride zero at i = one-le-pow size 256 (zero-lt-suc 255)
  numbers_small size stride (suc n) at zero = number_lt bs bytes size at
  numbers_small size stride (suc n) at (suc i) = numbers_small size stride n (at + stride) i

  numbers_words : (size stride n at : ℕ) → WordsBelow n (256 ^ size) (numbers size stride n bs at)
  numbers_words size stride n at = record { many = length_numbers size stride n bs at; small = numbers_small size stride n at }

  pub job_input : IsInput (code_of bs) (state_of bs) (setting_of bs)
  job_input =
      record {
        bytes = λ i. rw get_or-drop (bytes (code_at bs + i));
        state =
            record {
              regs_words = numbers_words 8 8 16 20;
              xmms_words = numbers_words 4 4 64 148;
              flags_word = number_lt bs bytes 8 12;
            };
        fill_word = number_lt bs bytes 8 4;
        limit_word = omega arith;
      }
