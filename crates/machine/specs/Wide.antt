-- Numbers of two words.
use Rattle.std.specs.Prelude.{ℕ, ◌+◌, ◌*◌, ◌^◌}
use Rattle.machine.specs.declared.wide.Wide.{Wide}

-- the number that two words spell
abbrev pub number : Wide → ℕ
number w = w.high * 2 ^ 64 + w.low
