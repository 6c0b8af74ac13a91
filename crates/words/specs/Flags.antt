-- The flags word of X64.Semantics_s: carry in bit 0, overflow in bit 11.
use Rattle.std.specs.Prelude.{ℕ, ◌+◌, ◌-◌, ◌/◌, ◌%◌, Bool, true, false, cond, ◌==◌}

-- whether carry is set
unfoldable pub cf : ℕ → Bool
cf flags = flags % 2 == 1

-- whether overflow is set
unfoldable pub overflow : ℕ → Bool
overflow flags = (flags / 2048) % 2 == 1

-- the flags with carry as told
unfoldable pub update_cf : ℕ → Bool → ℕ
update_cf flags true = cond (cf flags) flags (flags + 1)
update_cf flags false = cond (cf flags) (flags - 1) flags

-- the flags with overflow as told
unfoldable pub update_of : ℕ → Bool → ℕ
update_of flags true = cond (overflow flags) flags (flags + 2048)
update_of flags false = cond (overflow flags) (flags - 2048) flags
