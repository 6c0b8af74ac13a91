-- The watch: whether the end of a run can hang on the fill word. It says which of carry and overflow are open, the fill word's, and where an open one was
-- read first. It stands with what is counted: no instruction knows of it.
use Rattle.std.specs.Prelude.{ℕ, Option, Some, None, Bool, true, false, cond, ◌&&◌, ◌||◌, [], ◌∷◌, eqb}
use Rattle.code.specs.Families.{among}
use Rattle.eval.specs.FlagRule.{Touch, keeps, opens, closes, FlagRule}
use Rattle.eval.specs.declared.answer.Watch.{Watch}

-- the mark: the place of the first instruction that has read an open flag, if one has
abbrev pub Mark : Type 0
Mark = Option ℕ

pattern abbrev pub Unmarked : Mark
Unmarked = None

pattern abbrev pub Marked : ℕ → Mark
Marked p = Some p

-- which of carry and overflow are open, and the mark
abbrev pub watch : Bool → Bool → Mark → Watch
watch carry overflow mark = record { carry = carry; overflow = overflow; mark = mark }

-- where a run begins: the start's flags are not open, and nothing was read
abbrev pub nothing_open : Watch
nothing_open = watch false false Unmarked

-- what becomes of carry and of overflow
pub record Touches : Type 0 where
  pub carry : Touch
  pub overflow : Touch

-- both
abbrev touches : Touch → Touch → Touches
touches carry overflow = record { carry = carry; overflow = overflow }

-- the table, by the kind byte of what completes: Add64 and AddCarry64; Adcx64; Adox64; Xor64 and Popcnt64; Lzcnt64 and Tzcnt64; Sub64, Mul64, IMul64,
-- And64, Shr64, Shl64 and Paddd; the comparisons; all others
unfoldable pub touched : FlagRule → ℕ → Touches
touched rule k =
    cond (among (0x02 ∷ 0x04 ∷ []) k) (touches closes rule.overflow)
    (cond (eqb k 0x05) (touches closes keeps)
    (cond (eqb k 0x06) (touches keeps closes)
    (cond (among (0x0b ∷ 0x19 ∷ []) k) (touches closes closes)
    (cond (among (0x1a ∷ 0x1b ∷ []) k) (touches closes opens)
    (cond (among (0x07 ∷ 0x08 ∷ 0x0a ∷ 0x0c ∷ 0x0d ∷ 0x0e ∷ 0x0f ∷ []) k) (touches opens opens)
    (cond (among (0x30 ∷ 0x31 ∷ 0x32 ∷ 0x33 ∷ 0x34 ∷ 0x35 ∷ []) k) (touches opens opens)
    (touches keeps keeps)))))))

-- whether carry or overflow is open, behind what touches it
unfoldable pub open_after : Touch → Bool → Bool
open_after keeps was = was
open_after opens was = true
open_after closes was = false

-- whether an instruction reads an open one: AddCarry64 and Adcx64 read carry, Adox64 overflow
unfoldable pub reads_open : ℕ → Watch → Bool
reads_open k w = among (0x04 ∷ 0x05 ∷ []) k && w.carry || eqb k 0x06 && w.overflow

-- the mark behind an instruction at p that reads an open one, or does not: that of the first that has
unfoldable pub first_mark : Bool → ℕ → Mark → Mark
first_mark false p mark = mark
first_mark true p Unmarked = Marked p
first_mark true p (Marked q) = Marked q

-- the watch behind an instruction or a comparison of kind k that has completed at p
unfoldable pub watched : FlagRule → ℕ → ℕ → Watch → Watch
watched rule k p w =
    watch (open_after (touched rule k).carry w.carry) (open_after (touched rule k).overflow w.overflow) (first_mark (reads_open k w) p w.mark)
