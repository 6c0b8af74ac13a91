-- The shapes of an instruction's end, as checks in a row: what `run_ins` comes to where it is unfolded. Assumes nothing.
use Prim.Native.Nat.{ℕ}
use mathlib.Core.Path.{◌≡◌, refl, ap, ◌∙◌}
use lib.Dec.{ltb}
use Rattle.words.specs.Words.{Four}
use Rattle.machine.specs.Registers.{set_xmm}
use Rattle.machine.specs.Operands.{wild_or}
use Rattle.machine.specs.declared.Operand.{Operand}
use Rattle.machine.specs.declared.Operand.TheVariants.{OConst, OReg, OMem}
use Rattle.eval.specs.Config.{Env, Config, with_flags, with_xmms, End, ends, done, check}
use Rattle.eval.specs.Instructions.{valid_operand, eval_operand, valid_dst_operand, update_operand}

module _ (env : Env) (p : ℕ) where
  -- the check of a source
  abbrev pub read_check : Operand → Config → End → End
  read_check o s k = check (valid_operand env o s) (wild_or 31 o s.regs) p s k

  -- the check of a destination
  abbrev pub write_check : Operand → Config → End → End
  write_check o s k = check (valid_dst_operand env o s) (wild_or 32 o s.regs) p s k

  -- the checks of a shift amount
  abbrev pub amount_check : Operand → Config → End → End
  amount_check o s k = read_check o s (check (ltb (eval_operand env o s) 64) 33 p s k)

  -- a word for a destination, and flags
  abbrev pub write : Operand → ℕ → ℕ → Config → End
  write dst v flags s = write_check dst s (ends done (with_flags flags (update_operand env dst v s)))

  -- a quad for an xmm, and flags
  abbrev pub write_xmm : ℕ → Four ℕ → ℕ → Config → End
  write_xmm x q flags s = ends done (with_flags flags (with_xmms (set_xmm s.xmms x q) s))

  -- the two halves of Mulx64
  abbrev pub write_halves : Operand → Operand → ℕ → ℕ → Config → End
  write_halves dst_hi dst_lo hi lo s =
      let t = update_operand env dst_lo lo s in
      write_check dst_lo s
      (check (valid_dst_operand env dst_hi t) (wild_or 32 dst_hi t.regs) p s (ends done (with_flags s.flags (update_operand env dst_hi hi t))))

-- a destination that is written leaves the flags
module _ (env : Env) where
  pub flags_kept : (o : Operand) (v : ℕ) (s : Config) → update_operand env o v s ≡ with_flags s.flags (update_operand env o v s)
  unfolding update_operand
  flags_kept (OConst n) v s = refl
  flags_kept (OReg r) v s = refl
  flags_kept (OMem m) v s = refl

  pub halves_kept :
      (o u : Operand) (v w : ℕ) (s : Config) → let t = update_operand env o v s in
      update_operand env u w t ≡ with_flags s.flags (update_operand env u w t)
  halves_kept o u v w s =
      let t = update_operand env o v s in
      flags_kept u w t ∙ ap (λ (x : Config). with_flags x.flags (update_operand env u w t)) (flags_kept o v s)
