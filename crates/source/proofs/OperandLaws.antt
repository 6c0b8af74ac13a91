-- Operands in a run and in the source. Both take the address from the same registers, and the memory laws relate cell and map there.
use Prim.Native.Nat.{ℕ, ◌≤◌}
use mathlib.Core.Path.{◌≡◌, refl, ap}
use mathlib.Core.Bool.{Bool, true, false, ◌&&◌}
use mathlib.Core.List.{List, [], ◌∷◌}
use mathlib.Core.Option.{Option, none, some}
use native.Mathlib.Omega.{arith}
use lib.IntN.{ℤ}
use lib.ListN.{length, length-set}
use Rattle.machine.specs.Operands.{eval_maddr, unread_number, valid_dst}
use Rattle.machine.specs.Cells.{find_cell, cell_value, set_cell, is_cell}
use Rattle.machine.specs.Memory.{Memory, LoadsMem64, memory_of, store_mem64}
use Rattle.machine.specs.declared.Operand.{Operand}
use Rattle.machine.specs.declared.Operand.TheVariants.{OConst, OReg, OMem}
use Rattle.machine.proofs.MemoryLaws.{valid_is_cell, load_at, memory_store}
use Rattle.code.specs.declared.tree.Ocmp.{Ocmp}
use Rattle.code.specs.declared.tree.Ocmp.TheVariants.{OEq, ONe, OLe, OGe, OLt, OGt}
use Rattle.code.specs.Layout.{ocmp_layout}
use Rattle.code.specs.WellFormed.{WfOperand, WfOcmp}
use Rattle.code.proofs.Accepted.{WfTwo}
use Rattle.eval.specs.Config.{Env, Config}
use Rattle.eval.specs.Instructions as Run
use Rattle.source.specs.Source as Source
use Rattle.source.specs.Source.{with_mem}
use Rattle.source.specs.Log.{ocmp_number}
use Rattle.source.specs.Correspondence.{IntToNat64, state_of}

-- every cell has a value
abbrev pub Held : Env → Config → Type 0
Held env s = length env.addresses ≤ length s.values

pub both : (a b : Bool) → a && b ≡ true → (a ≡ true) × (b ≡ true)
both true true e = (refl, refl)
both true false e = (refl, e)
both false b e = (e, absurd (let n : ◌≡◌ {A = ℕ} 0 1 = cc in omega arith))

module _ (env : Env) where
  pub valid_operand_is : (o : Operand) (s : Config) → Held env s → Source.valid_operand o (state_of env s) ≡ Run.valid_operand env o s
  unfolding Source.valid_operand Run.valid_operand Run.cell_of
  valid_operand_is (OConst n) s h = refl
  valid_operand_is (OReg r) s h = refl
  valid_operand_is (OMem m) s h = valid_is_cell env.addresses env.tags s.values (eval_maddr m s.regs) h

  pub valid_dst_is : (o : Operand) (s : Config) → Held env s → Source.valid_dst_operand o (state_of env s) ≡ Run.valid_dst_operand env o s
  unfolding Source.valid_dst_operand Run.valid_dst_operand
  valid_dst_is o s h = ap (λ b. b && valid_dst o) (valid_operand_is o s h)

  -- a destination can be read
  pub dst_read : (o : Operand) (s : Config) → Run.valid_dst_operand env o s ≡ true → Run.valid_operand env o s ≡ true
  unfolding Run.valid_dst_operand
  dst_read o s e = (both (Run.valid_operand env o s) (valid_dst o) e).0

  -- a write to a destination
  pub update_is : (o : Operand) (v : ℕ) (s : Config) → Held env s → Run.valid_dst_operand env o s ≡ true
      → Source.update_operand_preserve_flags' o v (state_of env s) ≡ state_of env (Run.update_operand env o v s)
  unfolding Source.update_operand_preserve_flags' Run.update_operand Run.valid_dst_operand Run.valid_operand Run.cell_of valid_dst
  update_is (OConst n) v s h e = cc
  update_is (OReg r) v s h e = refl
  update_is (OMem m) v s h e =
      ap (λ (x : Memory). with_mem x (state_of env s)) (go (find_cell env.addresses env.tags at) refl (both _ _ e).0)
    where
      at : ℤ
      at = eval_maddr m s.regs

      go : (k : Option ℕ) → find_cell env.addresses env.tags at ≡ k → is_cell k ≡ true
          → store_mem64 at v (memory_of env.addresses env.tags s.values)
          ≡ memory_of env.addresses env.tags (set_cell s.values k v)
      go none p f = absurd (let n : ◌≡◌ {A = ℕ} 0 1 = cc in omega arith)
      go (some i) p f = memory_store env.addresses env.tags s.values at i v p h

  pub update_held : (o : Operand) (v : ℕ) (s : Config) → Held env s → Held env (Run.update_operand env o v s)
  unfolding Run.update_operand
  update_held (OConst n) v s h = h
  update_held (OReg r) v s h = h
  update_held (OMem m) v s h = go (Run.cell_of env m s)
    where
      go : (k : Option ℕ) → length env.addresses ≤ length (set_cell s.values k v)
      go none = h
      go (some i) = rw length-set h

  module _ (load_mem64 : ℤ → Memory → ℕ) (loads : LoadsMem64 load_mem64) (int_to_nat64 : ℤ → ℕ) (ints : IntToNat64 int_to_nat64) where
    -- an operand that can be read has one value in both
    pub eval_operand_is : (o : Operand) (s : Config) → WfOperand o → Held env s → Run.valid_operand env o s ≡ true
        → Source.eval_operand load_mem64 int_to_nat64 env.fill o (state_of env s) ≡ Run.eval_operand env o s
    unfolding Source.eval_operand Run.eval_operand Run.valid_operand Run.cell_of
    eval_operand_is (OConst n) s fits h e = ints n fits
    eval_operand_is (OReg r) s fits h e = refl
    eval_operand_is (OMem m) s fits h e = go (find_cell env.addresses env.tags (eval_maddr m s.regs)) refl e
      where
        go : (k : Option ℕ) → find_cell env.addresses env.tags (eval_maddr m s.regs) ≡ k → is_cell k ≡ true
            → load_mem64 (eval_maddr m s.regs) (memory_of env.addresses env.tags s.values) ≡ cell_value s.values k
        go none p f = cc
        go (some i) p f = load_at load_mem64 loads env.addresses env.tags s.values (eval_maddr m s.regs) i p h

    unread_is : (os : List Operand) (s : Config) → Held env s
        → unread_number (λ o. Source.valid_operand o (state_of env s)) s.regs os ≡ unread_number (λ o. Run.valid_operand env o s) s.regs os
    unfolding unread_number
    unread_is [] s h = refl
    unread_is (o ∷ os) s h = rw (valid_operand_is o s h, unread_is os s h)

    pub valid_ocmp_is : (c : Ocmp) (s : Config) → Held env s → Source.valid_ocmp c (state_of env s) ≡ Run.valid_ocmp env c s
    unfolding Source.valid_ocmp Run.valid_ocmp
    valid_ocmp_is (OEq a b) s h = rw (valid_operand_is a s h, valid_operand_is b s h)
    valid_ocmp_is (ONe a b) s h = rw (valid_operand_is a s h, valid_operand_is b s h)
    valid_ocmp_is (OLe a b) s h = rw (valid_operand_is a s h, valid_operand_is b s h)
    valid_ocmp_is (OGe a b) s h = rw (valid_operand_is a s h, valid_operand_is b s h)
    valid_ocmp_is (OLt a b) s h = rw (valid_operand_is a s h, valid_operand_is b s h)
    valid_ocmp_is (OGt a b) s h = rw (valid_operand_is a s h, valid_operand_is b s h)

    -- and the number of its check is one in both
    pub ocmp_number_is : (c : Ocmp) (s : Config) → Held env s → ocmp_number c (state_of env s) ≡ Run.ocmp_number env c s
    unfolding ocmp_number Run.ocmp_number
    ocmp_number_is c s h = unread_is (ocmp_layout c).operands s h

    -- the values of two operands that can be read
    module _ (a b : Operand) (s : Config) (fits : WfTwo a b) (h : Held env s) (e : Run.valid_operand env a s && Run.valid_operand env b s ≡ true) where
      fst_is : Source.eval_operand load_mem64 int_to_nat64 env.fill a (state_of env s) ≡ Run.eval_operand env a s
      fst_is = eval_operand_is a s fits.0 h (both (Run.valid_operand env a s) (Run.valid_operand env b s) e).0

      snd_is : Source.eval_operand load_mem64 int_to_nat64 env.fill b (state_of env s) ≡ Run.eval_operand env b s
      snd_is = eval_operand_is b s fits.1 h (both (Run.valid_operand env a s) (Run.valid_operand env b s) e).1

    pub eval_ocmp_is : (c : Ocmp) (s : Config) → WfOcmp c → Held env s → Run.valid_ocmp env c s ≡ true
        → Source.eval_ocmp load_mem64 int_to_nat64 env.fill (state_of env s) c ≡ Run.eval_ocmp env c s
    unfolding WfOcmp Source.eval_ocmp Run.eval_ocmp Run.valid_ocmp
    eval_ocmp_is (OEq a b) s fits h e = rw (fst_is a b s fits h e, snd_is a b s fits h e)
    eval_ocmp_is (ONe a b) s fits h e = rw (fst_is a b s fits h e, snd_is a b s fits h e)
    eval_ocmp_is (OLe a b) s fits h e = rw (fst_is a b s fits h e, snd_is a b s fits h e)
    eval_ocmp_is (OGe a b) s fits h e = rw (fst_is a b s fits h e, snd_is a b s fits h e)
    eval_ocmp_is (OLt a b) s fits h e = rw (fst_is a b s fits h e, snd_is a b s fits h e)
    eval_ocmp_is (OGt a b) s fits h e = rw (fst_is a b s fits h e, snd_is a b s fits h e)
