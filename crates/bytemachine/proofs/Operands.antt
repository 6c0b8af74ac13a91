-- A configuration as a state of the byte machine: its 64-bit cells laid over the memory that the machine began with. What a run may read and
-- write, the machine reads and writes alike, since a checked memory operand has its cell.
use mathlib.Core.Path.{◌≡◌, refl, sym, ap}
use mathlib.Core.Bool.{Bool, true, false, ◌&&◌}
use mathlib.Core.Option.{Option, none, some}
use Prim.Native.Nat.{ℕ, ◌^◌, ◌<◌}
use native.Mathlib.Omega.{arith}
use lib.IntN.{ℤ}
use lib.ListN.{length, get_or}
use lib.Seq.{get_or-set_other}
use borrow.Author.Tests.{eqb-false, not-true}
use Rattle.words.specs.Words.{Four}
use Rattle.words.proofs.LaneLaws.{Quad}
use Rattle.machine.specs.Registers.{xmm_at, set_xmm, WordsBelow}
use Rattle.machine.specs.Operands.{eval_maddr, valid_dst}
use Rattle.machine.specs.Cells.{find_cell, cell_value, set_cell, is_cell}
use Rattle.machine.specs.Bytes.{ByteMemory, wrap, read_bytes, write_bytes}
use Rattle.machine.specs.declared.Operand.{Operand}
use Rattle.machine.specs.declared.Operand.TheVariants.{OConst, OReg, OMem}
use Rattle.machine.proofs.FindLaws.{find_hit}
use Rattle.machine.proofs.RegisterLaws.{words_set, words_set_xmm, xmm_below}
use Rattle.machine.proofs.Accepting.{Accepted, store_accepted}
use Rattle.machine.proofs.ByteLaws.{over, over_read, over_write}
use Rattle.code.specs.WellFormed.{WfOperand}
use Rattle.eval.specs.Config.{Env, Config, with_flags, with_xmms}
use Rattle.eval.specs.Instructions.{cell_of, valid_operand, eval_operand, valid_dst_operand, update_operand}
use Rattle.bytemachine.specs.ByteMachine.{BState, read}
use Rattle.bytemachine.specs.ByteMachine.{write as put_to, with_flags as flagged}

-- what a run keeps: words are words, and the cells are accepted ones
pub record Kept (env : Env) (s : Config) : Type 0 where
  pub regs_words : WordsBelow 16 (2 ^ 64) s.regs
  pub xmms_words : WordsBelow 64 (2 ^ 32) s.xmms
  pub cells : Accepted env.addresses env.tags s.values

pub xmm_quad : {env : Env} {s : Config} (x : ℕ) → Kept env s → Quad (xmm_at s.xmms x)
xmm_quad {s = s} x k = xmm_below 64 s.xmms x k.xmms_words

pub with_flags_kept : {env : Env} {s : Config} (f : ℕ) → Kept env s → Kept env (with_flags f s)
with_flags_kept f k = record { regs_words = k.regs_words; xmms_words = k.xmms_words; cells = k.cells }

pub set_xmm_kept : {env : Env} {s : Config} (x : ℕ) (q : Four ℕ) → Quad q → Kept env s → Kept env (with_xmms (set_xmm s.xmms x q) s)
set_xmm_kept {s = s} x q h k =
    record { regs_words = k.regs_words; xmms_words = words_set_xmm 64 s.xmms x q h k.xmms_words; cells = k.cells }

-- the value of a 64-bit cell is a word
cell_small : (env : Env) (s : Config) (z : ℤ) (i : ℕ) → find_cell env.addresses env.tags z ≡ some i → Kept env s → get_or s.values i 0 < 2 ^ 64
cell_small env s z i e k =
    let h = find_hit env.addresses env.tags z i e in
    let l : i < length s.values = omega (arith, h.inside, k.cells.same.values) in
    rw h.tag at (k.cells.fitting i l)

pub operand_small : (env : Env) (o : Operand) (s : Config) → WfOperand o → Kept env s → eval_operand env o s < 2 ^ 64
unfolding eval_operand cell_of
operand_small env (OConst n) s h k = h
operand_small env (OReg r) s h k = k.regs_words.small r.number
operand_small env (OMem m) s h k = go (find_cell env.addresses env.tags (eval_maddr m s.regs)) refl
  where
    go : (c : Option ℕ) → find_cell env.addresses env.tags (eval_maddr m s.regs) ≡ c → cell_value s.values c < 2 ^ 64
    go none e = omega arith
    go (some i) e = cell_small env s _ i e k

-- a destination can be read
pub dst_valid : (env : Env) (o : Operand) (s : Config) → valid_dst_operand env o s ≡ true → valid_operand env o s ≡ true
unfolding valid_dst_operand
dst_valid env o s e = go (valid_operand env o s) (valid_dst o) e
  where
    go : (a b : Bool) → (a && b) ≡ true → a ≡ true
    go true b h = refl
    go false b h = h

module _ (env : Env) (memory : ByteMemory) where
  -- the state of the machine at a configuration of the run
  abbrev pub lay : Config → BState
  lay s = record { regs = s.regs; xmms = s.xmms; flags = s.flags; bytes = over env.addresses env.tags s.values memory }

  pub reads : (o : Operand) (s : Config) → valid_operand env o s ≡ true → Kept env s → read o (lay s) ≡ eval_operand env o s
  unfolding read eval_operand valid_operand cell_of
  reads (OConst n) s e k = refl
  reads (OReg r) s e k = refl
  reads (OMem m) s e k = go (eval_maddr m s.regs) (find_cell env.addresses env.tags (eval_maddr m s.regs)) refl e
    where
      go : (z : ℤ) (c : Option ℕ) → find_cell env.addresses env.tags z ≡ c → is_cell c ≡ true
          → read_bytes 8 (wrap z) (over env.addresses env.tags s.values memory) ≡ cell_value s.values c
      go z none p h = cc
      go z (some i) p h =
          over_read env.addresses env.tags k.cells.ordered z i p s.values memory (omega (arith, k.cells.same.values)) (cell_small env s z i p k)

  -- from the configuration s the machine's state b is that of t, with Rsp as before
  pub record Follows (b : BState) (s t : Config) : Type 0 where
    pub same : b ≡ lay t
    pub kept : Kept env t
    pub rsp : get_or t.regs 7 0 ≡ get_or s.regs 7 0

  pub follows_flags : {b : BState} {s t : Config} (f : ℕ) → Follows b s t → Follows (flagged f b) s (with_flags f t)
  follows_flags f h = record { same = ap (flagged f) h.same; kept = with_flags_kept f h.kept; rsp = h.rsp }

  pub puts : (o : Operand) (v : ℕ) (s : Config) → valid_dst_operand env o s ≡ true → v < 2 ^ 64 → Kept env s
      → Follows (put_to o v (lay s)) s (update_operand env o v s)
  unfolding put_to update_operand valid_dst_operand valid_operand valid_dst cell_of
  puts (OConst n) v s e h k = absurd (let z : ◌≡◌ {A = ℕ} 0 1 = cc in omega arith)
  puts (OReg r) v s e h k =
      record {
        same = refl;
        kept = record { regs_words = words_set 16 (2 ^ 64) s.regs r.number v h k.regs_words; xmms_words = k.xmms_words; cells = k.cells };
        rsp = get_or-set_other s.regs r.number 7 v 0 (λ q. eqb-false r.number 7 (not-true _ e) (sym q));
      }
  puts (OMem m) v s e h k = go (eval_maddr m s.regs) (find_cell env.addresses env.tags (eval_maddr m s.regs)) refl e
    where
      go : (z : ℤ) (c : Option ℕ) → find_cell env.addresses env.tags z ≡ c → (is_cell c && true) ≡ true
          → (let m' = write_bytes (wrap z) v (over env.addresses env.tags s.values memory) in
          Follows (record { regs = s.regs; xmms = s.xmms; flags = s.flags; bytes = m' })
          s (record { regs = s.regs; xmms = s.xmms; flags = s.flags; values = set_cell s.values c v }))
      go z none p q = absurd (let z : ◌≡◌ {A = ℕ} 0 1 = cc in omega arith)
      go z (some i) p q =
          record {
            same = ap (λ (b : ByteMemory). record { regs = s.regs; xmms = s.xmms; flags = s.flags; bytes = b })
                (over_write env.addresses env.tags k.cells.ordered z i p s.values memory v (omega (arith, k.cells.same.values)));
            kept = record {
              regs_words = k.regs_words;
              xmms_words = k.xmms_words;
              cells = store_accepted env.addresses env.tags s.values z i v p h k.cells;
            };
            rsp = refl;
          }

-- a store keeps the machine's flags
pub put_flags : (o : Operand) (v : ℕ) (b : BState) → flagged b.flags (put_to o v b) ≡ put_to o v b
unfolding put_to
put_flags (OConst n) v b = refl
put_flags (OReg r) v b = refl
put_flags (OMem m) v b = refl
