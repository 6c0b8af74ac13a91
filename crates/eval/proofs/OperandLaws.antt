-- What is found of an operand is what the run's definition says of it: by the operand that its record spells, and for memory by the search
-- of the cells. Assumes nothing.
use Prim.Native.Nat.{ℕ, ◌<◌}
use mathlib.Core.Path.{◌≡◌, refl, sym, ap, ◌∙◌}
use mathlib.Core.Bool.{Bool, true, false, cond, false≢true}
use mathlib.Core.List.{List}
use mathlib.Core.Option.{Option, none, some}
use native.Mathlib.Omega.{arith}
use lib.Dec.{eqb}
use lib.ListN.{length, get_or}
use Rattle.machine.specs.Registers.{reg_at, Rsp}
use Rattle.machine.specs.Operands.{eval_maddr, wild, wild_or}
use Rattle.machine.specs.Cells.{find_cell, is_cell, leads, led_to}
use Rattle.machine.specs.declared.reg.Reg.{Reg}
use Rattle.std.specs.Prelude.{Result, Ok, Err}
use Rattle.machine.specs.declared.NoCell.{NoCell}
use Rattle.machine.specs.declared.NoCell.TheVariants.{Absent, Wild}
use Rattle.machine.specs.declared.Maddr.{Maddr}
use Rattle.machine.specs.declared.Operand.{Operand}
use Rattle.machine.specs.declared.Operand.TheVariants.{OConst, OReg, OMem}
use Rattle.machine.proofs.FindLaws.{find_hit}
use Rattle.machine.proofs.OperandLaws.{constant_no_dst, register_dst, memory_dst, constant_tame, register_tame, memory_wild, wild_or_above}
use Rattle.code.specs.Forms.{form_of}
use Rattle.code.specs.declared.records.Form.{Form}
use Rattle.code.specs.declared.records.Form.TheVariants.{Memory}
use Rattle.code.proofs.Forms.{memory_is}
use Rattle.eval.specs.Config.{Env, Config, with_values}
use Rattle.eval.specs.Instructions.{cell_of, valid_operand, eval_operand, valid_dst_operand, update_operand}
use Rattle.eval.specs.Promises.{Seeks, Loads, Resolves, no_slot}
use Rattle.eval.specs.declared.operand.Sought.{Sought}
use Rattle.eval.specs.declared.operand.Loaded.{Loaded}
use Rattle.eval.specs.declared.operand.Slot.{Slot}

-- ---- a check that answered 0 has passed, and any other number is its own
pub passes : (b : Bool) (n m : ℕ) → n ≡ cond b 0 m → (m ≡ 0 → ⊥) → n ≡ 0 → b ≡ true
passes true n m e z h = refl
passes false n m e z h = absurd (z (sym e ∙ h))

pub fails : (b : Bool) (n m : ℕ) → n ≡ cond b 0 m → (n ≡ 0 → ⊥) → (b ≡ false) × (n ≡ m)
fails true n m e h = absurd (h e)
fails false n m e h = (refl, e)

-- a number above 1 is not 0
pub above_one : {n : ℕ} → 1 < n → n ≡ 0 → ⊥
above_one h e = omega (arith, h, e)

-- whether a destination can be written does not hang on what the cells hold
pub valid_whatever : (env : Env) (o : Operand) (s : Config) (values : List ℕ) → valid_dst_operand env o (with_values values s) ≡ valid_dst_operand env o s
unfolding valid_dst_operand valid_operand cell_of
valid_whatever env (OConst n) s values = refl
valid_whatever env (OReg r) s values = refl
valid_whatever env (OMem m) s values = refl

module _ (env : Env) (s : Config) (o : Operand) (next : ℕ) where
  abbrev Load : Loaded → Type 0
  Load r = Loads env s o next r

  abbrev Resolve : Slot → Type 0
  Resolve t = Resolves env s o next t

  -- ---- what is no destination
  no_destination :
      (n : ℕ) → 1 < n → n ≡ wild_or 32 o s.regs →
      (t : Slot) → t ≡ no_slot n next →
      valid_dst_operand env o s ≡ false → Resolve t
  no_destination n l is t e invalid =
      rw e record {
        valid = λ h. absurd (omega (arith, h, l));
        fails = λ _. (invalid, is);
        writes = λ h. absurd (omega (arith, h, l));
        bounds = λ h. absurd (omega (arith, h, l));
        next = refl;
      }

  -- ---- a constant
  pub load_constant : (n : ℕ) → o ≡ OConst n → Load (record { number = 0; word = n; next = next })
  unfolding valid_operand eval_operand
  load_constant n q = record { number = rw q; word = λ _. rw q; next = refl }

  pub resolve_constant : (n : ℕ) → o ≡ OConst n → (t : Slot) → t ≡ no_slot 32 next → Resolve t
  unfolding valid_dst_operand valid_operand
  resolve_constant n q t e = no_destination 32 (omega arith) (rw (q, constant_tame n s.regs)) t e (rw (q, constant_no_dst n))

  -- ---- a register
  module _ (r : Reg) (q : o ≡ OReg r) where
    pub load_register : Load (record { number = 0; word = reg_at s.regs r; next = next })
    unfolding valid_operand eval_operand
    load_register = record { number = rw q; word = λ _. rw q; next = refl }

    module _ (b : Bool) (is : b ≡ eqb r.number Rsp.number) where
      pub resolve_rsp : b ≡ true → (t : Slot) → t ≡ no_slot 32 next → Resolve t
      unfolding valid_dst_operand valid_operand
      resolve_rsp h t e =
          let p : eqb r.number 7 ≡ true = sym is ∙ h in
          no_destination 32 (omega arith) (rw (q, register_tame r s.regs)) t e (rw (q, register_dst r, p))

      pub resolve_register :
          b ≡ false → r.number < 16 →
          Resolve (record { how = 0; index = r.number; word = reg_at s.regs r; next = next })
      unfolding valid_dst_operand valid_operand eval_operand update_operand
      resolve_register h l =
          let p : eqb r.number 7 ≡ false = sym is ∙ h in
          record {
            valid = λ _. rw (q, register_dst r, p);
            fails = λ h. absurd (omega (arith, h));
            writes = λ _. record { word = rw q; update = λ v vs. rw q };
            bounds = λ _. record { register = λ _. l; cell = λ h. absurd (h refl) };
            next = refl;
          }

  -- ---- memory, by the form that was decoded and what was found for it
  module _
      (form : Form) (is : form ≡ form_of o) (memory : form ≡ Memory) (absent : ℕ) (f : Sought)
      (found : (m : Maddr) → o ≡ OMem m → Seeks env.addresses env.tags s.regs m absent f) where
    m : Maddr
    m = (memory_is o (sym is ∙ memory)).0

    q : o ≡ OMem m
    unfolding m
    q = (memory_is o (sym is ∙ memory)).1

    abbrev there : Option ℕ
    there = find_cell env.addresses env.tags (eval_maddr m s.regs)

    module _ (above : 1 < absent) (e : f.number ≡ 0) where
      here : there ≡ some f.index
      here = go there refl (passes (is_cell there) f.number _ (found m q).number (above_one (wild_or_above absent (OMem m) s.regs above)) e)
        where
          go : (k : Option ℕ) → there ≡ k → is_cell k ≡ true → k ≡ some f.index
          go none h b = absurd (false≢true b)
          go (some i) h b = ap some (sym ((found m q).cell i h))

      pub cell_inside : length s.values ≡ length env.addresses → f.index < length s.values
      cell_inside long = omega (arith, (find_hit env.addresses env.tags (eval_maddr m s.regs) f.index here).inside, long)

      pub load_cell : Load (record { number = 0; word = get_or s.values f.index 0; next = next })
      unfolding valid_operand eval_operand cell_of
      load_cell = record { number = rw (q, here); word = λ _. rw (q, here); next = refl }

      pub resolve_cell :
          length s.values ≡ length env.addresses →
          Resolve (record { how = 1; index = f.index; word = get_or s.values f.index 0; next = next })
      unfolding valid_dst_operand valid_operand eval_operand update_operand cell_of
      resolve_cell long =
          record {
            valid = λ _. rw (q, here, memory_dst m);
            fails = λ h. absurd (omega (arith, h));
            writes = λ _. record { word = rw (q, here); update = λ v vs. rw (q, here) };
            bounds = λ _. record { register = λ h. absurd (omega (arith, h)); cell = λ _. cell_inside long };
            next = refl;
          }

    module _ (above : 1 < absent) (e : f.number ≡ 0 → ⊥) where
      nowhere : (is_cell there ≡ false) × (f.number ≡ wild_or absent o s.regs)
      nowhere = let w = fails (is_cell there) f.number _ (found m q).number e in (w.0, rw q w.1)

      unreadable : valid_operand env o s ≡ false
      unfolding valid_operand cell_of
      unreadable = rw q nowhere.0

      pub load_none : absent ≡ 31 → Load (record { number = f.number; word = 0; next = next })
      load_none is = record { number = rw unreadable (nowhere.1 ∙ ap (λ n. wild_or n o s.regs) is); word = λ h. absurd (e h); next = refl }

      pub resolve_none : absent ≡ 32 → (t : Slot) → t ≡ no_slot f.number next → Resolve t
      unfolding valid_dst_operand
      resolve_none is t g =
          no_destination f.number (rw nowhere.1 (wild_or_above absent o s.regs above)) (nowhere.1 ∙ ap (λ n. wild_or n o s.regs) is) t g (rw unreadable)

-- ---- a memory operand, by what it leads to
module _ (addresses tags regs : List ℕ) (m : Maddr) (absent : ℕ) (f : Result ℕ NoCell) (found : led_to f ≡ leads addresses tags (eval_maddr m regs)) where
  abbrev Seek : ℕ → ℕ → Type 0
  Seek n i = Seeks addresses tags regs m absent (record { number = n; index = i })

  pub seek_cell : (i : ℕ) → f ≡ Ok i → Seek 0 i
  seek_cell i e =
      let h : find_cell addresses tags (eval_maddr m regs) ≡ some i = ap (λ p. p.0) (sym found ∙ ap led_to e) in
      record { number = rw h; cell = λ j k. let z : some i ≡ some j = sym h ∙ k in cc }

  seek_none : (n : ℕ) (b : Bool) → led_to f ≡ (none, b) → n ≡ cond b 36 absent → Seek n 0
  seek_none n b e is =
      let h : find_cell addresses tags (eval_maddr m regs) ≡ none = ap (λ p. p.0) (sym found ∙ e) in
      let w : wild (eval_maddr m regs) ≡ b = ap (λ p. p.1) (sym found ∙ e) in
      record { number = rw (h, memory_wild m regs, w) is; cell = λ j k. let z : none ≡ some j = sym h ∙ k in cc }

  pub seek_absent : f ≡ Err Absent → Seek absent 0
  seek_absent e = seek_none absent false (ap led_to e) refl

  pub seek_wild : f ≡ Err Wild → Seek 36 0
  seek_wild e = seek_none 36 true (ap led_to e) refl
