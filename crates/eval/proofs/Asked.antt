-- What the functions are asked, said of what their calls have answered, so that `search` finds it: laws of operands, comparisons,
-- instructions, structures and checks, in this order. Assumes nothing.
use Prim.Native.Nat.{ℕ, ◌+◌, ◌-◌, ◌*◌, ◌%◌, ◌^◌, ◌≤◌, ◌<◌}
use mathlib.Core.Path.{◌≡◌, refl, sym, ap, subst, ◌∙◌}
use mathlib.Core.Bool.{Bool, true, false, ◌&&◌, cond, not, true≢false}
use mathlib.Core.List.{List, []}
use mathlib.Core.Option.{Option}
use mathlib.Core.Logic.{◌⊎◌, inl, inr, ⊎_elim}
use native.Mathlib.Omega.{arith}
use borrow.Author.Tests.{eq-eqb, ne_eqb, eqb-true, eqb-false}
use lib.Dec.{eqb, leb}
use lib.ListN.{length, get_or, set}
use mir.Syntax.{w64}
use mir.Val.{Fits}
use Rattle.words.specs.Sums.{sum_mod, mul_div, mul_mod}
use Rattle.words.specs.Types.{quad32, extract_nat64}
use Rattle.words.specs.Parts.{Quad32}
use Rattle.machine.specs.Registers.{reg_at, Rsp, xmm_at, set_xmm}
use Rattle.machine.specs.Cells.{Verdict, accepted, refused, verdict, check_cells}
use Rattle.std.specs.Prelude.{Result, Ok, Err}
use Rattle.machine.specs.Continuing.{and_then}
use Rattle.machine.specs.Rules.{rule_number}
use Rattle.machine.specs.declared.refusal.Refusal.{Refusal}
use Rattle.machine.specs.declared.reg.Reg.{Reg}
use Rattle.machine.specs.declared.Maddr.{Maddr}
use Rattle.machine.specs.declared.Operand.{Operand}
use Rattle.machine.specs.declared.Operand.TheVariants.{OMem}
use Rattle.code.specs.Records.{is_ocmp, byte_at, number_at, operand_at, ocmp_at, behind}
use Rattle.code.specs.Spells.{OperandBytes, OperandsFrom, Stands}
use Rattle.code.specs.declared.tree.Instruction.{Instruction}
use Rattle.code.specs.declared.tree.Instruction.TheVariants.{AddLea64, Mul64, Mulx64, Pshufd, VPSLLDQ, Pextrq}
use Rattle.code.specs.Families.{is_two, is_quads, is_shifts, is_inserts, two_ins, quads_ins, shifts_ins, inserts_ins}
use Rattle.code.specs.Reader.{check_code}
use Rattle.code.specs.Forms.{form_of}
use Rattle.code.specs.declared.records.Form.{Form}
use Rattle.code.specs.declared.records.Form.TheVariants.{Const, Register, Memory}
use Rattle.code.proofs.Frames.{operand_frame}
use Rattle.code.proofs.CodeFrames.{ocmp_frame}
use Rattle.code.proofs.Families.{ins_inside, lane_kinds, two_stood, lea_stood, mul_stood, mulx_stood, quads_stood, shifts_stood, shuffle_stood, word_shift_stood, extract_stood, inserts_stood}
use Rattle.code.proofs.Forms.{constant_is, register_is, register_below}
use Rattle.eval.specs.FlagRule.{FlagRule, base_rule}
use Rattle.eval.specs.Config.{Env, Config, with_regs, with_flags}
use Rattle.eval.specs.Config as Config
use Rattle.eval.specs.Watch.{nothing_open}
use Rattle.eval.specs.Counted.{Counted, counted, nothing_counted, ended}
use Rattle.eval.specs.Running.{run_of}
use Rattle.eval.specs.Instructions.{checks_amount, two_word, two_flags, inserts_word, run_ins}
use Rattle.eval.specs.Promises.{environment, held, CodeAt, CodesAt, InsAt, OcmpAt, codes_from, Loads, Seeks, Resolves, no_slot, put_regs, put_values, comparison, Compares, how, Ran, StepsIns, DecidesAt, TestedAt, test_at, BehindTest, part_fuel, way_from, Runs, RunsIns, RunsAll, Spends, SpendsAll}
use Rattle.eval.specs.declared.answer.Watch.{Watch}
use Rattle.eval.specs.Promises.{Exit}
use Rattle.eval.specs.declared.exit.Stop.{Stop}
use Rattle.eval.specs.declared.operand.Sought.{Sought}
use Rattle.eval.specs.declared.operand.Loaded.{Loaded}
use Rattle.eval.specs.declared.operand.Slot.{Slot}
use Rattle.eval.specs.Promises.{Compared}
use Rattle.std.specs.Result.{IsErrAnd}
use Rattle.eval.specs.declared.cycle.Way.{Way}
use Rattle.eval.proofs.OperandLaws.{load_constant, load_register, load_cell, load_none, resolve_constant, resolve_rsp, resolve_register, resolve_cell, resolve_none, cell_inside}
use Rattle.eval.proofs.InstructionLaws.{exit, err_ok, ok_is, ran_stood, load_at, slot_at, two_unread, two_amount, two_unwritten, two_done, lea_unread, lea_unread_second, lea_unwritten, lea_done, mul_unread, mul_done, mulx_unread, mulx_unwritten, mulx_unresolved, mulx_done}
use Rattle.eval.proofs.LaneLaws.{extract_unwritten, extract_done, inserts_unread, inserts_done}
use Rattle.eval.proofs.ComparisonLaws.{stands_inside, first_unread, first_above, second_unread, second_above, compared}
use Rattle.eval.proofs.RunLaws.{code_refused, cells_refused}
use Rattle.eval.proofs.CycleLaws.{code_frame, starts, has_length, Choice, choice_inside, loop_inside, ins_ran, codes_past, Going, next_there, next_past, if_stops, Chosen, chosen_there, chosen_ran, chosen_spends, Looping, looped, looped_spends, loop_spent, loop_stopped, Round, round_over, round_there, round_spends, round_goes, round_stops}

-- ---- an operand, of which a form was decoded, and the place next behind it
abbrev Finds : Env → List ℕ → List ℕ → ℕ → ℕ → Sought → Type 0
Finds env regs bs at absent f = (m : Maddr) → operand_at bs at ≡ OMem m → Seeks env.addresses env.tags regs m absent f

module _ (env : Env) (s : Config) (bs : List ℕ) (at next : ℕ) (is_next : next ≡ behind bs at) (form : Form)
    (is : form ≡ form_of (operand_at bs at)) where
  abbrev Load : Loaded → Type 0
  Load r = Loads env s (operand_at bs at) (behind bs at) r

  abbrev Resolve : Slot → Type 0
  Resolve t = Resolves env s (operand_at bs at) (behind bs at) t

  module _ (n : ℕ) (constant : form ≡ Const n) where
    pub loads_constant : Load (record { number = 0; word = n; next = next })
    loads_constant = rw is_next (load_constant env s _ _ n (constant_is _ n (sym is ∙ constant)))

    pub no_constant : (t : Slot) → t ≡ no_slot 32 next → Resolve t
    no_constant t e = resolve_constant env s _ _ n (constant_is _ n (sym is ∙ constant)) t (e ∙ ap (no_slot 32) is_next)

  module _ (r : Reg) (register : form ≡ Register r) where
    pub loads_register : Load (record { number = 0; word = reg_at s.regs r; next = next })
    loads_register = rw is_next (load_register env s _ _ r (register_is _ r (sym is ∙ register)))

    module _ (b : Bool) (rsp : b ≡ eqb r.number Rsp.number) where
      pub no_rsp : b ≡ true → (t : Slot) → t ≡ no_slot 32 next → Resolve t
      no_rsp h t e = resolve_rsp env s _ _ r (register_is _ r (sym is ∙ register)) b rsp h t (e ∙ ap (no_slot 32) is_next)

      pub resolves_register :
          b ≡ false → OperandBytes bs at →
          Resolve (record { how = 0; index = r.number; word = reg_at s.regs r; next = next })
      resolves_register h stands =
          let q = register_is _ r (sym is ∙ register) in
          rw is_next (resolve_register env s _ _ r q b rsp h (register_below bs at stands r q))

  module _ (memory : form ≡ Memory) (f : Sought) where
    module _ (found : Finds env s.regs bs at 31 f) where
      pub loads_cell : f.number ≡ 0 → Load (record { number = 0; word = get_or s.values f.index 0; next = next })
      loads_cell e = rw is_next (load_cell env s _ _ form is memory 31 f found (omega arith) e)

      pub loads_none : (f.number ≡ 0 → ⊥) → Load (record { number = f.number; word = 0; next = next })
      loads_none e = rw is_next (load_none env s _ _ form is memory 31 f found (omega arith) e refl)

    module _ (found : Finds env s.regs bs at 32 f) where
      pub resolves_cell :
          f.number ≡ 0 → length s.values ≡ length env.addresses →
          Resolve (record { how = 1; index = f.index; word = get_or s.values f.index 0; next = next })
      resolves_cell e long = rw is_next (resolve_cell env s _ _ form is memory 32 f found (omega arith) e long)

      pub no_cell : (f.number ≡ 0 → ⊥) → (t : Slot) → t ≡ no_slot f.number next → Resolve t
      no_cell e t g =
          resolve_none env s _ _ form is memory 32 f found (omega arith) e refl t (g ∙ ap (no_slot f.number) is_next)

module _ (bs : List ℕ) (at : ℕ) (form : Form) (is : form ≡ form_of (operand_at bs at)) where
  pub register_inside : OperandBytes bs at → (r : Reg) → form ≡ Register r → r.number < 16
  register_inside stands r register = register_below bs at stands r (register_is _ r (sym is ∙ register))

  pub is_memory : form ≡ Memory → form_of (operand_at bs at) ≡ Memory
  is_memory memory = sym is ∙ memory

  -- what was found is inside the values
  module _ (addresses tags regs values : List ℕ) (long : length values ≡ length addresses) (memory : form ≡ Memory) (f : Sought) (e : f.number ≡ 0)
    where
      abbrev Found : ℕ → Type 0
      Found absent = (m : Maddr) → operand_at bs at ≡ OMem m → Seeks addresses tags regs m absent f

      inside_of : (absent : ℕ) → 1 < absent → Found absent → f.index < length values
      inside_of absent above found =
          cell_inside (environment addresses tags 0 base_rule) (held regs [] 0 values) _ 0 form is memory absent f found above e long

      pub source_inside : Found 31 → f.index < length values
      source_inside = inside_of 31 (omega arith)

      pub destination_inside : Found 32 → f.index < length values
      destination_inside = inside_of 32 (omega arith)

      pub source_fits : Found 31 → length values * 8 < 2 ^ 63 → Fits w64 (f.index * 8)
      source_fits found room = let l = source_inside found in omega (arith, l)

      pub destination_fits : Found 32 → length values * 8 < 2 ^ 63 → Fits w64 (f.index * 8)
      destination_fits found room = let l = destination_inside found in omega (arith, l)

-- ---- what was loaded or resolved at a place
pub operand_starts : (bs : List ℕ) (at : ℕ) → OperandBytes bs at → at < length bs
operand_starts bs at o = (operand_frame bs at o).starts

-- the operands behind the first, at the places that were answered
pub second_there : (bs : List ℕ) (at a : ℕ) → a ≡ behind bs at → OperandBytes bs (behind bs at) → OperandBytes bs a
second_there bs at a is o = rw is o

pub third_there :
    (bs : List ℕ) (at a b : ℕ) → a ≡ behind bs at → b ≡ behind bs a → OperandBytes bs (behind bs (behind bs at)) → OperandBytes bs b
third_there bs at a b is is' o = rw (is', is) o

module _ (env : Env) (s : Config) (bs : List ℕ) (at : ℕ) where
  abbrev Loaded_at : Loaded → Type 0
  Loaded_at r = Loads env s (operand_at bs at) (behind bs at) r

  abbrev Resolved_at : Slot → Type 0
  Resolved_at t = Resolves env s (operand_at bs at) (behind bs at) t

-- ---- a comparison
module _ (bs : List ℕ) (at : ℕ) (o : OcmpAt bs at) where
  pub ocmp_starts : at < length bs
  ocmp_starts = omega (arith, (ocmp_frame bs at o.0 o.1 o.2).starts)

  pub ocmp_fits : length bs * 1 < 2 ^ 63 → Fits w64 (at + 1)
  ocmp_fits room = omega (arith, (ocmp_frame bs at o.0 o.1 o.2).starts)

  pub first_operand : OperandBytes bs (at + 1)
  first_operand = (ocmp_frame bs at o.0 o.1 o.2).operands.first

  pub second_operand : (next : ℕ) → next ≡ behind bs (at + 1) → OperandBytes bs next
  second_operand next is = rw is (ocmp_frame bs at o.0 o.1 o.2).operands.second

  -- its answer, from what was loaded of its operands
  module _ (env : Env) (s : Config) (e : ℕ) (stands : Stands is_ocmp bs at e) (a : Loaded) (one : Loaded_at env s bs (at + 1) a) where
    abbrev Says : ℕ → ℕ → Type 0
    Says n next = Compares env s (ocmp_at bs at) e (record { how = n; next = next })

    inside : e ≤ length bs
    inside = stands_inside bs at o.0 o.1 o.2 e stands

    pub says_unread : (a.number ≡ 0 → ⊥) → Says a.number 0
    says_unread h = first_unread env s bs at e stands inside a one h

    unread_above_one : (a.number ≡ 0 → ⊥) → 1 < a.number
    unread_above_one h = first_above env s bs at e stands inside a one h

    module _ (x : a.number ≡ 0) (b : Loaded) (two : Loaded_at env s bs a.next b) where
      pub says_unread_second : (b.number ≡ 0 → ⊥) → Says b.number 0
      says_unread_second h = second_unread env s bs at e stands inside a b one two x h

      unread_second_above : (b.number ≡ 0 → ⊥) → 1 < b.number
      unread_second_above h = second_above env s bs at e stands inside a b one two x h

      module _ (y : b.number ≡ 0) (h : Bool) (is : h ≡ comparison (byte_at bs at) a.word b.word) where
        pub says : Says (cond h 1 0) b.next
        says = compared env s bs at e stands inside a b one two x y h (sym is)

-- a number that is refused with is above one
module _ (bs : List ℕ) (at : ℕ) (o : OcmpAt bs at) (env : Env) (s : Config) (a : Loaded) (one : Loaded_at env s bs (at + 1) a) where
  pub above_first : (a.number ≡ 0 → ⊥) → 1 < a.number
  above_first h = unread_above_one bs at o env s o.0 o.1 a one h

  module _ (x : a.number ≡ 0) (b : Loaded) (two : Loaded_at env s bs a.next b) where
    pub above_second : (b.number ≡ 0 → ⊥) → 1 < b.number
    above_second h = unread_second_above bs at o env s o.0 o.1 a one x b two h

-- ---- whether a comparison holds, as a number
pub told_below : (b : Bool) → cond b 1 0 ≤ 1
told_below true = omega arith
told_below false = omega arith

-- what `?` hands on is what it found
pub passed_on : {T : Type 0} (r : Result T ℕ) (y : ℕ) → IsErrAnd r (λ z. z ≡ y) → r ≡ Err y
passed_on (Ok x) y h = absurd h
passed_on (Err z) y h = ap Err h

abbrev pub refused_with : ℕ → Compared
refused_with n = record { how = n; next = 0 }

pub told_one : (b : Bool) → b ≡ true → ◌≡◌ {A = ℕ} (cond b 1 0) 1
told_one b h = rw h

pub told_zero : (b : Bool) → b ≡ false → ◌≡◌ {A = ℕ} (cond b 1 0) 0
told_zero b h = rw h

pub told_fails : (b : Bool) → not b ≡ true → ◌≡◌ {A = ℕ} (cond b 1 0) 0
told_fails true h = absurd (true≢false (sym h))
told_fails false h = refl

pub told_holds : (b : Bool) → not b ≡ false → ◌≡◌ {A = ℕ} (cond b 1 0) 0 → ⊥
told_holds true h z = omega (arith, z)
told_holds false h z = true≢false h

-- ---- instructions, from what was loaded and resolved of their operands
-- the operands that stand behind a kind byte
module _ (bs : List ℕ) (at : ℕ) where
  abbrev first : Operand
  first = operand_at bs (at + 1)

  abbrev second : Operand
  second = operand_at bs (behind bs (at + 1))

  abbrev third : Operand
  third = operand_at bs (behind bs (behind bs (at + 1)))

module _ (env : Env) (s : Config) (bs : List ℕ) (at : ℕ) where
  -- a destination, and a source behind it, of an instruction of two operands
  pub record Operands2 (t : Slot) (r : Loaded) : Type 0 where
    pub dst : Resolved_at env s bs (at + 1) t
    pub src : Loaded_at env s bs t.next r
    pub kind : is_two (byte_at bs at) ≡ true

  -- a destination, and two sources behind it
  pub record Operands3 (t : Slot) (q r : Loaded) : Type 0 where
    pub dst : Resolved_at env s bs (at + 1) t
    pub one : Loaded_at env s bs t.next q
    pub two : Loaded_at env s bs q.next r

  -- the low destination, behind the high one, and a source behind it
  pub record OperandsX (t : Slot) (r : Loaded) : Type 0 where
    pub second : ℕ
    pub is_second : second ≡ behind bs (at + 1)
    pub low : Resolved_at env s bs second t
    pub src : Loaded_at env s bs t.next r

  -- with both halves of the product, and the high destination in the registers as the low half will leave them
  pub record Halves (t : Slot) (r : Loaded) (lo hi : ℕ) (u : Slot) : Type 0 where
    pub operands : OperandsX t r
    pub found : r.number ≡ 0
    pub valid : t.how ≤ 1
    pub is_lo : lo ≡ mul_mod 64 (get_or s.regs 3 0) r.word
    pub is_hi : hi ≡ mul_div 64 (get_or s.regs 3 0) r.word
    pub after : List ℕ
    pub is_after : after ≡ put_regs t lo s.regs
    pub high : Resolved_at env (with_regs after s) bs (at + 1) u

  module _ (r : Loaded) (src : Loaded_at env s bs (at + 1) r) where
    abbrev Mul : Exit → Config → Type 0
    Mul x u = Ran (run_ins env at (Mul64 (first bs at)) s) (behind bs (at + 1)) x u

    pub multiply_unread : (r.number ≡ 0 → ⊥) → Mul (exit r.number at) s
    multiply_unread h = mul_unread env s at _ _ r src h

    pub multiply_done :
        r.number ≡ 0 →
        (lo hi : ℕ) → lo ≡ mul_mod 64 (get_or s.regs 0 0) r.word → hi ≡ mul_div 64 (get_or s.regs 0 0) r.word →
        Mul (Ok r.next) (held (set (set s.regs 0 lo) 3 hi) s.xmms env.fill s.values)
    multiply_done h lo hi = mul_done env s at _ _ r src h lo hi

  module _ (t : Slot) (dst : Resolved_at env s bs (at + 3) t) where
    abbrev Extract : Exit → Config → Type 0
    Extract x u = Ran (run_ins env at (Pextrq (operand_at bs (at + 3)) (byte_at bs (at + 1)) (byte_at bs (at + 2))) s) (behind bs (at + 3)) x u

    pub extracts_nowhere : 1 < t.how → Extract (exit t.how at) s
    extracts_nowhere h = extract_unwritten env s at _ _ _ _ t dst h

    pub extracts :
        t.how ≤ 1 →
        (x : Quad32) (v : ℕ) (regs' values' : List ℕ) →
        quad32 x ≡ xmm_at s.xmms (byte_at bs (at + 1)) → v ≡ extract_nat64 (quad32 x) (byte_at bs (at + 2) % 2) →
        regs' ≡ put_regs t v s.regs → values' ≡ put_values t v s.values →
        Extract (Ok t.next) (held regs' s.xmms s.flags values')
    extracts h = extract_done env s at _ _ _ _ t dst h

  module _ (is : is_inserts (byte_at bs at) ≡ true) (r : Loaded) (src : Loaded_at env s bs (at + 3) r) where
    abbrev Insert : Exit → Config → Type 0
    Insert x u =
        Ran (run_ins env at (inserts_ins (byte_at bs at) (byte_at bs (at + 1)) (operand_at bs (at + 3)) (byte_at bs (at + 2))) s)
        (behind bs (at + 3)) x u

    pub inserts_nothing : (r.number ≡ 0 → ⊥) → Insert (exit r.number at) s
    inserts_nothing h = inserts_unread env s at _ is _ _ _ _ r src h

    pub inserts :
        r.number ≡ 0 →
        (x q : Quad32) (xmms' : List ℕ) →
        quad32 x ≡ xmm_at s.xmms (byte_at bs (at + 1)) →
        quad32 q ≡ inserts_word (byte_at bs at) (quad32 x) r.word (byte_at bs (at + 2)) →
        xmms' ≡ set_xmm s.xmms (byte_at bs (at + 1)) (quad32 q) →
        Insert (Ok r.next) (held s.regs xmms' s.flags s.values)
    inserts h = inserts_done env s at _ is _ _ _ _ r src h

  -- a destination and a source
  module _ (t : Slot) (r : Loaded) (w : Operands2 t r) where
    abbrev Two : Exit → Config → Type 0
    Two x u = Ran (run_ins env at (two_ins (byte_at bs at) (first bs at) (second bs at)) s) (behind bs (behind bs (at + 1))) x u

    two_src : Loads env s (second bs at) (behind bs (behind bs (at + 1))) r
    two_src = load_at env s bs _ _ w.dst.next r w.src

    pub reads_nothing : (r.number ≡ 0 → ⊥) → Two (exit r.number at) s
    reads_nothing = two_unread env s at _ w.kind _ _ _ _ t r w.dst two_src

    module _ (found : r.number ≡ 0) (far : Bool) (is_far : far ≡ (checks_amount (byte_at bs at) && leb 64 r.word)) where
      pub shifts_too_far : far ≡ true → Two (exit 33 at) s
      shifts_too_far h = two_amount env s at _ w.kind _ _ _ _ t r w.dst two_src found (sym is_far ∙ h)

      module _ (near : far ≡ false) where
        pub writes_nowhere : 1 < t.how → Two (exit t.how at) s
        writes_nowhere = two_unwritten env s at _ w.kind _ _ _ _ t r w.dst two_src found (sym is_far ∙ near)

        pub writes :
            t.how ≤ 1 →
            (regs' values' : List ℕ) (v f : ℕ) →
            regs' ≡ put_regs t v s.regs → values' ≡ put_values t v s.values →
            v ≡ two_word (byte_at bs at) s.flags t.word r.word → f ≡ two_flags (byte_at bs at) env.rule env.fill s.flags t.word r.word →
            Two (Ok r.next) (held regs' s.xmms f values')
        writes = two_done env s at _ w.kind _ _ _ _ t r w.dst two_src found (sym is_far ∙ near)

  -- a destination and two sources
  module _ (t : Slot) (q r : Loaded) (w : Operands3 t q r) where
    abbrev Lea : Exit → Config → Type 0
    Lea x u = Ran (run_ins env at (AddLea64 (first bs at) (second bs at) (third bs at)) s) (behind bs (behind bs (behind bs (at + 1)))) x u

    lea_one : Loads env s (second bs at) (behind bs (behind bs (at + 1))) q
    lea_one = load_at env s bs _ _ w.dst.next q w.one

    lea_two : Loads env s (third bs at) (behind bs (behind bs (behind bs (at + 1)))) r
    lea_two = load_at env s bs _ _ lea_one.next r w.two

    pub sum_unread : (q.number ≡ 0 → ⊥) → Lea (exit q.number at) s
    sum_unread = lea_unread env s at _ _ _ _ _ _ t q r w.dst lea_one lea_two

    module _ (there : q.number ≡ 0) where
      pub sum_unread_second : (r.number ≡ 0 → ⊥) → Lea (exit r.number at) s
      sum_unread_second = lea_unread_second env s at _ _ _ _ _ _ t q r w.dst lea_one lea_two there

      module _ (found : r.number ≡ 0) where
        pub sum_unwritten : 1 < t.how → Lea (exit t.how at) s
        sum_unwritten = lea_unwritten env s at _ _ _ _ _ _ t q r w.dst lea_one lea_two there found

        pub sum_done :
            t.how ≤ 1 →
            (regs' values' : List ℕ) (v : ℕ) →
            regs' ≡ put_regs t v s.regs → values' ≡ put_values t v s.values → v ≡ sum_mod 64 (q.word + r.word) →
            Lea (Ok r.next) (held regs' s.xmms s.flags values')
        sum_done h regs' values' v a b c = lea_done env s at _ _ _ _ _ _ t q r w.dst lea_one lea_two there found h regs' values' v a b c

  -- two destinations and a source
  module _ (t : Slot) (r : Loaded) (w : OperandsX t r) where
    abbrev Mulx : Exit → Config → Type 0
    Mulx x u = Ran (run_ins env at (Mulx64 (first bs at) (second bs at) (third bs at)) s) (behind bs (behind bs (behind bs (at + 1)))) x u

    mulx_low : Resolves env s (second bs at) (behind bs (behind bs (at + 1))) t
    mulx_low = slot_at env s bs _ _ w.is_second t w.low

    mulx_src : Loads env s (third bs at) (behind bs (behind bs (behind bs (at + 1)))) r
    mulx_src = load_at env s bs _ _ mulx_low.next r w.src

    pub product_unread : (r.number ≡ 0 → ⊥) → Mulx (exit r.number at) s
    product_unread = mulx_unread env s at _ _ _ _ _ t r mulx_low mulx_src

    pub product_unwritten : r.number ≡ 0 → 1 < t.how → Mulx (exit t.how at) s
    product_unwritten = mulx_unwritten env s at _ _ _ _ _ t r mulx_low mulx_src

  module _ (t : Slot) (r : Loaded) (lo hi : ℕ) (u : Slot) (w : Halves t r lo hi u) where
    pub product_unresolved : 1 < u.how → Mulx t r w.operands (exit u.how at) s
    product_unresolved =
        mulx_unresolved env s at _ _ _ _ _ t r (mulx_low t r w.operands) (mulx_src t r w.operands)
        w.found w.valid lo hi w.is_lo w.is_hi w.after _ w.is_after refl _ u w.high

    pub product_done :
        u.how ≤ 1 →
        (regs' values' regs'' values'' : List ℕ) →
        regs' ≡ put_regs t lo s.regs → values' ≡ put_values t lo s.values →
        regs'' ≡ put_regs u hi regs' → values'' ≡ put_values u hi values' →
        Mulx t r w.operands (Ok r.next) (held regs'' s.xmms s.flags values'')
    product_done h regs' values' regs'' values'' a b c d =
        mulx_done env s at _ _ _ _ _ t r (mulx_low t r w.operands) (mulx_src t r w.operands)
        w.found w.valid lo hi w.is_lo w.is_hi w.after values' w.is_after b _ u w.high
        h regs'' values'' (c ∙ ap (put_regs u hi) (a ∙ sym w.is_after)) d

-- ---- an instruction: what its function is asked, and that this runs it
module _ (bs : List ℕ) (at : ℕ) (i : InsAt bs at) where
  pub ins_starts : at < length bs
  ins_starts = omega (arith, ins_inside i.1, i.2)

  abbrev byte : ℕ → ℕ
  byte n = byte_at bs (at + n)

  -- where it has operands alone
  pub two_asked : (two : Bool) → two ≡ is_two (byte_at bs at) → two ≡ true → OperandsFrom 2 bs (at + 1) × (is_two (byte_at bs at) ≡ true)
  two_asked two is h = let k = sym is ∙ h in ((two_stood bs at i.0 i.1 i.2 _ k refl).operands, k)

  pub lea_asked : byte_at bs at ≡ 0x03 → OperandsFrom 3 bs (at + 1)
  lea_asked q = (lea_stood bs at i.0 i.1 i.2 q).operands

  pub mul_asked : byte_at bs at ≡ 0x08 → OperandsFrom 1 bs (at + 1)
  mul_asked q = (mul_stood bs at i.0 i.1 i.2 q).operands

  pub mulx_asked : byte_at bs at ≡ 0x09 → OperandsFrom 3 bs (at + 1)
  mulx_asked q = (mulx_stood bs at i.0 i.1 i.2 q).operands

  -- what is past 0e and has not a destination and a source is a lane's
  pub lane_asked :
      (two : Bool) → two ≡ is_two (byte_at bs at) → two ≡ false → 0x0e < byte_at bs at →
      (0x0f ≤ byte_at bs at) × (byte_at bs at < 0x19)
  lane_asked two is h l =
      let no : (n : ℕ) → n < 0x0f → byte_at bs at ≡ n → ⊥ = λ n m e. omega (arith, l, m, e) in
      lane_kinds _ i.1.head.kind (sym is ∙ h) (no 0x03 (omega arith)) (no 0x08 (omega arith)) (no 0x09 (omega arith))

  -- there is none but those
  pub no_other :
      (two : Bool) → two ≡ is_two (byte_at bs at) → two ≡ false → byte_at bs at ≤ 0x0e →
      (byte_at bs at ≡ 0x03 → ⊥) → (byte_at bs at ≡ 0x08 → ⊥) → (byte_at bs at ≡ 0x09 → ⊥) → ⊥
  no_other two is h l a b c = omega (arith, (lane_kinds _ i.1.head.kind (sym is ∙ h) a b c).0)

  pub quads_asked :
      is_quads (byte_at bs at) ≡ true → (at + 3 ≤ length bs) × ((byte 1 < 16) × ((byte 2 < 16) × (is_quads (byte_at bs at) ≡ true)))
  quads_asked h =
      let w = quads_stood bs at i.0 i.1 i.2 _ h refl in
      (w.stood.operands, (w.xmm, (w.other, h)))

  pub shifts_asked : is_shifts (byte_at bs at) ≡ true → (at + 3 ≤ length bs) × ((byte 1 < 16) × (is_shifts (byte_at bs at) ≡ true))
  shifts_asked h =
      let w = shifts_stood bs at i.0 i.1 i.2 _ h refl in
      (w.stood.operands, (w.xmm, h))

  pub shuffle_asked : byte_at bs at ≡ 0x13 → (at + 4 ≤ length bs) × ((byte 1 < 16) × (byte 2 < 16))
  shuffle_asked q = let w = shuffle_stood bs at i.0 i.1 i.2 q in (w.stood.operands, (w.xmm, w.other))

  pub word_shift_asked : byte_at bs at ≡ 0x18 → (at + 4 ≤ length bs) × ((byte 1 < 16) × (byte 2 < 16))
  word_shift_asked q = let w = word_shift_stood bs at i.0 i.1 i.2 q in (w.stood.operands, (w.xmm, w.other))

  pub extract_asked : byte_at bs at ≡ 0x15 → OperandsFrom 1 bs (at + 3) × (byte 1 < 16)
  extract_asked q = let w = extract_stood bs at i.0 i.1 i.2 q in (w.stood.operands, w.xmm)

  pub inserts_asked : is_inserts (byte_at bs at) ≡ true → OperandsFrom 1 bs (at + 3) × ((byte 1 < 16) × (is_inserts (byte_at bs at) ≡ true))
  inserts_asked h =
      let w = inserts_stood bs at i.0 i.1 i.2 _ h refl in
      (w.stood.operands, (w.xmm, h))

  -- a run of j that ends at b is that of what stands there
  module _ (env : Env) (s t : Config) (r : Exit) where
    abbrev StandsFor : Instruction → ℕ → Type 0
    StandsFor j b = Ran (run_ins env at j s) b r t → RunsIns env bs at s r t

    pub two_ran :
        (two : Bool) → two ≡ is_two (byte_at bs at) → two ≡ true →
        StandsFor (two_ins (byte_at bs at) (first bs at) (second bs at)) (behind bs (behind bs (at + 1)))
    two_ran two is h = ran_stood bs at _ 2 _ (two_stood bs at i.0 i.1 i.2 _ (sym is ∙ h) refl) env s t r

    pub mul_ran : byte_at bs at ≡ 0x08 → StandsFor (Mul64 (first bs at)) (behind bs (at + 1))
    mul_ran q = ran_stood bs at _ 1 _ (mul_stood bs at i.0 i.1 i.2 q) env s t r

    pub lea_ran : byte_at bs at ≡ 0x03 → StandsFor (AddLea64 (first bs at) (second bs at) (third bs at)) (behind bs (behind bs (behind bs (at + 1))))
    lea_ran q = ran_stood bs at _ 3 _ (lea_stood bs at i.0 i.1 i.2 q) env s t r

    pub mulx_ran : byte_at bs at ≡ 0x09 → StandsFor (Mulx64 (first bs at) (second bs at) (third bs at)) (behind bs (behind bs (behind bs (at + 1))))
    mulx_ran q = ran_stood bs at _ 3 _ (mulx_stood bs at i.0 i.1 i.2 q) env s t r

    pub quads_ran : is_quads (byte_at bs at) ≡ true → StandsFor (quads_ins (byte_at bs at) (byte 1) (byte 2)) (at + 3)
    quads_ran h = ran_stood bs at _ 0 _ (quads_stood bs at i.0 i.1 i.2 _ h refl).stood env s t r

    pub shifts_ran : is_shifts (byte_at bs at) ≡ true → StandsFor (shifts_ins (byte_at bs at) (byte 1) (byte 2)) (at + 3)
    shifts_ran h = ran_stood bs at _ 0 _ (shifts_stood bs at i.0 i.1 i.2 _ h refl).stood env s t r

    pub shuffle_ran : byte_at bs at ≡ 0x13 → StandsFor (Pshufd (byte 1) (byte 2) (byte 3)) (at + 4)
    shuffle_ran q = ran_stood bs at _ 0 _ (shuffle_stood bs at i.0 i.1 i.2 q).stood env s t r

    pub word_shift_ran : byte_at bs at ≡ 0x18 → StandsFor (VPSLLDQ (byte 1) (byte 2) (byte 3)) (at + 4)
    word_shift_ran q = ran_stood bs at _ 0 _ (word_shift_stood bs at i.0 i.1 i.2 q).stood env s t r

    pub extract_ran : byte_at bs at ≡ 0x15 → StandsFor (Pextrq (operand_at bs (at + 3)) (byte 1) (byte 2)) (behind bs (at + 3))
    extract_ran q = ran_stood bs at _ 1 _ (extract_stood bs at i.0 i.1 i.2 q).stood env s t r

    pub inserts_ran :
        is_inserts (byte_at bs at) ≡ true →
        StandsFor (inserts_ins (byte_at bs at) (byte 1) (operand_at bs (at + 3)) (byte 2)) (behind bs (at + 3))
    inserts_ran h = ran_stood bs at _ 1 _ (inserts_stood bs at i.0 i.1 i.2 _ h refl).stood env s t r

-- ---- a structure: the places of its lengths fit, inside the bytes, of which there are fewer than 2 ^ 63
module _ (bs : List ℕ) (at : ℕ) (c : CodeAt bs at) (k : 0x20 ≤ byte_at bs at) where
  pub length_inside : at + 1 + 4 ≤ length bs
  length_inside = omega (arith, has_length bs at c k)

  module _ (room : length bs * 1 < 2 ^ 63) where
    pub length_fits : Fits w64 (at + 1)
    length_fits = omega (arith, has_length bs at c k)

    pub behind_fits : Fits w64 (at + 5)
    behind_fits = omega (arith, has_length bs at c k)

-- ---- a list of codes, at the code that is next
module _ (env : Env) (limit : Option ℕ) (bs : List ℕ) (from e fuel : ℕ) (s₀ : Config) (k₀ : Counted) (at : ℕ) (s : Config) (k : Counted)
    (g : Going env limit bs from e fuel s₀ k₀ at s k) (c : CodesAt bs from e) (inside : at < e) where
  pub next_code : CodeAt bs at
  next_code = next_there env limit bs from e fuel s₀ k₀ at s k g inside c.inside

  pub next_ins : byte_at bs at < 0x20 → InsAt bs at
  next_ins kind = (next_code.end, (code_frame bs at next_code).ins kind, next_code.inside)

  -- it is measured less than the list
  pub next_less : (m : ℕ) → fuel + (length bs - from) ≡ m → fuel + (length bs - (at + 1)) < m
  next_less m is = omega (arith, starts bs at next_code, g.past)

  -- a Block that is entered leaves less of the list
  pub block_less : e - (at + 5) < e - at
  block_less = omega (arith, inside)

  -- what was run leaves less of the list
  pub rest_less : (r : Exit) (t : Config) (l : Counted) → Runs env limit bs at fuel s k r t l → (q : ℕ) → r ≡ Ok q → e - q < e - at
  rest_less r t l ran q z = let p = next_past env limit bs from e fuel s₀ k₀ at s k g r t l ran inside q z in omega (arith, p.0, p.1)

  pub rest_less_ins :
      (r : Exit) (t : Config) (l : Counted) → StepsIns env limit bs at s k r t l → byte_at bs at < 0x20 → (q : ℕ) → r ≡ Ok q → e - q < e - at
  rest_less_ins r t l ran kind q z = rest_less r t l (ins_ran env limit bs at fuel s k r t l kind ran) q z

-- a structure that is no Block
pub past_block : (k : ℕ) → 0x20 ≤ k → (k ≡ 0x20 → ⊥) → 0x21 ≤ k
past_block k h n = omega (arith, h, n)

-- ---- an IfElse or a While: it stands there, and so does its comparison
pub is_tested : (bs : List ℕ) (at : ℕ) → CodeAt bs at → 0x21 ≤ byte_at bs at → TestedAt bs at (eqb (byte_at bs at) 0x21)
is_tested bs at c k = go (eqb (byte_at bs at) 0x21) refl
  where
    go : (b : Bool) → eqb (byte_at bs at) 0x21 ≡ b → TestedAt bs at b
    go true h = record { code = c; kind = eqb-true _ _ h }
    go false h = record { code = c; kind = (code_frame bs at c).kinds (omega arith) (λ z. omega (arith, z, k)) (eqb-false _ _ h) }

pub tested_kind : (bs : List ℕ) (at : ℕ) (chooses : Bool) → TestedAt bs at chooses → 0x20 ≤ byte_at bs at
tested_kind bs at true w = omega (arith, w.kind)
tested_kind bs at false w = omega (arith, w.kind)

test_there : (bs : List ℕ) (at : ℕ) (chooses : Bool) → TestedAt bs at chooses → OcmpAt bs (test_at at chooses)
test_there bs at true w = let c = choice_inside bs at w.code w.kind in (c.mid, c.stands, omega (arith, c.within))
test_there bs at false w = let c = loop_inside bs at w.code w.kind in (c.mid, c.stands, omega (arith, c.within))

pub test_fits : (bs : List ℕ) (at : ℕ) → CodeAt bs at → 0x21 ≤ byte_at bs at → length bs * 1 < 2 ^ 63 → at + 9 < 2 ^ 64
test_fits bs at c k room = omega (arith, has_length bs at c (omega arith))

-- where its parts stand, the first from a place on
module _ (bs : List ℕ) (at first : ℕ) (n : ℕ) (size : n ≡ number_at 4 bs (at + 1)) where
  pub second_fits :
      (chooses : Bool) → TestedAt bs at chooses → BehindTest bs at chooses first → length bs * 1 < 2 ^ 63 → Fits w64 (first + n)
  second_fits true w behind room =
      let c = choice_inside bs at w.code w.kind in omega (arith, c.within, behind c.mid c.stands, size)
  second_fits false w behind room =
      let c = loop_inside bs at w.code w.kind in omega (arith, c.within, behind c.mid c.stands, size)

  module _ (chooses : Bool) (chosen : chooses ≡ true) (w : TestedAt bs at chooses) where
    choice : Choice bs at
    choice = choice_inside bs at w.code (w.kind ∙ ap (λ (b : Bool). cond b 0x21 0x22) chosen)

    pub other_inside : at + 5 + 4 ≤ length bs
    other_inside = omega (arith, choice.past, choice.within)

    pub end_fits : (o : ℕ) → o ≡ number_at 4 bs (at + 5) → BehindTest bs at chooses first → length bs * 1 < 2 ^ 63 → Fits w64 (first + n + o)
    end_fits o other behind room =
        let stands = subst (λ (b : Bool). Stands is_ocmp bs (test_at at b) choice.mid) (sym chosen) choice.stands in
        omega (arith, choice.within, behind choice.mid stands, size, other)

-- where it ends, and where it goes on
abbrev pub end_at : List ℕ → ℕ → Bool → ℕ → ℕ
end_at bs at chooses first =
    let second = first + number_at 4 bs (at + 1) in cond chooses (second + number_at 4 bs (at + 5)) second

module _ (bs : List ℕ) (at : ℕ) (chooses : Bool) (x : Compared) (n : ℕ) (size : n ≡ number_at 4 bs (at + 1)) where
  pub end_chosen : (o : ℕ) → o ≡ number_at 4 bs (at + 5) → chooses ≡ true → x.next + n + o ≡ end_at bs at chooses x.next
  end_chosen o other h = rw (h, size, other)

  pub end_looped : chooses ≡ false → x.next + n ≡ end_at bs at chooses x.next
  end_looped h = rw (h, size)

  module _ (end : ℕ) (end_is : end ≡ end_at bs at chooses x.next) where
    pub way_holds : x.how ≡ 1 → record { part = x.next; behind = x.next + n; end = end } ≡ way_from bs at chooses x
    way_holds h = rw (end_is, size, eq-eqb x.how 1 h)

    pub way_fails : (x.how ≡ 1 → ⊥) → record { part = x.next + n; behind = end; end = end } ≡ way_from bs at chooses x
    way_fails h = rw (end_is, size, ne_eqb x.how 1 h)

-- where a way leads
ways :
    (first second end n : ℕ) (way : Way) (b : Bool) → eqb n 1 ≡ b →
    way ≡ cond b (record { part = first; behind = second; end = end }) (record { part = second; behind = end; end = end }) →
    (way.end ≡ end)
    × (((n ≡ 1) × (way.part ≡ first) × (way.behind ≡ second)) ⊎ ((n ≡ 1 → ⊥) × (way.part ≡ second) × (way.behind ≡ end)))
ways first second end n way true t e =
    (ap (λ (v : Way). v.end) e, inl (eqb-true n 1 t, ap (λ (v : Way). v.part) e, ap (λ (v : Way). v.behind) e))
ways first second end n way false t e =
    (ap (λ (v : Way). v.end) e, inr (eqb-false n 1 t, ap (λ (v : Way). v.part) e, ap (λ (v : Way). v.behind) e))

-- ---- its rounds, of which an IfElse has one: what holds at the head of the loop over them
pub record Testing (env : Env) (limit : Option ℕ) (bs : List ℕ) (at fuel : ℕ) (s₀ : Config) (k₀ : Counted) (chooses : Bool) (test left : ℕ)
    (s : Config) (k : Counted) : Type 0 where
  pub tested : TestedAt bs at chooses
  pub is_test : test ≡ test_at at chooses
  pub looping : Looping env limit bs at fuel s₀ k₀ left s k

pub testing_starts :
    (env : Env) (limit : Option ℕ) (bs : List ℕ) (at fuel : ℕ) (s : Config) (k : Counted) (test : ℕ) →
    CodeAt bs at → 0x21 ≤ byte_at bs at → test ≡ test_at at (eqb (byte_at bs at) 0x21) →
    Testing env limit bs at fuel s k (eqb (byte_at bs at) 0x21) test fuel s k
testing_starts env limit bs at fuel s k test c kind is =
    record { tested = is_tested bs at c kind; is_test = is; looping = record { same = λ _ _ _. refl; long = refl; less = omega arith } }

module _ (env : Env) (limit : Option ℕ) (bs : List ℕ) (at fuel : ℕ) (s₀ : Config) (k₀ : Counted) (test left : ℕ) (s : Config) (k : Counted) where
  abbrev Head : Bool → Type 0
  Head chooses = Testing env limit bs at fuel s₀ k₀ chooses test left s k

  pub test_stands : (chooses : Bool) → Head chooses → OcmpAt bs test
  test_stands chooses w = rw w.is_test (test_there bs at chooses w.tested)

  -- by the loop's test, neither does it choose nor is fuel left
  pub turns_spent : (chooses : Bool) → Head chooses → chooses ≡ false → left ≡ 0 → Runs env limit bs at fuel s₀ k₀ (exit 1 at) s k
  turns_spent true w h z = absurd (true≢false h)
  turns_spent false w h z =
      looped env limit bs at fuel s₀ k₀ left s k w.looping (exit 1 at) s k
      (loop_spent env limit bs at left s k w.tested.kind z)

  -- its comparison has answered x and left j counted
  module _ (x : Compared) (j : Counted) where
    at_test : (chooses : Bool) → Head chooses → DecidesAt env limit bs test s k x j → DecidesAt env limit bs (test_at at chooses) s k x j
    at_test chooses w compared = subst (λ (q : ℕ). DecidesAt env limit bs q s k x j) w.is_test compared

    pub behind_test : (chooses : Bool) → Head chooses → DecidesAt env limit bs test s k x j → x.how ≤ 1 → BehindTest bs at chooses x.next
    behind_test chooses w compared read e h = (at_test chooses w compared e h).next read

    pub turn_stopped :
        (chooses : Bool) → Head chooses → (chooses ≡ false → left ≡ 0 → ⊥) → DecidesAt env limit bs test s k x j → 1 < x.how →
        Runs env limit bs at fuel s₀ k₀ (exit x.how test) s j
    turn_stopped true w some_fuel compared h =
        looped env limit bs at fuel s₀ k₀ left s k w.looping (exit x.how test) s j
        (subst (λ (q : ℕ). Runs env limit bs at left s k (exit x.how q) s j) (sym w.is_test)
        (if_stops env limit bs at left s k w.tested.kind x j (at_test true w compared) h))
    turn_stopped false w some_fuel compared h =
        looped env limit bs at fuel s₀ k₀ left s k w.looping (exit x.how test) s j
        (subst (λ (q : ℕ). Runs env limit bs at left s k (exit x.how q) s j) (sym w.is_test)
        (loop_stopped env limit bs at left s k w.tested.kind (some_fuel refl) x j (at_test false w compared) h))

    -- a round of a While, which ends where its way does
    round_at :
        Head false → (false ≡ false → left ≡ 0 → ⊥) → DecidesAt env limit bs test s k x j → x.how ≤ 1 →
        (way : Way) → way ≡ way_from bs at false x → Round env limit bs at left s k x j way.end
    round_at w some_fuel compared read way is =
        record {
          kind = w.tested.kind;
          some_fuel = some_fuel refl;
          compared = at_test false w compared;
          read = read;
          end_is = (ways _ _ _ x.how way (eqb x.how 1) refl is).0;
        }

    -- a While whose comparison does not hold is at its end
    pub turns_over :
        (chooses : Bool) → Head chooses → (chooses ≡ false → left ≡ 0 → ⊥) → DecidesAt env limit bs test s k x j →
        (way : Way) → way ≡ way_from bs at chooses x → x.how ≡ 0 → chooses ≡ false →
        Runs env limit bs at fuel s₀ k₀ (Ok way.end) (with_flags env.fill s) j
    turns_over true w some_fuel compared way is z c = absurd (true≢false c)
    turns_over false w some_fuel compared way is z c =
        looped env limit bs at fuel s₀ k₀ left s k w.looping (Ok way.end) (with_flags env.fill s) j
        (round_over env limit bs at left s k x j way.end (round_at w some_fuel compared (omega (arith, z)) way is) z)

-- by the loop's test a While has fuel for the round, and by the test behind its comparison that holds
pub some_fuel : (chooses : Bool) (left : ℕ) → (chooses ≡ true) ⊎ ((chooses ≡ false) × (left ≡ 0 → ⊥)) → chooses ≡ false → left ≡ 0 → ⊥
some_fuel chooses left (inl h) f z = true≢false (sym h ∙ f)
some_fuel chooses left (inr h) f z = h.1 z

pub goes_round : (chooses : Bool) (n : ℕ) → ((n ≡ 0) × (chooses ≡ true)) ⊎ (n ≡ 0 → ⊥) → chooses ≡ false → n ≡ 0 → ⊥
goes_round chooses n (inl h) f z = true≢false (sym h.1 ∙ f)
goes_round chooses n (inr h) f z = h z

-- a round whose comparison has answered x and left j counted, and goes on, where the evaluator has come to it with the measure m
pub record Turn (env : Env) (limit : Option ℕ) (bs : List ℕ) (at fuel m : ℕ) (s₀ : Config) (k₀ : Counted) (test left : ℕ) (s : Config)
    (k : Counted) (x : Compared) (j : Counted) (way : Way) (chooses : Bool) : Type 0 where
  pub head : Testing env limit bs at fuel s₀ k₀ chooses test left s k
  pub some_fuel : chooses ≡ false → left ≡ 0 → ⊥
  pub compared : DecidesAt env limit bs test s k x j
  pub read : x.how ≤ 1
  pub holds : chooses ≡ false → x.how ≡ 0 → ⊥
  pub way_is : way ≡ way_from bs at chooses x
  pub long : length s₀.values ≡ length env.addresses
  pub measured : fuel + (length bs - (at + 1)) ≡ m

module _ (env : Env) (limit : Option ℕ) (bs : List ℕ) (at fuel m : ℕ) (s₀ : Config) (k₀ : Counted) (test left : ℕ) (s : Config)
    (k : Counted) (x : Compared) (j : Counted) (way : Way) where
  abbrev Turns : Bool → Type 0
  Turns chooses = Turn env limit bs at fuel m s₀ k₀ test left s k x j way chooses

  -- as an IfElse goes, and as a While
  as_chosen : Turns true → Chosen env limit bs at s k x j way.part way.behind way.end
  as_chosen w =
      let d = ways _ _ _ x.how way (eqb x.how 1) refl w.way_is in
      record {
        kind = w.head.tested.kind;
        compared = at_test env limit bs at fuel s₀ k₀ test left s k x j true w.head w.compared;
        read = w.read;
        mid = x.next + number_at 4 bs (at + 1);
        mid_is = refl;
        end_is = d.0;
        way = ⊎_elim inl (λ h. inr (h.0, h.1, h.2 ∙ sym d.0)) d.1;
      }

  as_round : Turns false → Round env limit bs at left s k x j way.end × (way.part ≡ x.next) × (way.behind ≡ way.end)
  as_round w =
      let d = ways _ _ _ x.how way (eqb x.how 1) refl w.way_is in
      let round = round_at env limit bs at fuel s₀ k₀ test left s k x j w.head w.some_fuel w.compared w.read way w.way_is in
      ⊎_elim (λ h. (round, h.1, h.2 ∙ sym d.0)) (λ h. absurd (w.holds refl (omega (arith, w.read, h.0)))) d.1

  -- its part's code, and that there are codes to its end, which begin behind the test
  part_there : (chooses : Bool) → Turns chooses → CodeAt bs way.part × CodesAt bs (codes_from bs way.part) way.behind × (at + 5 < way.part)
  part_there true w =
      let q = chosen_there env limit bs at left s k x j way.part way.behind way.end (as_chosen w) w.head.tested.code in
      (q.0, q.1, omega (arith, q.2))
  part_there false w =
      let r = as_round w in rw (r.1, r.2) (round_there env limit bs at left s k x j way.end r.0 w.head.tested.code)

  pub turn_code : (chooses : Bool) → Turns chooses → CodeAt bs way.part
  turn_code chooses w = (part_there chooses w).0

-- and its part, whose codes begin at p, with the fuel that it is given
pub record Taken (env : Env) (limit : Option ℕ) (bs : List ℕ) (at fuel m : ℕ) (s₀ : Config) (k₀ : Counted) (test left : ℕ) (s : Config)
    (k : Counted) (x : Compared) (j : Counted) (way : Way) (chooses : Bool) (p given : ℕ) : Type 0 where
  pub turn : Turn env limit bs at fuel m s₀ k₀ test left s k x j way chooses
  pub begins : p ≡ codes_from bs way.part
  pub fuel_is : given ≡ part_fuel chooses left

pub taking :
    {env : Env} {limit : Option ℕ} {bs : List ℕ} {at fuel m : ℕ} {s₀ : Config} {k₀ : Counted} {test left : ℕ} {s : Config} {k : Counted}
    {x : Compared} {j : Counted} {way : Way} {chooses : Bool} {p given : ℕ} →
    Turn env limit bs at fuel m s₀ k₀ test left s k x j way chooses → p ≡ codes_from bs way.part → given ≡ part_fuel chooses left →
    Taken env limit bs at fuel m s₀ k₀ test left s k x j way chooses p given
taking w begins fuel_is = record { turn = w; begins = begins; fuel_is = fuel_is }

module _ (env : Env) (limit : Option ℕ) (bs : List ℕ) (at fuel m : ℕ) (s₀ : Config) (k₀ : Counted) (test left : ℕ) (s : Config)
    (k : Counted) (x : Compared) (j : Counted) (way : Way) (p given : ℕ) where
  abbrev Takes : Bool → Type 0
  Takes chooses = Taken env limit bs at fuel m s₀ k₀ test left s k x j way chooses p given

  pub taken_codes : (chooses : Bool) → Takes chooses → CodesAt bs p way.behind
  taken_codes chooses w = rw w.begins (part_there env limit bs at fuel m s₀ k₀ test left s k x j way chooses w.turn).1

  pub taken_long : (chooses : Bool) → Takes chooses → length s.values ≡ length env.addresses
  taken_long chooses w = let v = w.turn in v.head.looping.long ∙ v.long

  pub taken_less : (chooses : Bool) → Takes chooses → given + (length bs - p) < m
  taken_less chooses w =
      let v = w.turn in
      let t = part_there env limit bs at fuel m s₀ k₀ test left s k x j way chooses v in
      let f : given ≤ left = fuel_falls chooses w.fuel_is in
      omega (arith, v.measured, v.head.looping.less, starts bs way.part t.0, t.2, codes_past bs way.part, w.begins, f)
    where
      fuel_falls : (b : Bool) → given ≡ part_fuel b left → given ≤ left
      fuel_falls true f = omega (arith, f)
      fuel_falls false f = omega (arith, f)

  -- there is less fuel for the rounds that follow
  pub taken_falls : (chooses : Bool) → Takes chooses → chooses ≡ false → given < left
  taken_falls true w c = absurd (true≢false c)
  taken_falls false w c = let z = w.turn.some_fuel refl in omega (arith, w.fuel_is, z)

  -- the part is spent
  pub taken_spends :
      (chooses : Bool) → Takes chooses → SpendsAll env limit bs p way.behind given (with_flags env.fill s) j → Spends env limit bs at fuel s₀ k₀
  taken_spends true w out =
      let chosen = as_chosen env limit bs at fuel m s₀ k₀ test left s k x j way w.turn in
      looped_spends env limit bs at fuel s₀ k₀ left s k w.turn.head.looping
      (chosen_spends env limit bs at left s k x j way.part way.behind way.end chosen (rw (w.begins, w.fuel_is) at out))
  taken_spends false w out =
      let q = as_round env limit bs at fuel m s₀ k₀ test left s k x j way w.turn in
      looped_spends env limit bs at fuel s₀ k₀ left s k w.turn.head.looping
      (round_spends env limit bs at left s k x j way.end q.0 (w.turn.holds refl) (rw (w.begins, w.fuel_is, q.1, q.2) at out))

  -- the part has ended in r
  module _ (r : Exit) (t : Config) (l : Counted) (ran : RunsAll env limit bs p way.behind given (with_flags env.fill s) j r t l) where
    chosen_exit :
        Takes true → (r' : Exit) → how r' ≡ how r → ((q : ℕ) → r' ≡ Ok q → q ≡ way.end) → Runs env limit bs at fuel s₀ k₀ r' t l
    chosen_exit w r' o n =
        let chosen = as_chosen env limit bs at fuel m s₀ k₀ test left s k x j way w.turn in
        looped env limit bs at fuel s₀ k₀ left s k w.turn.head.looping r' t l
        (chosen_ran env limit bs at left s k x j way.part way.behind way.end chosen r t l (rw (w.begins, w.fuel_is) at ran) r' o n)

    round_of : Takes false → Round env limit bs at left s k x j way.end
    round_of w = (as_round env limit bs at fuel m s₀ k₀ test left s k x j way w.turn).0

    body_ran : Takes false → RunsAll env limit bs (codes_from bs x.next) way.end (left - 1) (with_flags env.fill s) j r t l
    body_ran w =
        let q = as_round env limit bs at fuel m s₀ k₀ test left s k x j way w.turn in rw (w.begins, w.fuel_is, q.1, q.2) at ran

    pub taken_stops : (chooses : Bool) → Takes chooses → (st : Stop) → r ≡ Err st → Runs env limit bs at fuel s₀ k₀ (Err st) t l
    taken_stops true w st h = chosen_exit w (Err st) (ap (λ (o : Exit). how o) (sym h)) (λ q z. absurd (err_ok z))
    taken_stops false w st h =
        looped env limit bs at fuel s₀ k₀ left s k w.turn.head.looping (Err st) t l
        (round_stops env limit bs at left s k x j way.end (round_of w) (w.turn.holds refl) r t l (body_ran w) st h)

    pub taken_done : (chooses : Bool) → Takes chooses → chooses ≡ true → (q : ℕ) → r ≡ Ok q → Runs env limit bs at fuel s₀ k₀ (Ok way.end) t l
    taken_done true w c q h = chosen_exit w (Ok way.end) (ap (λ (o : Exit). how o) (sym h)) (λ p z. ok_is z)
    taken_done false w c q h = absurd (true≢false (sym c))

    pub taken_goes :
        (chooses : Bool) → Takes chooses → chooses ≡ false → (q : ℕ) → r ≡ Ok q → length t.values ≡ length s.values →
        Testing env limit bs at fuel s₀ k₀ chooses test given t l
    taken_goes true w c q h long = absurd (true≢false c)
    taken_goes false w c q h long =
        let head = w.turn.head in
        let goes = round_goes env limit bs at left s k x j way.end (round_of w) (w.turn.holds refl) r t l (body_ran w) q h in
        let again : Looping env limit bs at fuel s₀ k₀ (left - 1) t l = record {
          same = λ d e y. head.looping.same d e y ∙ goes d e y;
          long = long ∙ head.looping.long;
          less = omega (arith, head.looping.less);
        } in
        record { tested = head.tested; is_test = head.is_test; looping = rw w.fuel_is again }

-- ---- what the checks answered is the verdict of their definitions, code first
module _ (bs addresses tags : List ℕ) (fill : ℕ) (rule : FlagRule) (fuel : ℕ) (limit : Option ℕ) (s : Config) (v : Result Unit Refusal)
    (is : verdict v ≡ and_then (check_code bs) (check_cells addresses tags s.values)) where
  pub refused_run :
      (y : Refusal) → v ≡ Err y → (w : Watch) → w ≡ nothing_open →
      ended (Config.refused (rule_number y.rule) y.place) s (counted 0 w) ≡ run_of bs (environment addresses tags fill rule) fuel limit s
  refused_run y e w none =
      ap (λ (w : Watch). ended (Config.refused (rule_number y.rule) y.place) s (counted 0 w)) none
      ∙ go (check_code bs) refl (sym (ap verdict e) ∙ is)
    where
      go : (c : Verdict) → check_code bs ≡ c → refused (rule_number y.rule) y.place ≡ and_then c (check_cells addresses tags s.values) →
          ended (Config.refused (rule_number y.rule) y.place) s nothing_counted ≡ run_of bs (environment addresses tags fill rule) fuel limit s
      go accepted h g = cells_refused bs _ fuel limit s h _ _ (sym g)
      go (refused n p) h g = code_refused bs _ fuel limit s _ _ (h ∙ sym g)

-- where both accept, each does
pub both_accepted : (v : Result Unit Refusal) (code cells : Verdict) → verdict v ≡ and_then code cells → (u : Unit) → v ≡ Ok u →
    (code ≡ accepted) × (cells ≡ accepted)
both_accepted v accepted cells is u e = (refl, sym is ∙ ap verdict e)
both_accepted v (refused n p) cells is u e = absurd (let f = sym is ∙ ap verdict e in let z : ◌≡◌ {A = ℕ} 0 1 = cc in omega arith)
