-- How the parts of a code run: what an exit says of the run that it is a part of. Assumes nothing.
use Prim.Native.Nat.{ℕ, zero, suc, ◌+◌, ◌-◌, ◌≤◌, ◌<◌}
use mathlib.Core.Path.{◌≡◌, refl, sym, ap, subst, ◌∙◌}
use mathlib.Core.Bool.{Bool, true, false, cond, true≢false}
use mathlib.Core.List.{List}
use mathlib.Core.Option.{Option}
use mathlib.Core.Logic.{◌⊎◌, ⊎_elim}
use native.Mathlib.Omega.{arith}
use native.Mathlib.Numerals.{sub-one}
use borrow.Author.Tests.{eqb-true}
use lib.Dec.{eqb}
use lib.ListN.{length}
use Rattle.code.specs.declared.tree.Ocmp.{Ocmp}
use Rattle.code.specs.Tree.{Code, Codes, ⟨⟩, ◌∷ᶜ◌}
use Rattle.code.specs.Records.{is_ocmp, byte_at, number_at, ocmp_at}
use Rattle.code.specs.Spells.{Stands, Spells, SpellsAll}
use Rattle.code.proofs.Sound.{stands_past}
use Rattle.code.proofs.Joining.{join, join_spelled}
use Rattle.code.proofs.CodeFrames.{Frame, frame, ins_there, block_there, if_there, while_there, first_there, none_there, list_of_one, structure_long}
use Rattle.eval.specs.Config.{Env, Config, with_flags, Outcome, done, fault, stopped, spent, refused}
use Rattle.eval.specs.Instructions.{eval_ocmp}
use Rattle.eval.specs.Counted.{Counted, Ended, ended, Part, continue, and_then}
use Rattle.eval.specs.Running.{decide, rounds, run_code, run_codes}
use Rattle.eval.specs.LeastFuel.{is_spent}
use Rattle.eval.specs.Promises.{how, Reached, StepsIns, Decides, DecidesAt, CodeAt, CodesAt, codes_from, Runs, RunsAll, Spends, SpendsAll}
use Rattle.eval.specs.Promises.{Exit}
use Rattle.std.specs.Prelude.{Ok, Err}
use Rattle.eval.specs.declared.exit.Stop.{Stop}
use Rattle.eval.specs.Promises.{Compared}
use Rattle.eval.proofs.InstructionLaws.{exit, err_ok, ok_is}

pub code_frame : (bs : List ℕ) (at : ℕ) (c : CodeAt bs at) → Frame bs at c.end
code_frame bs at c = frame c.code bs at c.end c.spelled

pub starts : (bs : List ℕ) (at : ℕ) → CodeAt bs at → at < length bs
starts bs at c = omega (arith, (code_frame bs at c).past, c.inside)

pub has_length : (bs : List ℕ) (at : ℕ) → CodeAt bs at → 0x20 ≤ byte_at bs at → at + 5 ≤ length bs
has_length bs at c k = omega (arith, structure_long c.code bs at c.end c.spelled k, c.inside)

-- the parts of a structure that stands inside the bytes
pub record Choice (bs : List ℕ) (at : ℕ) : Type 0 where
  pub mid : ℕ
  pub stands : Stands is_ocmp bs (at + 9) mid
  pub past : at + 9 < mid
  pub within : mid + number_at 4 bs (at + 1) + number_at 4 bs (at + 5) ≤ length bs

pub choice_inside : (bs : List ℕ) (at : ℕ) → CodeAt bs at → byte_at bs at ≡ 0x21 → Choice bs at
choice_inside bs at c k =
    let w = (code_frame bs at c).choice k in
    record { mid = w.0; stands = w.1; past = w.2; within = omega (arith, w.3, c.inside) }

pub record Loop (bs : List ℕ) (at : ℕ) : Type 0 where
  pub mid : ℕ
  pub stands : Stands is_ocmp bs (at + 5) mid
  pub past : at + 5 < mid
  pub within : mid + number_at 4 bs (at + 1) ≤ length bs

pub loop_inside : (bs : List ℕ) (at : ℕ) → CodeAt bs at → byte_at bs at ≡ 0x22 → Loop bs at
loop_inside bs at c k =
    let w = (code_frame bs at c).loop k in
    record { mid = w.0; stands = w.1; past = w.2; within = omega (arith, w.3, c.inside) }

-- ---- what follows an exit
stops_there :
    (b c : Bool) (n p : ℕ) (s : Config) (k : Counted) (f : Part) →
    continue (cond b (spent p) (cond c (stopped n p) (fault n p))) s k f ≡ ended (cond b (spent p) (cond c (stopped n p) (fault n p))) s k
unfolding continue
stops_there true c n p s k f = refl
stops_there false true n p s k f = refl
stops_there false false n p s k f = refl

how_stops : (st : Stop) (s : Config) (k : Counted) (f : Part) → continue (how (Err st)) s k f ≡ ended (how (Err st)) s k
how_stops st s k f = stops_there (eqb st.number 1) (eqb st.number 37) st.number st.place s k f

module _ (e : Ended) (m : ℕ) (r : Exit) (t : Config) (l : Counted) (ran : Reached e m r t l) (f : Part) where
  goes_on : (q : ℕ) → r ≡ Ok q → and_then e f ≡ f t l
  unfolding continue
  goes_on q h =
      ap (λ (x : Ended). and_then x f) (sym ran.ends) ∙ ap (λ (o : Exit). continue (how o) t l f) h

  stops : (st : Stop) → r ≡ Err st → and_then e f ≡ ended (how (Err st)) t l
  stops st h =
      ap (λ (x : Ended). and_then x f) (sym ran.ends) ∙ ap (λ (o : Exit). continue (how o) t l f) h ∙ how_stops st t l f

-- nor does anything follow what is spent
still_spent : (o : Outcome) (s : Config) (k : Counted) (f : Part) → is_spent o ≡ true → is_spent (continue o s k f).end.how ≡ true
unfolding continue is_spent
still_spent done s k f h = absurd (true≢false (sym h))
still_spent (fault n p) s k f h = h
still_spent (stopped n p) s k f h = h
still_spent (spent p) s k f h = h
still_spent (refused n p) s k f h = h

-- an end that is another is spent where that is
pub spent_too : (d e : Ended) → d ≡ e → is_spent e.end.how ≡ true → is_spent d.end.how ≡ true
spent_too d e is = subst (λ (x : Ended). is_spent x.end.how ≡ true) (sym is)

-- nothing follows a list of one
done_last : (o : Outcome) (s : Config) (k : Counted) → continue o s k (ended done) ≡ ended o s k
unfolding continue
done_last done s k = refl
done_last (fault n p) s k = refl
done_last (stopped n p) s k = refl
done_last (spent p) s k = refl
done_last (refused n p) s k = refl

pub run_one :
    (env : Env) (limit : Option ℕ) (c : Code) (fuel : ℕ) (s : Config) (k : Counted) →
    run_codes env limit (c ∷ᶜ ⟨⟩) fuel s k ≡ run_code env limit c fuel s k
unfolding run_codes
run_one env limit c fuel s k = let e = run_code env limit c fuel s k in done_last e.end.how e.end.config e.counted

-- ---- an instruction
pub ins_ran :
    (env : Env) (limit : Option ℕ) (bs : List ℕ) (at fuel : ℕ) (s : Config) (k : Counted) (r : Exit) (t : Config) (l : Counted) →
    byte_at bs at < 0x20 →
    StepsIns env limit bs at s k r t l →
    Runs env limit bs at fuel s k r t l
unfolding run_code
ins_ran env limit bs at fuel s k r t l kind g c e h =
    let w = ins_there c bs at e h kind in
    subst (λ (x : Code). Reached (run_code env limit x fuel s k) e r t l) (sym w.is) (g e w.stands)

-- ---- a part is a list of codes: those of a Block, or the one code that it is
module _ (bs : List ℕ) (at : ℕ) where
  part_goes :
      (c : Code) (e : ℕ) → Spells c bs at e →
      (cs : Codes) × SpellsAll cs bs (codes_from bs at) e
      × ((env : Env) (limit : Option ℕ) (fuel : ℕ) (s : Config) (k : Counted) → run_code env limit c fuel s k ≡ run_codes env limit cs fuel s k)
  unfolding run_code
  part_goes c e h = go (eqb (byte_at bs at) 0x20) refl
    where
      go :
          (b : Bool) → eqb (byte_at bs at) 0x20 ≡ b →
          (cs : Codes) × SpellsAll cs bs (cond b (at + 5) at) e
          × ((env : Env) (limit : Option ℕ) (fuel : ℕ) (s : Config) (k : Counted) → run_code env limit c fuel s k ≡ run_codes env limit cs fuel s k)
      go true kind =
          let w = block_there c bs at e h (eqb-true _ _ kind) in
          (w.codes, w.spelled, λ env limit fuel s k. ap (λ (x : Code). run_code env limit x fuel s k) w.is)
      go false kind = (c ∷ᶜ ⟨⟩, list_of_one c bs at e h, λ env limit fuel s k. sym (run_one env limit c fuel s k))

  pub part_codes : (c : Code) (e : ℕ) → Spells c bs at e → e ≤ length bs → CodesAt bs (codes_from bs at) e
  part_codes c e h l = let w = part_goes c e h in record { codes = w.0; spelled = w.1; inside = l }

  module _ (env : Env) (limit : Option ℕ) (e fuel : ℕ) (s : Config) (k : Counted) where
    pub part_ran :
        (r : Exit) (t : Config) (l : Counted) → RunsAll env limit bs (codes_from bs at) e fuel s k r t l → (c : Code) → Spells c bs at e →
        Reached (run_code env limit c fuel s k) e r t l
    part_ran r t l g c h =
        let w = part_goes c e h in subst (λ (x : Ended). Reached x e r t l) (sym (w.2 env limit fuel s k)) (g w.0 w.1)

    part_spends :
        SpendsAll env limit bs (codes_from bs at) e fuel s k → (c : Code) → Spells c bs at e → is_spent (run_code env limit c fuel s k).end.how ≡ true
    part_spends out c h = let w = part_goes c e h in spent_too _ _ (w.2 env limit fuel s k) (out w.0 w.1)

  pub codes_past : at ≤ codes_from bs at
  codes_past = go (eqb (byte_at bs at) 0x20)
    where
      go : (b : Bool) → at ≤ cond b (at + 5) at
      go true = omega arith
      go false = omega arith

-- ---- the codes of a Block, and those that follow it, are codes in a row
-- what goes on behind what goes on
continue_twice :
    (o : Outcome) (s : Config) (k : Counted) (f g h : Part) →
    ((t : Config) (l : Counted) → h t l ≡ and_then (f t l) g) →
    continue o s k h ≡ and_then (continue o s k f) g
unfolding continue
continue_twice done s k f g h is = is s k
continue_twice (fault n p) s k f g h is = refl
continue_twice (stopped n p) s k f g h is = refl
continue_twice (spent p) s k f g h is = refl
continue_twice (refused n p) s k f g h is = refl

run_rest :
    (env : Env) (limit : Option ℕ) (cs rest : Codes) (fuel : ℕ) (s : Config) (k : Counted) →
    run_codes env limit (join cs rest) fuel s k ≡ and_then (run_codes env limit cs fuel s k) (run_codes env limit rest fuel)
unfolding run_codes join continue
run_rest env limit ⟨⟩ rest fuel s k = refl
run_rest env limit (c ∷ᶜ cs) rest fuel s k =
    let e = run_code env limit c fuel s k in
    continue_twice e.end.how e.end.config e.counted (run_codes env limit cs fuel) (run_codes env limit rest fuel)
    (run_codes env limit (join cs rest) fuel) (run_rest env limit cs rest fuel)

module _ (env : Env) (limit : Option ℕ) (bs : List ℕ) (at e fuel : ℕ) (s : Config) (k : Counted) (kind : byte_at bs at ≡ 0x20) (inside : at < e) where
  entered :
      (cs : Codes) → SpellsAll cs bs at e →
      (ds : Codes) × SpellsAll ds bs (at + 5) e × (run_codes env limit cs fuel s k ≡ run_codes env limit ds fuel s k)
  unfolding run_codes
  entered cs h =
      let f = first_there cs bs at e h inside in
      let b = block_there f.first bs at f.mid f.spelled kind in (
        join b.codes f.rest,
        join_spelled b.codes f.rest bs (at + 5) f.mid e b.spelled f.spelled_rest,
        ap (λ (x : Codes). run_codes env limit x fuel s k) f.is
            ∙ ap (λ (c : Code). run_codes env limit (c ∷ᶜ f.rest) fuel s k) b.is
            ∙ sym (run_rest env limit b.codes f.rest fuel s k),
      )

-- ---- a list of codes: what holds at the head of the loop over them
pub record Going (env : Env) (limit : Option ℕ) (bs : List ℕ) (from e fuel : ℕ) (s₀ : Config) (k₀ : Counted) (at : ℕ) (s : Config) (k : Counted) : Type 0 where
  pub there : (cs : Codes) × SpellsAll cs bs at e
  pub same :
      (cs₀ : Codes) →
      SpellsAll cs₀ bs from e →
      (cs : Codes) × SpellsAll cs bs at e × (run_codes env limit cs₀ fuel s₀ k₀ ≡ run_codes env limit cs fuel s k)
  pub long : length s.values ≡ length s₀.values
  pub past : from ≤ at

pub going_starts :
    (env : Env) (limit : Option ℕ) (bs : List ℕ) (from e fuel : ℕ) (s : Config) (k : Counted) → CodesAt bs from e →
    Going env limit bs from e fuel s k from s k
going_starts env limit bs from e fuel s k w =
    record { there = (w.codes, w.spelled); same = λ cs h. (cs, h, refl); long = refl; past = omega arith }

module _ (env : Env) (limit : Option ℕ) (bs : List ℕ) (from e fuel : ℕ) (s₀ : Config) (k₀ : Counted) (at : ℕ) (s : Config) (k : Counted)
    (g : Going env limit bs from e fuel s₀ k₀ at s k) where
  pub next_there : at < e → e ≤ length bs → CodeAt bs at
  next_there l i =
      let w = first_there g.there.0 bs at e g.there.1 l in
      record { code = w.first; end = w.mid; spelled = w.spelled; inside = omega (arith, w.within) }

  pub codes_done : e ≤ at → RunsAll env limit bs from e fuel s₀ k₀ (Ok e) s k
  unfolding run_codes
  codes_done l cs h =
      let w = g.same cs h in
      record {
        ends = sym (w.2 ∙ ap (λ (x : Codes). run_codes env limit x fuel s k) (none_there w.0 bs at e w.1 l));
        next = λ q y. ok_is y;
      }

  -- a Block is entered
  pub block_goes : byte_at bs at ≡ 0x20 → at < e → Going env limit bs from e fuel s₀ k₀ (at + 5) s k
  block_goes kind inside =
      let here = entered env limit bs at e fuel s k kind inside in
      let w = here g.there.0 g.there.1 in
      record {
        there = (w.0, w.1);
        same = λ cs h. let u = g.same cs h in let v = here u.0 u.1 in (v.0, v.1, u.2 ∙ v.2);
        long = g.long;
        past = omega (arith, g.past);
      }

  pub codes_spend : at < e → Spends env limit bs at fuel s k → SpendsAll env limit bs from e fuel s₀ k₀
  unfolding run_codes
  codes_spend inside out cs h =
      let u = g.same cs h in
      let f = first_there u.0 bs at e u.1 inside in
      let c = run_code env limit f.first fuel s k in
      spent_too _ _ (u.2 ∙ ap (λ (x : Codes). run_codes env limit x fuel s k) f.is)
      (still_spent c.end.how c.end.config c.counted (run_codes env limit f.rest fuel) (out f.first f.mid f.spelled))

  module _ (r : Exit) (t : Config) (l : Counted) (ran : Runs env limit bs at fuel s k r t l) (inside : at < e) where
    pub next_past : (q : ℕ) → r ≡ Ok q → (at < q) × (q ≤ e)
    next_past q z =
        let w = first_there g.there.0 bs at e g.there.1 inside in
        let x : q ≡ w.mid = (ran w.first w.mid w.spelled).next q z in
        (omega (arith, w.past, x), omega (arith, w.within, x))

    pub codes_go : (q : ℕ) → r ≡ Ok q → length t.values ≡ length s.values → Going env limit bs from e fuel s₀ k₀ q t l
    unfolding run_codes
    codes_go q z v =
        let rests : (cs : Codes) (m : ℕ) → q ≡ m → SpellsAll cs bs m e → SpellsAll cs bs q e =
        λ cs m x h. subst (λ (y : ℕ). SpellsAll cs bs y e) (sym x) h
        in
        let w = first_there g.there.0 bs at e g.there.1 inside in
        record {
          there = (w.rest, rests w.rest w.mid ((ran w.first w.mid w.spelled).next q z) w.spelled_rest);
          same = λ cs h.
              let u = g.same cs h in
              let f = first_there u.0 bs at e u.1 inside in
              let went = ran f.first f.mid f.spelled in (
                f.rest,
                rests f.rest f.mid (went.next q z) f.spelled_rest,
                u.2
                    ∙ ap (λ (x : Codes). run_codes env limit x fuel s k) f.is
                    ∙ goes_on (run_code env limit f.first fuel s k) f.mid r t l went (run_codes env limit f.rest fuel) q z,
              );
          long = v ∙ g.long;
          past = omega (arith, (next_past q z).0, g.past);
        }

    pub codes_stop : (st : Stop) → r ≡ Err st → RunsAll env limit bs from e fuel s₀ k₀ (Err st) t l
    unfolding run_codes
    codes_stop st z cs h =
        let u = g.same cs h in
        let f = first_there u.0 bs at e u.1 inside in
        record {
          ends =
              sym
              (u.2
              ∙ ap (λ (x : Codes). run_codes env limit x fuel s k) f.is
              ∙ stops (run_code env limit f.first fuel s k) f.mid r t l (ran f.first f.mid f.spelled)
              (run_codes env limit f.rest fuel) st z);
          next = λ q y. absurd (err_ok y);
        }

-- ---- the way that a comparison decides on
decided : (b : Bool) (n : ℕ) → n ≡ cond b 1 0 → ((n ≡ 0 → ⊥) → b ≡ true) × ((n ≡ 1 → ⊥) → b ≡ false)
decided true n e = (λ _. refl, λ h. absurd (h e))
decided false n e = (λ h. absurd (h e), λ _. refl)

module _ (env : Env) (limit : Option ℕ) (q : ℕ) (c : Ocmp) (s : Config) (k : Counted) (m : ℕ) (x : Compared) (l : Counted)
    (w : Decides env limit s k c q m x l) (f g : Part) where
  ocmp_stops : 1 < x.how → decide env limit q c f g s k ≡ ended (how (exit x.how q)) s l
  unfolding decide
  ocmp_stops h =
      ap (λ (e : Ended). and_then e (cond (eval_ocmp env c s) f g)) (w.stops h)
      ∙ how_stops (record { number = x.how; place = q }) s l _

  ocmp_holds : x.how ≤ 1 → (x.how ≡ 0 → ⊥) → decide env limit q c f g s k ≡ f (with_flags env.fill s) l
  unfolding decide continue
  ocmp_holds h y =
      ap (λ (e : Ended). and_then e (cond (eval_ocmp env c s) f g)) (w.goes h)
      ∙ ap (λ (b : Bool). cond b f g (with_flags env.fill s) l) ((decided (eval_ocmp env c s) x.how (w.holds h)).0 y)

  ocmp_fails : x.how ≤ 1 → (x.how ≡ 1 → ⊥) → decide env limit q c f g s k ≡ g (with_flags env.fill s) l
  unfolding decide continue
  ocmp_fails h y =
      ap (λ (e : Ended). and_then e (cond (eval_ocmp env c s) f g)) (w.goes h)
      ∙ ap (λ (b : Bool). cond b f g (with_flags env.fill s) l) ((decided (eval_ocmp env c s) x.how (w.holds h)).1 y)

-- a code between places that have other names
respelled : (c : Code) (bs : List ℕ) (a e x y : ℕ) → a ≡ x → e ≡ y → Spells c bs a e → Spells c bs x y
respelled c bs a e x y p q h = rw (← p, ← q) h

-- ---- an IfElse, whose comparison has answered x
module _ (env : Env) (limit : Option ℕ) (bs : List ℕ) (at fuel : ℕ) (s : Config) (k : Counted) (kind : byte_at bs at ≡ 0x21) (x : Compared)
    (j : Counted) (compared : DecidesAt env limit bs (at + 9) s k x j) where
  -- it is that comparison, and then the one or the other part
  if_starts :
      (c : Code) (e : ℕ) (sp : Spells c bs at e) →
      let w = if_there c bs at e sp kind in
      run_code env limit c fuel s k
      ≡ decide env limit (at + 9) (ocmp_at bs (at + 9)) (run_code env limit w.yes_part fuel) (run_code env limit w.no_part fuel) s k
  unfolding run_code
  if_starts c e sp =
      let w = if_there c bs at e sp kind in
      ap (λ (b : Code). run_code env limit b fuel s k) w.is
      ∙ ap (λ (o : Ocmp). decide env limit (at + 9) o (run_code env limit w.yes_part fuel) (run_code env limit w.no_part fuel) s k) w.says

  pub if_stops : 1 < x.how → Runs env limit bs at fuel s k (exit x.how (at + 9)) s j
  if_stops h c e sp =
      let w = if_there c bs at e sp kind in
      record {
        ends =
            sym
            (if_starts c e sp
            ∙ ocmp_stops env limit (at + 9) (ocmp_at bs (at + 9)) s k w.mid x j (compared w.mid w.stands)
            (run_code env limit w.yes_part fuel) (run_code env limit w.no_part fuel) h);
        next = λ q z. absurd (err_ok z);
      }

  -- the part that it goes on with, from its place to the place behind it
  module _ (read : x.how ≤ 1) (mid end part behind : ℕ) (a : mid ≡ x.next + number_at 4 bs (at + 1)) (b : end ≡ mid + number_at 4 bs (at + 5))
      (way : ((x.how ≡ 1) × (part ≡ x.next) × (behind ≡ mid)) ⊎ ((x.how ≡ 1 → ⊥) × (part ≡ mid) × (behind ≡ end))) where
    -- both parts, where the code says that they stand
    parts :
        (c : Code) (e : ℕ) (sp : Spells c bs at e) →
        let w = if_there c bs at e sp kind in
        (w.mid ≡ x.next) × (e ≡ end) × (Spells w.yes_part bs x.next mid) × (Spells w.no_part bs mid end)
    parts c e sp =
        let w = if_there c bs at e sp kind in
        let m : w.mid ≡ x.next = sym ((compared w.mid w.stands).next read) in
        let n : w.mid + number_at 4 bs (at + 1) ≡ mid = omega (arith, m, a) in
        let l : e ≡ end = omega (arith, w.ends, n, b) in
        (m, l, respelled w.yes_part bs _ _ _ _ m n w.yes_spelled, respelled w.no_part bs _ _ _ _ n l w.no_spelled)

    part_there : CodeAt bs at → CodeAt bs part × CodesAt bs (codes_from bs part) behind × (at + 9 < part)
    part_there c =
        let w = if_there c.code bs at c.end c.spelled kind in
        let p = parts c.code c.end c.spelled in
        let past : at + 9 < x.next = omega (arith, stands_past is_ocmp bs (at + 9) w.mid w.stands, p.0) in
        let there : (d : Code) → Spells d bs part behind → behind ≤ length bs → CodeAt bs part × CodesAt bs (codes_from bs part) behind =
        λ d h l.
        let there : CodeAt bs part = record { code = d; end = behind; spelled = h; inside = l } in
        (there, part_codes bs part d behind h l)
        in
        ⊎_elim
        (λ h.
        let l : behind ≤ length bs = omega (arith, h.2, b, p.1, c.inside) in
        let q = there w.yes_part (rw (h.1, h.2) p.2) l in
        (q.0, q.1, omega (arith, past, h.1)))
        (λ h.
        let l : behind ≤ length bs = omega (arith, h.2, p.1, c.inside) in
        let q = there w.no_part (rw (h.1, h.2) p.3) l in
        (q.0, q.1, omega (arith, past, h.1, a)))
        way

    -- the code of that part
    if_goes :
        (c : Code) (e : ℕ) → Spells c bs at e →
        (d : Code) × Spells d bs part behind × (run_code env limit c fuel s k ≡ run_code env limit d fuel (with_flags env.fill s) j)
    if_goes c e sp =
        let w = if_there c bs at e sp kind in
        let p = parts c e sp in
        let here = compared w.mid w.stands in
        let one = run_code env limit w.yes_part fuel in
        let other = run_code env limit w.no_part fuel in
        ⊎_elim
        (λ h. (
          w.yes_part,
          rw (h.1, h.2) p.2,
          if_starts c e sp
              ∙ ocmp_holds env limit (at + 9) (ocmp_at bs (at + 9)) s k w.mid x j here one other read (λ z. omega (arith, h.0, z)),
        ))
        (λ h. (
          w.no_part,
          rw (h.1, h.2) p.3,
          if_starts c e sp ∙ ocmp_fails env limit (at + 9) (ocmp_at bs (at + 9)) s k w.mid x j here one other read h.0,
        ))
        way

    if_ran :
        (r : Exit) (t : Config) (l : Counted) →
        RunsAll env limit bs (codes_from bs part) behind fuel (with_flags env.fill s) j r t l →
        (r' : Exit) →
        how r' ≡ how r →
        ((q : ℕ) → r' ≡ Ok q → q ≡ end) →
        Runs env limit bs at fuel s k r' t l
    if_ran r t l ran r' o n c e sp =
        let w = if_goes c e sp in
        let ran_part = part_ran bs part env limit behind fuel (with_flags env.fill s) j r t l ran w.0 w.1 in
        record {
          ends = ap (λ (h : Outcome). ended h t l) o ∙ ran_part.ends ∙ sym w.2;
          next = λ q z. n q z ∙ sym (parts c e sp).1;
        }

    if_spends : SpendsAll env limit bs (codes_from bs part) behind fuel (with_flags env.fill s) j → Spends env limit bs at fuel s k
    if_spends out c e sp =
        let w = if_goes c e sp in
        spent_too _ _ w.2 (part_spends bs part env limit behind fuel (with_flags env.fill s) j out w.0 w.1)

-- the part that an IfElse goes on with, as the evaluator finds it: its comparison has left j counted
pub record Chosen (env : Env) (limit : Option ℕ) (bs : List ℕ) (at : ℕ) (s : Config) (k : Counted) (x : Compared) (j : Counted)
    (part behind end : ℕ) : Type 0 where
  pub kind : byte_at bs at ≡ 0x21
  pub compared : DecidesAt env limit bs (at + 9) s k x j
  pub read : x.how ≤ 1
  pub mid : ℕ
  pub mid_is : mid ≡ x.next + number_at 4 bs (at + 1)
  pub end_is : end ≡ mid + number_at 4 bs (at + 5)
  pub way : ((x.how ≡ 1) × (part ≡ x.next) × (behind ≡ mid)) ⊎ ((x.how ≡ 1 → ⊥) × (part ≡ mid) × (behind ≡ end))

module _ (env : Env) (limit : Option ℕ) (bs : List ℕ) (at fuel : ℕ) (s : Config) (k : Counted) (x : Compared) (j : Counted)
    (part behind end : ℕ) (w : Chosen env limit bs at s k x j part behind end) where
  pub chosen_there : CodeAt bs at → CodeAt bs part × CodesAt bs (codes_from bs part) behind × (at + 9 < part)
  chosen_there =
      part_there env limit bs at fuel s k w.kind x j w.compared w.read w.mid end part behind w.mid_is w.end_is w.way

  -- the exit of the part, with another place where it is done
  pub chosen_ran :
      (r : Exit) (t : Config) (l : Counted) → RunsAll env limit bs (codes_from bs part) behind fuel (with_flags env.fill s) j r t l →
      (r' : Exit) → how r' ≡ how r → ((q : ℕ) → r' ≡ Ok q → q ≡ end) → Runs env limit bs at fuel s k r' t l
  chosen_ran =
      if_ran env limit bs at fuel s k w.kind x j w.compared w.read w.mid end part behind w.mid_is w.end_is w.way

  pub chosen_spends : SpendsAll env limit bs (codes_from bs part) behind fuel (with_flags env.fill s) j → Spends env limit bs at fuel s k
  chosen_spends =
      if_spends env limit bs at fuel s k w.kind x j w.compared w.read w.mid end part behind w.mid_is w.end_is w.way

-- ---- what holds at the head of the loop over rounds, to which an IfElse comes once
pub record Looping (env : Env) (limit : Option ℕ) (bs : List ℕ) (at fuel : ℕ) (s₀ : Config) (k₀ : Counted) (left : ℕ) (s : Config) (k : Counted) : Type 0 where
  pub same : (c : Code) (e : ℕ) → Spells c bs at e → run_code env limit c fuel s₀ k₀ ≡ run_code env limit c left s k
  pub long : length s.values ≡ length s₀.values
  pub less : left ≤ fuel

-- a run from the head of the loop on is the run
pub looped :
    (env : Env) (limit : Option ℕ) (bs : List ℕ) (at fuel : ℕ) (s₀ : Config) (k₀ : Counted) (left : ℕ) (s : Config) (k : Counted) →
    Looping env limit bs at fuel s₀ k₀ left s k → (r : Exit) (t : Config) (l : Counted) → Runs env limit bs at left s k r t l →
    Runs env limit bs at fuel s₀ k₀ r t l
looped env limit bs at fuel s₀ k₀ left s k w r t l ran c e h =
    let went = ran c e h in record { ends = went.ends ∙ sym (w.same c e h); next = went.next }

pub looped_spends :
    (env : Env) (limit : Option ℕ) (bs : List ℕ) (at fuel : ℕ) (s₀ : Config) (k₀ : Counted) (left : ℕ) (s : Config) (k : Counted) →
    Looping env limit bs at fuel s₀ k₀ left s k → Spends env limit bs at left s k → Spends env limit bs at fuel s₀ k₀
looped_spends env limit bs at fuel s₀ k₀ left s k w out c e h = spent_too _ _ (w.same c e h) (out c e h)

-- an exit without fuel
pub spends_of :
    (env : Env) (limit : Option ℕ) (bs : List ℕ) (at fuel : ℕ) (s : Config) (k : Counted) (t : Config) (l : Counted) →
    Runs env limit bs at fuel s k (exit 1 at) t l → Spends env limit bs at fuel s k
unfolding is_spent
spends_of env limit bs at fuel s k t l ran c e h = spent_too _ _ (sym (ran c e h).ends) refl

-- a run that is not done says nothing of the place behind
unfinished :
    (env : Env) (limit : Option ℕ) (bs : List ℕ) (at left : ℕ) (s : Config) (k : Counted) (st : Stop) (t : Config) (l : Counted) →
    ((c : Code) (e : ℕ) → Spells c bs at e → run_code env limit c left s k ≡ ended (how (Err st)) t l) →
    Runs env limit bs at left s k (Err st) t l
unfinished env limit bs at left s k st t l g c e h = record { ends = sym (g c e h); next = λ q y. absurd (err_ok y) }

module _ (env : Env) (limit : Option ℕ) (body : ℕ → Part) (p q : ℕ) (c : Ocmp) (s : Config) (k : Counted) where
  rounds_spent : (left : ℕ) → left ≡ 0 → rounds env limit body p q c left s k ≡ ended (spent p) s k
  unfolding rounds
  rounds_spent left h = rw h

  -- one round, and those that follow
  round : ℕ → Part
  round left t l = and_then (body left t l) (rounds env limit body p q c left)

  rounds_go :
      (left : ℕ) → (left ≡ 0 → ⊥) → rounds env limit body p q c left s k ≡ decide env limit q c (round (left - 1)) (ended done) s k
  unfolding rounds round
  rounds_go zero h = absurd (h refl)
  rounds_go (suc f) h = ap (λ (n : ℕ). decide env limit q c (round n) (ended done) s k) (sym (sub-one (suc f)))

module _ (env : Env) (limit : Option ℕ) (bs : List ℕ) (at left : ℕ) (s : Config) (k : Counted) (kind : byte_at bs at ≡ 0x22) where
  pub loop_spent : left ≡ 0 → Runs env limit bs at left s k (exit 1 at) s k
  unfolding run_code
  loop_spent z =
      unfinished env limit bs at left s k (record { number = 1; place = at }) s k
      (λ c e h.
      let w = while_there c bs at e h kind in
      ap (λ (b : Code). run_code env limit b left s k) w.is
      ∙ rounds_spent env limit (run_code env limit w.body) at (at + 5) w.test s k left z)

  module _ (inn : left ≡ 0 → ⊥) (x : Compared) (j : Counted) (compared : DecidesAt env limit bs (at + 5) s k x j) where
    -- the next round, and those that follow, behind its comparison
    tested :
        (c : Code) (e : ℕ) (h : Spells c bs at e) →
        let w = while_there c bs at e h kind in
        run_code env limit c left s k
        ≡ decide env limit (at + 5) (ocmp_at bs (at + 5))
        (round env limit (run_code env limit w.body) at (at + 5) w.test s k (left - 1)) (ended done) s k
    unfolding run_code
    tested c e h =
        let w = while_there c bs at e h kind in
        let next = round env limit (run_code env limit w.body) at (at + 5) w.test s k (left - 1) in
        ap (λ (b : Code). run_code env limit b left s k) w.is
        ∙ rounds_go env limit (run_code env limit w.body) at (at + 5) w.test s k left inn
        ∙ ap (λ (o : Ocmp). decide env limit (at + 5) o next (ended done) s k) w.says

    pub loop_stopped : 1 < x.how → Runs env limit bs at left s k (exit x.how (at + 5)) s j
    loop_stopped z =
        unfinished env limit bs at left s k (record { number = x.how; place = at + 5 }) s j
        (λ c e h.
        let w = while_there c bs at e h kind in
        tested c e h
        ∙ ocmp_stops env limit (at + 5) (ocmp_at bs (at + 5)) s k w.mid x j (compared w.mid w.stands)
        (round env limit (run_code env limit w.body) at (at + 5) w.test s k (left - 1)) (ended done) z)

    loop_done :
        x.how ≡ 0 → (c : Code) (e : ℕ) → Spells c bs at e → run_code env limit c left s k ≡ ended done (with_flags env.fill s) j
    loop_done z c e h =
        let w = while_there c bs at e h kind in
        tested c e h
        ∙ ocmp_fails env limit (at + 5) (ocmp_at bs (at + 5)) s k w.mid x j (compared w.mid w.stands)
        (round env limit (run_code env limit w.body) at (at + 5) w.test s k (left - 1)) (ended done)
        (omega (arith, z)) (λ y. omega (arith, y, z))

    -- the body, and where the While ends
    module _ (read : x.how ≤ 1) (end : ℕ) (a : end ≡ x.next + number_at 4 bs (at + 1)) where
      body_spelled :
          (c : Code) (e : ℕ) (h : Spells c bs at e) →
          let w = while_there c bs at e h kind in (e ≡ end) × (w.mid ≡ x.next) × Spells w.body bs x.next end
      body_spelled c e h =
          let w = while_there c bs at e h kind in
          let m : w.mid ≡ x.next = sym ((compared w.mid w.stands).next read) in
          let l : e ≡ end = omega (arith, w.ends, m, a) in
          (l, m, respelled w.body bs _ _ _ _ m l w.spelled)

      loop_ends : (c : Code) (e : ℕ) → Spells c bs at e → end ≡ e
      loop_ends c e h = sym (body_spelled c e h).0

      body_there : CodeAt bs at → CodeAt bs x.next × CodesAt bs (codes_from bs x.next) end × (at + 5 < x.next)
      body_there c =
          let w = while_there c.code bs at c.end c.spelled kind in
          let p = body_spelled c.code c.end c.spelled in
          let l : end ≤ length bs = omega (arith, p.0, c.inside) in
          let there : CodeAt bs x.next = record { code = w.body; end = end; spelled = p.2; inside = l } in
          (there, part_codes bs x.next w.body end p.2 l, omega (arith, p.1, stands_past is_ocmp bs (at + 5) w.mid w.stands))

      body_ran :
          (x.how ≡ 0 → ⊥) → (c : Code) (e : ℕ) (h : Spells c bs at e) →
          let w = while_there c bs at e h kind in
          run_code env limit c left s k
          ≡ and_then (run_code env limit w.body (left - 1) (with_flags env.fill s) j)
          (rounds env limit (run_code env limit w.body) at (at + 5) w.test (left - 1))
      unfolding round
      body_ran y c e h =
          let w = while_there c bs at e h kind in
          tested c e h
          ∙ ocmp_holds env limit (at + 5) (ocmp_at bs (at + 5)) s k w.mid x j (compared w.mid w.stands)
          (round env limit (run_code env limit w.body) at (at + 5) w.test s k (left - 1)) (ended done) read y

      loop_spends :
          (x.how ≡ 0 → ⊥) → SpendsAll env limit bs (codes_from bs x.next) end (left - 1) (with_flags env.fill s) j →
          Spends env limit bs at left s k
      loop_spends y out c e h =
          let w = while_there c bs at e h kind in
          let b = run_code env limit w.body (left - 1) (with_flags env.fill s) j in
          spent_too _ _ (body_ran y c e h)
          (still_spent b.end.how b.end.config b.counted (rounds env limit (run_code env limit w.body) at (at + 5) w.test (left - 1))
          (part_spends bs x.next env limit end (left - 1) (with_flags env.fill s) j out w.body (body_spelled c e h).2))

      module _ (y : x.how ≡ 0 → ⊥) (r : Exit) (t : Config) (l : Counted)
          (ran : RunsAll env limit bs (codes_from bs x.next) end (left - 1) (with_flags env.fill s) j r t l) where
        body_exit :
            (c : Code) (e : ℕ) (h : Spells c bs at e) →
            let w = while_there c bs at e h kind in
            Reached (run_code env limit w.body (left - 1) (with_flags env.fill s) j) end r t l
        body_exit c e h =
            let w = while_there c bs at e h kind in
            part_ran bs x.next env limit end (left - 1) (with_flags env.fill s) j r t l ran w.body (body_spelled c e h).2

        loop_goes :
            (q : ℕ) → r ≡ Ok q → (c : Code) (e : ℕ) → Spells c bs at e → run_code env limit c left s k ≡ run_code env limit c (left - 1) t l
        unfolding run_code
        loop_goes q z c e h =
            let w = while_there c bs at e h kind in
            body_ran y c e h
            ∙ goes_on (run_code env limit w.body (left - 1) (with_flags env.fill s) j) end r t l (body_exit c e h)
            (rounds env limit (run_code env limit w.body) at (at + 5) w.test (left - 1)) q z
            ∙ ap (λ (b : Code). run_code env limit b (left - 1) t l) (sym w.is)

        loop_stops :
            (st : Stop) → r ≡ Err st → (c : Code) (e : ℕ) → Spells c bs at e → run_code env limit c left s k ≡ ended (how (Err st)) t l
        loop_stops st z c e h =
            let w = while_there c bs at e h kind in
            body_ran y c e h
            ∙ stops (run_code env limit w.body (left - 1) (with_flags env.fill s) j) end r t l (body_exit c e h)
            (rounds env limit (run_code env limit w.body) at (at + 5) w.test (left - 1)) st z

-- a round of a While whose comparison has answered x and left j counted, and where the While ends
pub record Round (env : Env) (limit : Option ℕ) (bs : List ℕ) (at left : ℕ) (s : Config) (k : Counted) (x : Compared) (j : Counted) (end : ℕ)
    : Type 0 where
  pub kind : byte_at bs at ≡ 0x22
  pub some_fuel : left ≡ 0 → ⊥
  pub compared : DecidesAt env limit bs (at + 5) s k x j
  pub read : x.how ≤ 1
  pub end_is : end ≡ x.next + number_at 4 bs (at + 1)

module _ (env : Env) (limit : Option ℕ) (bs : List ℕ) (at left : ℕ) (s : Config) (k : Counted) (x : Compared) (j : Counted) (end : ℕ)
    (w : Round env limit bs at left s k x j end) where
  -- its comparison does not hold
  pub round_over : x.how ≡ 0 → Runs env limit bs at left s k (Ok end) (with_flags env.fill s) j
  round_over z c e h =
      record {
        ends = sym (loop_done env limit bs at left s k w.kind w.some_fuel x j w.compared z c e h);
        next = λ q y. ok_is y ∙ loop_ends env limit bs at left s k w.kind w.some_fuel x j w.compared w.read end w.end_is c e h;
      }

  pub round_there : CodeAt bs at → CodeAt bs x.next × CodesAt bs (codes_from bs x.next) end × (at + 5 < x.next)
  round_there = body_there env limit bs at left s k w.kind w.some_fuel x j w.compared w.read end w.end_is

  pub round_spends :
      (x.how ≡ 0 → ⊥) → SpendsAll env limit bs (codes_from bs x.next) end (left - 1) (with_flags env.fill s) j → Spends env limit bs at left s k
  round_spends = loop_spends env limit bs at left s k w.kind w.some_fuel x j w.compared w.read end w.end_is

  module _ (y : x.how ≡ 0 → ⊥) (r : Exit) (t : Config) (l : Counted)
      (ran : RunsAll env limit bs (codes_from bs x.next) end (left - 1) (with_flags env.fill s) j r t l) where
    pub round_goes : (q : ℕ) → r ≡ Ok q → (c : Code) (e : ℕ) → Spells c bs at e → run_code env limit c left s k ≡ run_code env limit c (left - 1) t l
    round_goes = loop_goes env limit bs at left s k w.kind w.some_fuel x j w.compared w.read end w.end_is y r t l ran

    pub round_stops : (st : Stop) → r ≡ Err st → Runs env limit bs at left s k (Err st) t l
    round_stops st z =
        unfinished env limit bs at left s k st t l
        (loop_stops env limit bs at left s k w.kind w.some_fuel x j w.compared w.read end w.end_is y r t l ran st z)
