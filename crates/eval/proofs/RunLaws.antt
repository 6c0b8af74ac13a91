-- What the checks of code and cells say of Running. Assumes nothing.
use Prim.Native.Nat.{ℕ}
use mathlib.Core.Path.{◌≡◌, sym, ap, subst, ◌∙◌}
use mathlib.Core.Bool.{true}
use mathlib.Core.List.{List}
use mathlib.Core.Option.{Option}
use native.Mathlib.Omega.{arith}
use lib.ListN.{length}
use Rattle.machine.specs.Cells.{Searchable, accepted, refused, check_cells}
use Rattle.machine.proofs.Accepting.{accepted_of, searchable_of}
use Rattle.code.specs.Tree.{Code, ⟨⟩, ◌∷ᶜ◌}
use Rattle.code.specs.Reader.{Read, check_code}
use Rattle.code.proofs.Reading.{reading}
use Rattle.code.proofs.CodeFrames.{list_of_one}
use Rattle.eval.specs.Config.{Env, Config, Outcome}
use Rattle.eval.specs.Config as Config
use Rattle.eval.specs.Counted.{Counted, nothing_counted, Ended, ended}
use Rattle.eval.specs.Running.{run_codes, run_checked, run_read, run_of}
use Rattle.eval.specs.LeastFuel.{is_spent}
use Rattle.eval.specs.Promises.{how, Reached, CodesAt, RunsAll, SpendsAll}
use Rattle.eval.specs.Promises.{Exit}
use Rattle.eval.proofs.CycleLaws.{spent_too, run_one}

-- accepted cells can be searched, and each has its value
pub accepted_cells : (xs ts vs : List ℕ) → check_cells xs ts vs ≡ accepted → Searchable xs ts × (length vs ≡ length xs)
accepted_cells xs ts vs h = let w = accepted_of xs ts vs h in (searchable_of xs ts vs w, w.same.values)

-- all the bytes are a list of the one code that they spell
abbrev pub accepted_codes : (bs : List ℕ) → check_code bs ≡ accepted → CodesAt bs 0 (length bs)
accepted_codes bs h =
    let w = (reading bs).accepts h in
    let p = ((reading bs).sound w.0 (length bs) w.1).0 in
    record { codes = w.0 ∷ᶜ ⟨⟩; spelled = list_of_one w.0 bs 0 (length bs) p.spells; inside = omega arith }

module _ (bs : List ℕ) (env : Env) (fuel : ℕ) (limit : Option ℕ) (s : Config) where
  pub code_refused : (n p : ℕ) → check_code bs ≡ refused n p → ended (Config.refused n p) s nothing_counted ≡ run_of bs env fuel limit s
  unfolding run_of run_read
  code_refused n p h = rw ((reading bs).refuses n p h)

  module _ (here : check_code bs ≡ accepted) where
    -- the code that was read, over the cells
    run_here :
        run_of bs env fuel limit s
        ≡ run_checked env (check_cells env.addresses env.tags s.values) ((reading bs).accepts here).0 fuel limit s
    unfolding run_of run_read
    run_here = ap (λ (r : Read Code). run_read env r fuel limit s) ((reading bs).accepts here).1

    pub cells_refused :
        (n i : ℕ) → check_cells env.addresses env.tags s.values ≡ refused n i →
        ended (Config.refused n i) s nothing_counted ≡ run_of bs env fuel limit s
    unfolding run_checked
    cells_refused n i h = sym (run_here ∙ rw h)

    pub run_ran :
        check_cells env.addresses env.tags s.values ≡ accepted →
        (r : Exit) (t : Config) (l : Counted) → RunsAll env limit bs 0 (length bs) fuel s nothing_counted r t l →
        (o : Outcome) → o ≡ how r → ended o t l ≡ run_of bs env fuel limit s
    unfolding run_checked
    run_ran h r t l ran o x =
        let c = ((reading bs).accepts here).0 in
        let ran_list = ran (c ∷ᶜ ⟨⟩) (accepted_codes bs here).spelled in
        let ran_code = subst (λ (y : Ended). Reached y (length bs) r t l) (run_one env limit c fuel s nothing_counted) ran_list in
        ap (λ (y : Outcome). ended y t l) x ∙ ran_code.ends ∙ sym (run_here ∙ rw h)

    pub run_spends :
        check_cells env.addresses env.tags s.values ≡ accepted → SpendsAll env limit bs 0 (length bs) fuel s nothing_counted →
        is_spent (run_of bs env fuel limit s).end.how ≡ true
    unfolding run_checked
    run_spends h out =
        let c = ((reading bs).accepts here).0 in
        let runs : run_of bs env fuel limit s ≡ run_codes env limit (c ∷ᶜ ⟨⟩) fuel s nothing_counted =
        run_here ∙ rw h (sym (run_one env limit c fuel s nothing_counted))
        in
        spent_too _ _ runs (out (c ∷ᶜ ⟨⟩) (accepted_codes bs here).spelled)
