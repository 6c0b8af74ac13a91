-- What the parts of a job leave is what the job's definition says: a refusal's line alone, or the rendered end of the run.
use Prim.Native.Nat.{ℕ, zero, suc, ◌+◌, ◌-◌, ◌≤◌}
use mathlib.Core.Path.{◌≡◌, refl, sym, ap, ◌∙◌}
use mathlib.Core.List.{List, ◌++◌, append-nil}
use mathlib.Core.Option.{some}
use native.Mathlib.Omega.{arith}
use lib.ListN.{length, take, drop, length-drop}
use lib.Seq.{sets, sets-eq, length-sets, take_at, drop_at, take_all}
use Rattle.machine.specs.Cells.{accepted}
use Rattle.machine.specs.Cells.{refused as turned_away}
use Rattle.machine.specs.declared.State.{State}
use Rattle.eval.specs.FlagRule.{flag_rule}
use Rattle.eval.specs.declared.answer.Evaluation.TheVariants.{Base}
use Rattle.eval.specs.declared.answer.Setting.{Setting}
use Rattle.eval.specs.Config.{config, refused}
use Rattle.eval.specs.Counted.{Ended}
use Rattle.eval.specs.Running.{run_of}
use Rattle.job.specs.Text.{first_line, render}
use Rattle.job.specs.Job.{numbers, fuel_of, fill_of, largest_limit, env_of, start_of, Holding, code_at, check_job, end_checked, run_of_job, printed, output, lent_list}
use Rattle.job.specs.declared.text.Page.{Page}
use Rattle.job.specs.Written.{Wrote, Printed}

pub length_numbers : (size stride n : ℕ) (bs : List ℕ) (at : ℕ) → length (numbers size stride n bs at) ≡ n
unfolding numbers
length_numbers size stride zero bs at = refl
length_numbers size stride (suc n) bs at = ap suc (length_numbers size stride n bs (at + stride))

-- as many as the job says
pub length_read : (size stride n : ℕ) (bs : List ℕ) (at : ℕ) {xs : List ℕ} → xs ≡ numbers size stride n bs at → length xs ≡ n
length_read size stride n bs at e = ap length e ∙ length_numbers size stride n bs at

-- what stands behind the cells
pub behind_cells :
    (bs : List ℕ) {at : ℕ} → at ≡ code_at bs → take (length bs - at) (drop at bs) ≡ drop (code_at bs) bs
behind_cells bs {at} e =
    take_all (length bs - at) (drop at bs) (omega (arith, length-drop at bs)) ∙ ap (λ (k : ℕ). drop k bs) e

-- the text of a page that was blank, in a buffer of its length
pub printed_whole :
    {m : ℕ} {blank page : Page} {text : List ℕ}
    → Wrote m blank text page → blank.at ≡ 0 → m ≤ 65536 → length blank.out.now ≡ 65536
    → Printed text blank.out.now page.out.now page.at
printed_whole {m} {blank} {page} {text} w z h l =
    let n = page.at in
    let before = blank.out.now in
    let count : n ≡ length text = let p = w.place in omega arith in
    let few : n ≤ 65536 = let p = w.within in omega arith in
    let all : page.out.now ≡ text ++ drop n before =
    w.bytes
    ∙ ap (λ (k : ℕ). sets before k text) z
    ∙ sets-eq text before 0 (omega arith)
    ∙ ap (λ (k : ℕ). text ++ drop k before) (let z : 0 + length text ≡ n = omega arith in z)
    in
    record {
      bytes = ap (take n) all ∙ take_at text (drop n before) n (sym count);
      rest = ap (drop n) all ∙ drop_at text (drop n before) n (sym count);
      count = count;
      within = omega (arith, ap length w.bytes, length-sets before blank.at text);
    }

-- a job that is turned away
pub output_refused : (bs : List ℕ) {n p : ℕ} → check_job bs ≡ turned_away n p → first_line (refused n p) ≡ output bs
unfolding output render end_checked
output_refused bs {n} {p} e =
    sym (append-nil (first_line (refused n p))) ∙ sym (ap (λ v. printed bs (end_checked v bs)) e)

-- a job that runs
pub output_run : (bs : List ℕ) → check_job bs ≡ accepted → printed bs (run_of_job bs) ≡ output bs
unfolding output end_checked
output_run bs e = sym (ap (λ v. printed bs (end_checked v bs)) e)

-- the run of what was read is the run of the job
pub ran :
    (bs code xs ts vs : List ℕ) (s : State) (g : Setting) (e : Ended)
    → code ≡ drop (code_at bs) bs
    → Holding bs (start_of bs).values xs ts vs
    → (s.regs ≡ (start_of bs).regs) × (s.xmms ≡ (start_of bs).xmms) × (s.flags ≡ (start_of bs).flags)
    → (g.fill ≡ fill_of bs) × (g.fuel ≡ fuel_of bs) × (g.limit ≡ largest_limit) × (g.evaluation ≡ Base)
    → e ≡ run_of code (record { addresses = xs; tags = ts; fill = g.fill; rule = flag_rule g.evaluation }) g.fuel (some g.limit) (config s vs)
    → e ≡ run_of_job bs
ran bs code xs ts vs s g e of_code of_cells of_state of_setting of_run = cc

-- and so is what is printed of it
pub render_run :
    (bs xs ts : List ℕ) (e : Ended)
    → (xs ≡ (env_of bs).addresses) × (ts ≡ (env_of bs).tags)
    → e ≡ run_of_job bs → render xs ts e ≡ printed bs (run_of_job bs)
render_run bs xs ts e of_cells of_run = cc

-- a list that was lent in part
pub lent_part :
    (bs l p xs : List ℕ) (n : ℕ) → check_job bs ≡ accepted → p ≡ xs → length p ≡ n → p ++ drop n l ≡ lent_list (check_job bs) xs l
unfolding lent_list
lent_part bs l p xs n e of_part long =
    ap (λ (k : ℕ). p ++ drop k l) (sym long)
    ∙ ap (λ (q : List ℕ). q ++ drop (length q) l) of_part
    ∙ sym (ap (λ v. lent_list v xs l) e)

-- a list that was not lent
pub lent_none : (bs xs l : List ℕ) {n p : ℕ} → check_job bs ≡ turned_away n p → l ≡ lent_list (check_job bs) xs l
unfolding lent_list
lent_none bs xs l e = sym (ap (λ v. lent_list v xs l) e)
