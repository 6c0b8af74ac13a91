-- The bound on steps. With fuel at most F each code of a list, each way of an IfElse and each round of a While adds its own share; a While of fuel f has at
-- most f rounds. Assumes nothing.
use Prim.Native.Nat.{ℕ, zero, suc, ◌+◌, ◌*◌, ◌^◌, ◌≤◌}
use mathlib.Core.Path.{◌≡◌, sym, ap, ◌∙◌}
use mathlib.Core.Bool.{Bool, true, false, cond}
use mathlib.Core.List.{List}
use mathlib.Core.Option.{Option}
use native.Mathlib.Nat.{add-mul, suc-mul, mul_left_comm, mul-le-mul_left, mul-le-mul_right, one-le-pow, pow-succ', le-max_left, le-max_right}
use native.Mathlib.Omega.{arith}
use Rattle.machine.specs.Cells.{Verdict, accepted, check_cells}
use Rattle.machine.specs.Cells.{refused as cells_refused}
use Rattle.code.specs.declared.tree.Ocmp.{Ocmp}
use Rattle.code.specs.Layout.{layout}
use Rattle.code.specs.Tree.{Code, Ins, Block, IfElse, While, Codes, ⟨⟩, ◌∷ᶜ◌}
use Rattle.code.specs.Reader.{got, parse}
use Rattle.eval.specs.Config.{Env, Config, Outcome, done, fault, stopped, spent, refused, End}
use Rattle.eval.specs.declared.answer.Watch.{Watch}
use Rattle.eval.specs.Watch.{watched}
use Rattle.eval.specs.Counted.{Counted, nothing_counted, Ended, ended, Part, continue, and_then, used_up, count, step}
use Rattle.eval.specs.Instructions.{run_ins, eval_ocmp}
use Rattle.eval.specs.Running.{run_ocmp, step_ocmp, decide, rounds, run_code, run_codes, run_checked, run_read, run_of}
use Rattle.demands.specs.Stepping.{codes, codes_in, whiles, whiles_in}

-- a part makes at most n steps
abbrev AtMost : ℕ → Part → Type 0
AtMost n f = (s : Config) (k : Counted) → (f s k).counted.steps ≤ k.steps + n

at_most_then : (n m : ℕ) (e : Ended) (f : Part) → e.counted.steps ≤ n → AtMost m f → (and_then e f).counted.steps ≤ n + m
unfolding continue
at_most_then n m e f h g = go e.end.how
  where
    go : (o : Outcome) → (continue o e.end.config e.counted f).counted.steps ≤ n + m
    go done = omega (arith, h, g e.end.config e.counted)
    go (fault q p) = omega (arith, h)
    go (stopped q p) = omega (arith, h)
    go (spent p) = omega (arith, h)
    go (refused q p) = omega (arith, h)

at_most_cond : (b : Bool) (n : ℕ) (f g : Part) → AtMost n f → AtMost n g → AtMost n (cond b f g)
at_most_cond true n f g F G = F
at_most_cond false n f g F G = G

module _ (limit : Option ℕ) where
  -- an instruction or a comparison is one step at most
  at_most_step : (p : ℕ) (sees : Watch → Watch) (act : Config → End) → AtMost 1 (step limit p sees act)
  unfolding step count
  at_most_step p sees act s k = go (used_up limit k) (act s).how
    where
      counts : (o : Outcome) → (count o sees k).steps ≤ k.steps + 1
      counts done = omega arith
      counts (fault n q) = omega arith
      counts (stopped n q) = omega arith
      counts (spent q) = omega arith
      counts (refused n q) = omega arith

      go : (b : Bool) (o : Outcome) → (cond b (ended (stopped 37 p) s k) (record { end = act s; counted = count o sees k })).counted.steps ≤ k.steps + 1
      go true o = omega arith
      go false o = counts o

  module _ (env : Env) where
    at_most_decide : (q : ℕ) (c : Ocmp) (n : ℕ) (f g : Part) → AtMost n f → AtMost n g → AtMost (1 + n) (decide env limit q c f g)
    unfolding decide
    at_most_decide q c n f g F G s k =
        let h = at_most_then (k.steps + 1) n (step_ocmp env limit q c s k) (cond (eval_ocmp env c s) f g)
        (at_most_step q _ (run_ocmp env q c) s k) (at_most_cond (eval_ocmp env c s) n f g F G)
        in
        omega (arith, h)

    at_most_rounds : (body : ℕ → Part) (p q : ℕ) (c : Ocmp) (n f : ℕ) → ((g : ℕ) → g ≤ f → AtMost n (body g))
        → AtMost (f * suc n) (rounds env limit body p q c f)
    unfolding rounds
    at_most_rounds body p q c n zero h s k = omega arith
    at_most_rounds body p q c n (suc f) h s k =
        let rest = at_most_rounds body p q c n f (λ g le. h g (omega (arith, le))) in
        let round : Part = λ t l. and_then (body f t l) (rounds env limit body p q c f) in
        let one : AtMost (n + f * suc n) round =
        λ t l.
        let w = at_most_then (l.steps + n) (f * suc n) (body f t l) (rounds env limit body p q c f) (h f (omega arith) t l) rest in
        omega (arith, w)
        in
        let all = at_most_decide q c (n + f * suc n) round (ended done) one (λ t l. omega arith) s k in
        omega (arith, all, suc-mul f (suc n))

    -- a code of n codes whose Whiles are nested at most d deep, with fuel at most F
    module _ (F : ℕ) where
      -- the share of a code at depth d
      abbrev Share : ℕ → ℕ
      Share d = (F + 1) ^ d

      some_share : (d : ℕ) → 1 ≤ Share d
      some_share d = one-le-pow d (F + 1) (omega arith)

      -- a code more has its share
      code_more : (n d : ℕ) → suc n * Share d ≡ n * Share d + Share d
      code_more n d = suc-mul n (Share d)

      -- F + 1 times as much is the share one While deeper
      deeper : (n d : ℕ) → (F + 1) * (n * Share d) ≡ n * Share (suc d)
      deeper n d = mul_left_comm (F + 1) n (Share d) ∙ ap (λ x. n * x) (sym (pow-succ' (F + 1) d))

      mutual
        unfolding codes codes_in whiles whiles_in run_code run_codes

        at_most_code : (c : Code) (d : ℕ) → whiles c ≤ d → (f : ℕ) → f ≤ F → AtMost (codes c * Share d) (run_code env limit c f)
        at_most_code (Ins p i) d le f lf s k =
            omega (arith, at_most_step p (watched env.rule (layout i).kind p) (run_ins env p i) s k, some_share d, code_more 0 d)
        at_most_code (Block p cs) d le f lf s k = omega (arith, at_most_codes cs d le f lf s k, code_more (codes_in cs) d)
        at_most_code (IfElse p q c a b) d le f lf s k =
            let m = (codes a + codes b) * Share d in
            let both : m ≡ codes a * Share d + codes b * Share d = add-mul (codes a) (codes b) (Share d) in
            let A = at_most_code a d (omega (arith, le, le-max_left (whiles a) (whiles b))) f lf in
            let B = at_most_code b d (omega (arith, le, le-max_right (whiles a) (whiles b))) f lf in
            let w = at_most_decide q c m (run_code env limit a f) (run_code env limit b f)
            (λ t l. omega (arith, A t l, both)) (λ t l. omega (arith, B t l, both)) s k
            in
            omega (arith, w, some_share d, code_more (codes a + codes b) d)
        at_most_code (While p q c b) zero le f lf s k = absurd (omega (arith, le))
        at_most_code (While p q c b) (suc d) le f lf s k =
            let n = codes b * Share d in
            let w = at_most_rounds (run_code env limit b) p q c n f (λ g lg. at_most_code b d (omega (arith, le)) g (omega (arith, lg, lf))) s k in
            let rounds_fewer : f * suc n ≤ (F + 1) * suc n = mul-le-mul_right (suc n) (omega (arith, lf)) in
            let share_more : (F + 1) * suc n ≤ (F + 1) * (suc (codes b) * Share d) =
            mul-le-mul_left (F + 1) (omega (arith, some_share d, code_more (codes b) d))
            in
            omega (arith, w, rounds_fewer, share_more, deeper (suc (codes b)) d)

        at_most_codes : (cs : Codes) (d : ℕ) → whiles_in cs ≤ d → (f : ℕ) → f ≤ F → AtMost (codes_in cs * Share d) (run_codes env limit cs f)
        at_most_codes ⟨⟩ d le f lf s k = omega arith
        at_most_codes (c ∷ᶜ cs) d le f lf s k =
            let both : (codes c + codes_in cs) * Share d ≡ codes c * Share d + codes_in cs * Share d = add-mul (codes c) (codes_in cs) (Share d) in
            let first = at_most_code c d (omega (arith, le, le-max_left (whiles c) (whiles_in cs))) f lf s k in
            let rest = at_most_codes cs d (omega (arith, le, le-max_right (whiles c) (whiles_in cs))) f lf in
            omega (arith, at_most_then _ _ (run_code env limit c f s k) (run_codes env limit cs f) first rest, both)

pub bounded : (code : List ℕ) (env : Env) (fuel : ℕ) (limit : Option ℕ) (s : Config) (c : Code) (next : ℕ) → parse code ≡ got c next
    → (run_of code env fuel limit s).counted.steps ≤ codes c * (fuel + 1) ^ whiles c
unfolding run_of run_read run_checked
bounded code env fuel limit s c next e = rw e (go (check_cells env.addresses env.tags s.values))
  where
    go : (v : Verdict) → (run_checked env v c fuel limit s).counted.steps ≤ codes c * (fuel + 1) ^ whiles c
    go accepted =
        let h = at_most_code limit env fuel c (whiles c) (omega arith) fuel (omega arith) s nothing_counted in
        omega (arith, h)
    go (cells_refused n i) = omega arith
