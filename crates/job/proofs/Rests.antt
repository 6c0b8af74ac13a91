-- The lines from one register, xmm or cell on are its own line and those from the next one on.
use Prim.Native.Nat.{ℕ, suc, ◌+◌, ◌*◌, ◌-◌, ◌≤◌, ◌<◌}
use mathlib.Core.Path.{◌≡◌, sym, ap, ◌∙◌}
use mathlib.Core.Bool.{cond}
use mathlib.Core.List.{List, [], ◌∷◌, ◌++◌}
use native.Mathlib.Omega.{arith}
use native.Mathlib.Numerals.{add-one}
use lib.Dec.{eqb}
use lib.ListN.{length, get_or, drop, drop_of_length-le}
use lib.Seq.{drop-cons}
use Rattle.job.specs.Text.{field, newline, word_cell, name_of, reg_lines, xmm_line, xmm_lines, cell_lines}

-- the line of a register
abbrev pub reg_line : ℕ → ℕ → List ℕ
reg_line i r = cond (eqb r 0) [] (name_of i ++ field r ++ newline)

pub regs_rest :
    (rs : List ℕ) (i : ℕ) → i < length rs
    → reg_lines i (drop i rs) ≡ reg_line i (get_or rs i 0) ++ reg_lines (i + 1) (drop (i + 1) rs)
unfolding reg_lines
regs_rest rs i h =
    ap (reg_lines i) (drop-cons rs i 0 h)
    ∙ ap (λ (k : ℕ). reg_line i (get_or rs i 0) ++ reg_lines k (drop k rs)) (sym (add-one i))

pub regs_none : (rs : List ℕ) (i : ℕ) → length rs ≤ i → reg_lines i (drop i rs) ≡ []
unfolding reg_lines
regs_none rs i h = ap (reg_lines i) (drop_of_length-le rs h)

-- the line of xmm i
abbrev pub xmm_line_at : ℕ → List ℕ → List ℕ
xmm_line_at i ws = xmm_line i (get_or ws (4 * i) 0) (get_or ws (4 * i + 1) 0) (get_or ws (4 * i + 2) 0) (get_or ws (4 * i + 3) 0)

pub xmms_rest :
    (ws : List ℕ) (i : ℕ) → i < 16 → xmm_lines (16 - i) i ws ≡ xmm_line_at i ws ++ xmm_lines (16 - (i + 1)) (i + 1) ws
unfolding xmm_lines
xmms_rest ws i h =
    let e : 16 - i ≡ suc (16 - (i + 1)) = omega arith in
    ap (λ (n : ℕ). xmm_lines n i ws) e
    ∙ ap (λ (k : ℕ). xmm_line_at i ws ++ xmm_lines (16 - (i + 1)) k ws) (sym (add-one i))

pub xmms_none : (ws : List ℕ) (i : ℕ) → 16 ≤ i → xmm_lines (16 - i) i ws ≡ []
unfolding xmm_lines
xmms_none ws i h = let e : 16 - i ≡ 0 = omega arith in ap (λ (n : ℕ). xmm_lines n i ws) e

-- the line of a cell
abbrev pub cell_line : ℕ → ℕ → ℕ → List ℕ
cell_line a t v = word_cell ++ field a ++ field t ++ field v ++ newline

-- the cells from number i on
abbrev pub cells_from : ℕ → List ℕ → List ℕ → List ℕ → List ℕ
cells_from i xs ts vs = cell_lines (drop i xs) (drop i ts) (drop i vs)

pub cells_rest :
    (xs ts vs : List ℕ) (i : ℕ) → i < length xs → i < length ts → i < length vs
    → cells_from i xs ts vs ≡ cell_line (get_or xs i 0) (get_or ts i 0) (get_or vs i 0) ++ cells_from (i + 1) xs ts vs
unfolding cell_lines
cells_rest xs ts vs i p q r =
    ap (λ (l : List ℕ). cell_lines l (drop i ts) (drop i vs)) (drop-cons xs i 0 p)
    ∙ ap (λ (l : List ℕ). cell_lines (get_or xs i 0 ∷ drop (suc i) xs) l (drop i vs)) (drop-cons ts i 0 q)
    ∙ ap (λ (l : List ℕ). cell_lines (get_or xs i 0 ∷ drop (suc i) xs) (get_or ts i 0 ∷ drop (suc i) ts) l) (drop-cons vs i 0 r)
    ∙ ap (λ (k : ℕ). cell_line (get_or xs i 0) (get_or ts i 0) (get_or vs i 0) ++ cells_from k xs ts vs) (sym (add-one i))

pub cells_none : (xs ts vs : List ℕ) (i : ℕ) → length xs ≤ i → cells_from i xs ts vs ≡ []
unfolding cell_lines
cells_none xs ts vs i h = ap (λ (l : List ℕ). cell_lines l (drop i ts) (drop i vs)) (drop_of_length-le xs h)
