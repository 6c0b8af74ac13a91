-- Reading gives the one tree that the bytes spell within the limits, and every such tree. Assumes nothing.
use Prim.Native.Nat.{ℕ}
use mathlib.Core.Path.{◌≡◌, refl, ◌∙◌, ap}
use mathlib.Core.List.{List}
use Rattle.machine.specs.Cells.{accepted, refused}
use Rattle.code.specs.Tree.{Code}
use Rattle.code.specs.Reader.{Read, got, trouble, parse, verdict_of, check_code}
use Rattle.code.specs.Reading.{Reading, Writing}
use Rattle.code.proofs.Passing.{clash}
use Rattle.code.proofs.Sound.{parse_sound}
use Rattle.code.proofs.Complete.{parse_complete}
use Rattle.code.proofs.Unique.{one_code}
use Rattle.code.proofs.Accepted.{parse_wf}
use Rattle.code.proofs.ReadBack.{read_back}
use Rattle.code.proofs.Placing.{read_back_placed}

accepts_of : (r : Read Code) → verdict_of r ≡ accepted → (c : Code) × (e : ℕ) × (r ≡ got c e)
unfolding verdict_of
accepts_of (got c e) h = (c, e, refl)
accepts_of (trouble n p) h = clash (cc)

refuses_of : (r : Read Code) (n p : ℕ) → verdict_of r ≡ refused n p → r ≡ trouble n p
unfolding verdict_of
refuses_of (got c e) n p h = clash (cc)
refuses_of (trouble m q) n p h =
    let x : m ≡ n = cc in
    let y : q ≡ p = cc in
    rw (x, y)

pub reading : (bs : List ℕ) → Reading bs
unfolding check_code verdict_of
reading bs =
    record {
      sound = parse_sound bs;
      complete = parse_complete bs;
      unique = λ c c' at e e'. one_code c c' bs at e e';
      accepts = λ h.
          let w = accepts_of (parse bs) h in
          (w.0, w.2 ∙ ap (got w.0) (parse_sound bs w.0 w.1 w.2).1);
      refuses = refuses_of (parse bs);
      refuses_none = λ c h. ap verdict_of (parse_complete bs c h);
      well_formed = parse_wf bs;
    }

pub writing : (c : Code) → Writing c
writing c = record { read_back = read_back c; read_back_placed = read_back_placed c }
