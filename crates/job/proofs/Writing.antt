-- Writes that follow each other write the joined text: stores from a place on, and stores from behind them on, are the
-- stores of both. A loop of writers keeps what is left to write: the whole text from the start is the rest from here.
use Prim.Native.Nat.{ℕ, suc, ◌+◌, ◌≤◌}
use mathlib.Core.Path.{◌≡◌, refl, sym, ap, ◌∙◌}
use mathlib.Core.List.{List, [], ◌∷◌, ◌++◌}
use native.Mathlib.Omega.{arith}
use native.Mathlib.Nat.{add-zero, add-suc, suc-add}
use lib.ListN.{length, length-append, set}
use lib.Seq.{sets}
use Rattle.job.specs.declared.text.Page.{Page}
use Rattle.job.specs.Written.{Wrote}

sets_append : (l : List ℕ) (i : ℕ) (a b : List ℕ) → sets (sets l i a) (i + length a) b ≡ sets l i (a ++ b)
sets_append l i [] b = ap (λ (k : ℕ). sets l k b) (add-zero i)
sets_append l i (x ∷ a) b =
    ap (λ (k : ℕ). sets (sets (set l i x) (suc i) a) k b) (add-suc i (length a) ∙ sym (suc-add i (length a)))
    ∙ sets_append (set l i x) (suc i) a b

sets_then :
    (l m o t u : List ℕ) (i j : ℕ) → m ≡ sets l i t → j ≡ i + length t → o ≡ sets m j u → o ≡ sets l i (t ++ u)
sets_then l m o t u i j e p f =
    f
    ∙ ap (λ (k : ℕ). sets m k u) p
    ∙ ap (λ (k : List ℕ). sets k (i + length t) u) e
    ∙ sets_append l i t u

-- the same bytes by another name
pub spelled : {m : ℕ} {t u : List ℕ} {a b : Page} → t ≡ u → Wrote m a t b → Wrote m a u b
spelled {a} e w =
    record {
      same_reference = w.same_reference;
      bytes = w.bytes ∙ ap (sets a.out.now a.at) e;
      place = w.place ∙ ap (λ (l : List ℕ). a.at + length l) e;
      within = w.within;
    }

-- the same bytes within the bound that their number gives
pub counted : {m k : ℕ} {t : List ℕ} {a b : Page} → length t ≤ k → Wrote m a t b → Wrote k a t b
counted h w =
    record {
      same_reference = w.same_reference;
      bytes = w.bytes;
      place = w.place;
      within = let p = w.place in omega arith;
    }

-- the same bytes within a larger bound
pub looser : {m k : ℕ} {t : List ℕ} {a b : Page} → m ≤ k → Wrote m a t b → Wrote k a t b
looser h w =
    record {
      same_reference = w.same_reference;
      bytes = w.bytes;
      place = w.place;
      within = let p = w.within in omega arith;
    }

infixl 60 ◌▸◌
-- one write, then another
pub ◌▸◌ : {m n : ℕ} {t u : List ℕ} {a b c : Page} → Wrote m a t b → Wrote n b u c → Wrote (m + n) a (t ++ u) c
◌▸◌ {t} {u} {a} {b} {c} w v =
    record {
      same_reference = v.same_reference ∙ w.same_reference;
      bytes = sets_then a.out.now b.out.now c.out.now t u a.at b.at w.bytes w.place v.bytes;
      place = let p = w.place in let q = v.place in omega (arith, length-append t u);
      within = let p = w.within in let q = v.within in omega arith;
    }

-- nothing was written
pub wrote_none : (a : Page) → Wrote 0 a [] a
wrote_none a = record { same_reference = refl; bytes = refl; place = sym (add-zero a.at); within = omega arith }

-- a loop of writers: what is left to write on page b, u, makes the whole text t on page a
pub record Left (a : Page) (t : List ℕ) (b : Page) (u : List ℕ) : Type 0 where
  pub same_reference : b.out.ghost_name ≡ a.out.ghost_name
  pub bytes : sets b.out.now b.at u ≡ sets a.out.now a.at t
  pub place : b.at + length u ≡ a.at + length t

-- the first part of the rest is written
pub left_less :
    {m : ℕ} {t r : List ℕ} {a b c : Page} (u v : List ℕ) → r ≡ u ++ v → Left a t b r → Wrote m b u c → Left a t c v
left_less {t} {r} {a} {b} {c} u v e l w =
    record {
      same_reference = w.same_reference ∙ l.same_reference;
      bytes =
          sets_then b.out.now c.out.now (sets c.out.now c.at v) u v b.at c.at w.bytes w.place refl
          ∙ ap (sets b.out.now b.at) (sym e)
          ∙ l.bytes;
      place = let p = w.place in let q = l.place in omega (arith, length-append u v, ap length e);
    }

-- nothing is left
pub left_none : {m : ℕ} {t u : List ℕ} {a b : Page} → u ≡ [] → Left a t b u → b.at ≤ a.at + m → Wrote m a t b
left_none {a} {b} e l h =
    record {
      same_reference = l.same_reference;
      bytes = sym (ap (sets b.out.now b.at) e) ∙ l.bytes;
      place = let p = l.place in omega (arith, ap length e);
      within = h;
    }
