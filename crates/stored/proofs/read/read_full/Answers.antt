-- What a read gave stands behind what was read before it, which stays as it was.
use Rattle.std.proofs.Common.{◌≡◌, ◌+◌, ◌-◌, ◌≤◌, rules, arith, length, take, drop, slice_range, List, ◌++◌, sym, ap, ◌∙◌, subst, le_refl, drop_at, length-take-le, ℕ}
use Rattle.std.proofs.lemmas.Slice.{take-put_mid_below}
use Rattle.std.specs.Io.KnownBytes.{Consumes}
use Rattle.std.proofs.KnownBytes.{Consumes-trans}
use borrow.Rule.Slice.PartMut.{put_mid, post_of}
use lib.Seq.{take-add, take-append-le}
use Rattle.stored.proofs.read.read_full.Goals as goal

-- the first n bytes of a part that was put at a
put_range : (a k n : ℕ) (xs ys : List ℕ) → a ≤ length xs → n ≤ length ys → slice_range (put_mid a k xs ys) a (a + n) ≡ take n ys
put_range a k n xs ys within fits =
    let same : (a + n) - a ≡ n = omega arith in
    ap (take ((a + n) - a)) (drop_at (take a xs) (ys ++ post_of a k xs) a (length-take-le a xs within))
    ∙ ap (λ m. take m (ys ++ post_of a k xs)) same
    ∙ take-append-le n ys (post_of a k xs) fits

-- what stood before the part, and the part's first n bytes
joined : (a k n : ℕ) (xs ys : List ℕ) → a ≤ length xs → n ≤ length ys → take a xs ++ take n ys ≡ take (a + n) (put_mid a k xs ys)
joined a k n xs ys within fits =
    let all = put_mid a k xs ys in
    let same : (a + n) - a ≡ n = omega arith in
    ap (λ l. l ++ take n ys) (sym (take-put_mid_below _ _ _ _ _ (le_refl _) within))
    ∙ ap (λ l. take a all ++ l) (sym (put_range a k n xs ys within fits) ∙ ap (λ m. take m (drop a all)) same)
    ∙ sym (take-add a n all)

pub loop-done-preserved : goal.loop-done-preserved
loop-done-preserved g c =
    let within = c.loop-done.invariant.1 in
    let more = joined c.loop-done.done _ c.in_ok-n.n c.loop-done.buf c.read.new.buf within c.in_ok-n.ensures.bound.0 in
    (search rules, search rules, subst (Consumes _ _) more (Consumes-trans _ _ _ _ _ c.loop-done.invariant.2 c.in_ok-n.ensures.bytes.0))
