-- The build keeps, of each open part, its kind, the place of its length and its start; so it tells what fits. Assumes nothing.
use Prim.Native.Nat.{ℕ, ◌+◌, ◌-◌, ◌≤◌, ◌<◌}
use mathlib.Core.Path.{◌≡◌, refl, ◌∙◌}
use mathlib.Core.Bool.{true, ◌||◌}
use mathlib.Core.List.{List}
use native.Mathlib.Omega.{arith}
use borrow.Author.Tests.{lt-ltb, le-ltb, le-leb, eq-eqb, ne_eqb}
use lib.Dec.{eqb, ltb}
use lib.ListN.{length, get_or, set, length-set, length-append}
use lib.Seq.{get_or-set_same, get_or-set_other}
use Rattle.code.specs.Tree.{Code, Codes, ⟨⟩, ◌∷ᶜ◌}
use Rattle.code.specs.Writer.{bytes_of_codes, bytes_of_code}
use Rattle.code.proofs.ReadBack.{code_bytes}
use Rattle.builder.specs.declared.build.Build.{Build}
use Rattle.builder.specs.Building.{kind_of, field_of, start_of, is_part, takes_code, takes_close}
use Rattle.built.specs.Sketch.{Open, block, true_part, while_part, false_part, Sketch, codes, ◌▷◌, bytes_so_far, parts_open, none, some, code_fits, close_fits}
use Rattle.built.proofs.Parts.{inside, kind, field, start, size, size_open, field_start, kind_bound}
use Rattle.built.proofs.Steps.{put, add_code}

-- the lists of a build have room for 32 parts
abbrev pub Wide : List ℕ → List ℕ → List ℕ → Type 0
Wide ps fs ss = (32 ≤ length ps) × (32 ≤ length fs) × (32 ≤ length ss)

-- the entry at i: a kind, a length's place and a start
pub record Entry (i k f b : ℕ) (ps fs ss : List ℕ) : Type 0 where
  pub kinds : get_or ps i 0 ≡ k
  pub fields : get_or fs i 0 ≡ f
  pub starts : get_or ss i 0 ≡ b

-- the entries of all open parts
unfoldable pub Tracks : Sketch → List ℕ → List ℕ → List ℕ → Type 0
Tracks (codes cs) ps fs ss = Wide ps fs ss
Tracks (s ▷ o) ps fs ss = Tracks s ps fs ss × Entry (parts_open s) (kind o) (field (size s) o) (start (size s) o) ps fs ss

module _ (ps fs ss : List ℕ) where
  wide : (s : Sketch) → Tracks s ps fs ss → Wide ps fs ss
  unfolding Tracks
  wide (codes cs) t = t
  wide (s ▷ o) t = wide s t.0

  module _ (i x y z : ℕ) where
    -- an entry behind those of the open parts changes none of them
    tracks_set : (s : Sketch) → parts_open s ≤ i → Tracks s ps fs ss → Tracks s (set ps i x) (set fs i y) (set ss i z)
    unfolding Tracks parts_open
    tracks_set (codes cs) h t = simp length-set t
    tracks_set (s ▷ o) h t =
        let j = parts_open s in
        let n : j ≡ i → ⊥ = λ e. omega arith in
        let e = t.1 in (
          tracks_set s (omega arith) t.0,
          record {
            kinds = get_or-set_other ps i j x 0 n ∙ e.kinds;
            fields = get_or-set_other fs i j y 0 n ∙ e.fields;
            starts = get_or-set_other ss i j z 0 n ∙ e.starts;
          },
        )

    -- the entry of a part that is opened
    pub tracks_open :
        (s : Sketch) (o : Open) → i ≡ parts_open s → i < 32 → x ≡ kind o → y ≡ field (size s) o → z ≡ start (size s) o
        → Tracks s ps fs ss → Tracks (s ▷ o) (set ps i x) (set fs i y) (set ss i z)
    unfolding Tracks
    tracks_open s o e l k f b t =
        let w = wide s t in (
          tracks_set s (omega arith) t,
          rw (← e)
              (record {
                kinds = get_or-set_same ps i x 0 (omega arith) ∙ k;
                fields = get_or-set_same fs i y 0 (omega arith) ∙ f;
                starts = get_or-set_same ss i z 0 (omega arith) ∙ b;
              }),
        )

  -- a code in a part leaves its entry
  tracks_put : (s : Sketch) (o : Open) (c : Code) → Tracks (s ▷ o) ps fs ss → Tracks (s ▷ put o c) ps fs ss
  unfolding Tracks put
  tracks_put s (block cs) c t = t
  tracks_put s (true_part x cs) c t = t
  tracks_put s (while_part x cs) c t = t
  tracks_put s (false_part x a cs) c t = t

  pub tracks_add : (s : Sketch) (c : Code) → Tracks s ps fs ss → Tracks (add_code s c) ps fs ss
  unfolding Tracks add_code
  tracks_add (codes cs) c t = t
  tracks_add (s ▷ o) c t = tracks_put s o c t

pub add_depth : (s : Sketch) (c : Code) → parts_open (add_code s c) ≡ parts_open s
unfolding parts_open add_code
add_depth (codes cs) c = refl
add_depth (s ▷ o) c = refl

-- what the build keeps of a sketch
pub record Kept (s : Sketch) (b : Build) : Type 0 where
  pub bytes : b.length ≡ size s
  pub depth : b.depth ≡ parts_open s
  pub tracks : Tracks s b.parts b.fields b.starts

-- ---- the innermost open part
module _ (s : Sketch) (o : Open) (b : Build) (k : Kept (s ▷ o) b) where
  pub innermost : b.depth - 1 ≡ parts_open s
  unfolding parts_open
  innermost = let d = k.depth in omega arith

  pub outer_kept : Tracks s b.parts b.fields b.starts
  unfolding Tracks
  outer_kept = k.tracks.0

  pub kind_kept : kind_of b ≡ kind o
  unfolding Tracks
  kind_kept = rw innermost k.tracks.1.kinds

  pub field_kept : field_of b ≡ field (size s) o
  unfolding Tracks
  field_kept = rw innermost k.tracks.1.fields

  start_kept : start_of b ≡ start (size s) o
  unfolding Tracks
  start_kept = rw innermost k.tracks.1.starts

  -- the bytes from its start on
  pub inside_kept : b.length - start_of b ≡ length (bytes_of_codes (inside o))
  inside_kept = let n = k.bytes in omega (arith, start_kept, size_open s o)

  -- it can be one that a call left
  is_open : b.depth ≤ 32 → is_part b ≡ true
  unfolding is_part
  is_open d =
      let n = k.bytes in
      let l = size_open s o in
      let f = field_start (size s) o in
      let m = kind_bound o in
      let e = kind_kept in
      let g = field_kept in
      let h = start_kept in
      rw (
        le-leb b.depth 32 d,
        le-leb (kind_of b) 2 (omega arith),
        le-leb (field_of b + 4) (start_of b) (omega arith),
        le-leb (start_of b) b.length (omega arith),
      )

-- ---- what fits: a code has a byte at least
module _ (x y : ℕ) where
  no_bytes : (cs : Codes) → (x ≡ y → length (bytes_of_codes cs) ≡ 0) → (length (bytes_of_codes cs) ≡ 0 → x ≡ y) → eqb x y ≡ none cs
  unfolding bytes_of_codes none
  no_bytes ⟨⟩ f g = eq-eqb x y (g refl)
  no_bytes (c ∷ᶜ cs) f g = ne_eqb x y (λ e. omega (arith, f e, length-append (bytes_of_code c) (bytes_of_codes cs), code_bytes c))

  some_bytes : (cs : Codes) → y ≡ x + length (bytes_of_codes cs) → ltb x y ≡ some cs
  unfolding bytes_of_codes some
  some_bytes ⟨⟩ e = le-ltb x y (omega arith)
  some_bytes (c ∷ᶜ cs) e = lt-ltb x y (omega (arith, length-append (bytes_of_code c) (bytes_of_codes cs), code_bytes c))

open_fits : (s : Sketch) (o : Open) → code_fits (s ▷ o) ≡ eqb (kind o) 0 || none (inside o)
unfolding code_fits
open_fits s (block cs) = refl
open_fits s (true_part c cs) = refl
open_fits s (while_part c cs) = refl
open_fits s (false_part c a cs) = refl

open_closes : (s : Sketch) (o : Open) → close_fits (s ▷ o) ≡ eqb (kind o) 0 || some (inside o)
unfolding close_fits
open_closes s (block cs) = refl
open_closes s (true_part c cs) = refl
open_closes s (while_part c cs) = refl
open_closes s (false_part c a cs) = refl

module _ (b : Build) where
  pub code_kept : (s : Sketch) → Kept s b → parts_open s ≤ 32 → takes_code b ≡ code_fits s
  unfolding takes_code code_fits parts_open bytes_so_far
  code_kept (codes cs) k d =
      let n = k.bytes in
      rw (eq-eqb b.depth 0 k.depth) (no_bytes b.length 0 cs (omega arith) (omega arith))
  code_kept (s ▷ o) k d =
      let m = k.depth in
      let n = k.bytes in
      let l = size_open s o in
      let h = start_kept s o b k in
      rw (
        ne_eqb b.depth 0 (omega arith),
        is_open s o b k (omega arith),
        kind_kept s o b k,
        no_bytes (start_of b) b.length (inside o) (omega arith) (omega arith),
        open_fits s o,
      )

  pub close_kept : (s : Sketch) → Kept s b → parts_open s ≤ 32 → takes_close b ≡ close_fits s
  unfolding takes_close close_fits parts_open
  close_kept (codes cs) k d = rw k.depth
  close_kept (s ▷ o) k d =
      let m = k.depth in
      let n = k.bytes in
      rw (
        lt-ltb 0 b.depth (omega arith),
        is_open s o b k (omega arith),
        kind_kept s o b k,
        some_bytes (start_of b) b.length (inside o) (omega (arith, size_open s o, start_kept s o b k)),
        open_closes s o,
      )
