-- The cells and the bytes. Accepted cells lie apart and below 2^64, so the eight bytes from a 64-bit cell's address up belong to that cell
-- alone: reading them gives its value, writing them touches no other cell. `over` lays the 64-bit cells over a memory; a memory that agrees
-- with the cells is left as it is by that, and the cells of the other tags agree already and lie apart.
use Rattle.std.proofs.Common.{◌≡◌, ℕ, suc, ◌+◌, ◌-◌, ◌/◌, ◌%◌, ◌^◌, ◌<◌, ◌≤◌, Bool, true, false, cond, eqb, ltb, List, [], ◌∷◌, length, get_or, set, ℤ, pos, sym, refl, ap, ◌∙◌, le_of_suc-le-suc, not-suc-le-zero, arith, length-set, get_or-set_other, ltb-false, ltb-true, le-ltb, lt-ltb, eqb-true}
use mathlib.Core.Path.{fun_ext}
use mathlib.Core.Option.{some}
use borrow.Author.Tests.{eqb-false}
use Rattle.machine.specs.Cells.{find_cell, Ordered}
use Rattle.machine.specs.Bytes.{ByteMemory, byte, wrap, read_bytes, distance, write_bytes, Agree, Outside64}
use Rattle.machine.proofs.FindLaws.{eqℤ_true, At, hit, miss, at_of, hit_of, find_hit}
use Rattle.machine.proofs.Accepting.{ordered_le, lies}
use Rattle.machine.proofs.SpellLaws.{spelled_cong, spelled_bytes}

-- ---- the distance
distance_flat : (a x : ℕ) → x < 2 ^ 64 → distance a x ≡ (x + (2 ^ 64 - a % 2 ^ 64)) % 2 ^ 64
unfolding distance
distance_flat a x h = rw (lt-ltb x (2 ^ 64) h)

distance_out : (a x : ℕ) → 2 ^ 64 ≤ x → distance a x ≡ 2 ^ 64
unfolding distance
distance_out a x h = rw (le-ltb x (2 ^ 64) h)

distance_in : (a j : ℕ) → a + 8 ≤ 2 ^ 64 → j < 8 → distance a (a + j) ≡ j
distance_in a j h k =
    let e : a % 2 ^ 64 ≡ a = omega arith in
    distance_flat a (a + j) (omega arith) ∙ rw e (omega arith)

-- a place that is near
near : (a x : ℕ) → a + 8 ≤ 2 ^ 64 → distance a x < 8 → x ≡ a + distance a x
near a x h l = go (ltb x (2 ^ 64)) refl
  where
    go : (c : Bool) → ltb x (2 ^ 64) ≡ c → x ≡ a + distance a x
    go true p =
        let k : x < 2 ^ 64 = ltb-true x (2 ^ 64) p in
        let e : a % 2 ^ 64 ≡ a = omega arith in
        let d : (x + (2 ^ 64 - a)) % 2 ^ 64 < 8 = rw (distance_flat a x k, e) at l in
        rw (distance_flat a x k, e) (omega arith)
    go false p = let d : 2 ^ 64 < 8 = rw (distance_out a x (ltb-false x (2 ^ 64) p)) at l in absurd (omega arith)

distance_apart : (a b x : ℕ) → a + 8 ≤ b → b + 8 ≤ 2 ^ 64 → distance a x < 8 → distance b x < 8 → ⊥
distance_apart a b x h k l r =
    let p : x ≡ a + distance a x = near a x (omega arith) l in
    let q : x ≡ b + distance b x = near b x k r in
    omega arith

-- ---- a word written
pub write_here : (a v j : ℕ) (m : ByteMemory) → a + 8 ≤ 2 ^ 64 → j < 8 → write_bytes a v m (a + j) ≡ byte j v
unfolding write_bytes
write_here a v j m h k = rw (distance_in a j h k, lt-ltb j 8 k)

write_out : (a v x : ℕ) (m : ByteMemory) → 8 ≤ distance a x → write_bytes a v m x ≡ m x
unfolding write_bytes
write_out a v x m h = rw (le-ltb (distance a x) 8 h)

-- a place that is not in the word
pub write_there : (a v x : ℕ) (m : ByteMemory) → a + 8 ≤ 2 ^ 64 → (a ≤ x → a + 8 ≤ x) → write_bytes a v m x ≡ m x
write_there a v x m h k = write_out a v x m (go (ltb (distance a x) 8) refl)
  where
    go : (c : Bool) → ltb (distance a x) 8 ≡ c → 8 ≤ distance a x
    go true p =
        let l : distance a x < 8 = ltb-true _ 8 p in
        let e : x ≡ a + distance a x = near a x h l in
        let r : a + 8 ≤ x = k (omega arith) in
        absurd (omega arith)
    go false p = ltb-false _ 8 p

-- the bytes that stand there already
write_same : (a v : ℕ) (m : ByteMemory) → a + 8 ≤ 2 ^ 64 → ((j : ℕ) → j < 8 → m (a + j) ≡ byte j v) → write_bytes a v m ≡ m
unfolding write_bytes
write_same a v m h f = fun_ext λ x. go x (ltb (distance a x) 8) refl
  where
    go : (x : ℕ) (c : Bool) → ltb (distance a x) 8 ≡ c → cond c (byte (distance a x) v) (m x) ≡ m x
    go x true p = let l : distance a x < 8 = ltb-true _ 8 p in sym (f (distance a x) l) ∙ ap m (sym (near a x h l))
    go x false p = refl

pub write_read : (a v : ℕ) (m : ByteMemory) → a + 8 ≤ 2 ^ 64 → v < 2 ^ 64 → read_bytes 8 a (write_bytes a v m) ≡ v
unfolding read_bytes
write_read a v m h k =
    spelled_bytes 8 v _ k λ j l. let e : (a + j) % 2 ^ 64 ≡ a + j = omega arith in rw e (write_here a v j m h l)

write_other : (a b v : ℕ) (m : ByteMemory) → a + 8 ≤ b → b + 8 ≤ 2 ^ 64 → read_bytes 8 b (write_bytes a v m) ≡ read_bytes 8 b m
unfolding read_bytes
write_other a b v m h k =
    spelled_cong 8 _ _ λ j l.
    let e : (b + j) % 2 ^ 64 ≡ b + j = omega arith in rw e (write_there a v (b + j) m (omega arith) (λ r. omega arith))

write_write : (a v w : ℕ) (m : ByteMemory) → write_bytes a v (write_bytes a w m) ≡ write_bytes a v m
unfolding write_bytes
write_write a v w m = fun_ext λ x. go (ltb (distance a x) 8) x
  where
    go : (b : Bool) (x : ℕ) → cond b (byte (distance a x) v) (cond b (byte (distance a x) w) (m x)) ≡ cond b (byte (distance a x) v) (m x)
    go true x = refl
    go false x = refl

write_swap : (a b v w : ℕ) (m : ByteMemory) → a + 8 ≤ b → b + 8 ≤ 2 ^ 64 → write_bytes b v (write_bytes a w m) ≡ write_bytes a w (write_bytes b v m)
unfolding write_bytes
write_swap a b v w m h k = fun_ext λ x. go x (ltb (distance b x) 8) refl (ltb (distance a x) 8) refl
  where
    go : (x : ℕ) (c : Bool) → ltb (distance b x) 8 ≡ c → (d : Bool) → ltb (distance a x) 8 ≡ d
        → cond c (byte (distance b x) v) (cond d (byte (distance a x) w) (m x)) ≡ cond d (byte (distance a x) w) (cond c (byte (distance b x) v) (m x))
    go x true p true q = absurd (distance_apart a b x h k (ltb-true _ 8 q) (ltb-true _ 8 p))
    go x true p false q = refl
    go x false p true q = refl
    go x false p false q = refl

-- ---- the 64-bit cells laid over a memory
unfoldable pub over : List ℕ → List ℕ → List ℕ → ByteMemory → ByteMemory
over [] ts vs m = m
over (a ∷ xs) [] vs m = m
over (a ∷ xs) (t ∷ ts) [] m = m
over (a ∷ xs) (t ∷ ts) (v ∷ vs) m = cond (eqb t 64) (write_bytes a v (over xs ts vs m)) (over xs ts vs m)

-- where a 64-bit cell lies
pub record Place (last : ℕ) (z : ℤ) : Type 0 where
  pub place : ℕ
  pub is : z ≡ pos place
  pub from : last ≤ place
  pub within : place + 8 ≤ 2 ^ 64

pub place_of : (last : ℕ) (xs ts : List ℕ) (z : ℤ) (i : ℕ) → At xs ts z i → Ordered last xs ts → Place last z
place_of last xs ts z i r o =
    let h = hit_of xs ts z i r in
    let l = lies last xs ts o i h.inside in
    record { place = get_or xs i 0; is = sym h.address; from = l.0; within = omega (arith, l.1, h.tag) }

place_at : (last : ℕ) (xs ts : List ℕ) (b i : ℕ) → At xs ts (pos b) i → Ordered last xs ts → (last ≤ b) × (b + 8 ≤ 2 ^ 64)
place_at last xs ts b i r o =
    let y = place_of last xs ts (pos b) i r o in
    let e : y.place ≡ b = cc y.is in
    (rw e at y.from, rw e at y.within)

end_64 : (a t : ℕ) (xs ts : List ℕ) → Ordered (a + t / 8) xs ts → t ≡ 64 → a + 8 ≤ 2 ^ 64
end_64 a t xs ts o e = omega (arith, ordered_le (a + t / 8) xs ts o)

at_read : (last : ℕ) (xs ts vs : List ℕ) (m : ByteMemory) (b i : ℕ) → At xs ts (pos b) i → Ordered last xs ts → length xs ≤ length vs → get_or vs i 0 < 2 ^ 64
    → read_bytes 8 b (over xs ts vs m) ≡ get_or vs i 0
unfolding over
at_read last xs ts [] m b i (hit e q) o h f = absurd (not-suc-le-zero h)
at_read last xs ts (v ∷ vs) m b i (hit {a = a} {t = t} {xs = ys} {ts = us} e q) o h f =
    let ab : a ≡ b = cc (eqℤ_true (pos a) (pos b) e) in
    let k = place_at last (a ∷ ys) (t ∷ us) b 0 (hit e q) o in
    rw (q, ab) (write_read b v (over ys us vs m) k.1 f)
at_read last xs ts [] m b i (miss e r) o h f = absurd (not-suc-le-zero h)
at_read last xs ts (v ∷ vs) m b i (miss {a = a} {t = t} {i = j} {xs = ys} {ts = us} e r) o h f =
    go (eqb t 64) refl (at_read (a + t / 8) ys us vs m b j r o.1 (le_of_suc-le-suc h) f)
  where
    go : (c : Bool) → eqb t 64 ≡ c → read_bytes 8 b (over ys us vs m) ≡ get_or vs j 0
        → read_bytes 8 b (cond c (write_bytes a v (over ys us vs m)) (over ys us vs m)) ≡ get_or vs j 0
    go true p g =
        let u : t ≡ 64 = eqb-true t 64 p in
        let k = place_at (a + t / 8) ys us b j r o.1 in
        write_other a b v (over ys us vs m) (omega (arith, k.0)) k.1 ∙ g
    go false p g = g

at_write : (last : ℕ) (xs ts vs : List ℕ) (m : ByteMemory) (b i v : ℕ) → At xs ts (pos b) i → Ordered last xs ts → length xs ≤ length vs
    → write_bytes b v (over xs ts vs m) ≡ over xs ts (set vs i v) m
unfolding over
at_write last xs ts [] m b i v (hit e q) o h = absurd (not-suc-le-zero h)
at_write last xs ts (w ∷ vs) m b i v (hit {a = a} {t = t} {xs = ys} {ts = us} e q) o h =
    let ab : a ≡ b = cc (eqℤ_true (pos a) (pos b) e) in
    rw (q, ab) (write_write b v w (over ys us vs m))
at_write last xs ts [] m b i v (miss e r) o h = absurd (not-suc-le-zero h)
at_write last xs ts (w ∷ vs) m b i v (miss {a = a} {t = t} {i = j} {xs = ys} {ts = us} e r) o h =
    go (eqb t 64) refl (at_write (a + t / 8) ys us vs m b j v r o.1 (le_of_suc-le-suc h))
  where
    go : (c : Bool) → eqb t 64 ≡ c → write_bytes b v (over ys us vs m) ≡ over ys us (set vs j v) m
        → write_bytes b v (cond c (write_bytes a w (over ys us vs m)) (over ys us vs m))
        ≡ cond c (write_bytes a w (over ys us (set vs j v) m)) (over ys us (set vs j v) m)
    go true p g =
        let u : t ≡ 64 = eqb-true t 64 p in
        let k = place_at (a + t / 8) ys us b j r o.1 in
        write_swap a b v w (over ys us vs m) (omega (arith, k.0)) k.1 ∙ ap (write_bytes a w) g
    go false p g = g

wrap_in : (b : ℕ) → b + 8 ≤ 2 ^ 64 → wrap (pos b) ≡ b
unfolding wrap
wrap_in b h = omega arith

-- ---- the laws, at an exact address where a cell is found
module _ (xs ts : List ℕ) (ordered : Ordered 0 xs ts) (z : ℤ) (i : ℕ) (found : find_cell xs ts z ≡ some i) where
  spot : Place 0 z
  spot = place_of 0 xs ts z i (at_of xs ts z i found) ordered

  there : At xs ts (pos spot.place) i
  there = rw spot.is at (at_of xs ts z i found)

  wrapped : wrap z ≡ spot.place
  wrapped = ap wrap spot.is ∙ wrap_in spot.place spot.within

  -- eight bytes there, in the cells laid over a memory, are the cell's value
  pub over_read : (vs : List ℕ) (m : ByteMemory) → length xs ≤ length vs → get_or vs i 0 < 2 ^ 64 → read_bytes 8 (wrap z) (over xs ts vs m) ≡ get_or vs i 0
  over_read vs m h f =
      ap (λ (a : ℕ). read_bytes 8 a (over xs ts vs m)) wrapped ∙ at_read 0 xs ts vs m spot.place i there ordered h f

  -- a word written there is a store to the cell
  pub over_write : (vs : List ℕ) (m : ByteMemory) (v : ℕ) → length xs ≤ length vs → write_bytes (wrap z) v (over xs ts vs m) ≡ over xs ts (set vs i v) m
  over_write vs m v h =
      ap (λ (a : ℕ). write_bytes a v (over xs ts vs m)) wrapped ∙ at_write 0 xs ts vs m spot.place i v there ordered h

-- ---- cells that agree with a memory
pub agree_over : (last : ℕ) (xs ts vs : List ℕ) (m : ByteMemory) → Ordered last xs ts → Agree xs ts vs m → over xs ts vs m ≡ m
unfolding over
agree_over last [] ts vs m o g = refl
agree_over last (a ∷ xs) [] vs m o g = refl
agree_over last (a ∷ xs) (t ∷ ts) [] m o g = refl
agree_over last (a ∷ xs) (t ∷ ts) (v ∷ vs) m o g = go (eqb t 64) refl (agree_over (a + t / 8) xs ts vs m o.1 g.1)
  where
    go : (c : Bool) → eqb t 64 ≡ c → over xs ts vs m ≡ m → cond c (write_bytes a v (over xs ts vs m)) (over xs ts vs m) ≡ m
    go true p e =
        let u : t ≡ 64 = eqb-true t 64 p in
        ap (write_bytes a v) e ∙ write_same a v m (end_64 a t xs ts o.1 u) (λ j h. g.0 j (omega arith))
    go false p e = e

-- a word before the cells leaves their agreement
agree_write_before : (last : ℕ) (xs ts vs : List ℕ) (m : ByteMemory) (a v : ℕ) → Ordered last xs ts → a + 8 ≤ last → Agree xs ts vs m
    → Agree xs ts vs (write_bytes a v m)
agree_write_before last [] ts vs m a v o k g = tt
agree_write_before last (b ∷ xs) [] vs m a v o k g = tt
agree_write_before last (b ∷ xs) (t ∷ ts) [] m a v o k g = tt
agree_write_before last (b ∷ xs) (t ∷ ts) (w ∷ vs) m a v o k g =
    let l : last ≤ b = o.0 in
    let r : b + t / 8 ≤ 2 ^ 64 = ordered_le (b + t / 8) xs ts o.1 in (
      λ j n. write_there a v (b + j) m (omega arith) (λ z. omega arith) ∙ g.0 j n,
      agree_write_before (b + t / 8) xs ts vs m a v o.1 (omega arith) g.1,
    )

-- the cells leave what lies before them
over_before : (last : ℕ) (xs ts vs : List ℕ) (m : ByteMemory) (x : ℕ) → Ordered last xs ts → x < last → over xs ts vs m x ≡ m x
unfolding over
over_before last [] ts vs m x o h = refl
over_before last (a ∷ xs) [] vs m x o h = refl
over_before last (a ∷ xs) (t ∷ ts) [] m x o h = refl
over_before last (a ∷ xs) (t ∷ ts) (v ∷ vs) m x o h = go (eqb t 64) refl (over_before (a + t / 8) xs ts vs m x o.1 (omega (arith, o.0)))
  where
    go : (c : Bool) → eqb t 64 ≡ c → over xs ts vs m x ≡ m x → cond c (write_bytes a v (over xs ts vs m)) (over xs ts vs m) x ≡ m x
    go true p e =
        write_there a v x (over xs ts vs m) (end_64 a t xs ts o.1 (eqb-true t 64 p)) (λ l. absurd (omega (arith, o.0))) ∙ e
    go false p e = e

-- the values of the other tags are kept
abbrev pub Kept : List ℕ → List ℕ → List ℕ → Type 0
Kept ts vs ws = (k : ℕ) → k < length ts → (get_or ts k 0 ≡ 64 → ⊥) → get_or ws k 0 ≡ get_or vs k 0

-- where a memory agrees with the cells, the 64-bit cells of later values over it agree with those
pub over_agree : (last : ℕ) (xs ts vs ws : List ℕ) (m : ByteMemory) → Ordered last xs ts → length ws ≡ length vs → Kept ts vs ws → Agree xs ts vs m
    → Agree xs ts ws (over xs ts ws m)
unfolding over
over_agree last [] ts vs ws m o s k g = tt
over_agree last (a ∷ xs) [] vs ws m o s k g = tt
over_agree last (a ∷ xs) (t ∷ ts) vs [] m o s k g = tt
over_agree last (a ∷ xs) (t ∷ ts) [] (w ∷ ws) m o s k g = absurd (omega arith)
over_agree last (a ∷ xs) (t ∷ ts) (v ∷ vs) (w ∷ ws) m o s k g =
    go (eqb t 64) refl (over_agree (a + t / 8) xs ts vs ws m o.1 (omega arith) (λ n h. k (suc n) (omega arith)) g.1)
  where
    go : (c : Bool) → eqb t 64 ≡ c → Agree xs ts ws (over xs ts ws m)
        → Agree (a ∷ xs) (t ∷ ts) (w ∷ ws) (cond c (write_bytes a w (over xs ts ws m)) (over xs ts ws m))
    go true p r =
        let u : t ≡ 64 = eqb-true t 64 p in (
          λ j n. write_here a w j (over xs ts ws m) (end_64 a t xs ts o.1 u) (omega arith),
          agree_write_before (a + t / 8) xs ts ws (over xs ts ws m) a w o.1 (omega arith) r,
        )
    go false p r =
        let e : w ≡ v = k 0 (omega arith) (eqb-false t 64 p) in
        (λ j n. over_before (a + t / 8) xs ts ws m (a + j) o.1 (omega arith) ∙ g.0 j n ∙ ap (byte j) (sym e), r)

-- outside the 64-bit cells nothing changes
pub over_outside : (last : ℕ) (xs ts vs : List ℕ) (m : ByteMemory) → Ordered last xs ts → (x : ℕ) → Outside64 xs ts x → over xs ts vs m x ≡ m x
unfolding over
over_outside last [] ts vs m o x h = refl
over_outside last (a ∷ xs) [] vs m o x h = refl
over_outside last (a ∷ xs) (t ∷ ts) [] m o x h = refl
over_outside last (a ∷ xs) (t ∷ ts) (v ∷ vs) m o x h = go (eqb t 64) refl (over_outside (a + t / 8) xs ts vs m o.1 x h.1)
  where
    go : (c : Bool) → eqb t 64 ≡ c → over xs ts vs m x ≡ m x → cond c (write_bytes a v (over xs ts vs m)) (over xs ts vs m) x ≡ m x
    go true p e =
        let u : t ≡ 64 = eqb-true t 64 p in
        write_there a v x (over xs ts vs m) (end_64 a t xs ts o.1 u) (h.0 u) ∙ e
    go false p e = e

-- ---- an agreeing memory, read and written at a cell that is found
module _ (xs ts : List ℕ) (ordered : Ordered 0 xs ts) (z : ℤ) (i : ℕ) (found : find_cell xs ts z ≡ some i)
    (vs : List ℕ) (long : length xs ≤ length vs) (m : ByteMemory) (agree : Agree xs ts vs m) where
  pub agree_read : get_or vs i 0 < 2 ^ 64 → read_bytes 8 (wrap z) m ≡ get_or vs i 0
  agree_read f =
      ap (read_bytes 8 (wrap z)) (sym (agree_over 0 xs ts vs m ordered agree)) ∙ over_read xs ts ordered z i found vs m long f

  -- the new value agrees, and every other cell's, whatever its tag
  pub agree_write : (v : ℕ) → Agree xs ts (set vs i v) (write_bytes (wrap z) v m)
  agree_write v =
      rw
      (ap (write_bytes (wrap z) v) (sym (agree_over 0 xs ts vs m ordered agree)) ∙ over_write xs ts ordered z i found vs m v long)
      (over_agree 0 xs ts vs (set vs i v) m ordered (length-set vs i v) kept agree)
    where
      kept : Kept ts vs (set vs i v)
      kept k h n = get_or-set_other vs i k v 0 (λ e. n (ap (λ (j : ℕ). get_or ts j 0) e ∙ (find_hit xs ts z i found).tag))

  pub write_outside : (v x : ℕ) → Outside64 xs ts x → write_bytes (wrap z) v m x ≡ m x
  write_outside v x h =
      ap (λ (n : ByteMemory). write_bytes (wrap z) v n x) (sym (agree_over 0 xs ts vs m ordered agree))
      ∙ ap (λ (n : ByteMemory). n x) (over_write xs ts ordered z i found vs m v long)
      ∙ over_outside 0 xs ts (set vs i v) m ordered x h
