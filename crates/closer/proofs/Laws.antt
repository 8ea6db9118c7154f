-- What the steps of closing up come to together. Assumes nothing.
use mathlib.Core.Path.{◌≡◌, refl, sym, ap, ap₂, ◌∙◌}
use mathlib.Core.Bool.{Bool, true, false, not}
use mathlib.Core.List.{List, [], ◌∷◌, ◌++◌, append-nil}
use Prim.Native.Nat.{ℕ, ◌+◌, ◌-◌, ◌*◌, ◌/◌, ◌≤◌, ◌<◌}
use native.Mathlib.Omega.{arith}
use lib.ListN.{length, get_or, take, drop, replicate, length-replicate}
use lib.Seq.{drop-length}
use lib.Dec.{T, eqb, leb, leb→le}
use mir.Facts.{and_yes}
use borrow.Author.Tests.{le-leb, lt-leb, ne_eqb}
use Rattle.table.specs.Bytes.{le, num, padded, part, splice}
use Rattle.table.specs.Rules.{answer, done, first_fail, test}
use Rattle.table.specs.Numbers.{check, heap_in, tests}
use Rattle.table.specs.Closing.{close_answer, close_bytes, close_map, close_moved, closed, closed_heap, map_of, marks, mended, moved, moved_of, one, ones, overlapped, sift, slid, stored}
use Rattle.bytes_writer.proofs.StoreLaws.{lent}
use Rattle.bytes_bits.specs.Bits.{bits_below, marked}
use Rattle.bytes_bits.specs.MapLaws.{map_below, map-bits}
use Rattle.layout_images.proofs.Laws.{part-long}
use Rattle.closing_laws.specs.SlidLaws.{moved-alike, ones-alike, sift-alike}
use Rattle.closing_laws.specs.ClosedBytes.{length-stored}
use Rattle.closing_laws.specs.Fencing.{fenced, passed}

-- ---- a map of marks

marked-is : (f : ℕ → Bool) (m n : ℕ) → n < 8 * m → marked (map_of f 0 m) n ≡ f n
marked-is f m n h = ap (λ (x : ℕ). eqb x 1) (map-bits f m n h) ∙ go (f n)
  where
    go : (c : Bool) → eqb (one c) 1 ≡ c
    go true = refl
    go false = refl

module _ (t : List ℕ) (m : ℕ) (h : (heap_in t).len ≤ 8 * m) where
  M : List ℕ
  M = map_of (marks t) 0 m

  alike : (k : ℕ) → k < (heap_in t).len → marked M k ≡ marks t k
  unfolding M
  alike k l = marked-is (marks t) m k (omega arith)

  pub kept-is : bits_below (map_of (marks t) 0 m) (heap_in t).len ≡ slid t (heap_in t).len
  unfolding slid
  kept-is = map_below (marks t) m (heap_in t).len h

  pub kept-ones : bits_below (map_of (marks t) 0 m) (heap_in t).len ≡ ones (marked (map_of (marks t) 0 m)) (heap_in t).len
  unfolding M
  kept-ones = map_below (marks t) m (heap_in t).len h ∙ sym (ones-alike (marked M) (marks t) (heap_in t).len alike)

  pub moved-is : moved_of (marked (map_of (marks t) 0 m)) (heap_in t).len ≡ moved t
  unfolding moved M
  moved-is = moved-alike (marked M) (marks t) (heap_in t).len alike

  pub heap_is : (xs : List ℕ) → length xs ≡ (heap_in t).len → padded (length xs) (sift (marked (map_of (marks t) 0 m)) 0 xs) ≡ padded (heap_in t).len (sift (marks t) 0 xs)
  unfolding M
  heap_is xs e = ap₂ padded e (sift-alike (marked M) (marks t) 0 xs (λ k l n. alike k (omega arith)))

-- ---- the table

-- the heap closed up in its place, of n bytes at a
pub heap-closed : (t u y map : List ℕ) (m a n : ℕ) → (heap_in t).len ≤ 8 * m → map ≡ map_of (marks t) 0 m → a ≡ (heap_in t).at → n ≡ (heap_in t).len → u ≡ stored t → a + n ≤ length u
    → let xs = take (a + n - a) (drop a u) in
    length y ≡ length xs
    → y ≡ padded (length xs) (sift (marked map) 0 xs)
    → take a u ++ (y ++ drop (a + n - a) (drop a u)) ≡ splice (stored t) (heap_in t).at (closed_heap t)
unfolding closed_heap
heap-closed t u y map m a n h d p q e r k f =
    let z : a + n - a ≡ n = omega arith in
    let l : length (part u a n) ≡ n = part-long u a n r in
    let k' : length y ≡ length (part u a n) = rw z at k in
    let f' : y ≡ padded (length (part u a n)) (sift (marked map) 0 (part u a n)) = rw z at f in
    let g : y ≡ padded (heap_in t).len (sift (marks t) 0 (part (stored t) (heap_in t).at (heap_in t).len)) =
    f'
    ∙ ap (λ (x : List ℕ). padded (length (part u a n)) (sift (marked x) 0 (part u a n))) d
    ∙ heap_is t m h (part u a n) (l ∙ q)
    ∙ ap (λ (v : List ℕ). padded (heap_in t).len (sift (marks t) 0 (part v a n))) e
    ∙ ap₂ (λ (i j : ℕ). padded (heap_in t).len (sift (marks t) 0 (part (stored t) i j))) p q in
    ap (λ (j : ℕ). take a u ++ (y ++ drop j (drop a u))) z ∙ lent u a n y (k' ∙ l) ∙ ap₂ (λ (v w : List ℕ). splice v a w) e g ∙ ap (λ (i : ℕ). splice (stored t) i (closed_heap t)) p

pub closed_of : (t v : List ℕ) (n k : ℕ) → n ≡ num t 4 4 → k ≡ slid t (heap_in t).len → v ≡ splice (stored t) (heap_in t).at (closed_heap t) → mended n (splice v 40 (le 4 k)) ≡ closed t
unfolding closed
closed_of t v n k e f g = rw (e, f, g) refl

module _ (t : List ℕ) (b : (i : ℕ) → get_or t i 0 < 256) (ok : check t ≡ done) (nov : T (not (overlapped t))) where
  pub heap-fits : (heap_in t).at + (heap_in t).len ≤ length t
  heap-fits = (fenced t b ok nov).roomy.fits

  pub stored-long : length (stored t) ≡ length t
  stored-long = length-stored t (fenced t b ok nov).roomy

  pub long-enough : 160 ≤ num t 4 4
  unfolding tests
  long-enough = let p = passed t b ok nov in leb→le 160 (num t 4 4) (and_yes (leb 160 (num t 4 4)) _ p.1.1.0).0

-- ---- what is left behind

pub all-zero : (xs : List ℕ) → splice xs 0 (replicate (length xs) 0) ≡ replicate (length xs) 0
all-zero xs =
    let z : List ℕ = replicate (length xs) 0 in
    let e : 0 + length z ≡ length xs = omega (arith, length-replicate {A = ℕ} (length xs) 0) in
    ap (λ (n : ℕ). z ++ drop n xs) e ∙ ap (λ (ys : List ℕ). z ++ ys) (drop-length xs) ∙ append-nil z

module _ (t map : List ℕ) where
  pub all-refused : ((close_answer t (length map)).number ≡ 0 → ⊥) → (0 ≡ close_moved t (length map)) × (t ≡ close_bytes t (length map)) × (map ≡ close_map t map)
  unfolding close_moved close_bytes close_map
  all-refused z = rw (ne_eqb (close_answer t (length map)).number 0 z) (refl, refl, refl)

  pub all_done : (close_answer t (length map)).number ≡ 0
      → (moved t ≡ close_moved t (length map)) × (closed t ≡ close_bytes t (length map)) × (map_of (marks t) 0 (length map) ≡ close_map t map)
  unfolding close_moved close_bytes close_map
  all_done e = rw e (refl, refl, refl)

-- ---- the answer

module _ (t : List ℕ) (room : ℕ) where
  pub small-map : room < ((heap_in t).len + 7) / 8 → first_fail (test (leb (heap_in t).len (8 * room)) 14 0 0 ∷ test (not (overlapped t)) 19 0 0 ∷ []) ≡ answer 14 0 0
  small-map h = rw (lt-leb (heap_in t).len (8 * room) (omega arith)) refl

  pub one-shared : ((heap_in t).len + 7) / 8 ≤ room → overlapped t ≡ true → first_fail (test (leb (heap_in t).len (8 * room)) 14 0 0 ∷ test (not (overlapped t)) 19 0 0 ∷ []) ≡ answer 19 0 0
  one-shared h e = rw (le-leb (heap_in t).len (8 * room) (omega arith), e) refl

  pub none-shared : ((heap_in t).len + 7) / 8 ≤ room → overlapped t ≡ false → first_fail (test (leb (heap_in t).len (8 * room)) 14 0 0 ∷ test (not (overlapped t)) 19 0 0 ∷ []) ≡ done
  none-shared h e = rw (le-leb (heap_in t).len (8 * room) (omega arith), e) refl

  pub by-check : ((check t).number ≡ 0 → ⊥) → close_answer t room ≡ check t
  unfolding close_answer
  by-check z = rw (ne_eqb (check t).number 0 z) refl

  pub by-fault : (check t).number ≡ 0 → close_answer t room ≡ first_fail (test (leb (heap_in t).len (8 * room)) 14 0 0 ∷ test (not (overlapped t)) 19 0 0 ∷ [])
  unfolding close_answer
  by-fault e = rw e refl
