-- Closing again: the closed table is refused by nothing, and no byte of it changes. Assumes nothing.
use Rattle.std.specs.Prelude.{◌≡◌, Bool, true, false, not, ◌&&◌, ◌||◌, length, take, drop, replicate, T, leb}
use Rattle.std.proofs.Math.Path.{refl, sym, ap, ap₂}
use Rattle.std.proofs.Common.{◌∙◌, subst, inl, inr, add-zero, zero-add, length-drop, take-append-drop, drop-drop, length-take-le, eqb→eq, lit<}
use mathlib.Core.List.{List, [], ◌∷◌, ◌++◌, append-nil}
use Prim.Native.Nat.{ℕ, zero, suc, ◌+◌, ◌-◌, ◌/◌, ◌%◌, ◌≤◌, ◌<◌}
use native.Mathlib.Omega.{arith}
use Rattle.std.proofs.Math.ListN.{get_or}
use Rattle.std.proofs.Math.Seq.{split_at, take-append_seam}
use Rattle.std.proofs.Math.Dec.{leb→le}
use Rattle.std.proofs.Math.Facts.{and_yes, or_no}
use Rattle.table.specs.Bytes.{apply, checksum, le, num, padded, part, pick, splice, total}
use Rattle.table.specs.Rules.{apart, done}
use Rattle.table.specs.Meaning.{meaning}
use Rattle.table.specs.Numbers.{check, heap_in, tests}
use Rattle.table.specs.Closing.{Site, clash, clashes, closed, closed_heap, goes, marks, mended, offsets_of, ones, overlapped, overlaps, sift, sites, slid, span_of, stored}
use Rattle.laws.specs.ByteLaws.{drop-splice, holds-left, holds-part, pick_yes}
use Rattle.laws.specs.Found.{le_val}
use Rattle.laws.specs.AcceptedMeaning.{lawful, stands}
use Rattle.closing_laws.specs.Members.{In, Sub, neither}
use Rattle.closing_laws.specs.SlidLaws.{ones-more, ones-stretch}
use Rattle.closing_laws.specs.ClosedBytes.{Roomy, total-nine}
use Rattle.closing_laws.specs.Carrying.{Sound, site-slides}
use Rattle.closing_laws.specs.ClosedStands.{Fenced}
use Rattle.closing_laws.specs.Places.{Apart, apart_of, of-apart}
use Rattle.closing_laws.specs.Fencing.{fenced, passed}
use Rattle.closing_laws.specs.ClosedAccepted.{closed-accepted}
use Rattle.closing_laws.specs.Twins.{Twin, Twins, sites-twins}
use Rattle.closing_laws.specs.Full.{closed-full}

-- ---- the closed table is of bytes

abbrev Small : List ℕ → Type 0
Small [] = Unit {0}
Small (x ∷ xs) = (x < 256) × Small xs

small_of : (xs : List ℕ) → ((i : ℕ) → get_or xs i 0 < 256) → Small xs
small_of [] h = tt
small_of (x ∷ xs) h = (h 0, small_of xs (λ i. h (suc i)))

small_at : (xs : List ℕ) → Small xs → (i : ℕ) → get_or xs i 0 < 256
small_at [] h i = lit< tt
small_at (x ∷ xs) h zero = h.0
small_at (x ∷ xs) h (suc i) = small_at xs h.1 i

small-append : (xs ys : List ℕ) → Small xs → Small ys → Small (xs ++ ys)
small-append [] ys h k = k
small-append (x ∷ xs) ys h k = (h.0, small-append xs ys h.1 k)

small-take : (n : ℕ) (xs : List ℕ) → Small xs → Small (take n xs)
small-take zero xs h = tt
small-take (suc n) [] h = tt
small-take (suc n) (x ∷ xs) h = (h.0, small-take n xs h.1)

small-drop : (n : ℕ) (xs : List ℕ) → Small xs → Small (drop n xs)
small-drop zero xs h = h
small-drop (suc n) [] h = tt
small-drop (suc n) (x ∷ xs) h = small-drop n xs h.1

small-zeros : (n : ℕ) → Small (replicate n 0)
small-zeros zero = tt
small-zeros (suc n) = (lit< tt, small-zeros n)

small-le : (n x : ℕ) → Small (le n x)
small-le zero x = tt
small-le (suc n) x = (omega arith, small-le n (x / 256))

small-sift : (f : ℕ → Bool) (n : ℕ) (xs : List ℕ) → Small xs → Small (sift f n xs)
small-sift f n [] h = tt
small-sift f n (x ∷ xs) h = go (f n) (small-sift f (suc n) xs h.1)
  where
    go : (c : Bool) → Small (sift f (suc n) xs) → Small (pick c (x ∷ sift f (suc n) xs) (sift f (suc n) xs))
    go true k = (h.0, k)
    go false k = k

small-splice : (xs : List ℕ) (a : ℕ) (bs : List ℕ) → Small xs → Small bs → Small (splice xs a bs)
small-splice xs a bs h k = small-append (take a xs) (bs ++ drop (a + length bs) xs) (small-take a xs h) (small-append bs (drop (a + length bs) xs) k (small-drop (a + length bs) xs h))

small-stores : (t u : List ℕ) (ss : List Site) → Small u → Small (apply u (offsets_of t ss))
small-stores t u [] h = h
small-stores t u (s ∷ ss) h = small-stores t (splice u s.at (le 4 (goes t s.off))) ss (small-splice u s.at (le 4 (goes t s.off)) h (small-le 4 (goes t s.off)))

small-mended : (n : ℕ) (u : List ℕ) → Small u → Small (mended n u)
unfolding mended
small-mended n u h =
    let y : List ℕ = splice u 9 (0 ∷ []) in
    small-splice y 9 (checksum (take n y) ∷ []) (small-splice u 9 (0 ∷ []) h (lit< tt, tt)) (omega arith, tt)

small-stored : (t : List ℕ) → Small t → Small (stored t)
unfolding stored
small-stored t h = small-stores t t (sites t) h

small-heap : (t : List ℕ) → Small t → Small (closed_heap t)
unfolding closed_heap
small-heap t h =
    let x : List ℕ = part (stored t) (heap_in t).at (heap_in t).len in
    let y : List ℕ = sift (marks t) 0 x in
    let k : Small x = small-take (heap_in t).len (drop (heap_in t).at (stored t)) (small-drop (heap_in t).at (stored t) (small-stored t h)) in
    small-append y (replicate ((heap_in t).len - length y) 0) (small-sift (marks t) 0 x k) (small-zeros ((heap_in t).len - length y))

small-closed : (t : List ℕ) → Small t → Small (closed t)
unfolding closed
small-closed t h =
    let x : List ℕ = splice (stored t) (heap_in t).at (closed_heap t) in
    let n : List ℕ = le 4 (slid t (heap_in t).len) in
    small-mended (num t 4 4) (splice x 40 n)
    (small-splice x 40 n (small-splice (stored t) (heap_in t).at (closed_heap t) (small-stored t h) (small-heap t h)) (small-le 4 (slid t (heap_in t).len)))

pub closed-bytes : (t : List ℕ) → ((i : ℕ) → get_or t i 0 < 256) → (i : ℕ) → get_or (closed t) i 0 < 256
closed-bytes t b = small_at (closed t) (small-closed t (small_of t b))

-- ---- where all heap bytes are marked nothing changes

-- a store of what stands there
splice-same : (u : List ℕ) (a : ℕ) (bs : List ℕ) → part u a (length bs) ≡ bs → splice u a bs ≡ u
splice-same u a bs e =
    ap (λ (x : List ℕ). take a u ++ x)
    (ap₂ (λ (x y : List ℕ). x ++ y) (sym e) (sym (drop-drop (length bs) a u)) ∙ take-append-drop (length bs) (drop a u))
    ∙ take-append-drop a u

stores_same : (u : List ℕ) (ss : List Site) → ((s : Site) → In s ss → part u s.at 4 ≡ le 4 (goes u s.off)) → apply u (offsets_of u ss) ≡ u
stores_same u [] h = refl
stores_same u (s ∷ ss) h =
    ap (λ (x : List ℕ). apply x (offsets_of u ss)) (splice-same u s.at (le 4 (goes u s.off)) (h s (inl refl)))
    ∙ stores_same u ss (λ x i. h x (inr i))

sift-all : (f : ℕ → Bool) (n : ℕ) (xs : List ℕ) → ((j : ℕ) → j < length xs → T (f (n + j))) → sift f n xs ≡ xs
sift-all f n [] h = refl
sift-all f n (x ∷ xs) h =
    let e : (j : ℕ) → n + suc j ≡ suc n + j = λ j. omega arith in
    pick_yes (f n) (x ∷ sift f (suc n) xs) (sift f (suc n) xs) (rw (add-zero n) at (h 0 (omega arith)))
    ∙ ap (λ (ys : List ℕ). x ∷ ys) (sift-all f (suc n) xs (λ j k. subst (λ (m : ℕ). T (f m)) (e j) (h (suc j) (omega arith))))

padded-full : (n : ℕ) (xs : List ℕ) → length xs ≡ n → padded n xs ≡ xs
padded-full n xs e =
    let z : n - length xs ≡ 0 = omega arith in
    ap (λ (m : ℕ). xs ++ replicate m 0) z ∙ append-nil xs

-- a right checksum is mended to itself
mended-same : (n : ℕ) (u : List ℕ) → 10 ≤ n → 10 ≤ length u → get_or u 9 0 < 256 → total (take n u) % 256 ≡ 0 → mended n u ≡ u
unfolding mended
mended-same n u h k b s =
    let y : List ℕ = splice u 9 (0 ∷ []) in
    let e : total (take n y) + get_or u 9 0 ≡ total (take n u) + 0 = total-nine u 0 n h k in
    let c : checksum (take n y) ≡ get_or u 9 0 = omega arith in
    let l : length (take 9 u) ≡ 9 = length-take-le 9 u (omega arith) in
    let front : take 9 y ≡ take 9 u = ap (λ (m : ℕ). take m y) (sym l) ∙ take-append_seam (take 9 u) (0 ∷ drop 10 u) in
    let back : drop 10 y ≡ drop 10 u = drop-splice u 9 (0 ∷ []) (omega arith) 10 (omega arith) in
    ap (λ (x : ℕ). splice y 9 (x ∷ [])) c
    ∙ ap₂ (λ (x z : List ℕ). x ++ (get_or u 9 0 ∷ z)) front back
    ∙ sym (split_at u 9 0 (omega arith))

module _ (u : List ℕ) (ok : Roomy u) (sound : (s : Site) → In s (sites u) → Sound u s) (b : (i : ℕ) → get_or u i 0 < 256)
    (full : (n : ℕ) → n < (heap_in u).len → T (marks u n)) where
  slid-same : (n : ℕ) → n ≤ (heap_in u).len → slid u n ≡ n
  unfolding slid
  slid-same n h =
      let e : ones (marks u) (0 + n) ≡ ones (marks u) 0 + n = ones-stretch (marks u) 0 n (λ j k. rw (zero-add j) (full j (omega arith))) in
      ap (ones (marks u)) (sym (zero-add n)) ∙ e ∙ omega arith

  goes_same : (s : Site) → In s (sites u) → goes u s.off ≡ s.off
  unfolding goes
  goes_same s i = let x = sound s i in omega (arith, x.from, x.upto, slid-same (s.off - (heap_in u).at) (omega (arith, x.from, x.upto)))

  stored_same : stored u ≡ u
  unfolding stored
  stored_same =
      stores_same u (sites u)
      (λ s i. holds-part u s.at (le 4 s.off) (holds-left u s.at (le 4 s.off) (le 2 s.len) (sound s i).ref) ∙ ap (le 4) (sym (goes_same s i)))

  length-heap : length (part u (heap_in u).at (heap_in u).len) ≡ (heap_in u).len
  length-heap = length-take-le (heap_in u).len (drop (heap_in u).at u) (simp length-drop (omega (arith, ok.fits)))

  heap-same : closed_heap u ≡ part u (heap_in u).at (heap_in u).len
  unfolding closed_heap
  heap-same =
      let x : List ℕ = part u (heap_in u).at (heap_in u).len in
      ap (λ (z : List ℕ). padded (heap_in u).len (sift (marks u) 0 (part z (heap_in u).at (heap_in u).len))) stored_same
      ∙ ap (padded (heap_in u).len) (sift-all (marks u) 0 x (λ j k. rw (zero-add j) (full j (omega (arith, length-heap)))))
      ∙ padded-full (heap_in u).len x length-heap

  length-same : part u 40 4 ≡ le 4 (slid u (heap_in u).len)
  length-same =
      let l : length (part u 40 4) ≡ 4 = length-take-le 4 (drop 40 u) (simp length-drop (omega (arith, ok.long))) in
      sym (le_val 4 (part u 40 4) l (small_at (part u 40 4) (small-take 4 (drop 40 u) (small-drop 40 u (small_of u b)))))
      ∙ ap (le 4) (unfold heap_in in refl ∙ sym (slid-same (heap_in u).len (omega arith)))

  pub closed_same : 10 ≤ num u 4 4 → total (take (num u 4 4) u) % 256 ≡ 0 → closed u ≡ u
  unfolding closed
  closed_same h s =
      let x : List ℕ = part u (heap_in u).at (heap_in u).len in
      ap₂ (λ (y z : List ℕ). mended (num u 4 4) (splice (splice y (heap_in u).at z) 40 (le 4 (slid u (heap_in u).len)))) stored_same heap-same
      ∙ ap (λ (y : List ℕ). mended (num u 4 4) (splice y 40 (le 4 (slid u (heap_in u).len)))) (splice-same u (heap_in u).at x (ap (part u (heap_in u).at) length-heap))
      ∙ ap (mended (num u 4 4)) (splice-same u 40 (le 4 (slid u (heap_in u).len)) length-same)
      ∙ mended-same (num u 4 4) u h (omega (arith, ok.long)) (b 9) s

-- ---- 19 does not come of closing

keeps : (w c d : Bool) → (T c → T d) → T (not (w && not c)) → T (not (w && not d))
keeps false c d f k = tt
keeps true true true f k = tt
keeps true true false f k = absurd (f tt)
keeps true false d f k = absurd k

module _ (t : List ℕ) (g : Fenced t) where
  -- what ends before something else does so after sliding
  before : (x y : Site) → In x (sites t) → In y (sites t) → x.off + x.len ≤ y.off → goes t x.off + x.len ≤ goes t y.off
  unfolding goes slid
  before x y i j h =
      let f = (g.sound x i).from in
      let o : ℕ = x.off - (heap_in t).at + x.len in
      let n : ℕ = y.off - (x.off + x.len) in
      let e : ones (marks t) o ≡ ones (marks t) (x.off - (heap_in t).at) + x.len = site-slides t g.roomy g.sound x i x.len (omega arith) in
      let m : ones (marks t) o ≤ ones (marks t) (o + n) = ones-more (marks t) o n in
      let d : o + n ≡ y.off - (heap_in t).at = omega arith in
      omega (arith, e, rw d at m)

  no-clash : (x y x' y' : Site) → In x (sites t) → In y (sites t) → Twin t x x' → Twin t y y' → T (not (clash x y)) → T (not (clash x' y'))
  no-clash x y x' y' i j p q k =
      rw (p.whole, q.whole)
      (keeps (x.whole || y.whole) (apart (span_of x) (span_of y)) (apart (span_of x') (span_of y'))
      (λ h. of-apart x'.off x'.len y'.off y'.len (go (apart_of x.off x.len y.off y.len h))) k)
    where
      go : Apart x.off x.len y.off y.len → Apart x'.off x'.len y'.off y'.len
      go (inl h) = inl (omega (arith, p.off, p.len, q.off, before x y i j h))
      go (inr h) = inr (omega (arith, q.off, q.len, p.off, before y x j i h))

  no-clashes : (x x' : Site) (ys ys' : List Site) → In x (sites t) → Twin t x x' → Sub ys (sites t) → Twins t ys ys' → T (not (clashes x ys)) → T (not (clashes x' ys'))
  no-clashes x x' [] [] i p sub h k = tt
  no-clashes x x' [] (y' ∷ ys') i p sub h k = absurd h
  no-clashes x x' (y ∷ ys) [] i p sub h k = absurd h
  no-clashes x x' (y ∷ ys) (y' ∷ ys') i p sub h k =
      let z = or_no (clash x y) (clashes x ys) k in
      neither (clash x' y') (clashes x' ys') (no-clash x y x' y' i (sub y (inl refl)) p h.0 z.0) (no-clashes x x' ys ys' i p (λ s j. sub s (inr j)) h.1 z.1)

  no-overlaps : (xs ys : List Site) → Sub xs (sites t) → Twins t xs ys → T (not (overlaps xs)) → T (not (overlaps ys))
  no-overlaps [] [] sub h k = tt
  no-overlaps [] (y ∷ ys) sub h k = absurd h
  no-overlaps (x ∷ xs) [] sub h k = absurd h
  no-overlaps (x ∷ xs) (y ∷ ys) sub h k =
      let z = or_no (clashes x xs) (overlaps xs) k in
      let rest : Sub xs (sites t) = λ s j. sub s (inr j) in
      neither (clashes y ys) (overlaps ys) (no-clashes x y xs ys (sub x (inl refl)) h.0 rest h.1 z.0) (no-overlaps xs ys rest h.1 z.1)

module _ (t : List ℕ) (b : (i : ℕ) → get_or t i 0 < 256) (ok : check t ≡ done) (nov : T (not (overlapped t))) where
  -- the closed table is not refused for an overlap
  pub closed-apart : T (not (overlapped (closed t)))
  unfolding overlapped
  closed-apart =
      let g = fenced t b ok nov in
      no-overlaps t g (sites t) (sites (closed t)) (λ s i. i) (sites-twins t g (meaning t) (lawful t b ok).shapes (stands t b ok)) nov

  -- closing again changes no byte
  pub closed-twice : closed (closed t) ≡ closed t
  unfolding tests
  closed-twice =
      let b' : (i : ℕ) → get_or (closed t) i 0 < 256 = closed-bytes t b in
      let ok' : check (closed t) ≡ done = closed-accepted t b ok nov in
      let g = fenced (closed t) b' ok' closed-apart in
      let p = passed (closed t) b' ok' closed-apart in
      let size : 160 ≤ num (closed t) 4 4 = leb→le 160 (num (closed t) 4 4) (and_yes (leb 160 (num (closed t) 4 4)) _ p.1.1.0).0 in
      closed_same (closed t) g.roomy g.sound b' (closed-full t b ok nov) (omega arith)
      (eqb→eq (total (take (num (closed t) 4 4) (closed t)) % 256) 0 p.1.1.1.1.0)
