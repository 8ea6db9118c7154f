-- The bytes of the closed table: what is stored, what slides, what stays. Assumes nothing.
use Rattle.std.specs.Prelude.{◌≡◌, ◌⊎◌, get_or, take, drop, replicate, T}
use Rattle.std.proofs.Math.Path.{refl, ap}
use Rattle.std.proofs.Common.{sym, ◌∙◌, inl, inr, zero-add, take-append-drop, ext_get_or}
use mathlib.Core.List.{List, [], ◌∷◌, ◌++◌}
use Prim.Native.Nat.{ℕ, suc, ◌+◌, ◌-◌, ◌%◌, ◌≤◌, ◌<◌}
use Rattle.std.proofs.Math.Nat.{add-zero}
use native.Mathlib.Omega.{arith}
use Rattle.std.proofs.Math.ListN.{length, length-append, length-drop, get_or-append}
use Rattle.std.proofs.lemmas.List.{length-replicate}
use Rattle.std.proofs.Math.Seq.{get_or-drop, get_or-take, length-take-le, split_at, take-append-add}
use Rattle.table.specs.Bytes.{apply, checksum, le, num, part, splice, total}
use Rattle.table.specs.Numbers.{heap_in}
use Rattle.laws.specs.ByteLaws.{Holds, get_d-splice-above, get_d-splice-below, held, holds-get_d, length-splice, splice-here}
use Rattle.laws.specs.FormAccepted.{total-append}
use Rattle.table.specs.Closing.{Site, closed, closed_heap, goes, marks, mended, offsets_of, ones, sift, sites, slid, stored}
use Rattle.closing_laws.specs.Members.{In}
use Rattle.closing_laws.specs.SlidLaws.{length-sift, ones-more, ones-stretch, ones-upto, sift-at}

-- a list that has the bytes holds them
pub holds-bytes : (t : List ℕ) (a : ℕ) (bs : List ℕ) → a + length bs ≤ length t → ((j : ℕ) → j < length bs → get_or t (a + j) 0 ≡ get_or bs j 0) → Holds t a bs
holds-bytes t a bs k f =
    let n : length (take (length bs) (drop a t)) ≡ length bs = length-take-le (length bs) (drop a t) (simp length-drop (omega arith)) in
    let e : take (length bs) (drop a t) ≡ bs =
    ext_get_or 0 (take (length bs) (drop a t)) bs n (λ j h.
    let h' : j < length bs = rw n at h in
    get_or-take (length bs) (drop a t) j 0 h' ∙ get_or-drop a t j 0 ∙ f j h') in
    held (drop (length bs) (drop a t)) (sym (take-append-drop (length bs) (drop a t)) ∙ ap (λ (x : List ℕ). x ++ drop (length bs) (drop a t)) e)

-- ---- the stores of the sites' offsets

module _ (t : List ℕ) where
  pub length-stores : (u : List ℕ) (ss : List Site) → ((s : Site) → In s ss → s.at + 4 ≤ length u) → length (apply u (offsets_of t ss)) ≡ length u
  length-stores u [] k = refl
  length-stores u (s ∷ ss) k =
      let l : length (splice u s.at (le 4 (goes t s.off))) ≡ length u = length-splice u s.at (le 4 (goes t s.off)) (k s (inl refl)) in
      length-stores (splice u s.at (le 4 (goes t s.off))) ss (λ x i. rw l (k x (inr i))) ∙ l

  -- a byte apart from all of them stays
  pub stores-away : (u : List ℕ) (ss : List Site) (i : ℕ) → ((s : Site) → In s ss → s.at + 4 ≤ length u) → ((s : Site) → In s ss → (i < s.at) ⊎ (s.at + 4 ≤ i))
      → get_or (apply u (offsets_of t ss)) i 0 ≡ get_or u i 0
  stores-away u [] i k a = refl
  stores-away u (s ∷ ss) i k a =
      let b : List ℕ = le 4 (goes t s.off) in
      let l : length (splice u s.at b) ≡ length u = length-splice u s.at b (k s (inl refl)) in
      stores-away (splice u s.at b) ss i (λ x j. rw l (k x (inr j))) (λ x j. a x (inr j)) ∙ go (a s (inl refl)) (k s (inl refl))
    where
      go : (i < s.at) ⊎ (s.at + 4 ≤ i) → s.at + 4 ≤ length u → get_or (splice u s.at (le 4 (goes t s.off))) i 0 ≡ get_or u i 0
      go (inl h) r = get_d-splice-below u s.at (le 4 (goes t s.off)) r i h
      go (inr h) r = get_d-splice-above u s.at (le 4 (goes t s.off)) r i h

  -- the four bytes at r are those of the offset o, or will be
  abbrev Same : ℕ → ℕ → Site → Type 0
  Same r o s = ((s.at ≡ r) × (s.off ≡ o)) ⊎ ((r + 4 ≤ s.at) ⊎ (s.at + 4 ≤ r))

  stores-keep : (u : List ℕ) (ss : List Site) (r o : ℕ) → ((s : Site) → In s ss → s.at + 4 ≤ length u) → ((s : Site) → In s ss → Same r o s)
      → ((j : ℕ) → j < 4 → get_or u (r + j) 0 ≡ get_or (le 4 (goes t o)) j 0) → (j : ℕ) → j < 4 → get_or (apply u (offsets_of t ss)) (r + j) 0 ≡ get_or (le 4 (goes t o)) j 0
  stores-keep u [] r o k a f j h = f j h
  stores-keep u (s ∷ ss) r o k a f j h =
      let b : List ℕ = le 4 (goes t s.off) in
      let l : length (splice u s.at b) ≡ length u = length-splice u s.at b (k s (inl refl)) in
      stores-keep (splice u s.at b) ss r o (λ x i. rw l (k x (inr i))) (λ x i. a x (inr i)) (go (a s (inl refl)) (k s (inl refl))) j h
    where
      go : Same r o s → s.at + 4 ≤ length u → (j : ℕ) → j < 4 → get_or (splice u s.at (le 4 (goes t s.off))) (r + j) 0 ≡ get_or (le 4 (goes t o)) j 0
      go (inl e) k j h =
          ap (λ (x : ℕ). get_or (splice u s.at (le 4 (goes t s.off))) (x + j) 0) (sym e.0)
          ∙ holds-get_d (splice u s.at (le 4 (goes t s.off))) s.at (le 4 (goes t s.off)) (splice-here u s.at (le 4 (goes t s.off)) k) j h
          ∙ ap (λ (x : ℕ). get_or (le 4 (goes t x)) j 0) e.1
      go (inr (inl e)) k j h = get_d-splice-below u s.at (le 4 (goes t s.off)) k (r + j) (omega arith) ∙ f j h
      go (inr (inr e)) k j h = get_d-splice-above u s.at (le 4 (goes t s.off)) k (r + j) (omega arith) ∙ f j h

  -- the offset of a site that is apart from, or the same as, each of the others
  pub stores-here : (u : List ℕ) (ss : List Site) (x : Site) → In x ss → ((s : Site) → In s ss → s.at + 4 ≤ length u) → ((s : Site) → In s ss → Same x.at x.off s)
      → (j : ℕ) → j < 4 → get_or (apply u (offsets_of t ss)) (x.at + j) 0 ≡ get_or (le 4 (goes t x.off)) j 0
  stores-here u [] x i k a j h = absurd i
  stores-here u (s ∷ ss) x (inl e) k a j h =
      let b : List ℕ = le 4 (goes t s.off) in
      let l : length (splice u s.at b) ≡ length u = length-splice u s.at b (k s (inl refl)) in
      stores-keep (splice u s.at b) ss x.at x.off (λ y i. rw l (k y (inr i))) (λ y i. a y (inr i))
      (λ j h. ap (λ (y : Site). get_or (splice u s.at b) (y.at + j) 0) e ∙ holds-get_d (splice u s.at b) s.at b
      (splice-here u s.at b (k s (inl refl))) j h ∙ ap (λ (y : Site). get_or (le 4 (goes t y.off)) j 0) (sym e)) j h
  stores-here u (s ∷ ss) x (inr i) k a j h =
      let b : List ℕ = le 4 (goes t s.off) in
      let l : length (splice u s.at b) ≡ length u = length-splice u s.at b (k s (inl refl)) in
      stores-here (splice u s.at b) ss x i (λ y i. rw l (k y (inr i))) (λ y i. a y (inr i)) j h

-- ---- the checksum

total-at : (xs : List ℕ) (x : ℕ) (ys : List ℕ) (r n : ℕ) → n ≡ length xs + suc r → total (take n (xs ++ (x ∷ ys))) ≡ total xs + (x + total (take r ys))
total-at xs x ys r n e = ap (λ (m : ℕ). total (take m (xs ++ (x ∷ ys)))) e ∙ ap total (take-append-add xs (x ∷ ys) (suc r)) ∙ total-append xs (x ∷ take r ys)

-- a store of byte 9 changes the sum by just that
pub total-nine : (z : List ℕ) (c n : ℕ) → 10 ≤ n → 10 ≤ length z → total (take n (splice z 9 (c ∷ []))) + get_or z 9 0 ≡ total (take n z) + c
total-nine z c n h k =
    let l : length (take 9 z) ≡ 9 = length-take-le 9 z (omega arith) in
    let r : ℕ = n - 10 in
    let e : n ≡ length (take 9 z) + suc r = omega arith in
    let a : total (take n (splice z 9 (c ∷ []))) ≡ total (take 9 z) + (c + total (take r (drop 10 z))) = total-at
    (take 9 z) c (drop 10 z) r n e in
    let b : total (take n z) ≡ total (take 9 z) + (get_or z 9 0 + total (take r (drop 10 z))) =
    ap (λ (x : List ℕ). total (take n x)) (split_at z 9 0 (omega arith)) ∙ total-at (take 9 z) (get_or z 9 0) (drop 10 z)
    r n e in
    omega arith

-- ---- the closed table

-- the heap lies behind the header, in the table, and the references too
pub record Roomy (t : List ℕ) : Type 0 where
  pub long : 160 ≤ length t
  pub behind : 64 ≤ (heap_in t).at
  pub fits : (heap_in t).at + (heap_in t).len ≤ length t
  pub rooms : (s : Site) → In s (sites t) → s.at + 4 ≤ length t

module _ (t : List ℕ) (ok : Roomy t) where
  H : ℕ
  H = (heap_in t).at

  N : ℕ
  N = (heap_in t).len

  sifted : List ℕ
  sifted = sift (marks t) 0 (part (stored t) H N)

  pub length-stored : length (stored t) ≡ length t
  unfolding stored
  length-stored = length-stores t t (sites t) ok.rooms

  length_part : length (part (stored t) H N) ≡ N
  unfolding H N
  length_part = length-take-le (heap_in t).len (drop (heap_in t).at (stored t)) (simp length-drop (omega (arith, length-stored, ok.fits)))

  length-sifted : length sifted ≡ slid t N
  unfolding sifted slid
  length-sifted =
      let k = length-sift (marks t) 0 (part (stored t) H N) in
      let e : ones (marks t) (0 + length (part (stored t) H N)) ≡ ones (marks t) N = ap (ones (marks t)) (zero-add (length (part (stored t) H N)) ∙ length_part) in
      omega arith

  slid-upto : slid t N ≤ N
  unfolding slid
  slid-upto = ones-upto (marks t) N

  length-heap : length (closed_heap t) ≡ N
  unfolding closed_heap sifted N H
  length-heap =
      length-append sifted (replicate ((heap_in t).len - length sifted) 0) ∙ ap (λ (x : ℕ). length sifted + x) (length-replicate ((heap_in t).len - length sifted) 0)
      ∙ omega (arith, length-sifted, slid-upto)

  -- the two stores before the checksum
  slid_heap : List ℕ
  slid_heap = splice (stored t) H (closed_heap t)

  lengthed : List ℕ
  lengthed = splice slid_heap 40 (le 4 (slid t N))

  fits-heap : H + length (closed_heap t) ≤ length (stored t)
  unfolding H N
  fits-heap = omega (arith, length-heap, length-stored, ok.fits)

  length-slid : length slid_heap ≡ length t
  unfolding slid_heap
  length-slid = length-splice (stored t) H (closed_heap t) fits-heap ∙ length-stored

  length-lengthed : length lengthed ≡ length t
  unfolding lengthed
  length-lengthed = length-splice slid_heap 40 (le 4 (slid t N)) (omega (arith, length-slid, ok.long)) ∙ length-slid

  zeroed : List ℕ
  zeroed = splice lengthed 9 (0 ∷ [])

  length-zeroed : length zeroed ≡ length t
  unfolding zeroed
  length-zeroed = length-splice lengthed 9 (0 ∷ []) (omega (arith, length-lengthed, ok.long)) ∙ length-lengthed

  is-closed : closed t ≡ splice zeroed 9 (checksum (take (num t 4 4) zeroed) ∷ [])
  unfolding closed mended zeroed lengthed slid_heap H N
  is-closed = refl

  pub length-closed : length (closed t) ≡ length t
  length-closed = rw is-closed (length-splice zeroed 9 (checksum (take (num t 4 4) zeroed) ∷ []) (omega (arith, length-zeroed, ok.long)) ∙ length-zeroed)

  -- but for byte 9
  not-nine : (i : ℕ) → (i < 9) ⊎ (10 ≤ i) → get_or (closed t) i 0 ≡ get_or lengthed i 0
  unfolding zeroed
  not-nine i (inl h) =
      rw is-closed
      (get_d-splice-below zeroed 9 (checksum (take (num t 4 4) zeroed) ∷ []) (omega (arith, length-zeroed, ok.long)) i h
      ∙ get_d-splice-below lengthed 9 (0 ∷ []) (omega (arith, length-lengthed, ok.long)) i h)
  not-nine i (inr h) =
      rw is-closed
      (get_d-splice-above zeroed 9 (checksum (take (num t 4 4) zeroed) ∷ []) (omega (arith, length-zeroed, ok.long)) i h
      ∙ get_d-splice-above lengthed 9 (0 ∷ []) (omega (arith, length-lengthed, ok.long)) i h)

  not-forty : (i : ℕ) → (i < 40) ⊎ (44 ≤ i) → get_or lengthed i 0 ≡ get_or slid_heap i 0
  unfolding lengthed
  not-forty i (inl h) = get_d-splice-below slid_heap 40 (le 4 (slid t N)) (omega (arith, length-slid, ok.long)) i h
  not-forty i (inr h) = get_d-splice-above slid_heap 40 (le 4 (slid t N)) (omega (arith, length-slid, ok.long)) i h

  not_heap : (i : ℕ) → (i < (heap_in t).at) ⊎ ((heap_in t).at + (heap_in t).len ≤ i) → get_or slid_heap i 0 ≡ get_or (stored t) i 0
  unfolding slid_heap H N
  not_heap i (inl h) = get_d-splice-below (stored t) H (closed_heap t) fits-heap i h
  not_heap i (inr h) = get_d-splice-above (stored t) H (closed_heap t) fits-heap i (omega (arith, length-heap))

  -- a byte outside the heap, of neither checksum nor heap length, is as it was stored
  pub closed-outside : (i : ℕ) → (i < 9) ⊎ (10 ≤ i) → (i < 40) ⊎ (44 ≤ i) → (i < (heap_in t).at) ⊎ ((heap_in t).at + (heap_in t).len ≤ i) → get_or (closed t) i 0 ≡ get_or (stored t) i 0
  closed-outside i a b c = not-nine i a ∙ not-forty i b ∙ not_heap i c

  -- a marked byte of the heap stands where it slides to
  pub closed-inside : (m : ℕ) → m < (heap_in t).len → T (marks t m) → get_or (closed t) ((heap_in t).at + slid t m) 0 ≡ get_or (stored t) ((heap_in t).at + m) 0
  unfolding slid_heap closed_heap sifted H N slid
  closed-inside m h k =
      let x : List ℕ = part (stored t) H N in
      let g = ok.behind in
      let e : ones (marks t) (m + 1) ≡ ones (marks t) m + 1 =
      ones-stretch (marks t) m 1 (λ j l. let z : j ≡ 0 = omega arith in rw (z, add-zero m) k) in
      let d : ones (marks t) (m + 1) ≤ ones (marks t) (m + 1 + (N - (m + 1))) = ones-more (marks t) (m + 1) (N - (m + 1)) in
      let c : m + 1 + (N - (m + 1)) ≡ N = omega arith in
      let d' : ones (marks t) (m + 1) ≤ ones (marks t) N = rw c at d in
      let ls : length (sift (marks t) 0 x) ≡ ones (marks t) N = length-sifted in
      let lt : ones (marks t) m < length (sift (marks t) 0 x) = omega arith in
      not-nine (H + ones (marks t) m) (inr (omega arith))
      ∙ not-forty (H + ones (marks t) m) (inr (omega arith))
      ∙ holds-get_d slid_heap H (closed_heap t) (splice-here (stored t) H (closed_heap t) fits-heap) (ones (marks t) m) (omega (arith, length-heap, slid-upto))
      ∙ get_or-append (sift (marks t) 0 x) (replicate (N - length (sift (marks t) 0 x)) 0) 0 (ones (marks t) m) lt
      ∙ sift-at (marks t) 0 x m (ones (marks t) m) (omega (arith, length_part)) (rw (zero-add m) k) (rw (zero-add m) (omega arith))
      ∙ get_or-take N (drop H (stored t)) m 0 h
      ∙ get_or-drop H (stored t) m 0

  pub closed-length : Holds (closed t) 40 (le 4 (slid t (heap_in t).len))
  closed-length =
      holds-bytes (closed t) 40 (le 4 (slid t (heap_in t).len)) (omega (arith, length-closed, ok.long))
      (λ j h. not-nine (40 + j) (inr (omega arith)) ∙ unfold lengthed N in (holds-get_d lengthed 40 (le 4 (slid t N))
      (splice-here slid_heap 40 (le 4 (slid t N)) (omega (arith, length-slid, ok.long))) j h))

  zeroed-nine : get_or zeroed 9 0 ≡ 0
  unfolding zeroed
  zeroed-nine = holds-get_d (splice lengthed 9 (0 ∷ [])) 9 (0 ∷ []) (splice-here lengthed 9 (0 ∷ []) (omega (arith, length-lengthed, ok.long))) 0 (omega arith)

  pub closed-sum : 160 ≤ num t 4 4 → total (take (num t 4 4) (closed t)) % 256 ≡ 0
  closed-sum h =
      let n : ℕ = num t 4 4 in
      let z : get_or zeroed 9 0 ≡ 0 = zeroed-nine in
      let e : total (take n (splice zeroed 9 (checksum (take n zeroed) ∷ []))) + get_or zeroed 9 0 ≡ total (take n zeroed)
      + checksum (take n zeroed) = total-nine zeroed (checksum (take n zeroed)) n (omega arith)
      (omega (arith, length-zeroed, ok.long)) in
      rw is-closed (omega arith)
