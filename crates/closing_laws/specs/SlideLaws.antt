-- The slide in place: marked bytes are copied down one after the other, and none is copied over before it is read. Assumes nothing.
use Rattle.std.specs.Prelude.{◌≡◌, Bool, true, false, take, replicate}
use Rattle.std.proofs.Math.Path.{refl, sym, ap, ap₂}
use Rattle.std.proofs.Common.{◌∙◌, zero-add, length-append, length-drop, drop-cons, length-take-le}
use mathlib.Core.List.{List, [], ◌∷◌, ◌++◌, append_assoc, append-nil}
use Prim.Native.Nat.{ℕ, zero, suc, ◌+◌, ◌-◌, ◌≤◌, ◌<◌}
use native.Mathlib.Omega.{arith}
use Rattle.std.proofs.Math.ListN.{length, get_or, drop, set}
use Rattle.std.proofs.lemmas.List.{length-replicate}
use Rattle.std.proofs.Math.Seq.{get_or-append-add, get_or-drop, drop-length, set_at, take-append_seam, take-length}
use Rattle.table.specs.Bytes.{padded, pick, splice}
use Rattle.table.specs.Closing.{one, ones, sift}
use Rattle.closing_laws.specs.SlidLaws.{length-sift, ones-upto}

-- after n bytes: what is kept of those, then the bytes from there on as they were
unfoldable pub slid_to : (ℕ → Bool) → ℕ → List ℕ → List ℕ
slid_to f n xs = sift f 0 (take n xs) ++ drop (ones f n) xs

-- the kept ones of one byte more
sift-more : (f : ℕ → Bool) (a n : ℕ) (xs : List ℕ) → n < length xs → sift f a (take (suc n) xs) ≡ sift f a (take n xs) ++ pick (f (a + n)) (get_or xs n 0 ∷ []) []
sift-more f a n [] h = absurd (omega arith)
sift-more f a zero (x ∷ xs) h =
    let e : a ≡ a + 0 = omega arith in
    ap (λ (k : ℕ). pick (f k) (x ∷ []) []) e
sift-more f a (suc n) (x ∷ xs) h =
    let e : suc a + n ≡ a + suc n = omega arith in
    go (f a) (sift-more f (suc a) n xs (omega arith) ∙ ap (λ (k : ℕ). sift f (suc a) (take n xs) ++ pick (f k) (get_or xs n 0 ∷ []) []) e)
  where
    go : (c : Bool) → sift f (suc a) (take (suc n) xs) ≡ sift f (suc a) (take n xs) ++ pick (f (a + suc n)) (get_or xs n 0 ∷ []) []
        → pick c (x ∷ sift f (suc a) (take (suc n) xs)) (sift f (suc a) (take (suc n) xs))
        ≡ pick c (x ∷ sift f (suc a) (take n xs)) (sift f (suc a) (take n xs)) ++ pick (f (a + suc n)) (get_or xs n 0 ∷ []) []
    go true k = ap (λ (ys : List ℕ). x ∷ ys) k
    go false k = k

module _ (f : ℕ → Bool) (xs : List ℕ) where
  pub slid-start : slid_to f 0 xs ≡ xs
  unfolding slid_to
  slid-start = refl

  kept-length : (n : ℕ) → n ≤ length xs → length (sift f 0 (take n xs)) ≡ ones f n
  kept-length n h =
      let l : length (take n xs) ≡ n = length-take-le n xs h in
      let e : 0 + length (take n xs) ≡ n = omega arith in
      omega (arith, length-sift f 0 (take n xs), ap (ones f) e)

  -- the byte that is read next is as it was
  pub slid-read : (n : ℕ) → n < length xs → get_or (slid_to f n xs) n 0 ≡ get_or xs n 0
  unfolding slid_to
  slid-read n h =
      let k : length (sift f 0 (take n xs)) ≡ ones f n = kept-length n (omega arith) in
      let u : ones f n ≤ n = ones-upto f n in
      let e : n ≡ length (sift f 0 (take n xs)) + (n - ones f n) = omega arith in
      let d : ones f n + (n - ones f n) ≡ n = omega arith in
      ap (λ (j : ℕ). get_or (sift f 0 (take n xs) ++ drop (ones f n) xs) j 0) e
      ∙ get_or-append-add (sift f 0 (take n xs)) (drop (ones f n) xs) (n - ones f n) 0
      ∙ get_or-drop (ones f n) xs (n - ones f n) 0
      ∙ ap (λ (j : ℕ). get_or xs j 0) d

  -- a byte that is not marked is passed over
  pub slid-pass : (n : ℕ) → n < length xs → f n ≡ false → slid_to f (suc n) xs ≡ slid_to f n xs
  unfolding slid_to
  slid-pass n h e =
      let k : List ℕ = sift f 0 (take n xs) in
      let s : sift f 0 (take (suc n) xs) ≡ k ++ [] = sift-more f 0 n xs h ∙ ap (λ (c : Bool). k ++ pick c (get_or xs n 0 ∷ []) []) (ap f (zero-add n) ∙ e) in
      let o : ones f n + one (f n) ≡ ones f n = omega (arith, ap one e) in
      ap₂ (λ (y : List ℕ) (j : ℕ). y ++ drop j xs) (s ∙ append-nil k) o

  -- a marked one is stored behind those that were
  pub slid-store : (n : ℕ) → n < length xs → f n ≡ true → slid_to f (suc n) xs ≡ set (slid_to f n xs) (ones f n) (get_or xs n 0)
  unfolding slid_to
  slid-store n h e =
      let k : List ℕ = sift f 0 (take n xs) in
      let v : ℕ = get_or xs n 0 in
      let l : length k ≡ ones f n = kept-length n (omega arith) in
      let u : ones f n ≤ n = ones-upto f n in
      let s : sift f 0 (take (suc n) xs) ≡ k ++ (v ∷ []) = sift-more f 0 n xs h ∙ ap (λ (c : Bool). k ++ pick c (v ∷ []) []) (ap f (zero-add n) ∙ e) in
      let o : ones f n + one (f n) ≡ suc (ones f n) = omega (arith, ap one e) in
      ap₂ (λ (y : List ℕ) (j : ℕ). y ++ drop j xs) s o
      ∙ append_assoc k (v ∷ []) (drop (suc (ones f n)) xs)
      ∙ sym (ap (λ (y : List ℕ). set (k ++ y) (ones f n) v) (drop-cons xs (ones f n) 0 (omega arith)) ∙ set_at k (get_or xs (ones f n) 0) (drop (suc (ones f n)) xs) v (ones f n) l)

  -- at the end the marked ones stand first
  pub slid-end : slid_to f (length xs) xs ≡ sift f 0 xs ++ drop (ones f (length xs)) xs
  unfolding slid_to
  slid-end = ap (λ (y : List ℕ). sift f 0 y ++ drop (ones f (length xs)) xs) (take-length xs)

  -- with zeros behind them it is the closed heap
  pub slid-zeroed : splice (slid_to f (length xs) xs) (ones f (length xs)) (replicate (length xs - ones f (length xs)) 0) ≡ padded (length xs) (sift f 0 xs)
  slid-zeroed =
      let n : ℕ = length xs in
      let k : ℕ = ones f n in
      let s : List ℕ = sift f 0 xs in
      let z : List ℕ = replicate (n - k) 0 in
      let y : List ℕ = s ++ drop k xs in
      let l : length s ≡ k = ap (λ (w : List ℕ). length (sift f 0 w)) (sym (take-length xs)) ∙ kept-length n (omega arith) in
      let u : k ≤ n = ones-upto f n in
      let lz : length z ≡ n - k = length-replicate (n - k) 0 in
      let ly : length y ≡ n = length-append s (drop k xs) ∙ simp length-drop (omega arith) in
      let front : take k y ≡ s = ap (λ (m : ℕ). take m y) (sym l) ∙ take-append_seam s (drop k xs) in
      let e : k + length z ≡ length y = omega arith in
      let back : drop (k + length z) y ≡ [] = ap (λ (m : ℕ). drop m y) e ∙ drop-length y in
      ap (λ (w : List ℕ). splice w k z) slid-end
      ∙ ap₂ (λ (v w : List ℕ). v ++ (z ++ w)) front back
      ∙ ap (λ (w : List ℕ). s ++ w) (append-nil z)
      ∙ ap (λ (m : ℕ). s ++ replicate (n - m) 0) (sym l)
