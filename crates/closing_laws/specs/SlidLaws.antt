-- Counting marks, and the bytes that are marked: inside a marked stretch a place slides as its first byte does. Assumes nothing.
use Rattle.std.specs.Prelude.{◌≡◌, refl, Bool, true, false, not, ◌&&◌, List, [], ◌∷◌, ℕ, zero, suc, ◌+◌, ◌≤◌, ◌<◌, length, get_or, T, eqb}
use Rattle.std.proofs.Common.{ap, ap₂, add-zero, add-suc, suc-add, arith}
use Rattle.table.specs.Bytes.{pick}
use Rattle.table.specs.Closing.{moved_of, one, ones, sift}

one-yes : (c : Bool) → T c → one c ≡ 1
one-yes true t = refl
one-yes false t = absurd t

one-upto : (c : Bool) → one c ≤ 1
one-upto true = omega arith
one-upto false = omega arith

module _ (f : ℕ → Bool) where
  -- inside a marked stretch
  pub ones-stretch : (o i : ℕ) → ((j : ℕ) → j < i → T (f (o + j))) → ones f (o + i) ≡ ones f o + i
  ones-stretch o zero h = rw (add-zero o) (omega arith)
  ones-stretch o (suc i) h =
      let e : ones f (o + i) ≡ ones f o + i = ones-stretch o i (λ j k. h j (omega arith)) in
      let u : one (f (o + i)) ≡ 1 = one-yes (f (o + i)) (h i (omega arith)) in
      rw (add-suc o i) (omega arith)

  pub ones-upto : (n : ℕ) → ones f n ≤ n
  ones-upto zero = omega arith
  ones-upto (suc n) = omega (arith, ones-upto n, one-upto (f n))

  pub ones-more : (n k : ℕ) → ones f n ≤ ones f (n + k)
  ones-more n zero = rw (add-zero n) (omega arith)
  ones-more n (suc k) = rw (add-suc n k) (omega (arith, ones-more n k))

  -- what is not marked at all is not counted
  pub ones-same : (n k : ℕ) → ((j : ℕ) → j < k → f (n + j) ≡ false) → ones f (n + k) ≡ ones f n
  ones-same n zero h = rw (add-zero n) refl
  ones-same n (suc k) h =
      let e : ones f (n + k) ≡ ones f n = ones-same n k (λ j l. h j (omega arith)) in
      let u : one (f (n + k)) ≡ 0 = rw (h k (omega arith)) refl in
      rw (add-suc n k) (omega arith)

  -- ---- the bytes that are marked

  pub length-sift : (n : ℕ) (xs : List ℕ) → ones f n + length (sift f n xs) ≡ ones f (n + length xs)
  length-sift n [] = rw (add-zero n) (omega arith)
  length-sift n (x ∷ xs) = go (f n) refl (rw (suc-add n (length xs)) at (length-sift (suc n) xs))
    where
      go : (c : Bool) → f n ≡ c → ones f n + one (f n) + length (sift f (suc n) xs) ≡ ones f (suc (n + length xs))
          → ones f n + length (pick c (x ∷ sift f (suc n) xs) (sift f (suc n) xs)) ≡ ones f (n + suc (length xs))
      go true e k = let u : one (f n) ≡ 1 = rw e refl in rw (add-suc n (length xs)) (omega arith)
      go false e k = let u : one (f n) ≡ 0 = rw e refl in rw (add-suc n (length xs)) (omega arith)

  -- a marked byte stands where it slides to
  pub sift-at : (n : ℕ) (xs : List ℕ) (j k : ℕ) → j < length xs → T (f (n + j)) → ones f (n + j) ≡ ones f n + k → get_or (sift f n xs) k 0 ≡ get_or xs j 0
  sift-at n [] j k h t e = absurd (omega arith)
  sift-at n (x ∷ xs) zero k h t e =
      let z : k ≡ 0 = omega (arith, rw (add-zero n) at e) in
      rw z (go (f n) (rw (add-zero n) at t))
    where
      go : (c : Bool) → T c → get_or (pick c (x ∷ sift f (suc n) xs) (sift f (suc n) xs)) 0 0 ≡ x
      go true u = refl
      go false u = absurd u
  sift-at n (x ∷ xs) (suc j) k h t e =
      let e' : ones f (suc (n + j)) ≡ ones f n + k = rw (add-suc n j) at e in
      let t' : T (f (suc (n + j))) = rw (add-suc n j) at t in
      let m : ones f n + one (f n) ≤ ones f (suc (n + j)) = rw (suc-add n j) at (ones-more (suc n) j) in
      go (f n) refl k e' m (λ i q. sift-at (suc n) xs j i (omega arith) (rw (suc-add n j) t') (rw (suc-add n j) q))
    where
      go : (c : Bool) → f n ≡ c → (k : ℕ) → ones f (suc (n + j)) ≡ ones f n + k → ones f n + one (f n) ≤ ones f (suc (n + j))
          → ((i : ℕ) → ones f (suc (n + j)) ≡ ones f n + one (f n) + i → get_or (sift f (suc n) xs) i 0 ≡ get_or xs j 0)
          → get_or (pick c (x ∷ sift f (suc n) xs) (sift f (suc n) xs)) k 0 ≡ get_or xs j 0
      go true e zero q m r = let u : one (f n) ≡ 1 = rw e refl in absurd (omega arith)
      go true e (suc k) q m r = let u : one (f n) ≡ 1 = rw e refl in r k (omega arith)
      go false e k q m r = let u : one (f n) ≡ 0 = rw e refl in r k (omega arith)

-- ---- the same marks below n

module _ (f g : ℕ → Bool) where
  pub ones-alike : (n : ℕ) → ((k : ℕ) → k < n → f k ≡ g k) → ones f n ≡ ones g n
  ones-alike zero h = refl
  ones-alike (suc n) h = ap₂ ◌+◌ (ones-alike n (λ k l. h k (omega arith))) (ap one (h n (omega arith)))

  pub moved-alike : (n : ℕ) → ((k : ℕ) → k < n → f k ≡ g k) → moved_of f n ≡ moved_of g n
  moved-alike zero h = refl
  moved-alike (suc n) h =
      let e : ones f n ≡ ones g n = ones-alike n (λ k l. h k (omega arith)) in
      ap₂ ◌+◌ (moved-alike n (λ k l. h k (omega arith))) (ap₂ (λ (c : Bool) (m : ℕ). one (c && not (eqb m n))) (h n (omega arith)) e)

  pub sift-alike : (a : ℕ) (xs : List ℕ) → ((k : ℕ) → a ≤ k → k < a + length xs → f k ≡ g k) → sift f a xs ≡ sift g a xs
  sift-alike a [] h = refl
  sift-alike a (x ∷ xs) h =
      ap₂ (λ (c : Bool) (ys : List ℕ). pick c (x ∷ ys) ys) (h a (omega arith) (omega arith)) (sift-alike (suc a) xs (λ k l m. h k (omega arith) (omega arith)))
