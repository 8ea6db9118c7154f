-- What the proofs of the lines share: where two rows differ, the number of a short row, the digits of a number, and columns behind one another. Assumes nothing.
use mathlib.Core.Path.{◌≡◌, refl, ap, ◌∙◌}
use mathlib.Core.Bool.{Bool, true, false, cond}
use mathlib.Core.List.{List, [], ◌∷◌, ◌++◌, append_assoc}
use Prim.Native.Nat.{ℕ, zero, suc, ◌+◌, ◌-◌, ◌*◌, ◌/◌, ◌%◌, ◌^◌, ◌≤◌, ◌<◌}
use native.Mathlib.Nat.{div-lt_iff_lt-mul, pow-suc, zero-lt-suc}
use native.Mathlib.Numerals.{add-one}
use native.Mathlib.Omega.{arith}
use lib.Dec.{eqb}
use lib.ListN.{length, get_or, take, drop, drop_of_length-le, length-append, length-drop, length-take}
use lib.Seq.{drop-cons, take_all}
use borrow.Author.Tests.{eq-eqb, ne_eqb}
use Rattle.table.specs.Bytes.{val}
use Rattle.laws.specs.Sound.{num-bound}
use Rattle.text.specs.Ascii.{ascii}
use Rattle.text.specs.Numerals.{digits_of, numeral}
use Rattle.changes.specs.Changes.{differ_at, spaced}

-- ---- the first byte that differs, of two rows that are the same up to i

none_beside : (xs : List ℕ) → differ_at xs [] ≡ 0
none_beside [] = refl
none_beside (x ∷ xs) = refl

module _ (xs ys : List ℕ) (i : ℕ) where
  pub differ-end : length xs ≤ i → differ_at (drop i xs) (drop i ys) ≡ 0
  differ-end h = rw (drop_of_length-le xs h) refl

  pub differ-other-end : length ys ≤ i → differ_at (drop i xs) (drop i ys) ≡ 0
  differ-other-end h = rw (drop_of_length-le ys h) (none_beside (drop i xs))

  -- both have a byte at i
  module _ (h : i < length xs) (k : i ≤ length ys) (n : i ≡ length ys → ⊥) where
    there : i < length ys
    there = omega arith

    pub differ-here : (get_or xs i 0 ≡ get_or ys i 0 → ⊥) → differ_at (drop i xs) (drop i ys) ≡ 0
    differ-here u = rw (drop-cons xs i 0 h, drop-cons ys i 0 there, ne_eqb (get_or xs i 0) (get_or ys i 0) u) refl

    pub differ-on : get_or xs i 0 ≡ get_or ys i 0 → differ_at (drop i xs) (drop i ys) ≡ suc (differ_at (drop (i + 1) xs) (drop (i + 1) ys))
    differ-on e = rw (add-one i, drop-cons xs i 0 h, drop-cons ys i 0 there, eq-eqb (get_or xs i 0) (get_or ys i 0) e) refl

-- ---- the number of a row of at most four bytes, from its last byte down

module _ (xs : List ℕ) (i : ℕ) where
  pub val-down : i ≤ length xs → (i ≡ 0 → ⊥) → val (drop (i - 1) xs) ≡ get_or xs (i - 1) 0 + 256 * val (drop i xs)
  val-down h n =
      let s : suc (i - 1) ≡ i = omega arith in
      ap val (drop-cons xs (i - 1) 0 (omega arith)) ∙ ap (λ (j : ℕ). get_or xs (i - 1) 0 + 256 * val (drop j xs)) s

  pub val-small : length xs ≤ 4 → ((j : ℕ) → get_or xs j 0 < 256) → val (drop i xs) < 4294967296
  val-small h b = rw (take_all 4 (drop i xs) (simp length-drop (omega arith))) at (num-bound xs b i 4)

-- ---- digits

-- a number below ten to the d has at most d digits
digits-few : (d k n : ℕ) → n < 10 ^ d → length (digits_of k n) ≤ d
unfolding digits_of
digits-few d zero n h = omega arith
digits-few zero (suc k) n h = let z : n ≡ 0 = omega arith in rw (eq-eqb n 0 z) (omega arith)
digits-few (suc d) (suc k) n h = go (eqb n 0) (digits-few d k (n / 10) q)
  where
    q : n / 10 < 10 ^ d
    q = (div-lt_iff_lt-mul (zero-lt-suc 9)).1 (rw pow-suc at h)

    go : (b : Bool) → length (digits_of k (n / 10)) ≤ d → length (cond b [] (digits_of k (n / 10) ++ ((48 + n % 10) ∷ []))) ≤ suc d
    go true l = omega arith
    go false l = simp length-append (omega arith)

pub numeral-short : (n : ℕ) → n < 65536 → length (numeral n) ≤ 5
unfolding numeral
numeral-short n h = simp length-append (omega (arith, digits-few 4 19 (n / 10) (omega arith)))

-- ---- columns behind one another

module _ (k p : List ℕ) where
  pub side-columns : (w s : List ℕ) → spaced k (p ++ ascii " ") ++ w ++ ascii " " ++ (s ++ ascii "\n") ≡ spaced k (spaced p (spaced w (s ++ ascii "\n")))
  side-columns w s = simp append_assoc

  pub object-columns : (o x y a : List ℕ)
      → spaced k (p ++ ascii " ") ++ (o ++ ascii " ") ++ (x ++ ascii " ") ++ (y ++ ascii " ") ++ (a ++ ascii "\n")
      ≡ spaced k (spaced p (spaced o (spaced x (spaced y (a ++ ascii "\n")))))
  object-columns o x y a = simp append_assoc

  pub field-columns : (o x y : List ℕ)
      → spaced k (p ++ ascii " ") ++ (o ++ ascii " ") ++ x ++ ascii " " ++ y ++ ascii "\n"
      ≡ spaced k (spaced p (spaced o (spaced x (y ++ ascii "\n"))))
  field-columns o x y = simp append_assoc
