-- A row of bytes is written byte by byte: what stands written, and what is to come from byte i on. Assumes nothing.
use mathlib.Core.Path.{◌≡◌, refl, sym, ◌∙◌}
use mathlib.Core.List.{List, ◌++◌, append_assoc, append-nil}
use Prim.Native.Nat.{ℕ, ◌+◌, ◌≤◌, ◌<◌}
use native.Mathlib.Numerals.{add-one}
use lib.ListN.{length, get_or, drop, drop_of_length-le}
use lib.Seq.{drop-cons}
use Rattle.text_hex.specs.Hexadecimal.{row_of}

module _ (f : ℕ → List ℕ) (xs : List ℕ) (i : ℕ) (ts : List ℕ) {all : List ℕ} (e : ts ++ row_of f (drop i xs) ≡ all) where
  -- byte i is written
  pub row_more : i < length xs → {us : List ℕ} → us ≡ ts ++ f (get_or xs i 0) → us ++ row_of f (drop (i + 1) xs) ≡ all
  row_more h u =
      let rest = row_of f (drop (i + 1) xs) in
      let next : ts ++ row_of f (drop i xs) ≡ ts ++ (f (get_or xs i 0) ++ rest) = rw (add-one i, drop-cons xs i 0 h) refl in
      rw u (append_assoc ts (f (get_or xs i 0)) rest ∙ (sym next ∙ e))

  -- none is left
  pub row-end : length xs ≤ i → ts ≡ all
  row-end h = sym (append-nil ts) ∙ rw (drop_of_length-le xs h) at e
