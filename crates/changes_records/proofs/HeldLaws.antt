-- A record's lines level by level: its own, and those of the heap record behind it. Assumes nothing.
use mathlib.Core.Path.{◌≡◌, refl, sym, ap, ◌∙◌}
use mathlib.Core.Bool.{Bool, true, false, ◌&&◌}
use mathlib.Core.List.{List, [], ◌∷◌, ◌++◌, append_assoc, append-nil}
use Prim.Native.Nat.{ℕ, suc, ◌≤◌}
use native.Mathlib.Omega.{arith}
use lib.Dec.{eqb}
use borrow.Author.Tests.{ne_eqb}
use Rattle.table.specs.Bytes.{pick}
use Rattle.reads_seats.specs.Told.{depth, image_of, inner_kind}
use Rattle.changes.specs.Changes.{Line, only_on, texts_of}
use Rattle.changes_records.specs.Told.{both_there, held_lines, level_lines, own_lines, whole_lines}
use Rattle.changes_records.proofs.TextLaws.{texts-both}

module _ (t u : List ℕ) where
  held-level : (d k n : ℕ) → held_lines t u (suc d) k n ≡ level_lines t u (inner_kind k) n ++ pick (both_there t u (inner_kind k) n) (held_lines t u d (inner_kind k) n) []
  unfolding held_lines level_lines
  held-level d k n = go (eqb (image_of t (inner_kind k) n).answer.number 0) (eqb (image_of u (inner_kind k) n).answer.number 0)
    where
      go : (a b : Bool)
          → pick a (pick b (own_lines t u (inner_kind k) n ++ held_lines t u d (inner_kind k) n) (only_on (inner_kind k) n 1 ∷ [])) (pick b (only_on (inner_kind k) n 2 ∷ []) [])
          ≡ pick a (pick b (own_lines t u (inner_kind k) n) (only_on (inner_kind k) n 1 ∷ [])) (pick b (only_on (inner_kind k) n 2 ∷ []) [])
          ++ pick (a && b) (held_lines t u d (inner_kind k) n) []
      go true true = refl
      go true false = refl
      go false true = refl
      go false false = refl

  -- nothing is held below the last level
  pub held-once : (k n : ℕ) → held_lines t u 1 k n ≡ level_lines t u (inner_kind k) n
  unfolding held_lines
  held-once k n =
      held-level 0 k n
      ∙ ap (λ (ls : List Line). level_lines t u (inner_kind k) n ++ ls) (go (both_there t u (inner_kind k) n))
      ∙ append-nil (level_lines t u (inner_kind k) n)
    where
      go : (c : Bool) → pick c (held_lines t u 0 (inner_kind k) n) [] ≡ []
      go true = refl
      go false = refl

  pub info-alone : (n : ℕ) → both_there t u 7 n ≡ false → held_lines t u 2 3 n ≡ level_lines t u 7 n
  info-alone n e =
      held-level 1 3 n ∙ ap (λ (c : Bool). level_lines t u 7 n ++ pick c (held_lines t u 1 7 n) []) e ∙ append-nil (level_lines t u 7 n)

  pub info-whole : (n : ℕ) → both_there t u 7 n ≡ true → held_lines t u 2 3 n ≡ level_lines t u 7 n ++ level_lines t u 10 n
  info-whole n e =
      held-level 1 3 n ∙ ap (λ (c : Bool). level_lines t u 7 n ++ pick c (held_lines t u 1 7 n) []) e ∙ ap (λ (ls : List Line). level_lines t u 7 n ++ ls) (held-once 7 n)

  -- a record whole, by its kind
  pub whole-deep : (k d n : ℕ) → depth k ≡ d → whole_lines t u k n ≡ own_lines t u k n ++ held_lines t u d k n
  unfolding whole_lines
  whole-deep k d n e = ap (λ (m : ℕ). own_lines t u k n ++ held_lines t u m k n) e

  pub whole-flat : (k n : ℕ) → k ≤ 6 → (k ≡ 3 → ⊥) → (k ≡ 4 → ⊥) → whole_lines t u k n ≡ own_lines t u k n
  unfolding held_lines
  whole-flat k n l a b =
      let e : depth k ≡ 0 = rw (ne_eqb k 3 a, ne_eqb k 4 b, ne_eqb k 7 (λ z. omega (arith, z, l))) refl in
      whole-deep k 0 n e ∙ append-nil (own_lines t u k n)

-- lines behind lines in a buffer
pub then_lines : (before : List ℕ) (xs ys : List Line) {x y : List ℕ} → x ≡ before ++ texts_of xs → y ≡ x ++ texts_of ys → y ≡ before ++ texts_of (xs ++ ys)
then_lines before xs ys p q =
    q ∙ ap (λ (z : List ℕ). z ++ texts_of ys) p ∙ append_assoc before (texts_of xs) (texts_of ys) ∙ ap (λ (z : List ℕ). before ++ z) (sym (texts-both xs ys))
