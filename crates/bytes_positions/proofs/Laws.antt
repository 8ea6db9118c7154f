-- Which numbers are among some, and that none is there twice, from the last one on. Assumes nothing.
use mathlib.Core.Path.{◌≡◌, refl, sym, ap, ap₂, ◌∙◌}
use mathlib.Core.Bool.{Bool, true, false, not, ◌&&◌, ◌||◌}
use mathlib.Core.List.{List, [], ◌∷◌, ◌++◌, append_assoc}
use Prim.Native.Nat.{ℕ, ◌<◌}
use native.Mathlib.Omega.{arith}
use lib.ListN.{length, get_or, get_or-replicate, set, replicate}
use lib.Seq.{get_or-set_same, get_or-set_other}
use lib.Dec.{eqb}
use borrow.Author.Tests.{eq-eqb, ne_eqb, eqb-true, eqb-false}
use Rattle.table.specs.Bytes.{every, once}

-- v is among them
abbrev pub among : ℕ → List ℕ → Bool
among v [] = false
among v (x ∷ xs) = eqb x v || among v xs

none-like : (x : ℕ) (xs : List ℕ) → every (λ y. not (eqb x y)) xs ≡ not (among x xs)
none-like x [] = refl
none-like x (y ∷ ys) = ap₂ (λ (a b : Bool). not a && b) (turned (eqb x y) refl) (none-like x ys) ∙ go (eqb y x) (among x ys)
  where
    turned : (c : Bool) → eqb x y ≡ c → eqb x y ≡ eqb y x
    turned true e = e ∙ sym (eq-eqb y x (sym (eqb-true x y e)))
    turned false e = e ∙ sym (ne_eqb y x (λ q. eqb-false x y e (sym q)))

    go : (a b : Bool) → (not a && not b) ≡ not (a || b)
    go true b = refl
    go false b = refl

once-cons : (x : ℕ) (xs : List ℕ) → once (x ∷ xs) ≡ (not (among x xs) && once xs)
once-cons x xs = ap (λ (c : Bool). c && once xs) (none-like x xs)

-- what is there twice is there twice with others before it
once-behind : (a b : List ℕ) → once b ≡ false → once (a ++ b) ≡ false
once-behind [] b e = e
once-behind (x ∷ a) b e = ap (λ (c : Bool). every (λ y. not (eqb x y)) (a ++ b) && c) (once-behind a b e) ∙ go (every (λ y. not (eqb x y)) (a ++ b)) where
  go : (c : Bool) → (c && false) ≡ false
  go true = refl
  go false = refl

-- the last of those that are left is met: it stands before those that were met already
pub met-next : (b left rest behind : List ℕ) (x v : ℕ) → b ≡ left ++ behind → left ≡ rest ++ (x ∷ []) → v ≡ x → b ≡ rest ++ (v ∷ behind)
met-next b left rest behind x v e d q =
    e ∙ ap (λ (l : List ℕ). l ++ behind) d ∙ append_assoc rest (x ∷ []) behind ∙ ap (λ (y : ℕ). rest ++ (y ∷ behind)) (sym q)

-- ---- marks by value

pub record Marks (met : List Bool) (xs : List ℕ) : Type 0 where
  pub marked : (v : ℕ) → v < 256 → get_or met v false ≡ among v xs

pub marks-none : Marks (replicate 256 false) []
marks-none = record { marked = λ v h. get_or-replicate 256 v false false h }

-- one number more: those behind it are marked
module _ (met : List Bool) (x : ℕ) (xs : List ℕ) (s : x < 256) (m : Marks met xs) where
  once-here : (c : Bool) → get_or met x false ≡ c → once (x ∷ xs) ≡ (not c && once xs)
  once-here c q = once-cons x xs ∙ ap (λ (d : Bool). not d && once xs) (sym (m.marked x s) ∙ q)

  pub marked-twice : (b left : List ℕ) → b ≡ left ++ (x ∷ xs) → get_or met x false ≡ true → false ≡ once b
  marked-twice b left e q = sym (ap once e ∙ once-behind left (x ∷ xs) (once-here true q))

  pub marked-first : get_or met x false ≡ false → once xs ≡ true → once (x ∷ xs) ≡ true
  marked-first q o = once-here false q ∙ o

  pub marks-more : length met ≡ 256 → Marks (set met x true) (x ∷ xs)
  marks-more l = record { marked = λ v k. go v k (eqb x v) refl }
    where
      go : (v : ℕ) → v < 256 → (c : Bool) → eqb x v ≡ c → get_or (set met x true) v false ≡ (eqb x v || among v xs)
      go v k true q = rw q (rw (← eqb-true x v q) (get_or-set_same met x true false (omega arith)))
      go v k false q = rw q (get_or-set_other met x v true false (λ y. eqb-false x v q (sym y)) ∙ m.marked v k)
