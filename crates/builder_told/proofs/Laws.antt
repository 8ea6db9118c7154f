-- Told records: which kinds may be told, what the builder sets of them, and the image and the objects that are left. Assumes nothing.
use mathlib.Core.Path.{◌≡◌, refl, sym, ap, ap₂, ◌∙◌, subst}
use mathlib.Core.Bool.{Bool, true, false, not}
use mathlib.Core.List.{List, [], ◌∷◌, ◌++◌, append-nil}
use Prim.Native.Nat.{ℕ, ◌+◌, ◌*◌, ◌/◌, ◌≤◌, ◌<◌}
use native.Mathlib.Omega.{arith}
use lib.ListN.{length, get_or, take, drop, length-append}
use lib.Seq.{take-length, drop-length}
use lib.Dec.{eqb, lit<, lit≤}
use borrow.Author.Tests.{ne_eqb, eqb-true}
use Rattle.table.specs.declared.Need.{Need}
use Rattle.table.specs.declared.Need.TheVariants.{Ignored, Optional, Required}
use Rattle.table.specs.Bytes.{pick, le, splice}
use Rattle.table.specs.Layout.{Layout, Shape, Content, text, base_of}
use Rattle.table.specs.FixedLayouts.{layout_of, host, hfi, ssns, security, discovery, info, extended, hfi_extended}
use Rattle.table.specs.Builder.{told_image, ended}
use Rattle.laws.specs.Fields.{image_in}
use Rattle.laws.specs.TextLaws.{no_zero, bytes_fault, told_fault}
use Rattle.builder_told.specs.Faults.{fault_under}
use Rattle.builder_told.specs.Marks.{Tellable, stamped, marked}

-- one more store
pub further : (t t' u : List ℕ) (a : ℕ) (bs : List ℕ) → u ≡ splice t a bs → t ≡ t' → u ≡ splice t' a bs
further t t' u a bs e f = e ∙ ap (λ (x : List ℕ). splice x a bs) f

-- the extended infos, of SSNS and HFI, begin alike
abbrev Alike : ℕ → Type 0
Alike k = (18 ≤ base_of (layout_of k)) × ((n : ℕ) (x : List ℕ) → stamped (layout_of k).shape n x ≡ splice (splice x 0 (k ∷ 1 ∷ [])) 2 (le 2 n))

alike : (Alike 9) × (Alike 10)
unfolding stamped layout_of extended hfi_extended
alike = ((lit≤ tt, λ n x. refl), (lit≤ tt, λ n x. refl))

-- what is left when all other kinds are gone
pub last-kinds : (k : ℕ) → Tellable k → (k ≡ 2 → ⊥) → (k ≡ 3 → ⊥) → (k ≡ 4 → ⊥) → (k ≡ 5 → ⊥) → (k ≡ 6 → ⊥) → (k ≡ 7 → ⊥) → Alike k
last-kinds k t a b c d e f = go (eqb k 9) refl
  where
    go : (z : Bool) → eqb k 9 ≡ z → Alike k
    go true q = subst Alike (sym (eqb-true k 9 q)) alike.0
    go false q =
        subst Alike (sym (eqb-true k 10 (rw (ne_eqb k 2 a, ne_eqb k 3 b, ne_eqb k 4 c, ne_eqb k 5 d, ne_eqb k 6 e, ne_eqb k 7 f, q) at t))) alike.1

-- ---- objects

-- the fault is that of the bytes by themselves, under the need
pub fault-told : (n : Need) (c : Content) (o : List ℕ) → fault_under n (length o) (bytes_fault c o) ≡ told_fault n c o
fault-told Ignored c o = refl
fault-told Optional c o = refl
fault-told Required c [] = refl
fault-told Required c (x ∷ o) = rw (ne_eqb (length (x ∷ o)) 0 (λ e. omega (arith, e))) refl

pub ended-none : (o : List ℕ) → length o ≡ 0 → ◌≡◌ {A = ℕ} 0 (length (ended text o))
ended-none [] e = refl
ended-none (x ∷ o) e = absurd (omega (arith, e))

pub ended_some : (o : List ℕ) → (length o ≡ 0 → ⊥) → length o + 1 ≡ length (ended text o)
ended_some [] e = absurd (e refl)
ended_some (x ∷ o) e = sym (length-append (x ∷ o) (0 ∷ []))

pub zero-fault : (bs : List ℕ) (c : Bool) → c ≡ not (no_zero bs) → ◌≡◌ {A = ℕ} (pick c 18 0) (pick (no_zero bs) 0 18)
zero-fault bs c e = ap (λ (d : Bool). pick {X = ℕ} d 18 0) e ∙ go (no_zero bs)
  where
    go : (d : Bool) → ◌≡◌ {A = ℕ} (pick (not d) 18 0) (pick d 0 18)
    go true = refl
    go false = refl

-- ---- any kind that is told

pub by_kind : (P : ℕ → Type 0) → P 2 → P 3 → P 4 → P 5 → P 6 → P 7 → P 9 → P 10 → (k : ℕ) → Tellable k → P k
by_kind P a b c d e f g h k t = two (eqb k 2) refl
  where
    at : (n : ℕ) → eqb k n ≡ true → P n → P k
    at n q x = subst P (sym (eqb-true k n q)) x

    nine : (z : Bool) → eqb k 9 ≡ z → eqb k 2 ≡ false → eqb k 3 ≡ false → eqb k 4 ≡ false → eqb k 5 ≡ false → eqb k 6 ≡ false → eqb k 7 ≡ false → P k
    nine true q q₂ q₃ q₄ q₅ q₆ q₇ = at 9 q g
    nine false q q₂ q₃ q₄ q₅ q₆ q₇ = at 10 (rw (q₂, q₃, q₄, q₅, q₆, q₇, q) at t) h

    seven : (z : Bool) → eqb k 7 ≡ z → eqb k 2 ≡ false → eqb k 3 ≡ false → eqb k 4 ≡ false → eqb k 5 ≡ false → eqb k 6 ≡ false → P k
    seven true q q₂ q₃ q₄ q₅ q₆ = at 7 q f
    seven false q q₂ q₃ q₄ q₅ q₆ = nine (eqb k 9) refl q₂ q₃ q₄ q₅ q₆ q

    six : (z : Bool) → eqb k 6 ≡ z → eqb k 2 ≡ false → eqb k 3 ≡ false → eqb k 4 ≡ false → eqb k 5 ≡ false → P k
    six true q q₂ q₃ q₄ q₅ = at 6 q e
    six false q q₂ q₃ q₄ q₅ = seven (eqb k 7) refl q₂ q₃ q₄ q₅ q

    five : (z : Bool) → eqb k 5 ≡ z → eqb k 2 ≡ false → eqb k 3 ≡ false → eqb k 4 ≡ false → P k
    five true q q₂ q₃ q₄ = at 5 q d
    five false q q₂ q₃ q₄ = six (eqb k 6) refl q₂ q₃ q₄ q

    four : (z : Bool) → eqb k 4 ≡ z → eqb k 2 ≡ false → eqb k 3 ≡ false → P k
    four true q q₂ q₃ = at 4 q c
    four false q q₂ q₃ = five (eqb k 5) refl q₂ q₃ q

    three : (z : Bool) → eqb k 3 ≡ z → eqb k 2 ≡ false → P k
    three true q q₂ = at 3 q b
    three false q q₂ = four (eqb k 4) refl q₂ q

    two : (z : Bool) → eqb k 2 ≡ z → P k
    two true q = at 2 q a
    two false q = three (eqb k 3) refl q

pub flags-inside : (k : ℕ) → Tellable k → (layout_of k).shape.flags.at < base_of (layout_of k)
unfolding layout_of host hfi ssns security discovery info extended hfi_extended
flags-inside k t = by_kind (λ n. (layout_of n).shape.flags.at < base_of (layout_of n)) (lit< tt) (lit< tt) (lit< tt) (lit< tt) (lit< tt) (lit< tt) (lit< tt) (lit< tt) k t

pub valid-of : (u y y' : List ℕ) (f f' : ℕ) → u ≡ splice y f ((get_or y f 0 / 2 * 2 + 1) ∷ []) → y ≡ y' → f ≡ f' → u ≡ splice y' f' ((get_or y' f' 0 / 2 * 2 + 1) ∷ [])
valid-of u y y' f f' e p q = e ∙ ap₂ (λ (x : List ℕ) (n : ℕ). splice x n ((get_or x n 0 / 2 * 2 + 1) ∷ [])) p q

-- ---- records by value

-- an array that was lent as a whole
pub lent-whole : (s : Shape) (n m : ℕ) (x y : List ℕ) → length x ≡ m → y ≡ marked s n (take m x) → length y ≡ length (take m x)
    → (y ++ drop m x ≡ marked s n x) × (length x ≡ m) × (length (y ++ drop m x) ≡ m)
lent-whole s n m x y l e k =
    let t : take m x ≡ x = ap (λ (i : ℕ). take i x) (sym l) ∙ take-length x in
    let d : drop m x ≡ [] = ap (λ (i : ℕ). drop i x) (sym l) ∙ drop-length x in
    (ap (λ (r : List ℕ). y ++ r) d ∙ append-nil y ∙ e ∙ ap (marked s n) t, l, ap (λ (r : List ℕ). length (y ++ r)) d ∙ ap length (append-nil y) ∙ k ∙ ap length t ∙ l)

-- the image of a told record
told-image : (l : Layout) (n : ℕ) (x : List ℕ) → image_in l (marked l.shape n x) 0 ≡ told_image l.shape n x
unfolding image_in told_image marked stamped
told-image l n x = refl

pub image-is : (l : Layout) (n : ℕ) (x b : List ℕ) → b ≡ marked l.shape n x → image_in l b 0 ≡ told_image l.shape n x
image-is l n x b e = ap (λ (y : List ℕ). image_in l y 0) e ∙ told-image l n x
