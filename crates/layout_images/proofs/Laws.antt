-- The masks are those of the layouts, and masked bytes are an image's. Assumes nothing.
use mathlib.Core.Path.{◌≡◌, refl, sym, ap, ap₂, subst, ◌∙◌}
use mathlib.Core.Bool.{Bool, true, false, not, ◌&&◌}
use mathlib.Core.List.{List, [], ◌∷◌, ◌++◌}
use Prim.Native.Nat.{ℕ, zero, suc, ◌+◌, ◌-◌, ◌*◌, ◌/◌, ◌%◌, ◌^◌, ◌≤◌, ◌<◌}
use native.Mathlib.Nat.{zero-add}
use native.Mathlib.Numerals.{add-one}
use native.Mathlib.Omega.{arith}
use lib.Bits.{bit_and, and_mask}
use lib.Dec.{T, eqb, eqb→eq}
use lib.Ieee.Bits.{is_true}
use lib.ListN.{length, get_or, take, drop, replicate, set, length-take, length-drop, get_or-append}
use lib.Seq.{take-suc, drop-cons, append_snoc, set_at, length-take-le, take-length, get_or-drop, get_or-take}
use mir.Facts.{and_yes}
use borrow.Author.Tests.{eqb-true}
use Rattle.table.specs.Bytes.{pick, part, splice, padded}
use Rattle.table.specs.Layout.{Keep, low, sel, mod_of, base_of, Layout}
use Rattle.table.specs.FixedLayouts.{layout_of, header, control, host, hfi, ssns, security, discovery, info, extended, hfi_extended, no_kind}
use Rattle.laws.specs.Lawful.{all_keep, ok_keep}
use Rattle.laws.specs.ImageLaws.{all-at, image-at}
use Rattle.laws.specs.Fields.{image_in, image-part}
use Rattle.laws.specs.ListWalk.{by_layout}
use Rattle.layout_images.specs.Masks.{mask_of, masks_of, switch_of, switched, on_in, newer_in, masks_for, over}

-- ---- a law over the kind numbers

at-kind : (P : ℕ → Type 0) (k j : ℕ) → P j → (eqb k j ≡ false → P k) → P k
at-kind P k j p f = go (eqb k j) refl where
  go : (c : Bool) → eqb k j ≡ c → P k
  go true e = subst P (sym (eqb-true k j e)) p
  go false e = f e

-- none of the kinds
pub record Other (k : ℕ) : Type 0 where
  pub not0 : eqb k 0 ≡ false
  pub not1 : eqb k 1 ≡ false
  pub not2 : eqb k 2 ≡ false
  pub not3 : eqb k 3 ≡ false
  pub not4 : eqb k 4 ≡ false
  pub not5 : eqb k 5 ≡ false
  pub not6 : eqb k 6 ≡ false
  pub not7 : eqb k 7 ≡ false
  pub not9 : eqb k 9 ≡ false
  pub not10 : eqb k 10 ≡ false

pub other-layout : (k : ℕ) → Other k → layout_of k ≡ no_kind
unfolding layout_of
other-layout k o = rw (o.not0, o.not1, o.not2, o.not3, o.not4, o.not5, o.not6, o.not7, o.not9, o.not10) refl

pub by_kind : (P : ℕ → Type 0) → P 0 → P 1 → P 2 → P 3 → P 4 → P 5 → P 6 → P 7 → P 9 → P 10 → ((k : ℕ) → Other k → P k) → (k : ℕ) → P k
by_kind P p0 p1 p2 p3 p4 p5 p6 p7 p9 p10 p k =
    at-kind P k 0 p0
    λ n0. at-kind P k 1 p1
    λ n1. at-kind P k 2 p2
    λ n2. at-kind P k 3 p3
    λ n3. at-kind P k 4 p4
    λ n4. at-kind P k 5 p5
    λ n5. at-kind P k 6 p6
    λ n6. at-kind P k 7 p7
    λ n7. at-kind P k 9 p9
    λ n9. at-kind P k 10 p10
    λ n10. p k (record { not0 = n0; not1 = n1; not2 = n2; not3 = n3; not4 = n4; not5 = n5; not6 = n6; not7 = n7; not9 = n9; not10 = n10 })

-- ---- a masked byte is an image's

abbrev exponent : ℕ → ℕ
exponent n =
    pick (eqb n 256) 8 (pick (eqb n 32) 5 (pick (eqb n 16) 4 (pick (eqb n 8) 3 (pick (eqb n 4) 2 (pick (eqb n 2) 1 0)))))

abbrev is_power : ℕ → Bool
is_power n = eqb (2 ^ exponent n) n

-- what counts under a bit counts under one that the code looks at
abbrev maskable : ℕ → Keep → Bool
maskable k (low n) = is_power n
maskable k (sel f d m₀ m₁) = pick (eqb d 2) (eqb k 7 && eqb f 3) (switched k && (eqb f (switch_of k) && eqb d 4)) && (is_power m₀ && is_power m₁)

maskables-none : (k : ℕ) → layout_of k ≡ no_kind → T (all_keep (maskable k) (layout_of k).shape.keep)
unfolding no_kind
maskables-none k e = subst (λ (l : Layout). T (all_keep (maskable k) l.shape.keep)) (sym e) tt

maskables : (k : ℕ) → T (all_keep (maskable k) (layout_of k).shape.keep)
unfolding layout_of header control host hfi ssns security discovery info extended hfi_extended
maskables = by_kind (λ k. T (all_keep (maskable k) (layout_of k).shape.keep)) tt tt tt tt tt tt tt tt tt tt (λ k o. maskables-none k (other-layout k o))

and-power : (b n : ℕ) → T (is_power n) → bit_and b (n - 1) ≡ b % n
and-power b n t = subst (λ (m : ℕ). bit_and b (m - 1) ≡ b % m) (eqb→eq (2 ^ exponent n) n t) (and_mask b (exponent n))

mask_at : (more newer : Bool) (ks : List Keep) (i : ℕ) → get_or (masks_of more newer ks) i 0 ≡ mask_of more newer (get_or ks i (low 1))
mask_at more newer [] i = refl
mask_at more newer (k ∷ ks) zero = refl
mask_at more newer (k ∷ ks) (suc i) = mask_at more newer ks i

-- the bit that the code looks at is the layout's
more-is : (k : ℕ) (x : List ℕ) (f d : ℕ) → T (pick (eqb d 2) (eqb k 7 && eqb f 3) (switched k && (eqb f (switch_of k) && eqb d 4)))
    → pick (eqb d 2) (newer_in k x) (on_in k x) ≡ not (eqb (get_or x f 0 % (2 * d) / d) 0)
unfolding on_in newer_in
more-is k x f d s = go (eqb d 2) refl s
  where
    go : (c : Bool) → eqb d 2 ≡ c → T (pick c (eqb k 7 && eqb f 3) (switched k && (eqb f (switch_of k) && eqb d 4)))
        → pick c (newer_in k x) (on_in k x) ≡ not (eqb (get_or x f 0 % (2 * d) / d) 0)
    go true e t =
        let u = and_yes (eqb k 7) (eqb f 3) t in
        rw (eqb-true d 2 e, eqb→eq f 3 u.1) (ap (λ (c : Bool). pick c (not (eqb (get_or x 3 0 % 4 / 2) 0)) false) (is_true (eqb k 7) u.0))
    go false e t =
        let u = and_yes (switched k) _ t in
        let v = and_yes (eqb f (switch_of k)) (eqb d 4) u.1 in
        rw (eqb→eq f (switch_of k) v.0, eqb→eq d 4 v.1)
        (ap (λ (c : Bool). pick c (not (eqb (get_or x (switch_of k) 0 % 8 / 4) 0)) false) (is_true (switched k) u.0))

masked-by : (k : ℕ) (x : List ℕ) (b : ℕ) (p : Keep) → T (maskable k p) → bit_and b (mask_of (on_in k x) (newer_in k x) p) ≡ b % mod_of p x
masked-by k x b (low n) m = and-power b n m
masked-by k x b (sel f d m₀ m₁) m =
    let u = and_yes (pick (eqb d 2) (eqb k 7 && eqb f 3) (switched k && (eqb f (switch_of k) && eqb d 4))) _ m in
    let y = and_yes (is_power m₀) (is_power m₁) u.1 in
    ap (λ (c : Bool). bit_and b (pick c m₁ m₀ - 1)) (more-is k x f d u.0) ∙ go (eqb (get_or x f 0 % (2 * d) / d) 0) y.0 y.1
  where
    go : (c : Bool) → T (is_power m₀) → T (is_power m₁) → bit_and b (pick (not c) m₁ m₀ - 1) ≡ b % pick c m₀ m₁
    go true y z = and-power b m₀ y
    go false y z = and-power b m₁ z

length-masks : (more newer : Bool) (ks : List Keep) → length (masks_of more newer ks) ≡ length ks
length-masks more newer [] = refl
length-masks more newer (k ∷ ks) = ap suc (length-masks more newer ks)

-- byte i of the image of the record of kind k whose bytes are x
pub masked-byte : (k : ℕ) (x : List ℕ) (i : ℕ) → i < base_of (layout_of k) → bit_and (get_or x i 0) (get_or (masks_for k (on_in k x) (newer_in k x)) i 0) ≡ get_or (image_in (layout_of k) x 0) i 0
unfolding image_in masks_for
masked-byte k x i h =
    let ks = (layout_of k).shape.keep in
    let ms = masks_of (on_in k x) (newer_in k x) ks in
    ap (bit_and (get_or x i 0)) (get_or-append ms (replicate (128 - length ms) 0) 0 i (rw (length-masks (on_in k x) (newer_in k x) ks) h) ∙ mask_at (on_in k x) (newer_in k x) ks i)
    ∙ masked-by k x (get_or x i 0) (get_or ks i (low 1)) (all-at (maskable k) ks (maskables k) i h)
    ∙ sym (image-at ks x i h)

-- ---- a record by its own bytes

keeps-look : (k : ℕ) → T (all_keep (ok_keep (layout_of k).shape.keep) (layout_of k).shape.keep)
unfolding header control host hfi ssns security discovery info extended hfi_extended no_kind
keeps-look = by_layout (λ l. T (all_keep (ok_keep l.shape.keep) l.shape.keep)) tt tt tt tt tt tt tt tt tt tt tt

-- the image of the part of a table that a record is, is the image at its place
pub image-own : (k : ℕ) (t : List ℕ) (a : ℕ) → image_in (layout_of k) (part t a (base_of (layout_of k))) 0 ≡ image_in (layout_of k) t a
unfolding image_in
image-own k t a = let ks = (layout_of k).shape.keep in image-part ks t a (length ks) (keeps-look k) (omega arith)

-- ---- filling an array

-- a store at the seam takes the copy of i elements to the copy of one more
pub over-more : (d s : List ℕ) (i : ℕ) → i < length s → i < length d → set (over d s i) i (get_or s i 0) ≡ over d s (i + 1)
over-more d s i hs hd =
    rw (add-one i, take-suc s i 0 hs, drop-cons d i 0 hd, append_snoc)
    (set_at (take i s) (get_or d i 0) (drop (suc i) d) (get_or s i 0) i (length-take-le i s (omega arith)))

pub drop-zeros : (n m : ℕ) → drop {A = ℕ} n (replicate m 0) ≡ replicate (m - n) 0
drop-zeros zero m = let e : m ≡ m - 0 = omega arith in ap (λ (k : ℕ). replicate k 0) e
drop-zeros (suc n) zero = let e : 0 ≡ 0 - suc n = omega arith in ap (λ (k : ℕ). replicate k 0) e
drop-zeros (suc n) (suc m) = let e : m - n ≡ suc m - suc n = omega arith in drop-zeros n m ∙ ap (λ (k : ℕ). replicate k 0) e

-- the whole copied over zeros is padded
pub over-padded : (m : ℕ) (s : List ℕ) → length s ≤ m → over (replicate m 0) s (length s) ≡ padded m s
over-padded m s h = ap₂ (λ (x y : List ℕ). x ++ y) (take-length s) (drop-zeros (length s) m)

-- stored over zeros, s is padded
pub splice-padded : (m : ℕ) (s : List ℕ) → splice (replicate m 0) 0 s ≡ padded m s
splice-padded m s = ap (λ (n : ℕ). s ++ drop n (replicate m 0)) (zero-add (length s)) ∙ ap (λ (y : List ℕ). s ++ y) (drop-zeros (length s) m)

-- ---- a part

pub part-long : (s : List ℕ) (q n : ℕ) → q + n ≤ length s → length (part s q n) ≡ n
part-long s q n h = simp (length-take, length-drop) (omega arith)

pub part-byte : (s : List ℕ) (q n i : ℕ) → i < n → get_or (part s q n) i 0 ≡ get_or s (q + i) 0
part-byte s q n i h = get_or-take n (drop q s) i 0 h ∙ get_or-drop q s i 0
