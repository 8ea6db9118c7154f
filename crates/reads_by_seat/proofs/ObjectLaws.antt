-- The length of an object, and where it stands. Assumes nothing.
use Rattle.std.proofs.Common.{◌≡◌, ℕ, ◌≤◌, Bool, true, false, eqb, List, sym, refl, ap, ◌∙◌, subst, true≢false, zero-add, arith, ne_eqb, eqb-true}
use Rattle.table.specs.declared.Place.{Place}
use Rattle.table.specs.declared.Need.{Need}
use Rattle.table.specs.declared.Need.TheVariants.{Ignored, Optional, Required}
use Rattle.table.specs.Bytes.{pick, part}
use Rattle.table.specs.Layout.{Layout, Refs, none, plain, nest, base_of, image, reference_at}
use Rattle.table.specs.FixedLayouts.{layout_of, header, control, host, hfi, ssns, discovery, info, extended, no_kind}
use Rattle.table.specs.Objects.{under}
use Rattle.table.specs.Rules.{done}
use Rattle.table.specs.Reads.{seat, has_plain, need_at, no_place, ref_place, whole_at}
use Rattle.laws.specs.Fields.{image_in}
use Rattle.layout_images.proofs.Laws.{by_kind, other-layout}
use Rattle.reads_seats.proofs.OwnLaws.{whole_at-own}

-- ---- the length of an object, and where it stands, by its reference in the record's own bytes

module _ (x : List ℕ) (l : Layout) (p : ℕ) (h : has_plain p l.refs ≡ true) where
  abbrev need : Need
  need = need_at p l.refs (image l.shape.keep x)

  abbrev here : Place
  here = whole_at x p (seat l 0 true)

  abbrev named : Bool → Place
  named c = pick c (no_place done) (record { answer = done; present = true; at = (reference_at x p).at; len = (reference_at x p).len })

  pub place-len : here.len ≡ under need 0 (reference_at x p).len
  place-len = rw (h, zero-add p) (go need) where
    there : (c : Bool) → eqb (reference_at x p).len 0 ≡ c → (named c).len ≡ (reference_at x p).len
    there true e = sym (eqb-true (reference_at x p).len 0 e)
    there false e = refl

    go : (m : Need) → (under m (no_place done) (ref_place x p)).len ≡ under m 0 (reference_at x p).len
    go Ignored = refl
    go Optional = there (eqb (reference_at x p).len 0) refl
    go Required = there (eqb (reference_at x p).len 0) refl

  pub place-start : (here.len ≡ 0 → ⊥) → here.at ≡ (reference_at x p).at
  place-start = rw (h, zero-add p) (go need) where
    there : (c : Bool) → ((named c).len ≡ 0 → ⊥) → (named c).at ≡ (reference_at x p).at
    there true z = absurd (z refl)
    there false z = refl

    go : (m : Need) → ((under m (no_place done) (ref_place x p)).len ≡ 0 → ⊥) → (under m (no_place done) (ref_place x p)).at ≡ (reference_at x p).at
    go Ignored z = absurd (z refl)
    go Optional z = there (eqb (reference_at x p).len 0) z
    go Required z = there (eqb (reference_at x p).len 0) z

-- where an object of the used record of kind k at a starts
pub own-start : (t : List ℕ) (k a p : ℕ) → has_plain p (layout_of k).refs ≡ true → ((whole_at t p (seat (layout_of k) a true)).len ≡ 0 → ⊥)
    → (reference_at (part t a (base_of (layout_of k))) p).at ≡ (whole_at t p (seat (layout_of k) a true)).at
own-start t k a p h z =
    let e = whole_at-own k t a p true in
    sym (place-start (part t a (base_of (layout_of k))) (layout_of k) p h (λ y. z (sym (ap (λ (q : Place). q.len) e) ∙ y))) ∙ ap (λ (q : Place). q.at) e

-- references to objects that are never ignored
abbrev Heeded : Refs → Type 0
Heeded none = 0 ≤ 0
Heeded (plain p need content rest) = ((img : List ℕ) (x y : ℕ) → under (need img) x y ≡ y) × Heeded rest
Heeded (nest p need shape own rest) = (has_plain p rest ≡ false) × Heeded rest

heeded-counts : (rs : Refs) → Heeded rs → (q : ℕ) (img : List ℕ) (x y : ℕ) → has_plain q rs ≡ true → under (need_at q rs img) x y ≡ y
heeded-counts none g q img x y h = absurd (true≢false (sym h))
heeded-counts (plain p need content rest) g q img x y h = go (eqb q p) h (heeded-counts rest g.1 q img x y) where
  go : (c : Bool) → pick c true (has_plain q rest) ≡ true → (has_plain q rest ≡ true → under (need_at q rest img) x y ≡ y) → under (pick c (need img) (need_at q rest img)) x y ≡ y
  go true e f = g.0 img x y
  go false e f = f e
heeded-counts (nest p need shape own rest) g q img x y h = go (eqb q p) refl (heeded-counts rest g.1 q img x y h) where
  go : (c : Bool) → eqb q p ≡ c → under (need_at q rest img) x y ≡ y → under (pick c (need img) (need_at q rest img)) x y ≡ y
  go true e f = absurd (true≢false (sym h ∙ ap (λ (i : ℕ). has_plain i rest) (eqb-true q p e) ∙ g.0))
  go false e f = f

kinds-heeded : (k : ℕ) → eqb k 5 ≡ false → eqb k 10 ≡ false → Heeded (layout_of k).refs
unfolding layout_of header control host hfi ssns discovery info extended
kinds-heeded =
    by_kind (λ k. eqb k 5 ≡ false → eqb k 10 ≡ false → Heeded (layout_of k).refs)
    (λ n m. ((λ img x y. refl), omega arith))
    (λ n m. omega arith)
    (λ n m. ((λ img x y. refl), omega arith))
    (λ n m. (refl, omega arith))
    (λ n m. ((λ img x y. refl), ((λ img x y. refl), ((λ img x y. refl), ((λ img x y. refl), (refl, omega arith))))))
    (λ n m. absurd (true≢false n))
    (λ n m. ((λ img x y. refl), ((λ img x y. refl), omega arith)))
    (λ n m. ((λ img x y. refl), (refl, omega arith)))
    (λ n m. ((λ img x y. refl), omega arith))
    (λ n m. absurd (true≢false m))
    (λ k o n m. subst (λ (l : Layout). Heeded l.refs) (sym (other-layout k o)) (unfold no_kind in omega arith))

-- so it counts
pub never-ignored : (k q : ℕ) (img : List ℕ) → (k ≡ 5 → ⊥) → (k ≡ 10 → ⊥) → has_plain q (layout_of k).refs ≡ true → true ≡ under (need_at q (layout_of k).refs img) false true
never-ignored k q img n m h = go (need_at q (layout_of k).refs img) (heeded-counts (layout_of k).refs (kinds-heeded k (ne_eqb k 5 n) (ne_eqb k 10 m)) q img 0 1 h)
  where
    go : (c : Need) → ◌≡◌ {A = ℕ} (under c 0 1) 1 → true ≡ under c false true
    go Ignored e = absurd (omega (arith, e))
    go Optional e = refl
    go Required e = refl

-- c says whether the reference at p counts
pub counted-len : (x : List ℕ) (k p : ℕ) → has_plain p (layout_of k).refs ≡ true → (c : Bool) → c ≡ under (need_at p (layout_of k).refs (image_in (layout_of k) x 0)) false true
    → (whole_at x p (seat (layout_of k) 0 true)).len ≡ pick c (reference_at x p).len 0
unfolding image_in
counted-len x k p h c f =
    place-len x (layout_of k) p h
    ∙ go (need_at p (layout_of k).refs (image (layout_of k).shape.keep x)) (reference_at x p).len
    ∙ ap (λ (b : Bool). pick b (reference_at x p).len 0) (sym f)
  where
    go : (m : Need) (n : ℕ) → under m 0 n ≡ pick (under m false true) n 0
    go Ignored n = refl
    go Optional n = refl
    go Required n = refl
