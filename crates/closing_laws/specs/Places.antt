-- Where the sites of a record stand: in it, or in a heap record that one of them names. Assumes nothing.
use Rattle.std.specs.Prelude.{◌≡◌, ◌⊎◌, Bool, not, ◌&&◌, ◌||◌, ℕ, ◌+◌, ◌≤◌, length, drop, T, eqb, leb}
use Rattle.std.proofs.Math.Path.{refl}
use Rattle.std.proofs.Common.{sym, ap, ap₂, ◌∙◌, subst, arith, leb→le, lit<}
use Rattle.std.proofs.Math.Logic.{inl, inr}
use Rattle.std.proofs.Math.Bool.{true, false}
use mathlib.Core.List.{List, [], ◌∷◌, ◌++◌}
use Rattle.std.proofs.Math.Facts.{eqb_no, or_no, or_yes, yes_leb}
use Rattle.table.specs.declared.Need.{Need}
use Rattle.table.specs.declared.Need.TheVariants.{Ignored, Optional, Required}
use Rattle.table.specs.Bytes.{num, pick}
use Rattle.table.specs.Layout.{Env, Keep, Refs, Slots, bytes, gone, image, nest, nil, none, offsets, plain, rec, region}
use Rattle.table.specs.Objects.{under}
use Rattle.table.specs.Rules.{apart}
use Rattle.table.specs.Numbers.{heap_in}
use Rattle.laws.specs.Lawful.{Fit, ok_refs}
use Rattle.laws.specs.SlotLaws.{nest-next, nest-own, plain-next}
use Rattle.laws.specs.Standing.{At, PlainAt, RefTo}
use Rattle.table.specs.Closing.{Site, clash, clashes, overlaps, site, site_at, sites_of, span_of}
use Rattle.closing_laws.specs.Members.{In, Sub, in-append, in_left, in_right, or_left, or_right}
use Rattle.closing_laws.specs.MoveLaws.{counts, ref-len, ref-off, rest_in, site-here}
use Rattle.closing_laws.specs.Carrying.{Sound, ok_at}

-- ---- no heap record shares a byte with another site

abbrev pub Apart : ℕ → ℕ → ℕ → ℕ → Type 0
Apart a n b m = (a + n ≤ b) ⊎ (b + m ≤ a)

pub apart_of : (a n b m : ℕ) → T (apart (region a n) (region b m)) → Apart a n b m
apart_of a n b m k = go (or_yes (leb (a + n) b) (leb (b + m) a) k)
  where
    go : T (leb (a + n) b) ⊎ T (leb (b + m) a) → Apart a n b m
    go (inl x) = inl (leb→le (a + n) b x)
    go (inr x) = inr (leb→le (b + m) a x)

pub of-apart : (a n b m : ℕ) → Apart a n b m → T (apart (region a n) (region b m))
of-apart a n b m (inl e) = or_left (leb (a + n) b) (leb (b + m) a) (yes_leb e)
of-apart a n b m (inr e) = or_right (leb (a + n) b) (leb (b + m) a) (yes_leb e)

pub flip : (a n b m : ℕ) → Apart a n b m → Apart b m a n
flip a n b m (inl e) = inr e
flip a n b m (inr e) = inl e

no-clash : (x y : Site) → T (not (clash x y)) → (x.whole ≡ true) ⊎ (y.whole ≡ true) → Apart x.off x.len y.off y.len
no-clash x y k w = apart_of x.off x.len y.off y.len (go x.whole y.whole (apart (span_of x) (span_of y)) k w)
  where
    go : (a b c : Bool) → T (not ((a || b) && not c)) → (a ≡ true) ⊎ (b ≡ true) → T c
    go a b true k w = tt
    go true b false k w = absurd k
    go false true false k w = absurd k
    go false false false k (inl e) = subst (λ (c : Bool). T c) (sym e) tt
    go false false false k (inr e) = subst (λ (c : Bool). T c) (sym e) tt

pub clash-free : (x : Site) (ys : List Site) (y : Site) → T (not (clashes x ys)) → In y ys → (x.whole ≡ true) ⊎ (y.whole ≡ true) → Apart x.off x.len y.off y.len
clash-free x [] y k i w = absurd i
clash-free x (z ∷ zs) y k (inl e) w = rw e (no-clash x z (or_no (clash x z) (clashes x zs) k).0 (rw e at w))
clash-free x (z ∷ zs) y k (inr i) w = clash-free x zs y (or_no (clash x z) (clashes x zs) k).1 i w

-- two sites, of which the first is a heap record, are one or apart
pub free : (ss : List Site) → T (not (overlaps ss)) → (x y : Site) → In x ss → In y ss → x.whole ≡ true → (x ≡ y) ⊎ Apart x.off x.len y.off y.len
free [] k x y i j w = absurd i
free (z ∷ zs) k x y (inl e) (inl f) w = inl (e ∙ sym f)
free (z ∷ zs) k x y (inl e) (inr j) w = inr (rw e (clash-free z zs y (or_no (clashes z zs) (overlaps zs) k).0 j (inl (rw e at w))))
free (z ∷ zs) k x y (inr i) (inl f) w = inr (rw f (flip z.off z.len x.off x.len (clash-free z zs x (or_no (clashes z zs) (overlaps zs) k).0 i (inr w))))
free (z ∷ zs) k x y (inr i) (inr j) w = free zs (or_no (clashes z zs) (overlaps zs) k).1 x y i j w

-- ---- one reference

abbrev pub Here : Need → List ℕ → ℕ → Bool → Refs → List Site → Site → Type 0
Here n t r w rs inner s = T (not (eqb (num t (r + 4) 2) 0)) × (n ≡ Ignored → ⊥) × ((s ≡ site r (num t r 4) (num t (r + 4) 2) w rs) ⊎ In s inner)

split-pick : (n : Need) (t : List ℕ) (r : ℕ) (w : Bool) (rs : Refs) (inner rest : List Site) (s : Site) → (n ≡ Ignored → ⊥) → In s (site_at t r w rs inner rest) → Here n t r w rs inner s ⊎ In s rest
split-pick n t r w rs inner rest s ne i = go (eqb (num t (r + 4) 2) 0) refl i
  where
    x : Site
    x = site r (num t r 4) (num t (r + 4) 2) w rs

    two : (s ≡ x) ⊎ In s (inner ++ rest) → T (not (eqb (num t (r + 4) 2) 0)) → Here n t r w rs inner s ⊎ In s rest
    two (inl e) k = inl (k, ne, inl e)
    two (inr j) k = three (in-append s inner rest j)
      where
        three : In s inner ⊎ In s rest → Here n t r w rs inner s ⊎ In s rest
        three (inl a) = inl (k, ne, inr a)
        three (inr b) = inr b

    go : (c : Bool) → eqb (num t (r + 4) 2) 0 ≡ c → In s (pick c rest (x ∷ (inner ++ rest))) → Here n t r w rs inner s ⊎ In s rest
    go true e j = inr j
    go false e j = two j (rw e tt)

pub split : (n : Need) (t : List ℕ) (r : ℕ) (w : Bool) (rs : Refs) (inner rest : List Site) (s : Site) → In s (under n rest (site_at t r w rs inner rest)) → Here n t r w rs inner s ⊎ In s rest
split Ignored t r w rs inner rest s i = inr i
split Optional t r w rs inner rest s i = split-pick Optional t r w rs inner rest s (λ q. let z : ◌≡◌ {A = ℕ} 0 1 = cc in omega arith) i
split Required t r w rs inner rest s i = split-pick Required t r w rs inner rest s (λ q. let z : ◌≡◌ {A = ℕ} 0 1 = cc in omega arith) i

-- what counts
pub counted : {A : Type 0} (n : Need) → (n ≡ Ignored → ⊥) → under n (Unit {0}) A → A
counted Ignored ne x = absurd (ne refl)
counted Optional ne x = x
counted Required ne x = x

module _ (t : List ℕ) where
  of_ref : (r off len : ℕ) (w : Bool) (rs : Refs) → (w ≡ false → rs ≡ none) → RefTo t (heap_in t) r off len → Sound t (site r (num t r 4) (num t (r + 4) 2) w rs)
  of_ref r off len w rs b x =
      rw (ref-off t r off len x.small x.ref, ref-len t r off len x.short x.ref)
      (record { small = x.small; nonzero = x.nonzero; short = x.short; from = x.from; upto = x.upto; ref = x.ref; bare = b })

  of_plain : (r : ℕ) (b : List ℕ) → T (not (eqb (num t (r + 4) 2) 0)) → PlainAt t (heap_in t) r b → Sound t (site r (num t r 4) (num t (r + 4) 2) false none)
  of_plain r [] k x = absurd (eqb_no {a = num t (r + 4) 2} {b = 0} k (ref-len t r 0 0 (lit< tt) x))
  of_plain r (b ∷ bs) k x = of_ref r x.0 (length (b ∷ bs)) false none (λ e. refl) x.1

  -- in the record at a, or in a heap record that one of the sites L names
  abbrev pub Lies : ℕ → Refs → List Site → Site → Type 0
  Lies a rs L s =
      ((p : ℕ) × In p (offsets rs) × (s.at ≡ a + p))
      ⊎ ((h : Site) × In h L × (h.whole ≡ true) × ((p : ℕ) × In p (offsets h.own) × (s.at ≡ h.off + p) × (p + 6 ≤ h.len)))

  wider : (a : ℕ) (rs rs' : Refs) (L L' : List Site) (s : Site) → ((p : ℕ) → In p (offsets rs) → In p (offsets rs')) → Sub L L' → Lies a rs L s → Lies a rs' L' s
  wider a rs rs' L L' s f g (inl x) = inl (x.0, f x.0 x.1, x.2)
  wider a rs rs' L L' s f g (inr x) = inr (x.0, g x.0 x.1, x.2, x.3)

  -- each site of the references rs of the record at a is sound, and lies there
  pub lies : {rs : Refs} (ks : List Keep) (q a : ℕ) (v : Env) (img : List ℕ) (os : Slots rs) → T (ok_refs q ks rs) → Fit v img os → At t (heap_in t) a img os
      → (s : Site) → In s (sites_of t a img rs) → Sound t s × Lies a rs (sites_of t a img rs) s
  unfolding sites_of
  lies ks q a v img nil o f x s i = absurd i
  lies ks q a v img (bytes {p = p} {need = need} {content = content} {rest = rest} b os) o f x s i =
      go (split (need img) t (a + p) false none [] (sites_of t a img rest) s i) (lies ks (p + 6) a v img os (plain-next q p ks need content rest o) f.1 x.1 s)
    where
      go : Here (need img) t (a + p) false none [] s ⊎ In s (sites_of t a img rest) → (In s (sites_of t a img rest) → Sound t s × Lies a rest (sites_of t a img rest) s)
          → Sound t s × Lies a (plain p need content rest) (sites_of t a img (plain p need content rest)) s
      go (inl h) r = here h.2
        where
          here : (s ≡ site (a + p) (num t (a + p) 4) (num t (a + p + 4) 2) false none) ⊎ In s [] → Sound t s × Lies a (plain p need content rest) (sites_of t a img (plain p need content rest)) s
          here (inl e) = rw e (of_plain (a + p) b h.0 (counted (need img) h.1 x.0), inl (p, inl refl, refl))
          here (inr j) = absurd j
      go (inr j) r =
          let y = r j in (
            y.0,
            wider a rest (plain p need content rest) (sites_of t a img rest)
                (sites_of t a img (plain p need content rest)) s (λ c k. inr k)
                (λ c k. rest_in (need img) t (a + p) false none [] (sites_of t a img rest) c k) y.1,
          )
  lies ks q a v img (gone {p = p} {need = need} {shape = shape} {own = own} {rest = rest} os) o f x s i =
      go (split (need img) t (a + p) true own inner (sites_of t a img rest) s i) (lies ks (p + 6) a v img os (nest-next q p ks need shape own rest o) f.1 x.1 s)
    where
      inner : List Site
      inner = sites_of t (num t (a + p) 4) (image shape.keep (drop (num t (a + p) 4) t)) own

      go : Here (need img) t (a + p) true own inner s ⊎ In s (sites_of t a img rest) → (In s (sites_of t a img rest) → Sound t s × Lies a rest (sites_of t a img rest) s)
          → Sound t s × Lies a (nest p need shape own rest) (sites_of t a img (nest p need shape own rest)) s
      go (inl h) r = absurd (eqb_no {a = num t (a + p + 4) 2} {b = 0} h.0 (ref-len t (a + p) 0 0 (lit< tt) (counted (need img) h.1 x.0)))
      go (inr j) r =
          let y = r j in (
            y.0,
            wider a rest (nest p need shape own rest) (sites_of t a img rest)
                (sites_of t a img (nest p need shape own rest)) s (λ c k. inr k)
                (λ c k. rest_in (need img) t (a + p) true own inner (sites_of t a img rest) c k) y.1,
          )
  lies ks q a v img (rec {p = p} {need = need} {shape = shape} {own = own} {rest = rest} img' own' os) o f x s i =
      let off : ℕ = x.0.0 in
      let len : ℕ = x.0.1 in
      let y = x.0.2 in
      let n : ℕ = num t (a + p) 4 in
      let e₀ : n ≡ off = ref-off t (a + p) off len y.small y.ref in
      let e₁ : image shape.keep (drop n t) ≡ img' = ap (λ (m : ℕ). image shape.keep (drop m t)) e₀ ∙ x.0.4 in
      let e₂ : inner ≡ sites_of t off img' own = ap₂ (λ (m : ℕ) (z : List ℕ). sites_of t m z own) e₀ e₁ in
      let e₃ : num t (a + p + 4) 2 ≡ len = ref-len t (a + p) off len y.short y.ref in
      let on = nest-own q p ks need shape own rest o in
      let all : sites_of t a img (nest p need shape own rest) ≡ site (a + p) n (num t (a + p + 4) 2) true own ∷ (inner ++ sites_of t a img rest) =
      counts (need img) _ _ f.0.need
      ∙ site-here t (a + p) n (num t (a + p + 4) 2) true own inner (sites_of t a img rest) refl refl (omega (arith, y.nonzero)) in
      go all (of_ref (a + p) off len true own (λ c. absurd (subst (λ (d : Bool). T d) c tt)) y) (split (need img) t (a + p) true own inner (sites_of t a img rest) s i)
      (lies ks (p + 6) a v img os (nest-next q p ks need shape own rest o) f.2 x.1 s)
      (λ j. let z = lies shape.keep 0 off v img' own' on.refs f.1 x.0.5 s (rw e₂ at j) in (z.0, rw (e₂, e₀) z.1))
      (λ c k. omega (arith, x.0.3, e₃, (ok_at 0 shape.keep own c on.refs k).upto))
    where
      inner : List Site
      inner = sites_of t (num t (a + p) 4) (image shape.keep (drop (num t (a + p) 4) t)) own

      w : Site
      w = site (a + p) (num t (a + p) 4) (num t (a + p + 4) 2) true own

      go : sites_of t a img (nest p need shape own rest) ≡ w ∷ (inner ++ sites_of t a img rest) → Sound t w
          → Here (need img) t (a + p) true own inner s ⊎ In s (sites_of t a img rest) → (In s (sites_of t a img rest) → Sound t s × Lies a rest (sites_of t a img rest) s)
          → (In s inner → Sound t s × Lies (num t (a + p) 4) own inner s) → ((c : ℕ) → In c (offsets own) → c + 6 ≤ num t (a + p + 4) 2)
          → Sound t s × Lies a (nest p need shape own rest) (sites_of t a img (nest p need shape own rest)) s
      go e z (inl h) r g c = here h.2
        where
          deep : Lies (num t (a + p) 4) own inner s → Lies a (nest p need shape own rest) (sites_of t a img (nest p need shape own rest)) s
          deep (inl k) = inr (w, rw e (inl refl), refl, (k.0, k.1, k.2, c k.0 k.1))
          deep (inr k) = inr (k.0, rw e (inr (in_left k.0 inner (sites_of t a img rest) k.1)), k.2, k.3)

          here : (s ≡ w) ⊎ In s inner → Sound t s × Lies a (nest p need shape own rest) (sites_of t a img (nest p need shape own rest)) s
          here (inl d) = rw d (z, inl (p, inl refl, refl))
          here (inr j) = let y = g j in (y.0, deep y.1)
      go e z (inr j) r g c =
          let y = r j in (
            y.0,
            wider a rest (nest p need shape own rest) (sites_of t a img rest)
                (sites_of t a img (nest p need shape own rest)) s (λ c k. inr k)
                (λ b k. rw e (inr (in_right b inner (sites_of t a img rest) k))) y.1,
          )
