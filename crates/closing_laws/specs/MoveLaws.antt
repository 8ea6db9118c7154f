-- What stands at the sites of a table stands in another one to which every site is carried over. Assumes nothing.
use Rattle.std.specs.Prelude.{◌≡◌, Bool, length, drop, T, eqb}
use Rattle.std.proofs.Math.Path.{refl, ap, ap₂}
use Rattle.std.proofs.Common.{◌∙◌, inl, inr, arith}
use Rattle.std.proofs.Math.Bool.{true, false}
use mathlib.Core.List.{List, [], ◌∷◌, ◌++◌}
use Prim.Native.Nat.{ℕ, ◌+◌, ◌^◌, ◌≤◌, ◌<◌}
use Rattle.std.proofs.Math.Facts.{no_eqb, yes_eqb}
use Rattle.table.specs.declared.Region.{Region}
use Rattle.table.specs.declared.Need.{Need}
use Rattle.table.specs.declared.Need.TheVariants.{Ignored, Optional, Required}
use Rattle.table.specs.Bytes.{le, num, pick}
use Rattle.table.specs.Layout.{Content, Env, Keep, Refs, Shape, Slots, bytes, gone, image, nest, nil, none, offsets, plain, rec}
use Rattle.table.specs.Objects.{ref6, under}
use Rattle.table.specs.Builder.{may_have}
use Rattle.laws.specs.Lawful.{Fit, ok_refs}
use Rattle.laws.specs.ByteLaws.{Holds, holds-left, holds-num, holds-right, pick_no, pick_yes}
use Rattle.laws.specs.SlotLaws.{OkNest, nest-next, nest-own, plain-next}
use Rattle.laws.specs.Standing.{At, PlainAt, RefTo}
use Rattle.table.specs.Closing.{Site, goes, site, site_at, sites_of}
use Rattle.closing_laws.specs.Members.{In, Sub, in_left, in_right}

pub ref-off : (t : List ℕ) (r off len : ℕ) → off < 256 ^ 4 → Holds t r (ref6 off len) → num t r 4 ≡ off
ref-off t r off len k h = holds-num t r 4 off k (holds-left t r (le 4 off) (le 2 len) h)

pub ref-len : (t : List ℕ) (r off len : ℕ) → len < 256 ^ 2 → Holds t r (ref6 off len) → num t (r + 4) 2 ≡ len
ref-len t r off len k h = holds-num t (r + 4) 2 len k (holds-right t r (le 4 off) (le 2 len) h)

-- ---- the sites of one reference

-- a present one is a site, and so are those in what it names
pub site-here : (t : List ℕ) (r off len : ℕ) (w : Bool) (rs : Refs) (inner ss : List Site) → num t r 4 ≡ off → num t (r + 4) 2 ≡ len → 0 < len
    → site_at t r w rs inner ss ≡ site r off len w rs ∷ (inner ++ ss)
site-here t r off len w rs inner ss e f z =
    pick_no (eqb (num t (r + 4) 2) 0) ss _ (no_eqb {a = num t (r + 4) 2} {b = 0} (omega arith))
    ∙ ap₂ (λ (x y : ℕ). site r x y w rs ∷ (inner ++ ss)) e f

pub site-none : (t : List ℕ) (r : ℕ) (w : Bool) (rs : Refs) (inner ss : List Site) → num t (r + 4) 2 ≡ 0 → site_at t r w rs inner ss ≡ ss
site-none t r w rs inner ss e = pick_yes (eqb (num t (r + 4) 2) 0) ss _ (yes_eqb e)

-- the sites behind it are sites, whatever it is
rest-pick : (c : Bool) (s x : Site) (inner ss : List Site) → In x ss → In x (pick c ss (s ∷ (inner ++ ss)))
rest-pick true s x inner ss h = h
rest-pick false s x inner ss h = inr (in_right x inner ss h)

pub rest_in : (n : Need) (t : List ℕ) (r : ℕ) (w : Bool) (rs : Refs) (inner ss : List Site) (x : Site) → In x ss → In x (under n ss (site_at t r w rs inner ss))
rest_in Ignored t r w rs inner ss x h = h
rest_in Optional t r w rs inner ss x h = rest-pick (eqb (num t (r + 4) 2) 0) _ x inner ss h
rest_in Required t r w rs inner ss x h = rest-pick (eqb (num t (r + 4) 2) 0) _ x inner ss h

-- what may be there counts
pub counts : (n : Need) (xs ys : List Site) → T (may_have n) → under n xs ys ≡ ys
counts Ignored xs ys m = absurd m
counts Optional xs ys m = refl
counts Required xs ys m = refl

module _ (t u : List ℕ) (heap : Region) (new : Region) (ss : List Site) where
  -- the references rs of the record at a are carried over to b: absent ones stay absent, sites name the new places
  pub record Carried (a b : ℕ) (rs : Refs) : Type 0 where
    pub absent : (p : ℕ) → In p (offsets rs) → Holds t (a + p) (ref6 0 0) → Holds u (b + p) (ref6 0 0)
    pub present : (p : ℕ) → In p (offsets rs) → (s : Site) → In s ss → s.at ≡ a + p → Holds u (b + p) (ref6 (goes t s.off) s.len)

  -- what a site names is carried over
  pub record Moves (s : Site) : Type 0 where
    pub small : goes t s.off < 256 ^ 4
    pub positive : 0 < goes t s.off
    pub from : new.at ≤ goes t s.off
    pub upto : goes t s.off + s.len ≤ new.at + new.len
    -- a plain object
    pub object : s.whole ≡ false → (b : List ℕ) → length b ≡ s.len → Holds t s.off b → Holds u (goes t s.off) b
    -- a heap record
    pub inner : s.whole ≡ true → (shape : Shape) → OkNest shape s.own → length shape.keep ≤ s.len → Carried s.off (goes t s.off) s.own
    pub looks : s.whole ≡ true → (shape : Shape) → OkNest shape s.own → length shape.keep ≤ s.len
        → image shape.keep (drop (goes t s.off) u) ≡ image shape.keep (drop s.off t)

  pub carried-rest : (a b p : ℕ) (need : List ℕ → Need) (content : Content) (rest : Refs) → Carried a b (plain p need content rest) → Carried a b rest
  carried-rest a b p need content rest c = record {
    absent = λ q i. c.absent q (inr i);
    present = λ q i. c.present q (inr i);
  }

  pub carried-nest : (a b p : ℕ) (need : List ℕ → Need) (shape : Shape) (own rest : Refs) → Carried a b (nest p need shape own rest) → Carried a b rest
  carried-nest a b p need shape own rest c = record {
    absent = λ q i. c.absent q (inr i);
    present = λ q i. c.present q (inr i);
  }

  module _ (moves : (s : Site) → In s ss → Moves s) where
    -- the reference at r to a site
    to-new : (r r' off len : ℕ) (w : Bool) (rs : Refs) → In (site r off len w rs) ss → Holds u r' (ref6 (goes t off) len) → RefTo t heap r off len → RefTo u new r' (goes t off) len
    to-new r r' off len w rs i h x =
        let m = moves (site r off len w rs) i in
        record {
          small = m.small;
          positive = m.positive;
          nonzero = x.nonzero;
          short = x.short;
          from = m.from;
          upto = m.upto;
          ref = h;
        }

    plain-one : (r r' : ℕ) (b : List ℕ) (rest : List Site)
        → (Holds t r (ref6 0 0) → Holds u r' (ref6 0 0))
        → ((s : Site) → In s ss → s.at ≡ r → Holds u r' (ref6 (goes t s.off) s.len))
        → Sub (site_at t r false none [] rest) ss → PlainAt t heap r b → PlainAt u new r' b
    plain-one r r' [] rest f g sub x = f x
    plain-one r r' (b ∷ bs) rest f g sub x =
        let off : ℕ = x.0 in
        let len : ℕ = length (b ∷ bs) in
        let y = x.1 in
        let s : Site = site r off len false none in
        let e = site-here t r off len false none [] rest (ref-off t r off len y.small y.ref) (ref-len t r off len y.short y.ref) y.nonzero in
        let i : In s ss = sub s (rw e (inl refl)) in
        (goes t off, to-new r r' off len false none i (g s i refl) y, (moves s i).object refl (b ∷ bs) refl x.2)

    plain-moves : (n : Need) (r r' : ℕ) (b : List ℕ) (rest : List Site)
        → (Holds t r (ref6 0 0) → Holds u r' (ref6 0 0))
        → ((s : Site) → In s ss → s.at ≡ r → Holds u r' (ref6 (goes t s.off) s.len))
        → Sub (under n rest (site_at t r false none [] rest)) ss → under n (Unit {0}) (PlainAt t heap r b) → under n (Unit {0}) (PlainAt u new r' b)
    plain-moves Ignored r r' b rest f g sub x = tt
    plain-moves Optional r r' b rest f g sub x = plain-one r r' b rest f g sub x
    plain-moves Required r r' b rest f g sub x = plain-one r r' b rest f g sub x

    gone-moves : (n : Need) (r r' : ℕ) → (Holds t r (ref6 0 0) → Holds u r' (ref6 0 0)) → under n (Unit {0}) (Holds t r (ref6 0 0)) → under n (Unit {0}) (Holds u r' (ref6 0 0))
    gone-moves Ignored r r' f x = tt
    gone-moves Optional r r' f x = f x
    gone-moves Required r r' f x = f x

    -- the objects of a record that is carried over stand in the new table
    pub move_at : {rs : Refs} (ks : List Keep) (q a b : ℕ) (v : Env) (img : List ℕ) (os : Slots rs) → T (ok_refs q ks rs) → Carried a b rs → Sub (sites_of t a img rs) ss → Fit v img os
        → At t heap a img os → At u new b img os
    unfolding sites_of
    move_at ks q a b v img nil o c sub f s = tt
    move_at ks q a b v img (bytes {p = p} {need = need} {content = content} {rest = rest} x os) o c sub f s = (
      plain-moves (need img) (a + p) (b + p) x (sites_of t a img rest) (c.absent p (inl refl)) (c.present p (inl refl)) sub s.0,
      move_at ks (p + 6) a b v img os (plain-next q p ks need content rest o) (carried-rest a b p need content rest c)
          (λ y i. sub y (rest_in (need img) t (a + p) false none [] (sites_of t a img rest) y i)) f.1 s.1,
    )
    move_at ks q a b v img (gone {p = p} {need = need} {shape = shape} {own = own} {rest = rest} os) o c sub f s = (
      gone-moves (need img) (a + p) (b + p) (c.absent p (inl refl)) s.0,
      move_at ks (p + 6) a b v img os (nest-next q p ks need shape own rest o) (carried-nest a b p need shape own rest c)
          (λ y i. sub y (rest_in (need img) t (a + p) true own (sites_of t (num t (a + p) 4) (image shape.keep (drop (num t (a + p) 4) t)) own) (sites_of t a img rest) y i)) f.1 s.1,
    )
    move_at ks q a b v img (rec {p = p} {need = need} {shape = shape} {own = own} {rest = rest} img' own' os) o c sub f s =
        let off : ℕ = s.0.0 in
        let len : ℕ = s.0.1 in
        let x = s.0.2 in
        let w : Site = site (a + p) off len true own in
        let n : ℕ = num t (a + p) 4 in
        let inner : List Site = sites_of t n (image shape.keep (drop n t)) own in
        let e₀ : n ≡ off = ref-off t (a + p) off len x.small x.ref in
        let e₁ : image shape.keep (drop n t) ≡ img' = ap (λ (m : ℕ). image shape.keep (drop m t)) e₀ ∙ s.0.4 in
        let e₂ : inner ≡ sites_of t off img' own = ap₂ (λ (m : ℕ) (y : List ℕ). sites_of t m y own) e₀ e₁ in
        let e : under (need img) (sites_of t a img rest) (site_at t (a + p) true own inner (sites_of t a img rest)) ≡ w ∷ (inner ++ sites_of t a img rest) =
        counts (need img) _ _ f.0.need
        ∙ site-here t (a + p) off len true own inner (sites_of t a img rest) e₀ (ref-len t (a + p) off len x.short x.ref) x.nonzero in
        let i : In w ss = sub w (rw e (inl refl)) in
        let m = moves w i in
        let on = nest-own q p ks need shape own rest o in
        let sub' : Sub (sites_of t off img' own) ss = λ y j. sub y (rw e (inr (in_left y inner (sites_of t a img rest) (rw e₂ j)))) in (
          (
            goes t off,
            len,
            to-new (a + p) (b + p) off len true own i (c.present p (inl refl) w i refl) x,
            s.0.3,
            m.looks refl shape on s.0.3 ∙ s.0.4,
            move_at shape.keep 0 off (goes t off) v img' own' on.refs (m.inner refl shape on s.0.3) sub' f.1 s.0.5,
          ),
          move_at ks (p + 6) a b v img os (nest-next q p ks need shape own rest o) (carried-nest a b p need shape own rest c)
              (λ y j. sub y (rw e (inr (in_right y inner (sites_of t a img rest) j)))) f.2 s.1,
        )
