-- What a walk that stores finds: in a table that differs from t only apart from a record's references and from the heap records that they name, the sites are those of t.
-- Sites that share bytes still do after closing, and each place below the count is that of a marked byte. Assumes nothing.
use Rattle.std.specs.Prelude.{◌≡◌, refl, Bool, true, false, List, [], ◌∷◌, ◌++◌, length, get_or, drop, T, eqb}
use Rattle.std.proofs.Common.{sym, ap, ap₂, ◌∙◌, inl, inr, arith, get_or-drop, lit<}
use Prim.Native.Nat.{ℕ, zero, suc, ◌+◌, ◌-◌, ◌≤◌, ◌<◌}
use Rattle.std.proofs.Math.Decide.{dec_le}
use Rattle.table.specs.declared.Need.{Need}
use Rattle.table.specs.declared.Need.TheVariants.{Ignored, Optional, Required}
use Rattle.table.specs.Bytes.{num}
use Rattle.table.specs.Layout.{Env, Keep, Refs, Slots, bytes, gone, image, low, nil, none, offsets, rec}
use Rattle.table.specs.Objects.{ref6, under}
use Rattle.table.specs.Numbers.{heap_in}
use Rattle.laws.specs.Lawful.{Fit, all_keep, ok_keep, ok_refs, top_of}
use Rattle.laws.specs.ByteLaws.{Holds, pick_yes}
use Rattle.laws.specs.ImageLaws.{image-same}
use Rattle.laws.specs.SlotLaws.{nest-next, nest-own, plain-next}
use Rattle.laws.specs.Standing.{At}
use Rattle.table.specs.Closing.{Site, goes, one, ones, site, site_at, sites, sites_of, slid}
use Rattle.closing_laws.specs.Members.{In, in_left, in_right}
use Rattle.closing_laws.specs.MoveLaws.{counts, ref-len, ref-off, rest_in, site-here}
use Rattle.closing_laws.specs.ClosedBytes.{Roomy}
use Rattle.closing_laws.specs.Carrying.{Sound, ok_at, site-slides}
use Rattle.closing_laws.specs.ClosedStands.{num-same}

-- the n bytes at a are the same
abbrev pub Agree : List ℕ → List ℕ → ℕ → ℕ → Type 0
Agree t u a n = (j : ℕ) → j < n → get_or u (a + j) 0 ≡ get_or t (a + j) 0

agree-image : (t u : List ℕ) (ks : List Keep) (a n : ℕ) → T (all_keep (ok_keep ks) ks) → length ks ≤ n → Agree t u a n → image ks (drop a u) ≡ image ks (drop a t)
agree-image t u ks a n o l g =
    image-same ks (drop a u) (drop a t) o
    (λ j h. ap (λ (x : ℕ). Prim.Native.Nat.◌%◌ x (top_of (get_or ks j (low 1)))) (get_or-drop a u j 0 ∙ g j (omega arith) ∙ sym (get_or-drop a t j 0)))

module _ (t u : List ℕ) where
  off-same : (r : ℕ) → Agree t u r 6 → num u r 4 ≡ num t r 4
  off-same r g = num-same t u r 4 (λ j h. g j (omega arith))

  len-same : (r : ℕ) → Agree t u r 6 → num u (r + 4) 2 ≡ num t (r + 4) 2
  len-same r g =
      num-same t u (r + 4) 2
      (λ j h.
      let e : r + 4 + j ≡ r + (4 + j) = omega arith in
      ap (λ (x : ℕ). get_or u x 0) e ∙ g (4 + j) (omega arith) ∙ ap (λ (x : ℕ). get_or t x 0) (sym e))

  none_here : (r : ℕ) (w : Bool) (rs : Refs) (inner ss : List Site) (n : Need) → num t (r + 4) 2 ≡ 0 → under n ss (site_at t r w rs inner ss) ≡ ss
  none_here r w rs inner ss Ignored e = refl
  none_here r w rs inner ss Optional e = pick_yes (eqb (num t (r + 4) 2) 0) ss _ (rw e tt)
  none_here r w rs inner ss Required e = pick_yes (eqb (num t (r + 4) 2) 0) ss _ (rw e tt)

gone_same : (t u : List ℕ) (r : ℕ) (own : Refs) (xs ys xs' ys' : List Site) (n : Need) → under n (Unit {0}) (Holds t r (ref6 0 0)) → num u (r + 4) 2 ≡ num t (r + 4) 2 → ys ≡ ys'
    → under n ys (site_at u r true own xs ys) ≡ under n ys' (site_at t r true own xs' ys')
gone_same t u r own xs ys xs' ys' Ignored k l e = e
gone_same t u r own xs ys xs' ys' Optional k l e =
    let z : num t (r + 4) 2 ≡ 0 = ref-len t r 0 0 (lit< tt) k in
    none_here u t r true own xs ys Optional (l ∙ z) ∙ e ∙ sym (none_here t u r true own xs' ys' Optional z)
gone_same t u r own xs ys xs' ys' Required k l e =
    let z : num t (r + 4) 2 ≡ 0 = ref-len t r 0 0 (lit< tt) k in
    none_here u t r true own xs ys Required (l ∙ z) ∙ e ∙ sym (none_here t u r true own xs' ys' Required z)

-- the references of the record at a, and the heap records that they name, are not yet stored to
pub sites-same : {rs : Refs} (t u : List ℕ) (ks : List Keep) (q a : ℕ) (v : Env) (img : List ℕ) (os : Slots rs) → T (ok_refs q ks rs) → Fit v img os → At t (heap_in t) a img os
    → ((p : ℕ) → In p (offsets rs) → Agree t u (a + p) 6) → ((s : Site) → In s (sites_of t a img rs) → s.whole ≡ true → Agree t u s.off s.len)
    → sites_of u a img rs ≡ sites_of t a img rs
unfolding sites_of
sites-same t u ks q a v img nil o f x g h = refl
sites-same t u ks q a v img (bytes {p = p} {need = need} {content = content} {rest = rest} b os) o f x g h =
    let e : sites_of u a img rest ≡ sites_of t a img rest = sites-same t u ks (p + 6) a v img os
    (plain-next q p ks need content rest o) f.1 x.1 (λ c k. g c (inr k))
    (λ s k. h s (rest_in (need img) t (a + p) false none [] (sites_of t a img rest) s k)) in
    rw (off-same t u (a + p) (g p (inl refl)), len-same t u (a + p) (g p (inl refl)), e) refl
sites-same t u ks q a v img (gone {p = p} {need = need} {shape = shape} {own = own} {rest = rest} os) o f x g h =
    let inner : List Site = sites_of t (num t (a + p) 4) (image shape.keep (drop (num t (a + p) 4) t)) own in
    let e : sites_of u a img rest ≡ sites_of t a img rest = sites-same t u ks (p + 6) a v img os
    (nest-next q p ks need shape own rest o) f.1 x.1 (λ c k. g c (inr k))
    (λ s k. h s (rest_in (need img) t (a + p) true own inner (sites_of t a img rest) s k)) in
    gone_same t u (a + p) own (sites_of u (num u (a + p) 4) (image shape.keep (drop (num u (a + p) 4) u)) own)
    (sites_of u a img rest) inner (sites_of t a img rest) (need img) x.0 (len-same t u (a + p) (g p (inl refl))) e
sites-same t u ks q a v img (rec {p = p} {need = need} {shape = shape} {own = own} {rest = rest} img' own' os) o f x g h =
    let off : ℕ = x.0.0 in
    let len : ℕ = x.0.1 in
    let y = x.0.2 in
    let n : ℕ = num t (a + p) 4 in
    let l : ℕ = num t (a + p + 4) 2 in
    let inner : List Site = sites_of t n (image shape.keep (drop n t)) own in
    let e₀ : n ≡ off = ref-off t (a + p) off len y.small y.ref in
    let e₁ : image shape.keep (drop n t) ≡ img' = ap (λ (m : ℕ). image shape.keep (drop m t)) e₀ ∙ x.0.4 in
    let e₂ : inner ≡ sites_of t off img' own = ap₂ (λ (m : ℕ) (z : List ℕ). sites_of t m z own) e₀ e₁ in
    let e₃ : l ≡ len = ref-len t (a + p) off len y.short y.ref in
    let on = nest-own q p ks need shape own rest o in
    let w : Site = site (a + p) n l true own in
    let all : under (need img) (sites_of t a img rest) (site_at t (a + p) true own inner (sites_of t a img rest)) ≡ w ∷ (inner ++ sites_of t a img rest) =
    counts (need img) _ _ f.0.need
    ∙ site-here t (a + p) n l true own inner (sites_of t a img rest) refl refl (omega (arith, y.nonzero)) in
    let ag : Agree t u n l = h w (rw all (inl refl)) refl in
    let im : image shape.keep (drop n u) ≡ image shape.keep (drop n t) = agree-image t u shape.keep n l on.keeps (omega (arith, x.0.3, e₃)) ag in
    let near : (c : ℕ) → In c (offsets own) → Agree t u (off + c) 6 = λ c k j z.
    let d : off + c + j ≡ n + (c + j) = omega arith in
    ap (λ (m : ℕ). get_or u m 0) d ∙ ag (c + j) (omega (arith, x.0.3, e₃, (ok_at 0 shape.keep own c on.refs k).upto)) ∙ ap (λ (m : ℕ). get_or t m 0) (sym d) in
    let deep : sites_of u off img' own ≡ sites_of t off img' own =
    sites-same t u shape.keep 0 off v img' own' on.refs f.1 x.0.5 near (λ s k. h s (rw all (inr (in_left s inner (sites_of t a img rest) (rw e₂ k))))) in
    let same : sites_of u n (image shape.keep (drop n t)) own ≡ inner = ap₂ (λ (m : ℕ) (z : List ℕ). sites_of u m z own) e₀ e₁ ∙ deep ∙ sym e₂ in
    let e : sites_of u a img rest ≡ sites_of t a img rest =
    sites-same t u ks (p + 6) a v img os (nest-next q p ks need shape own rest o) f.2 x.1 (λ c k. g c (inr k)) (λ s k. h s (rw all (inr (in_right s inner (sites_of t a img rest) k)))) in
    rw (off-same t u (a + p) (g p (inl refl)), len-same t u (a + p) (g p (inl refl)), e, im, same) refl

-- ---- each place below the count is that of a marked byte

pub ones-onto : (f : ℕ → Bool) (k n : ℕ) → n < ones f k → (m : ℕ) × (m < k) × T (f m) × (ones f m ≡ n)
ones-onto f zero n h = absurd (omega arith)
ones-onto f (suc k) n h = go (dec_le (suc n) (ones f k)) (f k) refl (ones-onto f k n)
  where
    go : Dec (suc n ≤ ones f k) → (c : Bool) → f k ≡ c → (n < ones f k → (m : ℕ) × (m < k) × T (f m) × (ones f m ≡ n)) → (m : ℕ) × (m < suc k) × T (f m) × (ones f m ≡ n)
    go (yes d) c e r = let y = r d in (y.0, omega (arith, y.1), y.2, y.3)
    go (no d) true e r = let u : one (f k) ≡ 1 = rw e refl in (k, omega arith, rw e tt, omega arith)
    go (no d) false e r = let u : one (f k) ≡ 0 = rw e refl in absurd (omega arith)

-- ---- sharing stays

pub shared : (t : List ℕ) → Roomy t → ((s : Site) → In s (sites t) → Sound t s) → (x y : Site) → In x (sites t) → In y (sites t) → x.off ≤ y.off → y.off ≤ x.off + x.len
    → goes t y.off ≡ goes t x.off + (y.off - x.off)
unfolding goes
shared t ok sound x y i j h k =
    let a = (sound x i).from in
    let n : ℕ = y.off - x.off in
    let e : slid t (x.off - (heap_in t).at + n) ≡ slid t (x.off - (heap_in t).at) + n = site-slides t ok sound x i n (omega arith) in
    let d : y.off - (heap_in t).at ≡ x.off - (heap_in t).at + n = omega arith in
    omega (arith, e, ap (slid t) d)
