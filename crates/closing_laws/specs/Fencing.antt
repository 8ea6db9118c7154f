-- In an accepted table of which no heap record shares a byte with another site, the sites are fenced off. Assumes nothing.
use Rattle.std.specs.Prelude.{◌≡◌, refl, ◌⊎◌, not, ◌&&◌, ℕ, zero, suc, ◌+◌, ◌*◌, ◌≤◌, ◌<◌, length, get_or, drop}
use Rattle.std.proofs.Common.{sym, ◌∙◌, zero-mul, suc-mul, arith, length-drop, length-take}
use Rattle.std.proofs.Math.Path.{ap}
use Rattle.std.proofs.Math.Logic.{inl, inr}
use mathlib.Core.List.{List, [], ◌∷◌, ◌++◌}
use Rattle.std.proofs.Math.Decide.{dec_le}
use lib.Dec.{T, eqb, leb, leb→le}
use Rattle.std.proofs.Math.Facts.{and_yes}
use Rattle.table.specs.declared.Region.{Region}
use Rattle.table.specs.declared.Need.{Need}
use Rattle.table.specs.declared.Need.TheVariants.{Required}
use Rattle.table.specs.Bytes.{num, part}
use Rattle.table.specs.Layout.{Content, Entry, Env, Layout, Refs, Slots, base_of, bytes, env, offsets, plain, region, unused, used}
use Rattle.table.specs.FixedLayouts.{header, host, list_kinds}
use Rattle.table.specs.Objects.{count_in, is_used, ref6}
use Rattle.table.specs.Rules.{apart, apart_all, apart_each, cons_if, done, first_fail, inside, list_regions, long_enough}
use Rattle.table.specs.Meaning.{Meaning, meaning}
use Rattle.table.specs.Numbers.{check, heap_in, records, regions, tests}
use Rattle.laws.specs.Lawful.{Fit, FitEntry, Shaped}
use Rattle.laws.specs.ByteLaws.{Holds, holds-part}
use Rattle.laws.specs.ListLaws.{OkLayout}
use Rattle.laws.specs.FormLaws.{ok_header, ok-host, ok-lists}
use Rattle.laws.specs.Standing.{At, EntryAt, PlainAt, Stands}
use Rattle.laws.specs.TestLaws.{AllPass, all_pass}
use Rattle.laws.specs.Sound.{first-both, num-bound}
use Rattle.laws.specs.AcceptedMeaning.{lawful, stands}
use Rattle.table.specs.Closing.{Site, overlapped, overlaps, sites, sites_body, sites_entry, sites_of}
use Rattle.closing_laws.specs.Members.{In, in-append, in_left, in_right}
use Rattle.closing_laws.specs.Carrying.{Aligned, Sound, ok_at}
use Rattle.closing_laws.specs.ClosedStands.{Fenced, Outside, OutsideBody, OutsideList}
use Rattle.closing_laws.specs.Places.{Apart, apart_of, free, lies}
use Rattle.closing_laws.specs.Zones.{
  InHeap,
  InZone,
  Zone,
  body-places,
  each_tail,
  entry-places,
  in-wider,
  inside-each,
  inside-tail,
  long-each,
  of-lies,
  ok-each,
  pair-all,
  pair-each,
  pair-tail,
  stride,
  zone,
  zone-wider,
  zones,
  zones_of,
}

-- what is held lies in the list
holds-room : (t : List ℕ) (a : ℕ) (bs : List ℕ) → 0 < length bs → Holds t a bs → a + length bs ≤ length t
holds-room t a bs z h =
    let e : length (part t a (length bs)) ≡ length bs = ap length (holds-part t a bs h) in
    omega (arith, length-take (length bs) (drop a t), length-drop a t, e)

module _ (t : List ℕ) (m : Meaning) (w : Shaped m) (x : Stands t m) where
  abbrev pub Placed : Site → Type 0
  Placed s = (s.at ≡ 44) ⊎ (InZone (zones t) s ⊎ InHeap (sites t) s)

  D : List Site
  D = sites_of t 0 [] header.refs

  E : List Site
  E = sites_entry host t (num t 72 4)

  F : List Site
  F = sites_body list_kinds t 80

  driver-places : (s : Site) → In s D → Sound t s × Placed s
  unfolding header D sites
  driver-places s i =
      let y = lies t header.shape.keep 0 0 (env (count_in m.lists) 0) [] m.driver ok_header.refs_ok w.signed x.driver_at s i in
      (y.0, go (of-lies t D 0 header.refs s y.1))
    where
      go : ((p : ℕ) × In p (offsets header.refs) × (s.at ≡ 0 + p)) ⊎ InHeap D s → Placed s
      go (inl y) = one y.0 y.1 y.2
        where
          one : (p : ℕ) → In p (44 ∷ []) → s.at ≡ 0 + p → Placed s
          one p (inl e) f = inl (omega arith)
          one p (inr e) f = absurd e
      go (inr y) = inr (inr (in-wider t D (sites t) s (λ z k. in_left z D (sites_entry host t (num t 72 4) ++ sites_body list_kinds t 80) k) y))

  owner-places : (s : Site) → In s E → Sound t s × Placed s
  unfolding E sites
  owner-places s i =
      let y = entry-places t host ok-host (num t 72 4) (env (count_in m.lists) 0) m.owner w.owned x.owner_at s i in
      (y.0, go (of-lies t E (num t 72 4) host.refs s y.1))
    where
      go : ((p : ℕ) × In p (offsets host.refs) × (s.at ≡ num t 72 4 + p)) ⊎ InHeap E s → Placed s
      go (inl y) =
          inr (inl (record {
            z = zone (num t 72 4) (num t 76 2) 1 host;
            known = inl refl;
            i = 0;
            below = omega arith;
            p = y.0;
            named = y.1;
            place = y.2 ∙ rw (zero-mul (num t 76 2)) (omega arith);
          }))
      go (inr y) = inr (inr (in-wider t E (sites t) s (λ z k. in_right z (sites_of t 0 [] header.refs) (E ++ sites_body list_kinds t 80) (in_left z E (sites_body list_kinds t 80) k)) y))

  lists-places : (s : Site) → In s F → Sound t s × Placed s
  unfolding F sites
  lists-places s i =
      let y = body-places t ok-lists (count_in m.lists) 80 m.lists w.listed x.lists_at s i in
      (y.0, go y.1)
    where
      go : InZone (zones_of list_kinds t 80) s ⊎ InHeap F s → Placed s
      go (inl y) = inr (inl (zone-wider t (zone (num t 72 4) (num t 76 2) 1 host) (zones_of list_kinds t 80) s y))
      go (inr y) = inr (inr (in-wider t F (sites t) s (λ z k. in_right z (sites_of t 0 [] header.refs) (sites_entry host t (num t 72 4) ++ F) (in_right z (sites_entry host t (num t 72 4)) F k)) y))

  pub places : (s : Site) → In s (sites t) → Sound t s × Placed s
  unfolding sites D E F
  places s i = go (in-append s D (E ++ F) i)
    where
      two : In s E ⊎ In s F → Sound t s × Placed s
      two (inl j) = owner-places s j
      two (inr j) = lists-places s j

      go : In s D ⊎ In s (E ++ F) → Sound t s × Placed s
      go (inl j) = driver-places s j
      go (inr j) = two (in-append s E F j)

-- ---- an accepted table

-- a required object takes heap bytes
some-heap : {p : ℕ} {need : List ℕ → Need} {content : Content} {rest : Refs} (t : List ℕ) (heap : Region) (a : ℕ)
    (v : Env) (img : List ℕ) (os : Slots (plain p need content rest))
    → need img ≡ Required
    → Fit v img os
    → At t heap a img os
    → 0 < heap.len
some-heap {p} t heap a v img (bytes x os) e f g = go x (rw e at f.0.need) (rw e at g.0)
  where
    go : (x : List ℕ) → T (Rattle.table.specs.Builder.fits_need Required x) → PlainAt t heap (a + p) x → 0 < heap.len
    go [] k y = absurd k
    go (c ∷ cs) k y = let u = y.1 in omega (arith, u.nonzero, u.from, u.upto)

owner-heap : (t : List ℕ) (heap : Region) (a : ℕ) (v : Env) (e : Entry host) → T (is_used e) → FitEntry v e → EntryAt t heap a e → 0 < heap.len
unfolding host
owner-heap t heap a v unused u f x = absurd u
owner-heap t heap a v (used img ss) u f x = some-heap t heap a v img ss refl f.objects x.1

some-tail : (n : ℕ) (r : Region) → 0 < n → cons_if (not (eqb n 0)) r [] ≡ r ∷ []
some-tail zero r h = absurd (omega arith)
some-tail (suc n) r h = rw (lib.Dec.eqb-suc-zero n) refl

module _ (t : List ℕ) (b : (i : ℕ) → get_or t i 0 < 256) (ok : check t ≡ done) (nov : T (not (overlapped t))) where
  pub passed : AllPass (tests t)
  unfolding check
  passed = all_pass (tests t) (unfold tests in tt) (first-both t b (first_fail (tests t)) (records t (meaning t)) ok).0

  pub filled : 0 < (heap_in t).len
  filled = let w = lawful t b ok in owner-heap t (heap_in t) (num t 72 4) (env (count_in (meaning t).lists) 0) (meaning t).owner w.present w.shapes.owned (stands t b ok).owner_at

  long : 160 ≤ length t
  unfolding tests
  long = leb→le 160 (length t) passed.0

  sized : num t 4 4 ≤ length t
  unfolding tests
  sized = leb→le (num t 4 4) (length t) (and_yes (leb 160 (num t 4 4)) _ passed.1.1.0).1

  csl : 64 ≤ num t 68 2
  unfolding tests
  csl =
      let k = passed.1.1.1.1.1.1.0 in
      let k₁ = (and_yes (eqb (get_or t 64 0) 1) _ k).1 in
      let k₂ = (and_yes (eqb (get_or t 65 0) 1) _ k₁).1 in
      leb→le 64 (num t 68 2) (and_yes (leb 64 (num t 68 2)) _ k₂).0

  owner-base : base_of host ≤ num t 76 2
  unfolding tests
  owner-base = leb→le (base_of host) (num t 76 2) (and_yes (leb (base_of host) (num t 76 2)) _ passed.1.1.1.1.1.1.1.0).0

  lists-long : T (long_enough list_kinds t 80)
  unfolding tests
  lists-long = (and_yes (long_enough list_kinds t 80) _ (and_yes (leb (base_of host) (num t 76 2)) _ passed.1.1.1.1.1.1.1.0).1).0

  all_in_lem : T (inside (64 + num t 68 2) (num t 4 4) (regions t)) × T (apart_each (regions t))
  unfolding tests
  all_in_lem = and_yes (inside (64 + num t 68 2) (num t 4 4) (regions t)) _ (and_yes (long_enough list_kinds t 80) _ (and_yes (leb (base_of host) (num t 76 2)) _ passed.1.1.1.1.1.1.1.0).1).1

  abbrev pub tail : List Region
  tail = heap_in t ∷ []

  abbrev pub O : Region
  O = region (num t 72 4) (num t 76 2)

  pub regs : regions t ≡ O ∷ list_regions list_kinds t 80 tail
  unfolding regions heap_in
  regs = ap (λ (r : List Region). region (num t 72 4) (num t 76 2) ∷ list_regions list_kinds t 80 r) (some-tail (num t 40 4) (region (num t 36 4) (num t 40 4)) filled)

  ins : T (inside (64 + num t 68 2) (num t 4 4) (O ∷ list_regions list_kinds t 80 tail))
  ins = rw regs at all_in_lem.0

  aps : T (apart_each (O ∷ list_regions list_kinds t 80 tail))
  aps = rw regs at all_in_lem.1

  ins₁ : T (inside (64 + num t 68 2) (num t 4 4) (list_regions list_kinds t 80 tail))
  ins₁ = (and_yes (leb (64 + num t 68 2) O.at && leb (O.at + O.len) (num t 4 4)) _ ins).1

  pub aps₁ : T (apart_each (list_regions list_kinds t 80 tail))
  aps₁ = (and_yes (apart_all O (list_regions list_kinds t 80 tail)) _ aps).1

  aps₀ : T (apart_all O (list_regions list_kinds t 80 tail))
  aps₀ = (and_yes (apart_all O (list_regions list_kinds t 80 tail)) _ aps).0

  pub heap-in : (128 ≤ (heap_in t).at) × ((heap_in t).at + (heap_in t).len ≤ length t)
  heap-in =
      let lo : ℕ = 64 + num t 68 2 in
      let k = inside-tail t (heap_in t ∷ []) lo (num t 4 4) list_kinds 80 ins₁ in
      let u = and_yes (leb lo (heap_in t).at) (leb ((heap_in t).at + (heap_in t).len) (num t 4 4)) (and_yes (leb lo (heap_in t).at && leb ((heap_in t).at + (heap_in t).len) (num t 4 4)) _ k).0 in
      (omega (arith, leb→le lo (heap_in t).at u.0, csl), omega (arith, leb→le ((heap_in t).at + (heap_in t).len) (num t 4 4) u.1, sized))

  pub zone-in : (z : Zone) → In z (zones t) → 0 < z.count → (128 ≤ z.at) × (z.at + z.count * z.step ≤ length t)
  zone-in z (inl e) h =
      let lo : ℕ = 64 + num t 68 2 in
      let u = and_yes (leb lo (num t 72 4)) (leb (num t 72 4 + num t 76 2) (num t 4 4)) (and_yes (leb lo (num t 72 4) && leb (num t 72 4 + num t 76 2) (num t 4 4)) _ ins).0 in
      rw e (omega (arith, leb→le lo (num t 72 4) u.0, csl), omega (arith, leb→le (num t 72 4 + num t 76 2) (num t 4 4) u.1, sized))
  zone-in z (inr i) h =
      let u = inside-each t tail (64 + num t 68 2) (num t 4 4) list_kinds 80 ins₁ z i h in
      (omega (arith, u.0, csl), omega (arith, u.1, sized))

  pub zone-long : (z : Zone) → In z (zones t) → 0 < z.count → base_of z.layout ≤ z.step
  zone-long z (inl e) h = rw e owner-base
  zone-long z (inr i) h = long-each t tail list_kinds 80 lists-long z i h

  zone-ok : (z : Zone) → In z (zones t) → OkLayout z.layout
  zone-ok z (inl e) = rw e ok-host
  zone-ok z (inr i) = ok-each t tail list_kinds 80 ok-lists z i

  one_apart : (x : Region) → T (apart_all x tail) → Apart x.at x.len (heap_in t).at (heap_in t).len
  one_apart x k = apart_of x.at x.len (heap_in t).at (heap_in t).len (and_yes (apart x (heap_in t)) _ k).0

  times-one : (x : ℕ) → x ≡ 1 * x
  times-one x = omega arith

  pub zone-heap : (z : Zone) → In z (zones t) → 0 < z.count → Apart z.at (z.count * z.step) (heap_in t).at (heap_in t).len
  zone-heap z (inl e) h = rw e (rw (sym (times-one (num t 76 2))) ((one_apart (region (num t 72 4) (num t 76 2)) (pair-tail t tail list_kinds 80 (region (num t 72 4) (num t 76 2)) aps₀))))
  zone-heap z (inr i) h = one_apart (region z.at (z.count * z.step)) (each_tail t tail list_kinds 80 aps₁ z i h)

  turn : (a n c m : ℕ) → Apart a n c m → Apart c m a n
  turn a n c m (inl e) = inr e
  turn a n c m (inr e) = inl e

  pub owner-apart : (z : Zone) → In z (zones_of list_kinds t 80) → 0 < z.count → Apart (num t 72 4) (1 * num t 76 2) z.at (z.count * z.step)
  owner-apart z i h = rw (sym (times-one (num t 76 2))) (pair-all t tail list_kinds 80 (region (num t 72 4) (num t 76 2)) aps₀ z i h)

  zone-pair : (y z : Zone) → In y (zones t) → In z (zones t) → 0 < y.count → 0 < z.count → (y ≡ z) ⊎ Apart y.at (y.count * y.step) z.at (z.count * z.step)
  zone-pair y z (inl e) (inl f) h g = inl (e ∙ sym f)
  zone-pair y z (inl e) (inr j) h g = inr (rw e (owner-apart z j g))
  zone-pair y z (inr i) (inl f) h g = inr (rw f (turn (num t 72 4) (1 * num t 76 2) y.at (y.count * y.step) (owner-apart y i h)))
  zone-pair y z (inr i) (inr j) h g = pair-each t tail list_kinds 80 aps₁ y z i j h g

  -- ---- the sites

  placed : (s : Site) → In s (sites t) → Sound t s × Placed t (meaning t) (lawful t b ok).shapes (stands t b ok) s
  placed s i = places t (meaning t) (lawful t b ok).shapes (stands t b ok) s i

  -- in the zone's bytes
  pub zone-place : (s : Site) (y : InZone (zones t) s) → (y.z.at ≤ s.at) × (s.at + 6 ≤ y.z.at + y.z.count * y.z.step)
  zone-place s y =
      let g = y.below in
      let h : 0 < y.z.count = omega arith in
      let k = ok_at 0 y.z.layout.shape.keep y.z.layout.refs y.p (zone-ok y.z y.known).refs_ok y.named in
      let l = zone-long y.z y.known h in
      (omega (arith, y.place), omega (arith, y.place, k.upto, l, stride y.i y.z.count y.z.step y.below))

  pub zone-out : (s : Site) (y : InZone (zones t) s) → (s.at + 6 ≤ (heap_in t).at) ⊎ ((heap_in t).at + (heap_in t).len ≤ s.at)
  zone-out s y = let g = y.below in go (zone-heap y.z y.known (omega arith))
    where
      go : Apart y.z.at (y.z.count * y.z.step) (heap_in t).at (heap_in t).len → (s.at + 6 ≤ (heap_in t).at) ⊎ ((heap_in t).at + (heap_in t).len ≤ s.at)
      go (inl e) = inl (omega (arith, (zone-place s y).1))
      go (inr e) = inr (omega (arith, (zone-place s y).0))

  heap-place : (s : Site) (y : InHeap (sites t) s) → ((heap_in t).at ≤ s.at) × (s.at + 6 ≤ (heap_in t).at + (heap_in t).len)
  heap-place s y =
      let k = (placed y.h y.known).0 in
      (omega (arith, y.place, k.from), omega (arith, y.place, k.upto, y.room))

  heads : (s : Site) → In s (sites t) → (s.at ≡ 44) ⊎ (128 ≤ s.at)
  heads s i = go (placed s i).1
    where
      go : (s.at ≡ 44) ⊎ (InZone (zones t) s ⊎ InHeap (sites t) s) → (s.at ≡ 44) ⊎ (128 ≤ s.at)
      go (inl e) = inl e
      go (inr (inl y)) = let g = y.below in inr (omega (arith, (zone-place s y).0, (zone-in y.z y.known (omega arith)).0))
      go (inr (inr y)) = inr (omega (arith, (heap-place s y).0, heap-in.0))

  pub clear : T (not (overlaps (sites t)))
  unfolding overlapped
  clear = nov

  insides : (x : Site) → In x (sites t) → (s : Site) → In s (sites t) → Aligned x.off x.len x.own s
  insides x i s j = go (placed s j).1
    where
      k : Sound t x
      k = (placed x i).0

      go : (s.at ≡ 44) ⊎ (InZone (zones t) s ⊎ InHeap (sites t) s) → Aligned x.off x.len x.own s
      go (inl e) = inl (omega (arith, k.from, heap-in.0))
      go (inr (inl y)) = two (zone-out s y)
        where
          two : (s.at + 6 ≤ (heap_in t).at) ⊎ ((heap_in t).at + (heap_in t).len ≤ s.at) → Aligned x.off x.len x.own s
          two (inl e) = inl (omega (arith, k.from))
          two (inr e) = inr (inl (omega (arith, k.upto)))
      go (inr (inr y)) = two (free (sites t) clear y.h x y.known i y.whole)
        where
          two : (y.h ≡ x) ⊎ Apart y.h.off y.h.len x.off x.len → Aligned x.off x.len x.own s
          two (inl e) = inr (inr (y.p, rw (sym e) y.named, y.place ∙ ap (λ (z : Site). z.off + y.p) e))
          two (inr (inl e)) = inl (omega (arith, y.place, y.room))
          two (inr (inr e)) = inr (inl (omega (arith, y.place)))

  -- record i of a zone
  outside : (z : Zone) → In z (zones t) → (i : ℕ) → i < z.count → Outside t z.layout (z.at + i * z.step)
  outside z known i below = record {
    high = omega (arith, bounds.0);
    room = omega (arith, bounds.1, far);
    apart = beside (zone-heap z known (omega arith));
    own = λ s m. own s (placed s m).1;
  }
    where
      bounds : (128 ≤ z.at) × (z.at + z.count * z.step ≤ length t)
      bounds = zone-in z known (omega arith)

      far : i * z.step + base_of z.layout ≤ z.count * z.step
      far = omega (arith, stride i z.count z.step below, zone-long z known (omega arith))

      beside : Apart z.at (z.count * z.step) (heap_in t).at (heap_in t).len → (z.at + i * z.step + base_of z.layout ≤ (heap_in t).at) ⊎ ((heap_in t).at + (heap_in t).len ≤ z.at + i * z.step)
      beside (inl e) = inl (omega (arith, far))
      beside (inr e) = inr (omega arith)

      own : (s : Site) → (s.at ≡ 44) ⊎ (InZone (zones t) s ⊎ InHeap (sites t) s) → Aligned (z.at + i * z.step) (base_of z.layout) z.layout.refs s
      own s (inl e) = inl (omega (arith, bounds.0))
      own s (inr (inr y)) = go (zone-heap z known (omega arith))
        where
          go : Apart z.at (z.count * z.step) (heap_in t).at (heap_in t).len → Aligned (z.at + i * z.step) (base_of z.layout) z.layout.refs s
          go (inl e) = inr (inl (omega (arith, far, (heap-place s y).0)))
          go (inr e) = inl (omega (arith, (heap-place s y).1))
      own s (inr (inl y)) = let g = y.below in go (zone-pair z y.z known y.known (omega arith) (omega arith))
        where
          short : y.p + 6 ≤ base_of y.z.layout
          short = (ok_at 0 y.z.layout.shape.keep y.z.layout.refs y.p (zone-ok y.z y.known).refs_ok y.named).upto

          same : z ≡ y.z → Dec (suc i ≤ y.i) → Dec (suc y.i ≤ i) → Aligned (z.at + i * z.step) (base_of z.layout) z.layout.refs s
          same e (yes c) d =
              let f : s.at ≡ z.at + y.i * z.step + y.p = y.place ∙ ap (λ (x : Zone). x.at + y.i * x.step + y.p) (sym e) in
              inr (inl (omega (arith, f, stride i y.i z.step c, zone-long z known (omega arith))))
          same e (no c) (yes d) =
              let f : s.at ≡ z.at + y.i * z.step + y.p = y.place ∙ ap (λ (x : Zone). x.at + y.i * x.step + y.p) (sym e) in
              let l : y.p + 6 ≤ base_of z.layout = rw e short in
              inl (omega (arith, f, stride y.i i z.step d, zone-long z known (omega arith), l))
          same e (no c) (no d) =
              let q : y.i ≡ i = omega arith in
              let f : s.at ≡ z.at + y.i * z.step + y.p = y.place ∙ ap (λ (x : Zone). x.at + y.i * x.step + y.p) (sym e) in
              inr (inr (y.p, rw e y.named, f ∙ ap (λ (n : ℕ). z.at + n * z.step + y.p) q))

          go : (z ≡ y.z) ⊎ Apart z.at (z.count * z.step) y.z.at (y.z.count * y.z.step) → Aligned (z.at + i * z.step) (base_of z.layout) z.layout.refs s
          go (inl e) = same e (dec_le (suc i) y.i) (dec_le (suc y.i) i)
          go (inr (inl e)) = inr (inl (omega (arith, far, (zone-place s y).0)))
          go (inr (inr e)) = inl (omega (arith, (zone-place s y).1))

  out-list : (z : Zone) → In z (zones t) → (k n : ℕ) → k + n ≡ z.count → OutsideList t z.layout (z.at + k * z.step) z.step n
  out-list z i k zero e = tt
  out-list z i k (suc n) e =
      let f : z.at + suc k * z.step ≡ z.at + k * z.step + z.step = rw (suc-mul k z.step) (omega arith) in
      (outside z i k (omega arith), rw f at (out-list z i (suc k) n (omega arith)))

  out-body : (ls : List Layout) (c : ℕ) → ((z : Zone) → In z (zones_of ls t c) → In z (zones t)) → OutsideBody t ls c
  out-body [] c f = tt
  out-body (l ∷ ls) c f =
      let z : Zone = zone (num t c 4) (num t (c + 4) 2) (get_or t (c + 7) 0) l in
      let e : num t c 4 + 0 * num t (c + 4) 2 ≡ num t c 4 = omega arith in
      (rw e at (out-list z (f z (inl refl)) 0 (get_or t (c + 7) 0) (omega arith)), out-body ls (c + 8) (λ y i. f y (inr i)))

  pub fenced : Fenced t
  fenced =
      let e : num t 72 4 + 0 * num t 76 2 ≡ num t 72 4 = omega arith in
      record {
        roomy = record {
          long = long;
          behind = omega (arith, heap-in.0);
          fits = heap-in.1;
          rooms = λ s i. omega (arith, holds-room t s.at (ref6 s.off s.len) (omega arith) (placed s i).0.ref);
        };
        behind = heap-in.0;
        small = unfold heap_in in (num-bound t b 40 4);
        sound = λ s i. (placed s i).0;
        head = heads;
        inside = insides;
        owner = rw e at (outside (zone (num t 72 4) (num t 76 2) 1 host) (inl refl) 0 (omega arith));
        lists = out-body list_kinds 80 (λ z i. inr i);
      }
