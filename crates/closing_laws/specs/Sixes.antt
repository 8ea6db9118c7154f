-- In an accepted table of which no heap record shares a byte with another site, the walk meets no reference twice: their six bytes are apart. Assumes nothing.
use Rattle.std.specs.Prelude.{◌≡◌, ◌⊎◌, Bool, not, drop, eqb}
use Rattle.std.proofs.Math.Path.{refl, ap, ap₂}
use Rattle.std.proofs.Common.{◌∙◌, arith, lit<}
use Rattle.std.proofs.Math.Logic.{inl, inr}
use Rattle.std.proofs.Math.Bool.{true, false}
use mathlib.Core.List.{List, [], ◌∷◌, ◌++◌}
use Prim.Native.Nat.{ℕ, suc, ◌+◌, ◌*◌, ◌≤◌, ◌<◌}
use Rattle.std.proofs.Math.Nat.{suc-mul}
use Rattle.std.proofs.Math.ListN.{length, get_or}
use Rattle.std.proofs.Math.Dec.{T}
use Rattle.std.proofs.Math.Facts.{and_yes, eqb_no, or_no}
use Rattle.table.specs.declared.Need.{Need}
use Rattle.table.specs.declared.Need.TheVariants.{Ignored, Optional, Required}
use Rattle.table.specs.Bytes.{num, pick}
use Rattle.table.specs.Layout.{Body, Entry, Env, Keep, Layout, Refs, Slots, base_of, bytes, env, gone, image, is_valid, more, nil, none, offsets, rec, region, stop, unused, used}
use Rattle.table.specs.FixedLayouts.{header, host, list_kinds}
use Rattle.table.specs.Objects.{count_in, under}
use Rattle.table.specs.Rules.{apart_each, done, list_regions}
use Rattle.table.specs.Meaning.{meaning}
use Rattle.table.specs.Numbers.{check, heap_in}
use Rattle.laws.specs.Lawful.{Fit, FitBody, FitEntry, FitList, Shaped, all_ok, ok_layout, ok_refs}
use Rattle.laws.specs.ByteLaws.{pick_no, pick_yes}
use Rattle.laws.specs.ListLaws.{OkLayout, ok-layout}
use Rattle.laws.specs.SlotLaws.{nest-next, nest-own, plain-next}
use Rattle.laws.specs.Standing.{At, BodyAt, EntryAt, ListAt, Stands}
use Rattle.laws.specs.FormLaws.{ok_header, ok-host, ok-lists}
use Rattle.laws.specs.AcceptedMeaning.{lawful, stands}
use Rattle.table.specs.Closing.{Site, clash, clashes, overlapped, overlaps, site, site_at, sites, sites_body, sites_entry, sites_list, sites_of}
use Rattle.closing_laws.specs.Members.{In, Sub, in-append, in_left, in_right, neither}
use Rattle.closing_laws.specs.MoveLaws.{ref-len, ref-off}
use Rattle.closing_laws.specs.Carrying.{Sound, ok_at}
use Rattle.closing_laws.specs.Places.{Apart, Lies, clash-free, counted, flip, lies}
use Rattle.closing_laws.specs.Zones.{
  InHeap,
  InZone,
  Zone,
  body-places,
  entry-places,
  head-all,
  in-wider,
  list-places,
  of-lies,
  pair-all,
  rest-each,
  stride,
  zone,
  zones,
  zones_of,
}
use Rattle.closing_laws.specs.Fencing.{aps₁, clear, fenced, heap-in, owner-apart, zone-heap, zone-in, zone-long, zone-out, zone-place}

-- the six bytes of two references are apart
abbrev pub Sixes : Site → Site → Type 0
Sixes x y = (x.at + 6 ≤ y.at) ⊎ (y.at + 6 ≤ x.at)

-- each is apart from all behind it
abbrev pub EachApart : List Site → Type 0
EachApart [] = Unit {0}
EachApart (x ∷ xs) = ((y : Site) → In y xs → Sixes x y) × EachApart xs

append-apart : (xs ys : List Site) → EachApart xs → EachApart ys → ((x y : Site) → In x xs → In y ys → Sixes x y) → EachApart (xs ++ ys)
append-apart [] ys a b f = b
append-apart (z ∷ zs) ys a b f = (λ y i. go y (in-append y zs ys i), append-apart zs ys a.1 b (λ x y i j. f x y (inr i) j))
  where
    go : (y : Site) → In y zs ⊎ In y ys → Sixes z y
    go y (inl i) = a.0 y i
    go y (inr j) = f z y (inl refl) j

-- ---- no clash in an append is none in either part, nor across

clash-left : (x : Site) (ys zs : List Site) → T (not (clashes x (ys ++ zs))) → T (not (clashes x ys))
clash-left x [] zs k = tt
clash-left x (y ∷ ys) zs k = let u = or_no (clash x y) (clashes x (ys ++ zs)) k in neither (clash x y) (clashes x ys) u.0 (clash-left x ys zs u.1)

clear-left : (xs ys : List Site) → T (not (overlaps (xs ++ ys))) → T (not (overlaps xs))
clear-left [] ys k = tt
clear-left (x ∷ xs) ys k = let u = or_no (clashes x (xs ++ ys)) (overlaps (xs ++ ys)) k in neither (clashes x xs) (overlaps xs) (clash-left x xs ys u.0) (clear-left xs ys u.1)

clear-right : (xs ys : List Site) → T (not (overlaps (xs ++ ys))) → T (not (overlaps ys))
clear-right [] ys k = k
clear-right (x ∷ xs) ys k = clear-right xs ys (or_no (clashes x (xs ++ ys)) (overlaps (xs ++ ys)) k).1

across : (xs ys : List Site) → T (not (overlaps (xs ++ ys))) → (x y : Site) → In x xs → In y ys → x.whole ≡ true → Apart x.off x.len y.off y.len
across [] ys k x y i j w = absurd i
across (z ∷ zs) ys k x y (inl e) j w = rw e (clash-free z (zs ++ ys) y (or_no (clashes z (zs ++ ys)) (overlaps (zs ++ ys)) k).0 (in_right y zs ys j) (inl (rw e at w)))
across (z ∷ zs) ys k x y (inr i) j w = across zs ys (or_no (clashes z (zs ++ ys)) (overlaps (zs ++ ys)) k).1 x y i j w

-- ---- what stands inside of two stretches that are apart is apart

within : (a n b m c k d l : ℕ) → Apart a n b m → a ≤ c → c + k ≤ a + n → b ≤ d → d + l ≤ b + m → Apart c k d l
within a n b m c k d l (inl e) p q r s = inl (omega arith)
within a n b m c k d l (inr e) p q r s = inr (omega arith)

-- the six bytes at r are apart from each heap record that ss name
abbrev Clear : ℕ → List Site → Type 0
Clear r ss = (h : Site) → In h ss → h.whole ≡ true → Apart r 6 h.off h.len

-- and so from each reference in one of them
beside : (r : ℕ) (x y : Site) (ss : List Site) → x.at ≡ r → Clear r ss → InHeap ss y → Sixes x y
beside r x y ss e c k =
    within r 6 k.h.off k.h.len x.at 6 y.at 6 (c k.h k.known k.whole) (omega arith) (omega arith) (omega (arith, k.place)) (omega (arith, k.place, k.room))

-- of two lists without a clash, one in a heap record of the first and one in a heap record of the second
between : (x y : Site) (xs ys : List Site) → T (not (overlaps (xs ++ ys))) → InHeap xs x → InHeap ys y → Sixes x y
between x y xs ys k i j =
    within i.h.off i.h.len j.h.off j.h.len x.at 6 y.at 6 (across xs ys k i.h j.h i.known j.known i.whole)
    (omega (arith, i.place)) (omega (arith, i.place, i.room)) (omega (arith, j.place)) (omega (arith, j.place, j.room))

-- ---- one record

-- what holds of the sites behind a reference, and of those with it and its own in front if it is there, holds of all
with-ref : (P : List Site → Type 0) (n : Need) (t : List ℕ) (r : ℕ) (w : Bool) (rs : Refs) (inner rest : List Site) → P rest
    → (T (not (eqb (num t (r + 4) 2) 0)) → (n ≡ Ignored → ⊥) → P (site r (num t r 4) (num t (r + 4) 2) w rs ∷ (inner ++ rest))) → P (under n rest (site_at t r w rs inner rest))
with-ref P n t r w rs inner rest a f = need n f
  where
    x : Site
    x = site r (num t r 4) (num t (r + 4) 2) w rs

    go : (c : Bool) → eqb (num t (r + 4) 2) 0 ≡ c → (T (not (eqb (num t (r + 4) 2) 0)) → P (x ∷ (inner ++ rest))) → P (pick c rest (x ∷ (inner ++ rest)))
    go true e g = a
    go false e g = g (rw e tt)

    need : (m : Need) → (T (not (eqb (num t (r + 4) 2) 0)) → (m ≡ Ignored → ⊥) → P (x ∷ (inner ++ rest))) → P (under m rest (site_at t r w rs inner rest))
    need Ignored g = a
    need Optional g = go (eqb (num t (r + 4) 2) 0) refl (λ k. g k (λ q. let z : ◌≡◌ {A = ℕ} 0 1 = cc in omega arith))
    need Required g = go (eqb (num t (r + 4) 2) 0) refl (λ k. g k (λ q. let z : ◌≡◌ {A = ℕ} 0 1 = cc in omega arith))

-- the references ps of the record at a are apart from the heap records that ss name
abbrev Free : ℕ → List ℕ → List Site → Type 0
Free a ps ss = (p : ℕ) → In p ps → Clear (a + p) ss

module _ (t : List ℕ) where
  -- the reference w at p, the sites in what it names, and those of the references behind it
  front : {rest : Refs} (ks : List Keep) (p a : ℕ) (v : Env) (img : List ℕ) (os : Slots rest) → T (ok_refs (p + 6) ks rest) → Fit v img os → At t (heap_in t) a img os
      → (w : Site) (inner : List Site) → w.at ≡ a + p → ((c : ℕ) → In c (offsets w.own) → (w.whole ≡ true) × (c + 6 ≤ w.len))
      → ((s : Site) → In s inner → Lies t w.off w.own inner s)
      → (T (not (overlaps inner)) → Free w.off (offsets w.own) inner → EachApart inner)
      → (T (not (overlaps (sites_of t a img rest))) → Free a (offsets rest) (sites_of t a img rest) → EachApart (sites_of t a img rest))
      → T (not (overlaps (w ∷ (inner ++ sites_of t a img rest)))) → Free a (p ∷ offsets rest) (w ∷ (inner ++ sites_of t a img rest)) → EachApart (w ∷ (inner ++ sites_of t a img rest))
  front {rest} ks p a v img os o f x w inner at room deep first later k free = (
    λ y i. ahead y (in-append y inner L i),
    append-apart inner L (first (clear-left inner L u.1) own-free) rest-apart (λ y z i j. cross y z (held y i) (found z j)),
  )
    where
      L : List Site
      L = sites_of t a img rest

      u : T (not (clashes w (inner ++ L))) × T (not (overlaps (inner ++ L)))
      u = or_no (clashes w (inner ++ L)) (overlaps (inner ++ L)) k

      rest-apart : EachApart L
      rest-apart = later (clear-right inner L u.1) (λ c i h j. free c (inr i) h (inr (in_right h inner L j)))

      -- the heap record itself is apart from those that are found in it, for its own site stands in front of theirs
      own-free : Free w.off (offsets w.own) inner
      own-free c i h j e =
          let r = room c i in
          within w.off w.len h.off h.len (w.off + c) 6 h.off h.len (clash-free w (inner ++ L) h u.0 (in_left h inner L j) (inl r.0))
          (omega arith) (omega (arith, r.1)) (omega arith) (omega arith)

      held : (s : Site) → In s inner → InHeap (w ∷ inner) s
      held s i = go (deep s i)
        where
          go : Lies t w.off w.own inner s → InHeap (w ∷ inner) s
          go (inl y) = let r = room y.0 y.1 in record { h = w; known = inl refl; whole = r.0; p = y.0; named = y.1; place = y.2; room = r.1 }
          go (inr y) = record { h = y.0; known = inr y.1; whole = y.2; p = y.3.0; named = y.3.1; place = y.3.2; room = y.3.3 }

      found : (s : Site) → In s L → ((c : ℕ) × In c (offsets rest) × (s.at ≡ a + c)) ⊎ InHeap L s
      found s i = of-lies t L a rest s (lies t ks (p + 6) a v img os o f x s i).1

      -- from the reference at c of the record, the heap records at the front are apart
      near : (c : ℕ) → In c (p ∷ offsets rest) → Clear (a + c) (w ∷ inner)
      near c i h (inl e) b = free c i h (inl e) b
      near c i h (inr j) b = free c i h (inr (in_left h inner L j)) b

      cross : (y z : Site) → InHeap (w ∷ inner) y → ((c : ℕ) × In c (offsets rest) × (z.at ≡ a + c)) ⊎ InHeap L z → Sixes y z
      cross y z i (inl j) = flip z.at 6 y.at 6 (beside (a + j.0) z y (w ∷ inner) j.2 (near j.0 (inr j.1)) i)
      cross y z i (inr j) = between y z (w ∷ inner) L k i j

      ahead : (y : Site) → In y inner ⊎ In y L → Sixes w y
      ahead y (inl i) = beside (a + p) w y (w ∷ inner) at (near p (inl refl)) (held y i)
      ahead y (inr i) = go (found y i)
        where
          go : ((c : ℕ) × In c (offsets rest) × (y.at ≡ a + c)) ⊎ InHeap L y → Sixes w y
          go (inl j) = inl (omega (arith, at, j.2, (ok_at (p + 6) ks rest j.0 o j.1).from))
          go (inr j) = beside (a + p) w y L at (λ h i. free p (inl refl) h (inr (in_right h inner L i))) j

  -- the sites of the record at a are apart, if the heap records that they name are apart from its references and from each other
  record_apart : {rs : Refs} (ks : List Keep) (q a : ℕ) (v : Env) (img : List ℕ) (os : Slots rs) → T (ok_refs q ks rs) → Fit v img os → At t (heap_in t) a img os
      → T (not (overlaps (sites_of t a img rs))) → Free a (offsets rs) (sites_of t a img rs) → EachApart (sites_of t a img rs)
  unfolding sites_of
  record_apart ks q a v img nil o f x = λ k free. tt
  record_apart ks q a v img (bytes {p = p} {need = need} {content = content} {rest = rest} b os) o f x =
      let n = plain-next q p ks need content rest o in
      let later = record_apart ks (p + 6) a v img os n f.1 x.1 in
      with-ref (λ (ss : List Site). T (not (overlaps ss)) → Free a (p ∷ offsets rest) ss → EachApart ss) (need img) t (a + p) false none [] (sites_of t a img rest)
      (λ k free. later k (λ c i. free c (inr i)))
      (λ here counts. front ks p a v img os n f.1 x.1 (site (a + p) (num t (a + p) 4) (num t (a + p + 4) 2) false none) [] refl (λ c i. absurd i) (λ s i. absurd i) (λ k free. tt) later)
  record_apart ks q a v img (gone {p = p} {need = need} {shape = shape} {own = own} {rest = rest} os) o f x =
      let later = record_apart ks (p + 6) a v img os (nest-next q p ks need shape own rest o) f.1 x.1 in
      let b : ℕ = num t (a + p) 4 in
      with-ref (λ (ss : List Site). T (not (overlaps ss)) → Free a (p ∷ offsets rest) ss → EachApart ss) (need img) t (a + p) true own
      (sites_of t b (image shape.keep (drop b t)) own) (sites_of t a img rest)
      (λ k free. later k (λ c i. free c (inr i)))
      (λ here counts. absurd (eqb_no {a = num t (a + p + 4) 2} {b = 0} here (ref-len t (a + p) 0 0 (lit< tt) (counted (need img) counts x.0))))
  record_apart ks q a v img (rec {p = p} {need = need} {shape = shape} {own = own} {rest = rest} img' own' os) o f x =
      let off : ℕ = x.0.0 in
      let len : ℕ = x.0.1 in
      let y = x.0.2 in
      let b : ℕ = num t (a + p) 4 in
      let n = nest-next q p ks need shape own rest o in
      let on = nest-own q p ks need shape own rest o in
      let inner : List Site = sites_of t b (image shape.keep (drop b t)) own in
      let e₀ : b ≡ off = ref-off t (a + p) off len y.small y.ref in
      let e₁ : image shape.keep (drop b t) ≡ img' = ap (λ (m : ℕ). image shape.keep (drop m t)) e₀ ∙ x.0.4 in
      let e₂ : inner ≡ sites_of t off img' own = ap₂ (λ (m : ℕ) (z : List ℕ). sites_of t m z own) e₀ e₁ in
      let e₃ : num t (a + p + 4) 2 ≡ len = ref-len t (a + p) off len y.short y.ref in
      let later = record_apart ks (p + 6) a v img os n f.2 x.1 in
      let first = record_apart shape.keep 0 off v img' own' on.refs f.1 x.0.5 in
      with-ref (λ (ss : List Site). T (not (overlaps ss)) → Free a (p ∷ offsets rest) ss → EachApart ss) (need img) t (a + p) true own inner (sites_of t a img rest)
      (λ k free. later k (λ c i. free c (inr i)))
      (λ here counts. front ks p a v img os n f.2 x.1 (site (a + p) b (num t (a + p + 4) 2) true own) inner refl
      (λ c i. (refl, omega (arith, x.0.3, e₃, (ok_at 0 shape.keep own c on.refs i).upto)))
      (λ s i. rw (e₂, e₀) (lies t shape.keep 0 off v img' own' on.refs f.1 x.0.5 s (rw e₂ at i)).1)
      (rw (e₂, e₀) first) later)

-- ---- records outside the heap

-- the six bytes of s are among the n at a
abbrev Among : ℕ → ℕ → Site → Type 0
Among a n s = (a ≤ s.at) × (s.at + 6 ≤ a + n)

module _ (t : List ℕ) where
  -- n bytes at a are apart from the heap
  abbrev Out : ℕ → ℕ → Type 0
  Out a n = Apart a n (heap_in t).at (heap_in t).len

  out-clear : (r : ℕ) (ss : List Site) → Out r 6 → ((h : Site) → In h ss → Sound t h) → Clear r ss
  out-clear r ss o f h i w = let k = f h i in within r 6 (heap_in t).at (heap_in t).len r 6 h.off h.len o (omega arith) (omega arith) k.from k.upto

  -- each of ss is sound, and stands as D says or in a heap record that one of them names
  abbrev Kept : (Site → Type 0) → List Site → Type 0
  Kept D ss = (s : Site) → In s ss → Sound t s × (D s ⊎ InHeap ss s)

  kept_append : (D E G : Site → Type 0) (xs ys : List Site) → Kept D xs → Kept E ys → ((s : Site) → D s → G s) → ((s : Site) → E s → G s) → Kept G (xs ++ ys)
  kept_append D E G xs ys f g a b s i = go (in-append s xs ys i)
    where
      left : D s ⊎ InHeap xs s → G s ⊎ InHeap (xs ++ ys) s
      left (inl d) = inl (a s d)
      left (inr k) = inr (in-wider t xs (xs ++ ys) s (λ z j. in_left z xs ys j) k)

      right : E s ⊎ InHeap ys s → G s ⊎ InHeap (xs ++ ys) s
      right (inl e) = inl (b s e)
      right (inr k) = inr (in-wider t ys (xs ++ ys) s (λ z j. in_right z xs ys j) k)

      go : In s xs ⊎ In s ys → Sound t s × (G s ⊎ InHeap (xs ++ ys) s)
      go (inl j) = let y = f s j in (y.0, left y.1)
      go (inr j) = let y = g s j in (y.0, right y.1)

  -- the sites of two stretches outside the heap
  join : (D E : Site → Type 0) (xs ys : List Site) → T (not (overlaps (xs ++ ys))) → Kept D xs → Kept E ys → ((s : Site) → D s → Out s.at 6) → ((s : Site) → E s → Out s.at 6)
      → ((x y : Site) → D x → E y → Sixes x y) → EachApart xs → EachApart ys → EachApart (xs ++ ys)
  join D E xs ys k f g p q c a b = append-apart xs ys a b (λ x y i j. go x y (f x i).1 (g y j).1)
    where
      go : (x y : Site) → D x ⊎ InHeap xs x → E y ⊎ InHeap ys y → Sixes x y
      go x y (inl i) (inl j) = c x y i j
      go x y (inl i) (inr j) = beside x.at x y ys refl (out-clear x.at ys (p x i) (λ h m. (g h m).0)) j
      go x y (inr i) (inl j) = flip y.at 6 x.at 6 (beside y.at y x xs refl (out-clear y.at xs (q y j) (λ h m. (f h m).0)) i)
      go x y (inr i) (inr j) = between x y xs ys k i j

  out-among : (a n : ℕ) → Out a n → (s : Site) → Among a n s → Out s.at 6
  out-among a n o s i = within a n (heap_in t).at (heap_in t).len s.at 6 (heap_in t).at (heap_in t).len o i.0 i.1 (omega arith) (omega arith)

  -- a record outside the heap
  out-free : {rs : Refs} (ks : List Keep) (a : ℕ) (v : Env) (img : List ℕ) (os : Slots rs) → T (ok_refs 0 ks rs) → Fit v img os → At t (heap_in t) a img os
      → Out a (length ks) → Free a (offsets rs) (sites_of t a img rs)
  out-free {rs} ks a v img os o f x far p i =
      out-clear (a + p) (sites_of t a img rs)
      (within a (length ks) (heap_in t).at (heap_in t).len (a + p) 6 (heap_in t).at (heap_in t).len far (omega arith) (omega (arith, (ok_at 0 ks rs p o i).upto)) (omega arith) (omega arith))
      (λ h j. (lies t ks 0 a v img os o f x h j).0)

  module _ (l : Layout) (o : OkLayout l) where
    entry_kept : (a : ℕ) (v : Env) (e : Entry l) → FitEntry v e → EntryAt t (heap_in t) a e → Kept (Among a (base_of l)) (sites_entry l t a)
    entry_kept a v e f x s i = let y = entry-places t l o a v e f x s i in (y.0, go (of-lies t (sites_entry l t a) a l.refs s y.1))
      where
        go : ((p : ℕ) × In p (offsets l.refs) × (s.at ≡ a + p)) ⊎ InHeap (sites_entry l t a) s → Among a (base_of l) s ⊎ InHeap (sites_entry l t a) s
        go (inl y) = inl (omega (arith, y.2), omega (arith, y.2, (ok_at 0 l.shape.keep l.refs y.0 o.refs_ok y.1).upto))
        go (inr y) = inr y

    entry-apart : (a : ℕ) (v : Env) (e : Entry l) → FitEntry v e → EntryAt t (heap_in t) a e → Out a (base_of l) → T (not (overlaps (sites_entry l t a))) → EachApart (sites_entry l t a)
    unfolding sites_entry
    entry-apart a v unused f x far k =
        let e : sites_entry l t a ≡ [] = pick_no (is_valid l.shape (image l.shape.keep (drop a t))) _ _ x in
        rw e tt
    entry-apart a v (used img ss) f x far k =
        let e : image l.shape.keep (drop a t) ≡ img = x.0 in
        let d : sites_entry l t a ≡ sites_of t a img l.refs =
        pick_yes (is_valid l.shape (image l.shape.keep (drop a t))) _ _ (rw e f.valid) ∙ ap (λ (y : List ℕ). sites_of t a y l.refs) e in
        rw d (record_apart t l.shape.keep 0 a v img ss o.refs_ok f.objects x.1 (rw d at k) (out-free l.shape.keep a v img ss o.refs_ok f.objects x.1 far))

    list-kept : (count : ℕ → ℕ) (a step n pos : ℕ) (es : List (Entry l)) → n ≡ length es → (0 < n → base_of l ≤ step) → FitList count pos es → ListAt t (heap_in t) a step es
        → Kept (λ (s : Site). (0 < n) × Among a (n * step) s) (sites_list l t a step n)
    list-kept count a step n pos es e long f x s i = let y = list-places t l o count a step pos es f x s (rw e at i) in (y.0, go y.1)
      where
        go : ((i : ℕ) × (i < length es) × ((p : ℕ) × In p (offsets l.refs) × (s.at ≡ a + i * step + p))) ⊎ InHeap (sites_list l t a step (length es)) s
            → ((0 < n) × Among a (n * step) s) ⊎ InHeap (sites_list l t a step n) s
        go (inl y) =
            let h : 0 < n = omega (arith, y.1, e) in
            let k = ok_at 0 l.shape.keep l.refs y.2.0 o.refs_ok y.2.1 in
            inl (h, (omega (arith, y.2.2), omega (arith, y.2.2, k.upto, long h, stride y.0 n step (omega (arith, y.1, e)))))
        go (inr y) = inr (rw e y)

    list-apart : (count : ℕ → ℕ) (a step pos : ℕ) (es : List (Entry l)) → FitList count pos es → ListAt t (heap_in t) a step es
        → (0 < length es → (base_of l ≤ step) × Out a (length es * step)) → T (not (overlaps (sites_list l t a step (length es)))) → EachApart (sites_list l t a step (length es))
    unfolding sites_list
    list-apart count a step pos [] f x far k = tt
    list-apart count a step pos (e ∷ es) f x far k =
        let r = far (omega arith) in
        let long = r.0 in
        let m : suc (length es) * step ≡ length es * step + step = suc-mul (length es) step in
        let xs : List Site = sites_entry l t a in
        let ys : List Site = sites_list l t (a + step) step (length es) in
        let here : Out a (base_of l) = within a (suc (length es) * step) (heap_in t).at (heap_in t).len a (base_of l) (heap_in t).at (heap_in t).len r.1
        (omega arith) (omega (arith, m)) (omega arith) (omega arith) in
        let there : Out (a + step) (length es * step) = within a (suc (length es) * step) (heap_in t).at (heap_in t).len (a + step) (length es * step) (heap_in t).at (heap_in t).len r.1
        (omega arith) (omega (arith, m)) (omega arith) (omega arith) in
        join (Among a (base_of l)) (λ (s : Site). (0 < length es) × Among (a + step) (length es * step) s) xs ys k (entry_kept a (env count pos) e f.0 x.0)
        (list-kept count (a + step) step (length es) (suc pos) es refl (λ h. long) f.1 x.1)
        (out-among a (base_of l) here) (λ s i. out-among (a + step) (length es * step) there s i.1)
        (λ c d i j. inl (omega (arith, i.1, j.1.0, long)))
        (entry-apart a (env count pos) e f.0 x.0 here (clear-left xs ys k))
        (list-apart count (a + step) step (suc pos) es f.1 x.1 (λ h. (long, there)) (clear-right xs ys k))

-- ---- all records

abbrev in-zones : (ys zs : List Zone) (s : Site) → Sub ys zs → InZone ys s → InZone zs s
in-zones ys zs s f x = record { z = x.z; known = f x.z x.known; i = x.i; below = x.below; p = x.p; named = x.named; place = x.place }

module _ (t : List ℕ) (b : (i : ℕ) → get_or t i 0 < 256) (ok : check t ≡ done) (nov : T (not (overlapped t))) where
  -- the sites xs of one stretch, and ys of the zones zs
  join-zones : (D : Site → Type 0) (zs : List Zone) (xs ys : List Site) → Sub zs (zones t) → T (not (overlaps (xs ++ ys))) → Kept t D xs → Kept t (InZone zs) ys
      → ((s : Site) → D s → Out t s.at 6) → ((s : Site) → D s → (z : Zone) → In z zs → 0 < z.count → Apart s.at 6 z.at (z.count * z.step))
      → EachApart xs → EachApart ys → EachApart (xs ++ ys)
  join-zones D zs xs ys sub k f g p c =
      join t D (InZone zs) xs ys k f g p (λ s y. zone-out t b ok nov s (in-zones zs (zones t) s sub y))
      (λ x y d e.
      let u = zone-place t b ok nov y (in-zones zs (zones t) y sub e) in
      within x.at 6 e.z.at (e.z.count * e.z.step) x.at 6 y.at 6 (c x d e.z e.known (omega (arith, e.below))) (omega arith) (omega arith) u.0 u.1)

  body-apart : {ls : List Layout} → T (all_ok ls) → (count : ℕ → ℕ) (c : ℕ) (bs : Body ls) → FitBody count bs → BodyAt t (heap_in t) c bs → Sub (zones_of ls t c) (zones t)
      → T (apart_each (list_regions ls t c (heap_in t ∷ []))) → T (not (overlaps (sites_body ls t c))) → EachApart (sites_body ls t c)
  unfolding sites_body
  body-apart o count c stop f x sub r k = tt
  body-apart o count c (more {l = l} {ls = ls} es rest) f x sub r k =
      let a : ℕ = num t c 4 in
      let step : ℕ = num t (c + 4) 2 in
      let n : ℕ = get_or t (c + 7) 0 in
      let z : Zone = zone a step n l in
      let known : In z (zones t) = sub z (inl refl) in
      let u = and_yes (ok_layout l) (all_ok ls) o in
      let lay = ok-layout l u.0 in
      let xs : List Site = sites_list l t a step n in
      let ys : List Site = sites_body ls t (c + 8) in
      let e : n ≡ length es = x.0 in
      let behind : Sub (zones_of ls t (c + 8)) (zones t) = λ y i. sub y (inr i) in
      let room : 0 < length es → (base_of l ≤ step) × Out t a (length es * step) = λ h.
      let h' : 0 < n = omega (arith, e) in
      (zone-long t b ok nov z known h', rw e at (zone-heap t b ok nov z known h')) in
      let k₀ : T (not (overlaps (sites_list l t a step (length es)))) = rw e at (clear-left xs ys k) in
      join-zones (λ (s : Site). (0 < n) × Among a (n * step) s) (zones_of ls t (c + 8)) xs ys behind k
      (list-kept t l lay count a step n 1 es e (zone-long t b ok nov z known) f.0 x.1)
      (body-places t u.1 count (c + 8) rest f.2 x.2)
      (λ s i. out-among t a (n * step) (zone-heap t b ok nov z known i.0) s i.1)
      (λ s i y j h.
      within a (n * step) y.at (y.count * y.step) s.at 6 y.at (y.count * y.step)
      (pair-all t (heap_in t ∷ []) ls (c + 8) (region a (n * step)) (head-all t (heap_in t ∷ []) l ls c i.0 r) y j h)
      i.1.0 i.1.1 (omega arith) (omega arith))
      (rw e (list-apart t l lay count a step 1 es f.0 x.1 room k₀))
      (body-apart u.1 count (c + 8) rest f.2 x.2 behind (rest-each t (heap_in t ∷ []) l ls c r) (clear-right xs ys k))

  driver_sites : List Site
  driver_sites = sites_of t 0 [] header.refs

  owner_sites : List Site
  owner_sites = sites_entry host t (num t 72 4)

  list_sites : List Site
  list_sites = sites_body list_kinds t 80

  no-clash : T (not (overlaps (driver_sites ++ (owner_sites ++ list_sites))))
  unfolding sites driver_sites owner_sites list_sites
  no-clash = clear t b ok nov

  -- behind the header, and apart from the heap
  abbrev Behind : Site → Type 0
  Behind s = (128 ≤ s.at) × Out t s.at 6

  shapes : Shaped (meaning t)
  shapes = (lawful t b ok).shapes

  standing : Stands t (meaning t)
  standing = stands t b ok

  abbrev about : Env
  about = env (count_in (meaning t).lists) 0

  header-out : (r : ℕ) → r ≡ 44 → Out t r 6
  header-out r e = inl (omega (arith, (heap-in t b ok nov).0))

  header_at : (p : ℕ) → In p (offsets header.refs) → p ≡ 44
  unfolding header
  header_at p (inl e) = e
  header_at p (inr i) = absurd i

  header-kept : Kept t (λ (s : Site). s.at ≡ 44) driver_sites
  unfolding driver_sites
  header-kept s i =
      let y = lies t header.shape.keep 0 0 about [] (meaning t).driver ok_header.refs_ok shapes.signed standing.driver_at s i in
      (y.0, go (of-lies t driver_sites 0 header.refs s y.1))
    where
      go : ((p : ℕ) × In p (offsets header.refs) × (s.at ≡ 0 + p)) ⊎ InHeap driver_sites s → (s.at ≡ 44) ⊎ InHeap driver_sites s
      go (inl y) = inl (omega (arith, y.2, header_at y.0 y.1))
      go (inr y) = inr y

  header-apart : EachApart driver_sites
  unfolding driver_sites
  header-apart =
      record_apart t header.shape.keep 0 0 about [] (meaning t).driver ok_header.refs_ok shapes.signed standing.driver_at
      (clear-left driver_sites (owner_sites ++ list_sites) no-clash)
      (λ p i. out-clear t (0 + p) driver_sites (header-out (0 + p) (omega (arith, header_at p i))) (λ h j. (header-kept h j).0))

  owner-kept : Kept t (Among (num t 72 4) (base_of host)) owner_sites
  unfolding owner_sites
  owner-kept = entry_kept t host ok-host (num t 72 4) about (meaning t).owner shapes.owned standing.owner_at

  lists-kept : Kept t (InZone (zones_of list_kinds t 80)) list_sites
  unfolding list_sites
  lists-kept = body-places t ok-lists (count_in (meaning t).lists) 80 (meaning t).lists shapes.listed standing.lists_at

  owner-out : Out t (num t 72 4) (base_of host)
  owner-out = (fenced t b ok nov).owner.apart

  sub : Sub (zones_of list_kinds t 80) (zones t)
  sub z i = inr i

  records-apart : EachApart (owner_sites ++ list_sites)
  unfolding owner_sites list_sites
  records-apart =
      let k = clear-right driver_sites (owner_sites ++ list_sites) no-clash in
      join-zones (Among (num t 72 4) (base_of host)) (zones_of list_kinds t 80) owner_sites list_sites sub k owner-kept lists-kept (out-among t (num t 72 4) (base_of host) owner-out)
      (λ s i z j h.
      within (num t 72 4) (1 * num t 76 2) z.at (z.count * z.step) s.at 6 z.at (z.count * z.step) (owner-apart t b ok nov z j h)
      i.0 (omega (arith, i.1, zone-long t b ok nov (zone (num t 72 4) (num t 76 2) 1 host) (inl refl) (omega arith))) (omega arith) (omega arith))
      (entry-apart t host ok-host (num t 72 4) about (meaning t).owner shapes.owned standing.owner_at owner-out (clear-left owner_sites list_sites k))
      (body-apart ok-lists (count_in (meaning t).lists) 80 (meaning t).lists shapes.listed standing.lists_at sub (aps₁ t b ok nov) (clear-right owner_sites list_sites k))

  records-kept : Kept t Behind (owner_sites ++ list_sites)
  records-kept =
      kept_append t (Among (num t 72 4) (base_of host)) (InZone (zones_of list_kinds t 80)) Behind owner_sites list_sites owner-kept lists-kept
      (λ s i. (omega (arith, i.0, (fenced t b ok nov).owner.high), out-among t (num t 72 4) (base_of host) owner-out s i))
      (λ s i. let y = in-zones (zones_of list_kinds t 80) (zones t) s sub i in
      (omega (arith, (zone-place t b ok nov s y).0, (zone-in t b ok nov y.z y.known (omega (arith, y.below))).0), zone-out t b ok nov s y))

  pub sites-apart : EachApart (sites t)
  unfolding sites driver_sites owner_sites list_sites
  sites-apart =
      join t (λ (s : Site). s.at ≡ 44) Behind driver_sites (owner_sites ++ list_sites) no-clash header-kept records-kept
      (λ s e. header-out s.at e) (λ s i. i.1) (λ y z e i. inl (omega (arith, e, i.0))) header-apart records-apart
