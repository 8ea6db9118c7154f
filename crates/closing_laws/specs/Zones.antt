-- Where the records outside the heap stand, and that they are apart. Assumes nothing.
use Rattle.std.specs.Prelude.{◌≡◌, refl, ◌⊎◌, Bool, true, false, not, ◌&&◌, ◌||◌, length, drop, T, eqb}
use Rattle.std.proofs.Common.{sym, ◌∙◌, mul-le-mul_right, suc-mul, zero-mul}
use Rattle.std.proofs.Math.Path.{ap}
use Rattle.std.proofs.Math.Logic.{inl, inr}
use mathlib.Core.List.{List, [], ◌∷◌, ◌++◌}
use Prim.Native.Nat.{ℕ, zero, suc, ◌+◌, ◌*◌, ◌≤◌, ◌<◌}
use native.Mathlib.Omega.{arith}
use Rattle.std.proofs.Math.ListN.{get_or}
use Rattle.std.proofs.Math.Dec.{leb, leb→le, eqb-suc-zero}
use Rattle.std.proofs.Math.Facts.{and_yes}
use Rattle.table.specs.declared.Region.{Region}
use Rattle.table.specs.Bytes.{num}
use Rattle.table.specs.Layout.{Body, Entry, Env, Layout, Refs, base_of, env, image, is_valid, more, offsets, region, stop, unused, used}
use Rattle.table.specs.FixedLayouts.{host, list_kinds}
use Rattle.table.specs.Rules.{apart, apart_all, apart_each, cons_if, inside, list_regions, long_enough}
use Rattle.table.specs.Numbers.{heap_in}
use Rattle.laws.specs.Lawful.{FitBody, FitEntry, FitList, all_ok, ok_layout}
use Rattle.laws.specs.ByteLaws.{pick_no, pick_yes}
use Rattle.laws.specs.ListLaws.{OkLayout, ok-layout}
use Rattle.laws.specs.Standing.{BodyAt, EntryAt, ListAt}
use Rattle.table.specs.Closing.{Site, sites_body, sites_entry, sites_list, sites_of}
use Rattle.closing_laws.specs.Members.{In, Sub, in-append, in_left, in_right}
use Rattle.closing_laws.specs.Carrying.{Sound}
use Rattle.closing_laws.specs.Places.{Apart, Lies, apart_of, lies}

-- count records of a layout, each step bytes behind the last
pub record Zone : Type 0 where
  pub at : ℕ
  pub step : ℕ
  pub count : ℕ
  pub layout : Layout

abbrev pub zone : ℕ → ℕ → ℕ → Layout → Zone
zone a s n l = record { at = a; step = s; count = n; layout = l }

abbrev pub zones_of : List Layout → List ℕ → ℕ → List Zone
zones_of [] t c = []
zones_of (l ∷ ls) t c = zone (num t c 4) (num t (c + 4) 2) (get_or t (c + 7) 0) l ∷ zones_of ls t (c + 8)

abbrev pub zones : List ℕ → List Zone
zones t = zone (num t 72 4) (num t 76 2) 1 host ∷ zones_of list_kinds t 80

pub stride : (i n s : ℕ) → i < n → i * s + s ≤ n * s
stride i n s h = rw (sym (suc-mul i s)) (mul-le-mul_right s h)

-- ---- what the tests say of them

some : (n : ℕ) (r : Region) (rs : List Region) → 0 < n → cons_if (not (eqb n 0)) r rs ≡ r ∷ rs
some zero r rs h = absurd (omega arith)
some (suc n) r rs h = rw (eqb-suc-zero n) refl

all_rest : (d : Bool) (x r : Region) (rs : List Region) → T (apart_all x (cons_if d r rs)) → T (apart_all x rs)
all_rest true x r rs k = (and_yes (apart x r) (apart_all x rs) k).1
all_rest false x r rs k = k

each-rest : (d : Bool) (r : Region) (rs : List Region) → T (apart_each (cons_if d r rs)) → T (apart_each rs)
each-rest true r rs k = (and_yes (apart_all r rs) (apart_each rs) k).1
each-rest false r rs k = k

inside-rest : (d : Bool) (lo hi : ℕ) (r : Region) (rs : List Region) → T (inside lo hi (cons_if d r rs)) → T (inside lo hi rs)
inside-rest true lo hi r rs k = (and_yes (leb lo r.at && leb (r.at + r.len) hi) (inside lo hi rs) k).1
inside-rest false lo hi r rs k = k

module _ (t : List ℕ) (tail : List Region) where
  here : ℕ → Region
  here c = region (num t c 4) (get_or t (c + 7) 0 * num t (c + 4) 2)

  pub pair-tail : (ls : List Layout) (c : ℕ) (x : Region) → T (apart_all x (list_regions ls t c tail)) → T (apart_all x tail)
  unfolding list_regions
  pair-tail [] c x k = k
  pair-tail (l ∷ ls) c x k = pair-tail ls (c + 8) x (all_rest (not (eqb (get_or t (c + 7) 0) 0)) x _ _ k)

  pub pair-all : (ls : List Layout) (c : ℕ) (x : Region)
      → T (apart_all x (list_regions ls t c tail))
      → (z : Zone)
      → In z (zones_of ls t c)
      → 0 < z.count
      → Apart x.at x.len z.at (z.count * z.step)
  unfolding list_regions
  pair-all [] c x k z i h = absurd i
  pair-all (l ∷ ls) c x k z (inl e) h =
      let h' : 0 < get_or t (c + 7) 0 = rw e at h in
      let r : Region = region (num t c 4) (get_or t (c + 7) 0 * num t (c + 4) 2) in
      rw e (apart_of x.at x.len r.at r.len (and_yes (apart x r) (apart_all x (list_regions ls t (c + 8) tail)) (rw (some (get_or t (c + 7) 0) r (list_regions ls t (c + 8) tail) h') at k)).0)
  pair-all (l ∷ ls) c x k z (inr i) h = pair-all ls (c + 8) x (all_rest (not (eqb (get_or t (c + 7) 0) 0)) x _ _ k) z i h

  pub head-all : (l : Layout) (ls : List Layout) (c : ℕ)
      → 0 < get_or t (c + 7) 0
      → T (apart_each (list_regions (l ∷ ls) t c tail))
      → T (apart_all (region (num t c 4) (get_or t (c + 7) 0 * num t (c + 4) 2)) (list_regions ls t (c + 8) tail))
  unfolding list_regions
  head-all l ls c h k =
      let r : Region = region (num t c 4) (get_or t (c + 7) 0 * num t (c + 4) 2) in
      (and_yes (apart_all r (list_regions ls t (c + 8) tail)) (apart_each (list_regions ls t (c + 8) tail)) (rw (some (get_or t (c + 7) 0) r (list_regions ls t (c + 8) tail) h) at k)).0

  pub rest-each : (l : Layout) (ls : List Layout) (c : ℕ) → T (apart_each (list_regions (l ∷ ls) t c tail)) → T (apart_each (list_regions ls t (c + 8) tail))
  unfolding list_regions
  rest-each l ls c k = each-rest (not (eqb (get_or t (c + 7) 0) 0)) _ _ k

  turn : (a n b m : ℕ) → Apart a n b m → Apart b m a n
  turn a n b m (inl e) = inr e
  turn a n b m (inr e) = inl e

  -- two of the lists are one or apart
  pub pair-each : (ls : List Layout) (c : ℕ) → T (apart_each (list_regions ls t c tail)) → (y z : Zone) → In y (zones_of ls t c) → In z (zones_of ls t c) → 0 < y.count → 0 < z.count
      → (y ≡ z) ⊎ Apart y.at (y.count * y.step) z.at (z.count * z.step)
  pair-each [] c k y z i j h g = absurd i
  pair-each (l ∷ ls) c k y z (inl e) (inl f) h g = inl (e ∙ sym f)
  pair-each (l ∷ ls) c k y z (inl e) (inr j) h g =
      inr (rw e (pair-all ls (c + 8) (region (num t c 4) (get_or t (c + 7) 0 * num t (c + 4) 2)) (head-all l ls c (rw e at h) k) z j g))
  pair-each (l ∷ ls) c k y z (inr i) (inl f) h g =
      inr (rw f (turn (num t c 4) (get_or t (c + 7) 0 * num t (c + 4) 2) y.at (y.count * y.step)
      (pair-all ls (c + 8) (region (num t c 4) (get_or t (c + 7) 0 * num t (c + 4) 2)) (head-all l ls c (rw f at g) k) y i
      h)))
  pair-each (l ∷ ls) c k y z (inr i) (inr j) h g = pair-each ls (c + 8) (rest-each l ls c k) y z i j h g

  pub each_tail : (ls : List Layout) (c : ℕ) → T (apart_each (list_regions ls t c tail)) → (z : Zone) → In z (zones_of ls t c) → 0 < z.count → T (apart_all (region z.at (z.count * z.step)) tail)
  each_tail [] c k z i h = absurd i
  each_tail (l ∷ ls) c k z (inl e) h =
      rw e (pair-tail ls (c + 8) (region (num t c 4) (get_or t (c + 7) 0 * num t (c + 4) 2)) (head-all l ls c (rw e at h) k))
  each_tail (l ∷ ls) c k z (inr i) h = each_tail ls (c + 8) (rest-each l ls c k) z i h

  pub inside-each : (lo hi : ℕ) (ls : List Layout) (c : ℕ) → T (inside lo hi (list_regions ls t c tail)) → (z : Zone) → In z (zones_of ls t c) → 0 < z.count
      → (lo ≤ z.at) × (z.at + z.count * z.step ≤ hi)
  unfolding list_regions
  inside-each lo hi [] c k z i h = absurd i
  inside-each lo hi (l ∷ ls) c k z (inl e) h =
      let h' : 0 < get_or t (c + 7) 0 = rw e at h in
      let r : Region = region (num t c 4) (get_or t (c + 7) 0 * num t (c + 4) 2) in
      let u = (and_yes (leb lo r.at && leb (r.at + r.len) hi) (inside lo hi (list_regions ls t (c + 8) tail)) (rw (some (get_or t (c + 7) 0) r (list_regions ls t (c + 8) tail) h') at k)).0 in
      let w = and_yes (leb lo r.at) (leb (r.at + r.len) hi) u in
      rw e (leb→le lo r.at w.0, leb→le (r.at + r.len) hi w.1)
  inside-each lo hi (l ∷ ls) c k z (inr i) h = inside-each lo hi ls (c + 8) (inside-rest (not (eqb (get_or t (c + 7) 0) 0)) lo hi _ _ k) z i h

  pub inside-tail : (lo hi : ℕ) (ls : List Layout) (c : ℕ) → T (inside lo hi (list_regions ls t c tail)) → T (inside lo hi tail)
  unfolding list_regions
  inside-tail lo hi [] c k = k
  inside-tail lo hi (l ∷ ls) c k = inside-tail lo hi ls (c + 8) (inside-rest (not (eqb (get_or t (c + 7) 0) 0)) lo hi _ _ k)

  or_some : (n : ℕ) (d : Bool) → 0 < n → T (eqb n 0 || d) → T d
  or_some zero d h k = absurd (omega arith)
  or_some (suc n) d h k = rw (eqb-suc-zero n) at k

  pub long-each : (ls : List Layout) (c : ℕ) → T (long_enough ls t c) → (z : Zone) → In z (zones_of ls t c) → 0 < z.count → base_of z.layout ≤ z.step
  unfolding long_enough
  long-each [] c k z i h = absurd i
  long-each (l ∷ ls) c k z (inl e) h =
      let u = (and_yes (eqb (get_or t (c + 7) 0) 0 || leb (base_of l) (num t (c + 4) 2)) (long_enough ls t (c + 8)) k).0 in
      rw e (leb→le (base_of l) (num t (c + 4) 2) (or_some (get_or t (c + 7) 0) (leb (base_of l) (num t (c + 4) 2)) (rw e at h) u))
  long-each (l ∷ ls) c k z (inr i) h =
      long-each ls (c + 8) (and_yes (eqb (get_or t (c + 7) 0) 0 || leb (base_of l) (num t (c + 4) 2)) (long_enough ls t (c + 8)) k).1 z i h

  pub ok-each : (ls : List Layout) (c : ℕ) → T (all_ok ls) → (z : Zone) → In z (zones_of ls t c) → OkLayout z.layout
  ok-each [] c o z i = absurd i
  ok-each (l ∷ ls) c o z (inl e) = rw e (ok-layout l (and_yes (ok_layout l) (all_ok ls) o).0)
  ok-each (l ∷ ls) c o z (inr i) = ok-each ls (c + 8) (and_yes (ok_layout l) (all_ok ls) o).1 z i

-- ---- where the sites stand

-- in record i of a zone
pub record InZone (zs : List Zone) (s : Site) : Type 0 where
  pub z : Zone
  pub known : In z zs
  pub i : ℕ
  pub below : i < z.count
  pub p : ℕ
  pub named : In p (offsets z.layout.refs)
  pub place : s.at ≡ z.at + i * z.step + p

-- in a heap record that one of the sites names
pub record InHeap (ss : List Site) (s : Site) : Type 0 where
  pub h : Site
  pub known : In h ss
  pub whole : h.whole ≡ true
  pub p : ℕ
  pub named : In p (offsets h.own)
  pub place : s.at ≡ h.off + p
  pub room : p + 6 ≤ h.len

module _ (t : List ℕ) where
  pub entry-places : (l : Layout) → OkLayout l → (a : ℕ) (v : Env) (e : Entry l) → FitEntry v e → EntryAt t (heap_in t) a e → (s : Site) → In s (sites_entry l t a)
      → Sound t s × Lies t a l.refs (sites_entry l t a) s
  unfolding sites_entry
  entry-places l o a v unused f x s i =
      let e : sites_entry l t a ≡ [] = pick_no (is_valid l.shape (image l.shape.keep (drop a t))) _ _ x in
      absurd (rw e at i)
  entry-places l o a v (used img ss) f x s i =
      let e : image l.shape.keep (drop a t) ≡ img = x.0 in
      let k : sites_entry l t a ≡ sites_of t a img l.refs = pick_yes (is_valid l.shape (image l.shape.keep (drop a t))) _ _ (rw e f.valid) ∙ ap (λ (y : List ℕ). sites_of t a y l.refs) e in
      rw k (lies t l.shape.keep 0 a v img ss o.refs_ok f.objects x.1 s (rw k at i))

  pub of-lies : (ss : List Site) (a : ℕ) (rs : Refs) (s : Site) → Lies t a rs ss s → ((p : ℕ) × In p (offsets rs) × (s.at ≡ a + p)) ⊎ InHeap ss s
  of-lies ss a rs s (inl x) = inl x
  of-lies ss a rs s (inr x) = inr (record { h = x.0; known = x.1; whole = x.2; p = x.3.0; named = x.3.1; place = x.3.2; room = x.3.3 })

  pub in-wider : (xs ys : List Site) (s : Site) → Sub xs ys → InHeap xs s → InHeap ys s
  in-wider xs ys s f x = record { h = x.h; known = f x.h x.known; whole = x.whole; p = x.p; named = x.named; place = x.place; room = x.room }

  pub list-places : (l : Layout)
      → OkLayout l
      → (count : ℕ → ℕ) (a step pos : ℕ) (es : List (Entry l))
      → FitList count pos es
      → ListAt t (heap_in t) a step es
      → (s : Site)
      → In s (sites_list l t a step (length es))
      → Sound t s
      × (((i : ℕ) × (i < length es) × ((p : ℕ) × In p (offsets l.refs) × (s.at ≡ a + i * step + p))) ⊎ InHeap
      (sites_list l t a step (length es)) s)
  unfolding sites_list
  list-places l o count a step pos [] f x s i = absurd i
  list-places l o count a step pos (e ∷ es) f x s i =
      go (in-append s (sites_entry l t a) (sites_list l t (a + step) step (length es)) i)
      (entry-places l o a (env count pos) e f.0 x.0 s)
      (list-places l o count (a + step) step (suc pos) es f.1 x.1 s)
    where
      first : ((p : ℕ) × In p (offsets l.refs) × (s.at ≡ a + p)) ⊎ InHeap (sites_entry l t a) s
          → ((i : ℕ) × (i < suc (length es)) × ((p : ℕ) × In p (offsets l.refs) × (s.at ≡ a + i * step + p))) ⊎ InHeap (sites_entry l t a ++ sites_list l t (a + step) step (length es)) s
      first (inl y) = inl (0, omega arith, (y.0, y.1, y.2 ∙ rw (zero-mul step) (omega arith)))
      first (inr y) =
          inr (in-wider (sites_entry l t a) (sites_entry l t a ++ sites_list l t (a + step) step (length es)) s
          (λ z k. in_left z (sites_entry l t a) (sites_list l t (a + step) step (length es)) k) y)

      later : ((i : ℕ) × (i < length es) × ((p : ℕ) × In p (offsets l.refs) × (s.at ≡ a + step + i * step + p))) ⊎ InHeap (sites_list l t (a + step) step (length es)) s
          → ((i : ℕ) × (i < suc (length es)) × ((p : ℕ) × In p (offsets l.refs) × (s.at ≡ a + i * step + p))) ⊎ InHeap (sites_entry l t a ++ sites_list l t (a + step) step (length es)) s
      later (inl y) = inl (suc y.0, omega (arith, y.1), (y.2.0, y.2.1, y.2.2 ∙ rw (suc-mul y.0 step) (omega arith)))
      later (inr y) =
          inr (in-wider (sites_list l t (a + step) step (length es))
          (sites_entry l t a ++ sites_list l t (a + step) step (length es)) s
          (λ z k. in_right z (sites_entry l t a) (sites_list l t (a + step) step (length es)) k) y)

      go : In s (sites_entry l t a) ⊎ In s (sites_list l t (a + step) step (length es))
          → (In s (sites_entry l t a) → Sound t s × Lies t a l.refs (sites_entry l t a) s)
          → (In s (sites_list l t (a + step) step (length es))
          → Sound t s
          × (((i : ℕ) × (i < length es) × ((p : ℕ) × In p (offsets l.refs) × (s.at ≡ a + step + i * step + p)))
          ⊎ InHeap (sites_list l t (a + step) step (length es)) s))
          → Sound t s
          × (((i : ℕ) × (i < suc (length es)) × ((p : ℕ) × In p (offsets l.refs) × (s.at ≡ a + i * step + p)))
          ⊎ InHeap (sites_entry l t a ++ sites_list l t (a + step) step (length es)) s)
      go (inl j) f g = let y = f j in (y.0, first (of-lies (sites_entry l t a) a l.refs s y.1))
      go (inr j) f g = let y = g j in (y.0, later y.1)

  pub zone-wider : (y : Zone) (zs : List Zone) (s : Site) → InZone zs s → InZone (y ∷ zs) s
  zone-wider y zs s x = record { z = x.z; known = inr x.known; i = x.i; below = x.below; p = x.p; named = x.named; place = x.place }

  pub body-places : {ls : List Layout} → T (all_ok ls) → (count : ℕ → ℕ) (c : ℕ) (b : Body ls) → FitBody count b → BodyAt t (heap_in t) c b → (s : Site) → In s (sites_body ls t c)
      → Sound t s × (InZone (zones_of ls t c) s ⊎ InHeap (sites_body ls t c) s)
  unfolding sites_body
  body-places o count c stop f x s i = absurd i
  body-places o count c (more {l = l} {ls = ls} es rest) f x s i =
      let u = and_yes (ok_layout l) (all_ok ls) o in
      go (in-append s (sites_list l t (num t c 4) (num t (c + 4) 2) (get_or t (c + 7) 0)) (sites_body ls t (c + 8)) i)
      (λ j. rw x.0 (list-places l (ok-layout l u.0) count (num t c 4) (num t (c + 4) 2) 1 es f.0 x.1 s (rw x.0 at j)))
      (body-places {ls = ls} u.1 count (c + 8) rest f.2 x.2 s)
    where
      first : ((i : ℕ)
          × (i < get_or t (c + 7) 0)
          × ((p : ℕ) × In p (offsets l.refs) × (s.at ≡ num t c 4 + i * num t (c + 4) 2 + p))) ⊎ InHeap
          (sites_list l t (num t c 4) (num t (c + 4) 2) (get_or t (c + 7) 0)) s
          → InZone (zone (num t c 4) (num t (c + 4) 2) (get_or t (c + 7) 0) l ∷ zones_of ls t (c + 8)) s ⊎ InHeap
          (sites_list l t (num t c 4) (num t (c + 4) 2) (get_or t (c + 7) 0) ++ sites_body ls t (c + 8)) s
      first (inl y) = inl (record { z = zone (num t c 4) (num t (c + 4) 2) (get_or t (c + 7) 0) l; known = inl refl; i = y.0; below = y.1; p = y.2.0; named = y.2.1; place = y.2.2 })
      first (inr y) =
          inr (in-wider (sites_list l t (num t c 4) (num t (c + 4) 2) (get_or t (c + 7) 0))
          (sites_list l t (num t c 4) (num t (c + 4) 2) (get_or t (c + 7) 0) ++ sites_body ls t (c + 8)) s
          (λ w k. in_left w (sites_list l t (num t c 4) (num t (c + 4) 2) (get_or t (c + 7) 0)) (sites_body ls t (c + 8)) k)
          y)

      later : InZone (zones_of ls t (c + 8)) s ⊎ InHeap (sites_body ls t (c + 8)) s
          → InZone (zone (num t c 4) (num t (c + 4) 2) (get_or t (c + 7) 0) l ∷ zones_of ls t (c + 8)) s ⊎ InHeap
          (sites_list l t (num t c 4) (num t (c + 4) 2) (get_or t (c + 7) 0) ++ sites_body ls t (c + 8)) s
      later (inl y) = inl (zone-wider (zone (num t c 4) (num t (c + 4) 2) (get_or t (c + 7) 0) l) (zones_of ls t (c + 8)) s y)
      later (inr y) =
          inr (in-wider (sites_body ls t (c + 8))
          (sites_list l t (num t c 4) (num t (c + 4) 2) (get_or t (c + 7) 0) ++ sites_body ls t (c + 8)) s
          (λ w k. in_right w (sites_list l t (num t c 4) (num t (c + 4) 2) (get_or t (c + 7) 0)) (sites_body ls t (c + 8)) k)
          y)

      go : In s (sites_list l t (num t c 4) (num t (c + 4) 2) (get_or t (c + 7) 0)) ⊎ In s (sites_body ls t (c + 8))
          → (In s (sites_list l t (num t c 4) (num t (c + 4) 2) (get_or t (c + 7) 0))
          → Sound t s
          × (((i : ℕ)
          × (i < get_or t (c + 7) 0)
          × ((p : ℕ) × In p (offsets l.refs) × (s.at ≡ num t c 4 + i * num t (c + 4) 2 + p))) ⊎ InHeap
          (sites_list l t (num t c 4) (num t (c + 4) 2) (get_or t (c + 7) 0)) s))
          → (In s (sites_body ls t (c + 8))
          → Sound t s × (InZone (zones_of ls t (c + 8)) s ⊎ InHeap (sites_body ls t (c + 8)) s))
          → Sound t s
          × (InZone (zone (num t c 4) (num t (c + 4) 2) (get_or t (c + 7) 0) l ∷ zones_of ls t (c + 8)) s ⊎ InHeap
          (sites_list l t (num t c 4) (num t (c + 4) 2) (get_or t (c + 7) 0) ++ sites_body ls t (c + 8)) s)
      go (inl j) f g = let y = f j in (y.0, first y.1)
      go (inr j) f g = let y = g j in (y.0, later y.1)
