-- The sites of the closed table, one by one, name what the sites of the table named, where that has slid to. Assumes nothing.
use Rattle.std.specs.Prelude.{◌≡◌, Bool, ℕ, suc, ◌+◌, ◌*◌, ◌≤◌, ◌<◌, length, drop, T}
use Rattle.std.proofs.Math.Path.{refl, ap, subst}
use Rattle.std.proofs.Common.{sym, ◌∙◌, inl, inr, arith, lit<}
use Rattle.std.proofs.Math.Bool.{true, false}
use mathlib.Core.List.{List, [], ◌∷◌, ◌++◌}
use Rattle.std.proofs.Math.ListN.{get_or}
use Rattle.std.proofs.Math.Facts.{and_yes}
use Rattle.table.specs.declared.Need.{Need}
use Rattle.table.specs.declared.Need.TheVariants.{Ignored, Optional, Required}
use Rattle.table.specs.Bytes.{num}
use Rattle.table.specs.Layout.{Body, Entry, Env, Keep, Layout, Refs, Shape, Slots, bytes, env, gone, image, is_valid, more, nest, nil, none, rec, stop, unused, used}
use Rattle.table.specs.FixedLayouts.{header, host, list_kinds}
use Rattle.table.specs.Objects.{count_in, ref6, under}
use Rattle.table.specs.Meaning.{Meaning}
use Rattle.table.specs.Numbers.{heap_in}
use Rattle.table.specs.Builder.{may_have}
use Rattle.table.specs.Closing.{Site, closed, goes, site, site_at, sites, sites_body, sites_entry, sites_list, sites_of}
use Rattle.laws.specs.Lawful.{Fit, FitBody, FitEntry, FitList, Shaped, all_ok, ok_layout, ok_refs}
use Rattle.laws.specs.ByteLaws.{Holds, pick_no, pick_yes}
use Rattle.laws.specs.SlotLaws.{OkNest, nest-next, nest-own, plain-next}
use Rattle.laws.specs.ListLaws.{OkLayout, ok-layout}
use Rattle.laws.specs.FormLaws.{ok_header, ok-host, ok-lists}
use Rattle.laws.specs.Standing.{At, BodyAt, EntryAt, ListAt, PlainAt, RefTo, Stands}
use Rattle.closing_laws.specs.Members.{In, Sub, in_left, in_right}
use Rattle.closing_laws.specs.MoveLaws.{Carried, carried-nest, carried-rest, counts, ref-len, ref-off, rest_in, site-here, site-none}
use Rattle.closing_laws.specs.ClosedStands.{Fenced, Outside, OutsideBody, OutsideList, front, head-refs, moves, num-same, same-image, same-refs}

-- y names in the closed table what x named
pub record Twin (t : List ℕ) (x y : Site) : Type 0 where
  pub off : y.off ≡ goes t x.off
  pub len : y.len ≡ x.len
  pub whole : y.whole ≡ x.whole

abbrev pub Twins : List ℕ → List Site → List Site → Type 0
Twins t [] [] = Unit {0}
Twins t [] (y ∷ ys) = ⊥
Twins t (x ∷ xs) [] = ⊥
Twins t (x ∷ xs) (y ∷ ys) = Twin t x y × Twins t xs ys

twins-append : (t : List ℕ) (xs ys xs' ys' : List Site) → Twins t xs ys → Twins t xs' ys' → Twins t (xs ++ xs') (ys ++ ys')
twins-append t [] [] xs' ys' h k = k
twins-append t [] (y ∷ ys) xs' ys' h k = absurd h
twins-append t (x ∷ xs) [] xs' ys' h k = absurd h
twins-append t (x ∷ xs) (y ∷ ys) xs' ys' h k = (h.0, twins-append t xs ys xs' ys' h.1 k)

-- each site has its twin
pub twin-of : (t : List ℕ) (xs ys : List Site) → Twins t xs ys → (s : Site) → In s xs → (y : Site) × In y ys × Twin t s y
twin-of t [] ys h s i = absurd i
twin-of t (x ∷ xs) [] h s i = absurd h
twin-of t (x ∷ xs) (y ∷ ys) h s (inl e) = (y, inl refl, rw e h.0)
twin-of t (x ∷ xs) (y ∷ ys) h s (inr i) = let z = twin-of t xs ys h.1 s i in (z.0, inr z.1, z.2)

-- the sites of a heap record's reference, in any table
nest-all : (v : List ℕ) (r off len : ℕ) (n : Need) (shape : Shape) (own : Refs) (img' : List ℕ) (rest : List Site)
    → T (may_have n) → num v r 4 ≡ off → num v (r + 4) 2 ≡ len → 0 < len → image shape.keep (drop off v) ≡ img'
    → under n rest (site_at v r true own (sites_of v (num v r 4) (image shape.keep (drop (num v r 4) v)) own) rest)
    ≡ site r off len true own ∷ (sites_of v off img' own ++ rest)
nest-all v r off len n shape own img' rest h e d z k =
    counts n _ _ h
    ∙ site-here v r off len true own (sites_of v (num v r 4) (image shape.keep (drop (num v r 4) v)) own) rest e d z
    ∙ ap (λ (y : List Site). site r off len true own ∷ (y ++ rest))
    (ap (λ (m : ℕ). sites_of v m (image shape.keep (drop m v)) own) e ∙ ap (λ (y : List ℕ). sites_of v off y own) k)

module _ (t : List ℕ) (g : Fenced t) where
  -- ---- one reference, at r and carried over to r'

  twin-absent : (n : Need) (r r' : ℕ) (w : Bool) (rs : Refs) (inner inner' xs ys : List Site)
      → under n (Unit {0}) (Holds t r (ref6 0 0)) → (Holds t r (ref6 0 0) → Holds (closed t) r' (ref6 0 0)) → Twins t xs ys
      → Twins t (under n xs (site_at t r w rs inner xs)) (under n ys (site_at (closed t) r' w rs inner' ys))
  twin-absent Ignored r r' w rs inner inner' xs ys x f k = k
  twin-absent Optional r r' w rs inner inner' xs ys x f k =
      rw (site-none t r w rs inner xs (ref-len t r 0 0 (lit< tt) x), site-none (closed t) r' w rs inner' ys (ref-len (closed t) r' 0 0 (lit< tt) (f x))) k
  twin-absent Required r r' w rs inner inner' xs ys x f k =
      rw (site-none t r w rs inner xs (ref-len t r 0 0 (lit< tt) x), site-none (closed t) r' w rs inner' ys (ref-len (closed t) r' 0 0 (lit< tt) (f x))) k

  twin-present : (r r' off len : ℕ) (xs ys : List Site) → RefTo t (heap_in t) r off len
      → ((s : Site) → In s (sites t) → s.at ≡ r → Holds (closed t) r' (ref6 (goes t s.off) s.len))
      → Sub (site_at t r false none [] xs) (sites t) → Twins t xs ys → Twins t (site_at t r false none [] xs) (site_at (closed t) r' false none [] ys)
  twin-present r r' off len xs ys y f sub k =
      let s : Site = site r off len false none in
      let e = site-here t r off len false none [] xs (ref-off t r off len y.small y.ref) (ref-len t r off len y.short y.ref) y.nonzero in
      let i : In s (sites t) = sub s (rw e (inl refl)) in
      let h : Holds (closed t) r' (ref6 (goes t off) len) = f s i refl in
      let e' =
      site-here (closed t) r' (goes t off) len false none [] ys (ref-off (closed t) r' (goes t off) len (moves t g s i).small h)
      (ref-len (closed t) r' (goes t off) len y.short h) y.nonzero in
      rw (e, e') (record { off = refl; len = refl; whole = refl }, k)

  twin-plain : (n : Need) (r r' : ℕ) (x : List ℕ) (xs ys : List Site) → under n (Unit {0}) (PlainAt t (heap_in t) r x)
      → (Holds t r (ref6 0 0) → Holds (closed t) r' (ref6 0 0))
      → ((s : Site) → In s (sites t) → s.at ≡ r → Holds (closed t) r' (ref6 (goes t s.off) s.len))
      → Sub (under n xs (site_at t r false none [] xs)) (sites t) → Twins t xs ys
      → Twins t (under n xs (site_at t r false none [] xs)) (under n ys (site_at (closed t) r' false none [] ys))
  twin-plain n r r' [] xs ys y f h sub k = twin-absent n r r' false none [] [] xs ys y f k
  twin-plain Ignored r r' (b ∷ bs) xs ys y f h sub k = k
  twin-plain Optional r r' (b ∷ bs) xs ys y f h sub k = twin-present r r' y.0 (length (b ∷ bs)) xs ys y.1 h sub k
  twin-plain Required r r' (b ∷ bs) xs ys y f h sub k = twin-present r r' y.0 (length (b ∷ bs)) xs ys y.1 h sub k

  twin-nest : (a b : ℕ) (img img' : List ℕ) (p : ℕ) (need : List ℕ → Need) (shape : Shape) (own rest : Refs) (off len : ℕ)
      → OkNest shape own → T (may_have (need img)) → RefTo t (heap_in t) (a + p) off len → length shape.keep ≤ len → image shape.keep (drop off t) ≡ img'
      → Carried t (closed t) (heap_in t) (heap_in (closed t)) (sites t) a b (nest p need shape own rest)
      → Sub (sites_of t a img (nest p need shape own rest)) (sites t)
      → (In (site (a + p) off len true own) (sites t) → Sub (sites_of t off img' own) (sites t) → Twins t (sites_of t off img' own) (sites_of (closed t) (goes t off) img' own))
      → Twins t (sites_of t a img rest) (sites_of (closed t) b img rest)
      → Twins t (sites_of t a img (nest p need shape own rest)) (sites_of (closed t) b img (nest p need shape own rest))
  unfolding sites_of
  twin-nest a b img img' p need shape own rest off len on mh y lk e c sub deep late =
      let w : Site = site (a + p) off len true own in
      let A : List Site = sites_of t off img' own in
      let B : List Site = sites_of t a img rest in
      let all : sites_of t a img (nest p need shape own rest) ≡ w ∷ (A ++ B) =
      nest-all t (a + p) off len (need img) shape own img' B mh (ref-off t (a + p) off len y.small y.ref) (ref-len t (a + p) off len y.short y.ref) y.nonzero e in
      let back : Sub (w ∷ (A ++ B)) (sites t) = λ z k. sub z (subst (λ (l : List Site). In z l) (sym all) k) in
      let j : In w (sites t) = back w (inl refl) in
      let h : Holds (closed t) (b + p) (ref6 (goes t off) len) = c.present p (inl refl) w j refl in
      let A' : List Site = sites_of (closed t) (goes t off) img' own in
      let B' : List Site = sites_of (closed t) b img rest in
      let all' : sites_of (closed t) b img (nest p need shape own rest) ≡ site (b + p) (goes t off) len true own ∷ (A' ++ B') =
      nest-all (closed t) (b + p) (goes t off) len (need img) shape own img' B' mh (ref-off (closed t) (b + p) (goes t off) len (moves t g w j).small h)
      (ref-len (closed t) (b + p) (goes t off) len y.short h) y.nonzero ((moves t g w j).looks refl shape on lk ∙ e) in
      let k : Twins t (w ∷ (A ++ B)) (site (b + p) (goes t off) len true own ∷ (A' ++ B')) =
      (record { off = refl; len = refl; whole = refl }, twins-append t A A' B B' (deep j (λ z i. back z (inr (in_left z A B i)))) late) in
      subst (λ (l : List Site). Twins t l (sites_of (closed t) b img (nest p need shape own rest))) (sym all)
      (subst (λ (l : List Site). Twins t (w ∷ (A ++ B)) l) (sym all') k)

  -- ---- records, and lists of them

  twins : {rs : Refs} (ks : List Keep) (q a b : ℕ) (v : Env) (img : List ℕ) (os : Slots rs) → T (ok_refs q ks rs)
      → Carried t (closed t) (heap_in t) (heap_in (closed t)) (sites t) a b rs
      → Sub (sites_of t a img rs) (sites t) → Fit v img os → At t (heap_in t) a img os → Twins t (sites_of t a img rs) (sites_of (closed t) b img rs)
  unfolding sites_of
  twins ks q a b v img nil o c sub f x = tt
  twins ks q a b v img (bytes {p = p} {need = need} {content = content} {rest = rest} y os) o c sub f x =
      twin-plain (need img) (a + p) (b + p) y (sites_of t a img rest) (sites_of (closed t) b img rest) x.0 (c.absent p (inl refl)) (c.present p (inl refl)) sub
      (twins ks (p + 6) a b v img os (plain-next q p ks need content rest o)
      (carried-rest t (closed t) (heap_in t) (heap_in (closed t)) (sites t) a b p need content rest c)
      (λ z k. sub z (rest_in (need img) t (a + p) false none [] (sites_of t a img rest) z k)) f.1 x.1)
  twins ks q a b v img (gone {p = p} {need = need} {shape = shape} {own = own} {rest = rest} os) o c sub f x =
      let inner : List Site = sites_of t (num t (a + p) 4) (image shape.keep (drop (num t (a + p) 4) t)) own in
      let inner' : List Site = sites_of (closed t) (num (closed t) (b + p) 4) (image shape.keep (drop (num (closed t) (b + p) 4) (closed t))) own in
      twin-absent (need img) (a + p) (b + p) true own inner inner' (sites_of t a img rest) (sites_of (closed t) b img rest) x.0 (c.absent p (inl refl))
      (twins ks (p + 6) a b v img os (nest-next q p ks need shape own rest o)
      (carried-nest t (closed t) (heap_in t) (heap_in (closed t)) (sites t) a b p need shape own rest c)
      (λ z k. sub z (rest_in (need img) t (a + p) true own inner (sites_of t a img rest) z k)) f.1 x.1)
  twins ks q a b v img (rec {p = p} {need = need} {shape = shape} {own = own} {rest = rest} img' own' os) o c sub f x =
      let on = nest-own q p ks need shape own rest o in
      twin-nest a b img img' p need shape own rest x.0.0 x.0.1 on f.0.need x.0.2 x.0.3 x.0.4 c sub
      (λ w j. twins shape.keep 0 x.0.0 (goes t x.0.0) v img' own' on.refs
      ((moves t g (site (a + p) x.0.0 x.0.1 true own) w).inner refl shape on x.0.3) j f.1 x.0.5)
      (twins ks (p + 6) a b v img os (nest-next q p ks need shape own rest o)
      (carried-nest t (closed t) (heap_in t) (heap_in (closed t)) (sites t) a b p need shape own rest c)
      (λ z k. sub z (rest_in (need img) t (a + p) true own (sites_of t (num t (a + p) 4) (image shape.keep (drop (num t (a + p) 4) t)) own) (sites_of t a img rest) z k)) f.2 x.1)

  twin-entry : (l : Layout) (o : OkLayout l) (a : ℕ) (out : Outside t l a) (v : Env) (e : Entry l)
      → FitEntry v e → Sub (sites_entry l t a) (sites t) → EntryAt t (heap_in t) a e → Twins t (sites_entry l t a) (sites_entry l (closed t) a)
  unfolding sites_entry
  twin-entry l o a out v unused f sub x =
      let e : image l.shape.keep (drop a (closed t)) ≡ image l.shape.keep (drop a t) = same-image t g l o a out in
      let k : sites_entry l t a ≡ [] = pick_no (is_valid l.shape (image l.shape.keep (drop a t))) _ _ x in
      let k' : sites_entry l (closed t) a ≡ [] = pick_no (is_valid l.shape (image l.shape.keep (drop a (closed t)))) _ _ (rw e x) in
      rw (k, k') tt
  twin-entry l o a out v (used img ss) f sub x =
      let e : image l.shape.keep (drop a t) ≡ img = x.0 in
      let e' : image l.shape.keep (drop a (closed t)) ≡ img = same-image t g l o a out ∙ e in
      let k : sites_entry l t a ≡ sites_of t a img l.refs =
      pick_yes (is_valid l.shape (image l.shape.keep (drop a t))) _ _ (rw e f.valid) ∙ ap (λ (y : List ℕ). sites_of t a y l.refs) e in
      let k' : sites_entry l (closed t) a ≡ sites_of (closed t) a img l.refs =
      pick_yes (is_valid l.shape (image l.shape.keep (drop a (closed t)))) _ _ (rw e' f.valid) ∙ ap (λ (y : List ℕ). sites_of (closed t) a y l.refs) e' in
      rw (k, k') (twins l.shape.keep 0 a a v img ss o.refs_ok (same-refs t g l o a out) (λ z j. sub z (rw k j)) f.objects x.1)

  twin-list : (l : Layout) → OkLayout l → (count : ℕ → ℕ) (a step pos : ℕ) (es : List (Entry l)) → OutsideList t l a step (length es) → FitList count pos es
      → Sub (sites_list l t a step (length es)) (sites t) → ListAt t (heap_in t) a step es
      → Twins t (sites_list l t a step (length es)) (sites_list l (closed t) a step (length es))
  unfolding sites_list
  twin-list l o count a step pos [] out f sub x = tt
  twin-list l o count a step pos (e ∷ es) out f sub x =
      let A : List Site = sites_entry l t a in
      let B : List Site = sites_list l t (a + step) step (length es) in
      twins-append t A (sites_entry l (closed t) a) B (sites_list l (closed t) (a + step) step (length es))
      (twin-entry l o a out.0 (env count pos) e f.0 (λ y j. sub y (in_left y A B j)) x.0)
      (twin-list l o count (a + step) step (suc pos) es out.1 f.1 (λ y j. sub y (in_right y A B j)) x.1)

  twin-body : {ls : List Layout} → T (all_ok ls) → (count : ℕ → ℕ) (c : ℕ) (b : Body ls) → 48 ≤ c → c + length ls * 8 ≤ 128 → OutsideBody t ls c → FitBody count b
      → Sub (sites_body ls t c) (sites t) → BodyAt t (heap_in t) c b → Twins t (sites_body ls t c) (sites_body ls (closed t) c)
  unfolding sites_body
  twin-body o count c stop lo hi out f sub x = tt
  twin-body o count c (more {l = l} {ls = ls} es rest) lo hi out f sub x =
      let u = and_yes (ok_layout l) (all_ok ls) o in
      let same : (j : ℕ) → j < 8 → get_or (closed t) (c + j) 0 ≡ get_or t (c + j) 0 = λ j h. front t g (c + j) (inr (omega arith)) (inr (omega arith)) (omega arith) in
      let e₁ : num (closed t) c 4 ≡ num t c 4 = num-same t (closed t) c 4 (λ j h. same j (omega arith)) in
      let e₂ : num (closed t) (c + 4) 2 ≡ num t (c + 4) 2 = num-same t (closed t) (c + 4) 2 (λ j h. front t g (c + 4 + j) (inr (omega arith)) (inr (omega arith)) (omega arith)) in
      let A : List Site = sites_list l t (num t c 4) (num t (c + 4) 2) (length es) in
      let B : List Site = sites_body ls t (c + 8) in
      let all : sites_body (l ∷ ls) t c ≡ A ++ B = ap (λ (n : ℕ). sites_list l t (num t c 4) (num t (c + 4) 2) n ++ B) x.0 in
      let back : Sub (A ++ B) (sites t) = λ y j. sub y (subst (λ (z : List Site). In y z) (sym all) j) in
      rw (same 7 (omega arith), e₁, e₂, x.0)
      (twins-append t A (sites_list l (closed t) (num t c 4) (num t (c + 4) 2) (length es)) B (sites_body ls (closed t) (c + 8))
      (twin-list l (ok-layout l u.0) count (num t c 4) (num t (c + 4) 2) 1 es (rw x.0 at out.0) f.0 (λ y j. back y (in_left y A B j)) x.1)
      (twin-body {ls = ls} u.1 count (c + 8) rest (omega arith) (omega arith) out.1 f.2 (λ y j. back y (in_right y A B j)) x.2))

  -- the sites of a table and those of the closed table are twins
  pub sites-twins : (m : Meaning) → Shaped m → Stands t m → Twins t (sites t) (sites (closed t))
  unfolding sites
  sites-twins m w st =
      let count = count_in m.lists in
      let e : num (closed t) 72 4 ≡ num t 72 4 = num-same t (closed t) 72 4 (λ j h. front t g (72 + j) (inr (omega arith)) (inr (omega arith)) (omega arith)) in
      let x₁ : List Site = sites_of t 0 [] header.refs in
      let x₂ : List Site = sites_entry host t (num t 72 4) in
      let x₃ : List Site = sites_body list_kinds t 80 in
      let y₂ : List Site = sites_entry host (closed t) (num t 72 4) in
      let y₃ : List Site = sites_body list_kinds (closed t) 80 in
      rw e
      (twins-append t x₁ (sites_of (closed t) 0 [] header.refs) (x₂ ++ x₃) (y₂ ++ y₃)
      (twins header.shape.keep 0 0 0 (env count 0) [] m.driver ok_header.refs_ok (head-refs t g) (λ y j. in_left y x₁ (x₂ ++ x₃) j) w.signed st.driver_at)
      (twins-append t x₂ y₂ x₃ y₃
      (twin-entry host ok-host (num t 72 4) g.owner (env count 0) m.owner w.owned (λ y j. in_right y x₁ (x₂ ++ x₃) (in_left y x₂ x₃ j)) st.owner_at)
      (twin-body ok-lists count 80 m.lists (omega arith) (omega arith) g.lists w.listed (λ y j. in_right y x₁ (x₂ ++ x₃) (in_right y x₂ x₃ j)) st.lists_at)))
