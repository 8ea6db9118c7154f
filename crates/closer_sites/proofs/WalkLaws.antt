-- The walk over the sites of a table comes to all of them in order, on records that stand in the table, and ends. Assumes nothing.
use mathlib.Core.Path.{◌≡◌, refl, sym, ap, ap₂, subst, ◌∙◌}
use mathlib.Core.Bool.{Bool, true, false, true≢false, not}
use mathlib.Core.List.{List, [], ◌∷◌, ◌++◌, append-nil, append_assoc}
use Prim.Native.Nat.{ℕ, zero, suc, ◌+◌, ◌-◌, ◌*◌, ◌≤◌, ◌<◌}
use native.Mathlib.Numerals.{add-one}
use native.Mathlib.Omega.{arith}
use lib.ListN.{length, get_or, drop}
use lib.Dec.{eqb, ltb, lit≤, leb-suc-suc}
use borrow.Author.Tests.{lt-ltb, ltb-true, ltb-false, ne_eqb, eqb-true, eqb-false}
use Rattle.table.specs.declared.Need.{Need}
use Rattle.table.specs.declared.Need.TheVariants.{Ignored, Optional, Required}
use Rattle.table.specs.Bytes.{num, pick}
use Rattle.table.specs.Layout.{Layout, Refs, Shape, image, is_valid, nest, none, offsets, plain}
use Rattle.table.specs.FixedLayouts.{layout_of, list_kinds, header, control, host, hfi, ssns, security, discovery, info, extended, hfi_extended, no_kind}
use Rattle.table.specs.Objects.{under}
use Rattle.table.specs.Reads.{Seat, nowhere, seat, need_at, seat_of, list_seat}
use Rattle.table.specs.Closing.{Site, site_at, sites, sites_body, sites_entry, sites_list, sites_of}
use Rattle.laws.specs.Fields.{Bytes, image_in}
use Rattle.layout_kinds.specs.References.{object_refs}
use Rattle.layout_images.proofs.Laws.{by_kind, Other, other-layout}
use Rattle.reader.specs.Accepted.{Accepted}
use Rattle.reads_seats.specs.declared.seats.Seat as code
use Rattle.std.specs.Prelude.{Option, Some, None}
use Rattle.reads_seats.specs.Seats.{Good, Held, Seated, as_seat, heap_record, nest_at}
use Rattle.reads_seats.specs.Told.{depth, inner_kind}
use Rattle.reads_seats.proofs.Laws.{heap-record-is, list-there}
use Rattle.reads_seats.proofs.SeatLaws.{header-seated, record-held, seats-good}
use Rattle.closer_sites.specs.declared.Walk.{Walk}
use Rattle.closer_sites.specs.declared.Named.{Named}
use Rattle.closer_sites.specs.Walk.{Walkable, begun, behind, entered, first_of, host_of, len_at, list_of, named, named_at, nothing, onward_of}
use Rattle.closer_sites.specs.Walk.{record_of, records_from, ref_count, rest_of, site_of, sites_from, step, step_of, walk}
use Rattle.closer_sites.specs.Going.{Going, left}

-- ---- the references of each kind: needs by offset, and the one to a heap record last

-- the reference at p to a heap record, of a record of kind k
pub record Last (k p : ℕ) (shape : Shape) (own : Refs) : Type 0 where
  pub stands : p ≡ nest_at k
  pub owns : own ≡ (layout_of (inner_kind k)).refs
  pub sited : (t : List ℕ) (b : ℕ) → sites_of t b (image shape.keep (drop b t)) own ≡ sites_from t (inner_kind k) b 0
  pub deeper : 10 * depth (inner_kind k) + ref_count (inner_kind k) ≤ 10 * depth k

-- rs are the last references of kind k
abbrev Ends : ℕ → Refs → Type 0
Ends k none = 0 ≤ k
Ends k (plain p need content rest) = ((x : List ℕ) → need_at p (layout_of k).refs x ≡ need x) × Ends k rest
Ends k (nest p need shape own none) = ((x : List ℕ) → need_at p (layout_of k).refs x ≡ need x) × Last k p shape own
Ends k (nest p need shape own (plain q n c rest)) = ⊥
Ends k (nest p need shape own (nest q n s o rest)) = ⊥

ends : (k : ℕ) → Ends k (layout_of k).refs
unfolding layout_of header host hfi ssns security discovery info extended hfi_extended sites_from image_in
ends =
    by_kind (λ k. Ends k (layout_of k).refs)
    (λ x. refl, omega arith)
    (unfold control in omega arith)
    (λ x. refl, omega arith)
    (λ x. refl, record { stands = refl; owns = refl; sited = λ t b. refl; deeper = lit≤ tt })
    (λ x. refl, (λ x. refl, (λ x. refl, (λ x. refl, (λ x. refl, record { stands = refl; owns = refl; sited = λ t b. refl; deeper = lit≤ tt })))))
    (λ x. refl, (λ x. refl, (λ x. refl, (λ x. refl, (λ x. refl, (λ x. refl, omega arith))))))
    (λ x. refl, (λ x. refl, omega arith))
    (λ x. refl, (λ x. refl, record { stands = refl; owns = refl; sited = λ t b. refl; deeper = lit≤ tt }))
    (λ x. refl, omega arith)
    (λ x. refl, (λ x. refl, omega arith))
    (λ k o. subst (λ (l : Layout). Ends k l.refs) (sym (other-layout k o)) (unfold no_kind in omega arith))

-- heap records have kinds other than 0
inner-some : (k : ℕ) → eqb (inner_kind k) 0 ≡ false
inner-some k = go (eqb k 3) (eqb k 7) where
  go : (c d : Bool) → eqb (pick c 7 (pick d 10 9)) 0 ≡ false
  go true d = refl
  go false true = refl
  go false false = refl

-- ---- one reference

picked : (c : Bool) (s : Site) (xs ss : List Site) → pick c ss (s ∷ xs) ≡ pick c [] (s ∷ []) ++ pick c ss xs
picked true s xs ss = refl
picked false s xs ss = refl

-- the reference at r under a need, to what is of kind m and has sites itself, and then the sites ss
site-under : (t : List ℕ) (n : Need) (r m : ℕ) (inner ss : List Site)
    → under n ss (site_at t r (not (eqb m 0)) (pick (eqb m 0) none (layout_of m).refs) inner ss)
    ≡ site_of (named r (num t r 4) (under n 0 (num t (r + 4) 2)) m) ++ pick (eqb (under n 0 (num t (r + 4) 2)) 0) ss (inner ++ ss)
site-under t Ignored r m inner ss = refl
site-under t Optional r m inner ss = picked (eqb (num t (r + 4) 2) 0) _ (inner ++ ss) ss
site-under t Required r m inner ss = picked (eqb (num t (r + 4) 2) 0) _ (inner ++ ss) ss

-- the sites of the heap record that x names, or else ss
abbrev onto : List ℕ → Named → List Site → List Site
onto t x ss = pick (eqb x.len 0) ss (pick (eqb x.kind 0) ss (sites_from t x.kind x.off 0))

module _ (t : List ℕ) (k a : ℕ) where
  abbrev img : List ℕ
  img = image_in (layout_of k) t a

  abbrev sited : Named → List Site → List Site
  sited x ss = site_of x ++ onto t x ss

  -- the reference at p, whose need is n
  abbrev name_in : ℕ → Need → ℕ → Named
  name_in p n m = named (a + p) (num t (a + p) 4) (under n 0 (num t (a + p + 4) 2)) m

  -- reference i of those that are left
  abbrev name_at : Refs → ℕ → Named
  name_at rs i = let p = get_or (offsets rs) i 0 in name_in p (need_at p (layout_of k).refs img) (pick (ltb i (length (object_refs rs))) 0 (inner_kind k))

  one-ref : (rs : Refs) → Ends k rs → (i : ℕ) → i < length (offsets rs) → sites_of t a img (behind i rs) ≡ sited (name_at rs i) (sites_of t a img (behind (suc i) rs))
  unfolding sites_of
  one-ref none e i h = absurd (omega arith)
  one-ref (plain p need content rest) e zero h =
      let ss = sites_of t a img rest in
      let n = length (object_refs rest) in
      site-under t (need img) (a + p) 0 [] ss
      ∙ ap₂ (λ (n : Need) (m : ℕ). sited (name_in p n m) ss) (sym (e.0 img)) (sym (ap (λ (c : Bool). pick c 0 (inner_kind k)) (lt-ltb 0 (suc n) (omega arith))))
  one-ref (plain p need content rest) e (suc i) h =
      let q = get_or (offsets rest) i 0 in
      one-ref rest e.1 i (omega arith)
      ∙ ap (λ (c : Bool). sited (name_in q (need_at q (layout_of k).refs img) (pick c 0 (inner_kind k))) (sites_of t a img (behind (suc i) rest)))
      (sym (leb-suc-suc (suc i) (length (object_refs rest))))
  one-ref (nest p need shape own none) e zero h =
      let b = num t (a + p) 4 in
      let m = inner_kind k in
      let ys = sites_from t m b 0 in
      let x = name_in p (need img) m in
      ap (λ (zs : List Site). under (need img) [] (site_at t (a + p) true own zs [])) (e.1.sited t b)
      ∙ ap₂ (λ (w : Bool) (o : Refs). under (need img) [] (site_at t (a + p) w o ys []))
      (sym (ap not (inner-some k))) (e.1.owns ∙ sym (ap (λ (c : Bool). pick c none (layout_of m).refs) (inner-some k)))
      ∙ site-under t (need img) (a + p) m ys []
      ∙ ap (λ (zs : List Site). site_of x ++ pick (eqb x.len 0) [] zs) (append-nil ys ∙ sym (ap (λ (c : Bool). pick c [] ys) (inner-some k)))
      ∙ ap (λ (n : Need). sited (name_in p n m) []) (sym (e.0 img))
  one-ref (nest p need shape own none) e (suc i) h = absurd (omega arith)
  one-ref (nest p need shape own (plain q n c rest)) e i h = absurd e
  one-ref (nest p need shape own (nest q n s o rest)) e i h = absurd e

  -- the sites from reference i on: what it names, and those behind it
  ref-step : (i : ℕ) → i < ref_count k → sites_from t k a i ≡ sited (named_at t k a i) (sites_from t k a (i + 1))
  unfolding sites_from named_at len_at
  ref-step i h =
      one-ref (layout_of k).refs (ends k) i h
      ∙ ap (λ (j : ℕ). sited (name_at (layout_of k).refs i) (sites_of t a img (behind j (layout_of k).refs))) (sym (add-one i))

  refs_end : (rs : Refs) → sites_of t a img (behind (length (offsets rs)) rs) ≡ []
  unfolding sites_of
  refs_end none = refl
  refs_end (plain p need content rest) = refs_end rest
  refs_end (nest p need shape own rest) = refs_end rest

  -- behind the last reference comes none
  from_end : (i : ℕ) → i ≡ ref_count k → sites_from t k a i ≡ []
  unfolding sites_from
  from_end i e = ap (λ (j : ℕ). sites_of t a img (behind j (layout_of k).refs)) e ∙ refs_end (layout_of k).refs

  -- a record of a list or the host: all its sites if it is used, or none
  entry-from : sites_entry (layout_of k) t a ≡ sites_from t k a (entered t k a)
  unfolding sites_entry sites_from image_in
  entry-from = go (is_valid (layout_of k).shape img)
    where
      go : (c : Bool) → pick c (sites_of t a img (layout_of k).refs) [] ≡ sites_of t a img (behind (first_of k c) (layout_of k).refs)
      go true = refl
      go false = sym (refs_end (layout_of k).refs)

-- ---- the ways that a step may go

-- on from a reference: to the next one, or into the heap record that the last one names
module _ (t : List ℕ) (w : Walk) (P : Walk → Type 0) where
  abbrev place : ℕ
  place = get_or (offsets (layout_of w.kind).refs) w.next 0

  onward-cases : P (walk w.list w.position w.kind w.at (w.next + 1))
      → (eqb (len_at t w.kind w.at place) 0 ≡ false → ltb w.next (length (object_refs (layout_of w.kind).refs)) ≡ false
      → P (walk w.list w.position (inner_kind w.kind) (num t (w.at + place) 4) 0))
      → P (onward_of w (named_at t w.kind w.at w.next))
  unfolding onward_of named_at
  onward-cases on inn = go (eqb (len_at t w.kind w.at place) 0) (ltb w.next (length (object_refs (layout_of w.kind).refs))) refl refl
    where
      next : Walk
      next = walk w.list w.position w.kind w.at (w.next + 1)

      inner : ℕ → Walk
      inner m = walk w.list w.position m (num t (w.at + place) 4) 0

      go : (c d : Bool) → eqb (len_at t w.kind w.at place) 0 ≡ c → ltb w.next (length (object_refs (layout_of w.kind).refs)) ≡ d
          → P (pick c next (pick (eqb (pick d 0 (inner_kind w.kind)) 0) next (inner (pick d 0 (inner_kind w.kind)))))
      go true d e f = on
      go false true e f = on
      go false false e f = subst (λ (c : Bool). P (pick c next (inner (inner_kind w.kind)))) (sym (inner-some w.kind)) (inn e f)

  -- on from a record: from the first to the host, then along a list, and behind its last one to the next list
  abbrev start : ℕ
  start = num t (56 + 8 * w.list) 4 + w.position * num t (56 + 8 * w.list + 4) 2

  abbrev count : ℕ
  count = get_or t (56 + 8 * w.list + 7) 0

  record-cases : 2 ≤ w.list → (w.list ≡ 2 → P (host_of t))
      → (3 ≤ w.list → w.position < count → P (walk w.list (w.position + 1) w.list start (entered t w.list start)))
      → (3 ≤ w.list → count ≤ w.position → P (walk (w.list + 1) 0 w.kind w.at w.next))
      → P (record_of t w)
  unfolding record_of list_of
  record-cases l first along behind = go (eqb w.list 2) (ltb w.position count) refl refl
    where
      go : (c d : Bool) → eqb w.list 2 ≡ c → ltb w.position count ≡ d
          → P (pick c (host_of t) (pick d (walk w.list (w.position + 1) w.list start (entered t w.list start)) (walk (w.list + 1) 0 w.kind w.at w.next)))
      go true d e f = first (eqb-true w.list 2 e)
      go false true e f = along (omega (arith, eqb-false w.list 2 e)) (ltb-true w.position count f)
      go false false e f = behind (omega (arith, eqb-false w.list 2 e)) (ltb-false w.position count f)

  step-cases : (w.next < ref_count w.kind → P (onward_of w (named_at t w.kind w.at w.next))) → (ref_count w.kind ≤ w.next → P (record_of t w)) → P (step_of t w).walk
  unfolding step_of
  step-cases on over = go (ltb w.next (ref_count w.kind)) refl
    where
      go : (c : Bool) → ltb w.next (ref_count w.kind) ≡ c
          → P (pick c (step (named_at t w.kind w.at w.next) (onward_of w (named_at t w.kind w.at w.next))) (step nothing (record_of t w))).walk
      go true e = on (ltb-true w.next (ref_count w.kind) e)
      go false e = over (ltb-false w.next (ref_count w.kind) e)

-- ---- one record after the other

-- the lists, and what comes behind them
by-list : (P : ℕ → Type 0) → P 3 → P 4 → P 5 → P 6 → P 7 → (k : ℕ) → 3 ≤ k → k ≤ 7 → P k
by-list P p3 p4 p5 p6 p7 =
    by_kind (λ k. 3 ≤ k → k ≤ 7 → P k)
    (λ x y. absurd (omega arith))
    (λ x y. absurd (omega arith))
    (λ x y. absurd (omega arith))
    (λ x y. p3)
    (λ x y. p4)
    (λ x y. p5)
    (λ x y. p6)
    (λ x y. p7)
    (λ x y. absurd (omega arith))
    (λ x y. absurd (omega arith))
    (λ k o x y. absurd (omega (arith, eqb-false k 3 o.not3, eqb-false k 4 o.not4, eqb-false k 5 o.not5, eqb-false k 6 o.not6, eqb-false k 7 o.not7)))

module _ (t : List ℕ) where
  body-first : (l : Layout) (ls : List Layout) (c : ℕ)
      → sites_list l t (num t c 4 + 0 * num t (c + 4) 2) (num t (c + 4) 2) (get_or t (c + 7) 0 - 0) ++ sites_body ls t (c + 8) ≡ sites_body (l ∷ ls) t c
  unfolding sites_body
  body-first l ls c = ap₂ (λ (x n : ℕ). sites_list l t x (num t (c + 4) 2) n ++ sites_body ls t (c + 8)) (omega arith) (omega arith)

  -- from the first record of a list on
  records-body : (k : ℕ) → 3 ≤ k → k ≤ 7 → records_from t k 0 ≡ sites_body (drop (k - 3) list_kinds) t (56 + 8 * k)
  unfolding records_from layout_of
  records-body =
      by-list (λ k. records_from t k 0 ≡ sites_body (drop (k - 3) list_kinds) t (56 + 8 * k))
      (body-first hfi (ssns ∷ security ∷ discovery ∷ []) 80)
      (body-first ssns (security ∷ discovery ∷ []) 88)
      (body-first security (discovery ∷ []) 96)
      (body-first discovery [] 104)
      (unfold sites_body in refl)

  module _ (k n : ℕ) (lo : 3 ≤ k) (hi : k < 7) where
    abbrev stride : ℕ
    stride = num t (56 + 8 * k + 4) 2

    abbrev begin : ℕ → ℕ
    begin i = num t (56 + 8 * k) 4 + i * stride

    abbrev all : ℕ
    all = get_or t (56 + 8 * k + 7) 0

    abbrev further : List Site
    further = sites_body (drop (k - 2) list_kinds) t (56 + 8 * k + 8)

    records-in : (i : ℕ) → records_from t k i ≡ sites_list (layout_of k) t (begin i) stride (all - i) ++ further
    unfolding records_from
    records-in i =
        ap₂ (λ (c d : Bool). pick c (sites_entry host t (num t 72 4) ++ sites_body list_kinds t 80) (pick d (sites_list (layout_of k) t (begin i) stride (all - i) ++ further) []))
        (ne_eqb k 2 (λ e. omega arith)) (lt-ltb k 7 hi)

    -- record n of a list, and those behind it
    records-more : n < all → records_from t k n ≡ sites_from t k (begin n) (entered t k (begin n)) ++ records_from t k (n + 1)
    unfolding sites_list
    records-more h =
        let e : all - n ≡ suc (all - (n + 1)) = omega arith in
        let s : begin n + stride ≡ begin (n + 1) = omega arith in
        let xs = sites_list (layout_of k) t (begin (n + 1)) stride (all - (n + 1)) in
        records-in n
        ∙ ap (λ (m : ℕ). sites_list (layout_of k) t (begin n) stride m ++ further) e
        ∙ ap (λ (b : ℕ). (sites_entry (layout_of k) t (begin n) ++ sites_list (layout_of k) t b stride (all - (n + 1))) ++ further) s
        ∙ append_assoc (sites_entry (layout_of k) t (begin n)) xs further
        ∙ ap₂ (λ (ys zs : List Site). ys ++ zs) (entry-from t k (begin n)) (sym (records-in (n + 1)))

    -- behind the last one the next list
    records-over : all ≤ n → records_from t k n ≡ records_from t (k + 1) 0
    unfolding sites_list
    records-over h =
        let e : all - n ≡ 0 = omega arith in
        let d : k - 2 ≡ k + 1 - 3 = omega arith in
        let c : 56 + 8 * k + 8 ≡ 56 + 8 * (k + 1) = omega arith in
        records-in n
        ∙ ap (λ (m : ℕ). sites_list (layout_of k) t (begin n) stride m ++ further) e
        ∙ ap₂ (λ (i j : ℕ). sites_body (drop i list_kinds) t j) d c
        ∙ sym (records-body (k + 1) (omega arith) (omega arith))

  -- the host, and then the first list
  records-host : (n : ℕ) → records_from t 2 n ≡ rest_of t (host_of t)
  unfolding records_from rest_of host_of layout_of
  records-host n = ap₂ (λ (ys zs : List Site). ys ++ zs) (entry-from t 2 (num t 72 4)) (sym (records-body 3 (lit≤ tt) (lit≤ tt)))

-- ---- the sites that are to come

-- the walk begins before all sites
pub rest-first : (t : List ℕ) → rest_of t begun ≡ sites t
unfolding rest_of sites sites_from sites_of records_from layout_of header
rest-first t = refl

rest-by : (t : List ℕ) (w : Walk) {ss : List Site} → sites_from t w.kind w.at w.next ≡ ss → rest_of t w ≡ ss ++ records_from t w.list w.position
unfolding rest_of
rest-by t w e = ap (λ (ys : List Site). ys ++ records_from t w.list w.position) e

-- from a record whose references are done
record-rest : (t : List ℕ) (w : Walk) → 2 ≤ w.list → w.list < 7 → w.next ≡ ref_count w.kind → records_from t w.list w.position ≡ rest_of t (record_of t w)
record-rest t w l m e =
    record-cases t w (λ v. records_from t w.list w.position ≡ rest_of t v) l
    (λ f. ap (λ (k : ℕ). records_from t k w.position) f ∙ records-host t w.position)
    (λ f h. unfold rest_of in records-more t w.list w.position f m h)
    (λ f h. unfold rest_of in records-over t w.list w.position f m h ∙ sym (ap (λ (ss : List Site). ss ++ records_from t (w.list + 1) 0) (from_end t w.kind w.at w.next e)))

-- from a reference
onward-rest : (t : List ℕ) (w : Walk) (x : Named) → rest_of t (onward_of w x) ≡ onto t x (sites_from t w.kind w.at (w.next + 1)) ++ records_from t w.list w.position
unfolding rest_of onward_of
onward-rest t w x = go (eqb x.len 0) (eqb x.kind 0)
  where
    next : Walk
    next = walk w.list w.position w.kind w.at (w.next + 1)

    ss : List Site
    ss = sites_from t w.kind w.at (w.next + 1)

    go : (c d : Bool) → let v = pick c next (pick d next (walk w.list w.position x.kind x.off 0)) in
        sites_from t v.kind v.at v.next ++ records_from t v.list v.position
        ≡ pick c ss (pick d ss (sites_from t x.kind x.off 0)) ++ records_from t w.list w.position
    go true d = refl
    go false true = refl
    go false false = refl

-- a step finds the first of those to come, or nothing
pub rest-step : (t : List ℕ) (w : Walk) → Going t w → w.list < 7 → rest_of t w ≡ site_of (step_of t w).named ++ rest_of t (step_of t w).walk
unfolding step_of
rest-step t w g h = go (ltb w.next (ref_count w.kind)) refl
  where
    x : Named
    x = named_at t w.kind w.at w.next

    others : List Site
    others = records_from t w.list w.position

    go : (c : Bool) → ltb w.next (ref_count w.kind) ≡ c → let s = pick c (step x (onward_of w x)) (step nothing (record_of t w)) in rest_of t w ≡ site_of s.named ++ rest_of t s.walk
    go true e =
        let ss = sites_from t w.kind w.at (w.next + 1) in
        rest-by t w (ref-step t w.kind w.at w.next (ltb-true w.next (ref_count w.kind) e))
        ∙ append_assoc (site_of x) (onto t x ss) others
        ∙ ap (λ (ys : List Site). site_of x ++ ys) (sym (onward-rest t w x))
    go false e =
        let d : w.next ≡ ref_count w.kind = omega (arith, g.short, ltb-false w.next (ref_count w.kind) e) in
        rest-by t w (from_end t w.kind w.at w.next d) ∙ record-rest t w g.least h d

-- at the end none is left
pub rest_end : (t : List ℕ) (w : Walk) → Going t w → w.list ≡ 7 → rest_of t w ≡ []
unfolding rest_of records_from
rest_end t w g e = ap₂ (λ (ys zs : List Site). ys ++ zs) (from_end t w.kind w.at w.next (g.over e)) (ap (λ (k : ℕ). records_from t k w.position) e)

-- ---- what the walk keeps

-- the last reference of a record, if it is to a heap record
last-ref : (k : ℕ) (rs : Refs) → Ends k rs → (i : ℕ) → i < length (offsets rs) → ltb i (length (object_refs rs)) ≡ false
    → (get_or (offsets rs) i 0 ≡ nest_at k) × (10 * depth (inner_kind k) + ref_count (inner_kind k) ≤ 10 * depth k)
last-ref k none e i h l = absurd (omega arith)
last-ref k (plain p need content rest) e zero h l = absurd (omega (arith, ltb-false 0 (suc (length (object_refs rest))) l))
last-ref k (plain p need content rest) e (suc i) h l = last-ref k rest e.1 i (omega arith) (sym (leb-suc-suc (suc i) (length (object_refs rest))) ∙ l)
last-ref k (nest p need shape own none) e zero h l = (e.1.stands, e.1.deeper)
last-ref k (nest p need shape own none) e (suc i) h l = absurd (omega arith)
last-ref k (nest p need shape own (plain q n c rest)) e i h l = absurd e
last-ref k (nest p need shape own (nest q n s o rest)) e i h l = absurd e

-- where a seat is, and whether it is one
abbrev place_of : Seat → ℕ
place_of nowhere = 0
place_of (seat l a on) = a

abbrev is_seat : Seat → Bool
is_seat nowhere = false
is_seat (seat l a on) = true

held-seated : (t : List ℕ) (m b : ℕ) (s : Option code.Seat) → Held t m s → as_seat (layout_of m) s ≡ seat (layout_of m) b true → Seated t (layout_of m) b true
held-seated t m b None h e = absurd (true≢false (sym (ap is_seat e)))
held-seated t m b (Some s) h e = subst (λ (x : ℕ). Seated t (layout_of m) x true) (ap place_of e) h

-- a reference with a length names a seat
named-there : (n : Need) (len : ℕ) (s : Seat) → eqb (under n 0 len) 0 ≡ false → under n nowhere (pick (eqb len 0) nowhere s) ≡ s
named-there Ignored len s e = absurd (true≢false e)
named-there Optional len s e = ap (λ (c : Bool). pick c nowhere s) e
named-there Required len s e = ap (λ (c : Bool). pick c nowhere s) e

-- the references of a record are looked at if it is used
entered-used : (k : ℕ) (c : Bool) → first_of k c < ref_count k → c ≡ true
entered-used k true h = refl
entered-used k false h = absurd (omega arith)

entered-short : (k : ℕ) (c : Bool) → first_of k c ≤ ref_count k
entered-short k true = omega arith
entered-short k false = omega arith

module _ (t : List ℕ) (ok : Accepted t) where
  -- the heap record of a record that is seated
  inner-seated : (k a : ℕ) → Seated t (layout_of k) a true → eqb (len_at t k a (nest_at k)) 0 ≡ false → Seated t (layout_of (inner_kind k)) (num t (a + nest_at k) 4) true
  unfolding len_at image_in
  inner-seated k a s e =
      let m = inner_kind k in
      let r = a + nest_at k in
      let x = seat (layout_of m) (num t r 4) true in
      held-seated t m (num t r 4) (heap_record t k a) (record-held t ok a k (refl, s))
      (heap-record-is t a k ∙ named-there (need_at (nest_at k) (layout_of k).refs (image (layout_of k).shape.keep (drop a t))) (num t (r + 4) 2) x e)

  host-going : Going t (host_of t)
  unfolding host_of
  host-going = record {
    least = lit≤ tt;
    upto = lit≤ tt;
    most = lit≤ tt;
    short = entered-short 2 (is_valid (layout_of 2).shape (image_in (layout_of 2) t (num t 72 4)));
    over = λ e. absurd (omega arith);
    seated = λ h. unfold seat_of layout_of in (seats-good t ok 0 2).1;
  }

  -- the seats of a list
  list-seats : (n k : ℕ) → 3 ≤ k → k ≤ 7 → (k ≡ 7 → ⊥) → seat_of t k n ≡ list_seat (layout_of k) t (56 + 8 * k) n
  unfolding seat_of layout_of
  list-seats n = by-list (λ k. (k ≡ 7 → ⊥) → seat_of t k n ≡ list_seat (layout_of k) t (56 + 8 * k) n) (λ e. refl) (λ e. refl) (λ e. refl) (λ e. refl) (λ e. absurd (e refl))

  list-seated : (k n : ℕ) → 3 ≤ k → k < 7 → n < get_or t (56 + 8 * k + 7) 0
      → let a = num t (56 + 8 * k) 4 + n * num t (56 + 8 * k + 4) 2 in Seated t (layout_of k) a (is_valid (layout_of k).shape (image_in (layout_of k) t a))
  list-seated k n lo hi h =
      let a : ℕ → ℕ = λ i. num t (56 + 8 * k) 4 + i * num t (56 + 8 * k + 4) 2 in
      let z : n + 1 - 1 ≡ n = omega arith in
      let e : seat_of t k (n + 1) ≡ seat (layout_of k) (a n) (is_valid (layout_of k).shape (image_in (layout_of k) t (a n))) =
      list-seats (n + 1) k lo (omega arith) (λ f. omega arith)
      ∙ list-there k t (56 + 8 * k) (n + 1) (omega arith) (omega arith)
      ∙ ap (λ (i : ℕ). seat (layout_of k) (a i) (is_valid (layout_of k).shape (image_in (layout_of k) t (a i)))) z in
      (subst (Good t k) e (seats-good t ok (n + 1) k)).1

pub going-first : (t : List ℕ) → Accepted t → Going t begun
going-first t ok = record {
  least = lit≤ tt;
  upto = lit≤ tt;
  most = lit≤ tt;
  short = omega arith;
  over = λ e. absurd (omega arith);
  seated = λ h. header-seated t ok;
}

-- a list's count is a byte, so a position is at most 255
pub going_on : (t : List ℕ) → Accepted t → Bytes t → (w : Walk) → Going t w → w.list < 7 → Going t (step_of t w).walk
going_on t ok b w g h = step-cases t w (Going t) on over
  where
    on : w.next < ref_count w.kind → Going t (onward_of w (named_at t w.kind w.at w.next))
    on l =
        onward-cases t w (Going t)
        (record {
          least = g.least;
          upto = g.upto;
          most = g.most;
          short = omega arith;
          over = λ e. absurd (omega arith);
          seated = λ m. g.seated l;
        })
        (λ e f. record {
          least = g.least;
          upto = g.upto;
          most = g.most;
          short = omega arith;
          over = λ e. absurd (omega arith);
          seated = λ m. let p = (last-ref w.kind (layout_of w.kind).refs (ends w.kind) w.next l f).0 in
              subst (λ (q : ℕ). Seated t (layout_of (inner_kind w.kind)) (num t (w.at + q) 4) true) (sym p)
              (inner-seated t ok w.kind w.at (g.seated l) (subst (λ (q : ℕ). eqb (len_at t w.kind w.at q) 0 ≡ false) p e));
        })

    -- the record that is next in the list
    at : ℕ
    at = num t (56 + 8 * w.list) 4 + w.position * num t (56 + 8 * w.list + 4) 2

    valid : Bool
    valid = is_valid (layout_of w.list).shape (image_in (layout_of w.list) t at)

    over : ref_count w.kind ≤ w.next → Going t (record_of t w)
    over l =
        record-cases t w (Going t) g.least
        (λ e. host-going t ok)
        (λ e f. record {
          least = g.least;
          upto = g.upto;
          most = omega (arith, b (56 + 8 * w.list + 7));
          short = entered-short w.list valid;
          over = λ e. absurd (omega arith);
          seated = λ m. subst (Seated t (layout_of w.list) at) (entered-used w.list valid m) (list-seated t ok w.list w.position e h f);
        })
        (λ e f. record {
          least = omega arith;
          upto = omega arith;
          most = lit≤ tt;
          short = g.short;
          over = λ e. omega (arith, g.short);
          seated = λ m. absurd (omega arith);
        })

pub going-walkable : (t : List ℕ) (w : Walk) → Going t w → Walkable (length t) w
going-walkable t w g = record { least = g.least; most = g.most; within = λ h. (g.seated h).within }

-- ---- the way to the end

other-small : (k : ℕ) → Other k → 10 * depth k + ref_count k ≤ 50
unfolding no_kind
other-small k o = rw (o.not3, o.not4, o.not7, other-layout k o) (lit≤ tt)

-- no kind is deep, or has many references
kind-small : (k : ℕ) → 10 * depth k + ref_count k ≤ 50
unfolding layout_of header host hfi ssns security discovery info extended hfi_extended
kind-small =
    by_kind (λ k. 10 * depth k + ref_count k ≤ 50)
    (lit≤ tt) (unfold control in lit≤ tt) (lit≤ tt) (lit≤ tt) (lit≤ tt) (lit≤ tt) (lit≤ tt) (lit≤ tt) (lit≤ tt) (lit≤ tt)
    other-small

pub left_less : (t : List ℕ) (w : Walk) → Going t w → w.list < 7 → left (step_of t w).walk < left w
unfolding left
left_less t w g h = step-cases t w (λ v. left v < left w) on over
  where
    on : w.next < ref_count w.kind → left (onward_of w (named_at t w.kind w.at w.next)) < left w
    on l =
        onward-cases t w (λ v. left v < left w)
        (omega arith)
        (λ e f. omega (arith, (last-ref w.kind (layout_of w.kind).refs (ends w.kind) w.next l f).1))

    over : ref_count w.kind ≤ w.next → left (record_of t w) < left w
    over l =
        record-cases t w (λ v. left v < left w) g.least
        (λ e. unfold host_of in omega (arith, kind-small 2))
        (λ e f. omega (arith, kind-small w.list, g.most))
        (λ e f. omega arith)

-- there is always a step left, and never a million
pub left-some : (t : List ℕ) (w : Walk) → Going t w → 0 < left w
unfolding left
left-some t w g = omega (arith, g.upto)

pub left-few : (t : List ℕ) (w : Walk) → Going t w → left w < 1000000
unfolding left
left-few t w g = omega (arith, g.least, kind-small w.kind)
