-- A walk over the sites of a table finds in the table with the offsets of the sites before it stored what it finds in the table as it was. Assumes nothing.
use mathlib.Core.Path.{◌≡◌, refl, sym, ap, ap₂, subst, ◌∙◌}
use mathlib.Core.Logic.{◌⊎◌, inl, inr}
use mathlib.Core.Bool.{Bool, true, false, not, true≢false}
use mathlib.Core.List.{List, [], ◌∷◌, ◌++◌, append_assoc}
use Prim.Native.Nat.{ℕ, zero, suc, ◌+◌, ◌*◌, ◌%◌, ◌≤◌, ◌<◌}
use native.Mathlib.Nat.{mod-one, suc-mul}
use native.Mathlib.Omega.{arith}
use lib.ListN.{length, get_or, drop}
use lib.Seq.{get_or-drop}
use lib.Dec.{T, eqb, ltb}
use borrow.Author.Tests.{eqb-false, ltb-false, ltb-true, ne_eqb}
use Rattle.table.specs.declared.Need.{Need}
use Rattle.table.specs.declared.Need.TheVariants.{Ignored, Optional, Required}
use Rattle.table.specs.Bytes.{apply, le, num, pick, splice}
use Rattle.table.specs.Layout.{Keep, Layout, Refs, base_of, image, is_valid, low, none, offsets}
use Rattle.table.specs.FixedLayouts.{layout_of, header, control, host, hfi, ssns, security, discovery, info, extended, hfi_extended, no_kind, when_set, when_is}
use Rattle.table.specs.Objects.{under}
use Rattle.table.specs.Reads.{need_at}
use Rattle.table.specs.Rules.{done}
use Rattle.table.specs.Numbers.{check}
use Rattle.table.specs.Closing.{Site, goes, offsets_of, overlapped, site, sites, stored}
use Rattle.laws.specs.Lawful.{all_keep, ok_keep, ok_refs, top_of}
use Rattle.laws.specs.ImageLaws.{image-same}
use Rattle.laws.specs.Fields.{image_in}
use Rattle.laws.specs.ListWalk.{by_layout}
use Rattle.closing_laws.specs.Members.{In, Sub, in_left, in_right}
use Rattle.closing_laws.specs.ClosedBytes.{length-stores, stores-away}
use Rattle.closing_laws.specs.Carrying.{Aligned, Away, OkAt, Six, away?, dead-at, ok_at, ok-six}
use Rattle.closing_laws.specs.ClosedStands.{Fenced, Outside, OutsideList, num-same}
use Rattle.closing_laws.specs.Fencing.{fenced}
use Rattle.closing_laws.specs.Sixes.{EachApart, Sixes, sites-apart}
use Rattle.layout_kinds.specs.References.{object_refs}
use Rattle.layout_images.proofs.Laws.{by_kind, Other, other-layout}
use Rattle.reader_frame.specs.Bounds.{LaidOut, ListIn}
use Rattle.reader.proofs.AcceptedLaws.{laid}
use Rattle.reads_seats.specs.Seats.{Seated}
use Rattle.reads_seats.specs.Told.{inner_kind}
use Rattle.reads_seats.proofs.SeatLaws.{nest-first, nest-passes, plain-rest}
use Rattle.closer_sites.specs.declared.Walk.{Walk}
use Rattle.closer_sites.specs.declared.Named.{Named}
use Rattle.closer_sites.specs.Walk.{
  Walkable,
  begun,
  entered,
  first_of,
  host_of,
  len_at,
  list_of,
  named_at,
  onward_of,
  record_of,
  ref_count,
  rest_of,
  site_of,
  step_of,
  walk,
}
use Rattle.closer_sites.specs.Going.{Going}
use Rattle.closer_sites.proofs.Laws.{step-record, step-reference}

-- no site but the record's own references stands in the record that is walked
abbrev pub Clear : List ℕ → Walk → Type 0
Clear t w = w.next < ref_count w.kind → (s : Site) → In s (sites t) → Aligned w.at (base_of (layout_of w.kind)) (layout_of w.kind).refs s

-- ---- stores one after the other

pub stores-append : (t u : List ℕ) (xs ys : List Site) → apply (apply u (offsets_of t xs)) (offsets_of t ys) ≡ apply u (offsets_of t (xs ++ ys))
stores-append t u [] ys = refl
stores-append t u (x ∷ xs) ys = stores-append t (apply u (offsets_of t (x ∷ []))) xs ys

-- one site more
pub stored_more : (t : List ℕ) (pre : List Site) (s : Site) → apply (apply t (offsets_of t pre)) (offsets_of t (s ∷ [])) ≡ apply t (offsets_of t (pre ++ (s ∷ [])))
stored_more t pre s = stores-append t t pre (s ∷ [])

-- at the end all are stored
pub all-stored : (t : List ℕ) → apply t (offsets_of t (sites t)) ≡ stored t
unfolding stored
all-stored t = refl

-- ---- lists

in-get_d : (xs : List ℕ) (i : ℕ) → i < length xs → In (get_or xs i 0) xs
in-get_d [] i h = absurd (omega arith)
in-get_d (x ∷ xs) zero h = inl refl
in-get_d (x ∷ xs) (suc i) h = inr (in-get_d xs i (omega arith))

-- those in front of x are apart from it
before : (pre : List Site) (x : Site) (more : List Site) → EachApart (pre ++ (x ∷ more)) → (s : Site) → In s pre → Sixes s x
before [] x more a s i = absurd i
before (y ∷ ys) x more a s (inl e) = rw e (a.0 x (go ys))
  where
    go : (zs : List Site) → In x (zs ++ (x ∷ more))
    go [] = inl refl
    go (z ∷ zs) = inr (go zs)
before (y ∷ ys) x more a s (inr i) = before ys x more a.1 s i

first_part : (pre rest all : List Site) → all ≡ pre ++ rest → Sub pre all
first_part pre rest all e s i = rw e (in_left s pre rest i)

-- ---- the kinds

-- what is kept of a record's bytes is well defined, and its references are masked and apart
pub record Kind (l : Layout) : Type 0 where
  pub keeps : T (all_keep (ok_keep l.shape.keep) l.shape.keep)
  pub refs_ok : T (ok_refs 0 l.shape.keep l.refs)

keeps-all : (k : ℕ) → T (all_keep (ok_keep (layout_of k).shape.keep) (layout_of k).shape.keep)
unfolding header control host hfi ssns security discovery info extended hfi_extended no_kind
keeps-all = by_layout (λ l. T (all_keep (ok_keep l.shape.keep) l.shape.keep)) tt tt tt tt tt tt tt tt tt tt tt

refs-all : (k : ℕ) → T (ok_refs 0 (layout_of k).shape.keep (layout_of k).refs)
unfolding header control host hfi ssns security discovery info extended hfi_extended no_kind
refs-all = by_layout (λ l. T (ok_refs 0 l.shape.keep l.refs)) tt tt tt tt tt tt tt tt tt tt tt

kind-of : (k : ℕ) → Kind (layout_of k)
kind-of k = record { keeps = keeps-all k; refs_ok = refs-all k }

-- ---- where no site stands but a record's own references

-- record i of a list
out_at : (t : List ℕ) (l : Layout) (a step n i : ℕ) → OutsideList t l a step n → i < n → Outside t l (a + i * step)
out_at t l a step zero i x h = absurd (omega arith)
out_at t l a step (suc n) zero x h = let e : a + 0 * step ≡ a = omega arith in rw e x.0
out_at t l a step (suc n) (suc i) x h =
    let e : a + suc i * step ≡ a + step + i * step = rw (suc-mul i step) (omega arith) in
    rw e (out_at t l (a + step) step n i x.1 (omega arith))

module _ (t : List ℕ) (g : Fenced t) where
  abbrev Own : ℕ → ℕ → Type 0
  Own k a = (s : Site) → In s (sites t) → Aligned a (base_of (layout_of k)) (layout_of k).refs s

  head-own : Own 0 0
  unfolding layout_of header
  head-own s i = go (g.head s i)
    where
      go : (s.at ≡ 44) ⊎ (128 ≤ s.at) → Aligned 0 64 (layout_of 0).refs s
      go (inl e) = inr (inr (44, inl refl, omega arith))
      go (inr e) = inr (inl (omega arith))

  host-own : Own 2 (num t 72 4)
  unfolding layout_of
  host-own s i = g.owner.own s i

  list-own : (k : ℕ) → 3 ≤ k → k < 7 → (i : ℕ) → i < get_or t (56 + 8 * k + 7) 0 → Own k (num t (56 + 8 * k) 4 + i * num t (56 + 8 * k + 4) 2)
  unfolding layout_of
  list-own =
      by_kind (λ k. 3 ≤ k → k < 7 → (i : ℕ) → i < get_or t (56 + 8 * k + 7) 0 → Own k (num t (56 + 8 * k) 4 + i * num t (56 + 8 * k + 4) 2))
      (λ lo hi. absurd (omega arith))
      (λ lo hi. absurd (omega arith))
      (λ lo hi. absurd (omega arith))
      (λ lo hi i h. (out_at t hfi (num t 80 4) (num t 84 2) (get_or t 87 0) i g.lists.0 h).own)
      (λ lo hi i h. (out_at t ssns (num t 88 4) (num t 92 2) (get_or t 95 0) i g.lists.1.0 h).own)
      (λ lo hi i h. (out_at t security (num t 96 4) (num t 100 2) (get_or t 103 0) i g.lists.1.1.0 h).own)
      (λ lo hi i h. (out_at t discovery (num t 104 4) (num t 108 2) (get_or t 111 0) i g.lists.1.1.1.0 h).own)
      (λ lo hi. absurd (omega arith))
      (λ lo hi. absurd (omega arith))
      (λ lo hi. absurd (omega arith))
      (λ k o lo hi. absurd (omega (arith, eqb-false k 3 o.not3, eqb-false k 4 o.not4, eqb-false k 5 o.not5, eqb-false k 6 o.not6)))

-- ---- steps

-- two findings that are the same, but for the offset of a reference that names nothing or does not count
pub record Alike (x y : Named) : Type 0 where
  pub at : x.at ≡ y.at
  pub len : x.len ≡ y.len
  pub kind : x.kind ≡ y.kind
  pub off : (y.len ≡ 0 → ⊥) → x.off ≡ y.off

pub onward-alike : (w : Walk) (x y : Named) → Alike x y → onward_of w x ≡ onward_of w y
unfolding onward_of
onward-alike w x y s = rw (s.len, s.kind) (go (eqb y.len 0) refl)
  where
    next : Walk
    next = walk w.list w.position w.kind w.at (w.next + 1)

    go : (c : Bool) → eqb y.len 0 ≡ c
        → pick c next (pick (eqb y.kind 0) next (walk w.list w.position y.kind x.off 0))
        ≡ pick c next (pick (eqb y.kind 0) next (walk w.list w.position y.kind y.off 0))
    go true e = refl
    go false e = rw (s.off (eqb-false y.len 0 e)) refl

-- the site that a reference is which counts and is present
abbrev pub site_in : Named → Site
site_in y = site y.at y.off y.len (not (eqb y.kind 0)) (pick (eqb y.kind 0) none (layout_of y.kind).refs)

pub site-alike : (x y : Named) → Alike x y → site_of x ≡ site_of y
site-alike x y s = rw (s.len, s.kind, s.at) (go (eqb y.len 0) refl)
  where
    go : (c : Bool) → eqb y.len 0 ≡ c
        → pick c [] (site y.at x.off y.len (not (eqb y.kind 0)) (pick (eqb y.kind 0) none (layout_of y.kind).refs) ∷ [])
        ≡ pick c [] (site_in y ∷ [])
    go true e = refl
    go false e = rw (s.off (eqb-false y.len 0 e)) refl

pub one-site : (y : Named) → (y.len ≡ 0 → ⊥) → site_of y ≡ site_in y ∷ []
one-site y c = rw (ne_eqb y.len 0 c) refl

pub no-site : (y : Named) → y.len ≡ 0 → site_of y ≡ []
no-site y e = rw e refl

-- the store that a finding asks for, and none where it names nothing
pub stored-found : (t : List ℕ) (pre : List Site) (y : Named) → (y.len ≡ 0 → ⊥)
    → splice (apply t (offsets_of t pre)) y.at (le 4 (goes t y.off)) ≡ apply t (offsets_of t (pre ++ site_of y))
stored-found t pre y c = stored_more t pre (site_in y) ∙ ap (λ (xs : List Site). apply t (offsets_of t (pre ++ xs))) (sym (one-site y c))

pub stored-none : (t : List ℕ) (pre : List Site) (y : Named) → y.len ≡ 0 → apply t (offsets_of t pre) ≡ apply t (offsets_of t (pre ++ site_of y))
stored-none t pre y e = stores-append t t pre [] ∙ ap (λ (xs : List Site). apply t (offsets_of t (pre ++ xs))) (sym (no-site y e))

-- ---- heap records

-- a length that is not 0 under its need is the reference's, and the reference counts
counted : (n : Need) (m : ℕ) → (under n 0 m ≡ 0 → ⊥) → (n ≡ Ignored → ⊥) × (under n 0 m ≡ m) × (eqb m 0 ≡ false)
counted Ignored m c = absurd (c refl)
counted Optional m c = (λ f. let z : ◌≡◌ {A = ℕ} 1 0 = ap (λ (n : Need). under n 0 1) f in omega arith, refl, ne_eqb m 0 c)
counted Required m c = (λ f. let z : ◌≡◌ {A = ℕ} 1 0 = ap (λ (n : Need). under n 0 1) f in omega arith, refl, ne_eqb m 0 c)

not-both : (i n : ℕ) → i < n → ltb i n ≡ false → ⊥
not-both i n h e = omega (arith, ltb-false i n e)

-- a number that is no kind has no reference
none-there : (k i : ℕ) → Other k → i < ref_count k → ⊥
unfolding no_kind
none-there k i o h = let e : ref_count k ≡ 0 = ap (λ (l : Layout). length (offsets l.refs)) (other-layout k o) in omega arith

-- the heap record that a record of kind k names is as long as its own layout, for the reader looked at that
module _ (t : List ℕ) (a : ℕ) where
  long-info : Seated t (layout_of 3) a true → (len_at t 3 a 16 ≡ 0 → ⊥) → base_of (layout_of 7) ≤ len_at t 3 a 16
  unfolding len_at layout_of hfi info image_in
  long-info s c =
      let u = counted Required (num t (a + 16 + 4) 2) c in
      (nest-passes t Required info.shape s.around (image hfi.shape.keep (drop a t)) (a + 16) _ (nest-first _ _ _ _ _ _ _ _ _ _ (s.passes refl)) u.0 u.2).1

  long-extended : Seated t (layout_of 4) a true → (len_at t 4 a 60 ≡ 0 → ⊥) → base_of (layout_of 9) ≤ len_at t 4 a 60
  unfolding len_at layout_of ssns extended image_in
  long-extended s c =
      let img : List ℕ = image ssns.shape.keep (drop a t) in
      let u = counted (when_set 3 2 4 4 img) (num t (a + 60 + 4) 2) c in
      rw u.1
      (nest-passes t (when_set 3 2 4 4 img) extended.shape s.around img (a + 60) _
      (nest-first _ _ _ _ _ _ _ _ _ _ (plain-rest _ _ _ _ _ _ _ _ _ (plain-rest _ _ _ _ _ _ _ _ _ (plain-rest _ _ _ _ _ _ _ _ _ (plain-rest _ _ _ _ _ _ _ _ _ (s.passes refl)))))) u.0 u.2).1

  long-identity : Seated t (layout_of 7) a true → (len_at t 7 a 110 ≡ 0 → ⊥) → base_of (layout_of 10) ≤ len_at t 7 a 110
  unfolding len_at layout_of info hfi_extended image_in
  long-identity s c =
      let img : List ℕ = image info.shape.keep (drop a t) in
      let u = counted (when_is 3 2 img) (num t (a + 110 + 4) 2) c in
      rw u.1
      (nest-passes t (when_is 3 2 img) hfi_extended.shape s.around img (a + 110) _
      (nest-first _ _ _ _ _ _ _ _ _ _ (plain-rest _ _ _ _ _ _ _ _ _ (s.passes refl))) u.0 u.2).1

  abbrev Long : ℕ → ℕ → Type 0
  Long k p = (len_at t k a p ≡ 0 → ⊥) → base_of (layout_of (inner_kind k)) ≤ len_at t k a p

  -- the reference behind those to objects
  long-held : (k i : ℕ) → i < ref_count k → ltb i (length (object_refs (layout_of k).refs)) ≡ false → Seated t (layout_of k) a true → Long k (get_or (offsets (layout_of k).refs) i 0)
  unfolding layout_of header control host hfi ssns security discovery info extended hfi_extended
  long-held =
      by_kind (λ k. (i : ℕ) → i < ref_count k → ltb i (length (object_refs (layout_of k).refs)) ≡ false → Seated t (layout_of k) a true → Long k (get_or (offsets (layout_of k).refs) i 0))
      (λ i h e. absurd (not-both i 1 h e))
      (λ i h e. absurd (omega arith))
      (λ i h e. absurd (not-both i 1 h e))
      (λ i h e s. let z : i ≡ 0 = omega arith in rw z (long-info s))
      (λ i h e s. let z : i ≡ 4 = omega (arith, ltb-false i 4 e) in rw z (long-extended s))
      (λ i h e. absurd (not-both i 6 h e))
      (λ i h e. absurd (not-both i 2 h e))
      (λ i h e s. let z : i ≡ 1 = omega (arith, ltb-false i 1 e) in rw z (long-identity s))
      (λ i h e. absurd (not-both i 1 h e))
      (λ i h e. absurd (not-both i 2 h e))
      (λ k o i h e. absurd (none-there k i o h))

-- ---- the table with the offsets of some sites stored

module _ (t : List ℕ) (g : Fenced t) (pre : List Site) (sub : Sub pre (sites t)) where
  abbrev U : List ℕ
  U = apply t (offsets_of t pre)

  length-u : length U ≡ length t
  length-u = length-stores t t pre (λ s m. g.roomy.rooms s (sub s m))

  byte-still : (i : ℕ) → ((s : Site) → In s pre → Away i s) → get_or U i 0 ≡ get_or t i 0
  byte-still i a = stores-away t t pre i (λ s m. g.roomy.rooms s (sub s m)) a

  -- header and control record, but for the driver's reference
  front-still : (i : ℕ) → (i < 44) ⊎ (48 ≤ i) → i < 128 → get_or U i 0 ≡ get_or t i 0
  front-still i h k = byte-still i (λ s m. away s h (g.head s (sub s m)))
    where
      away : (s : Site) → (i < 44) ⊎ (48 ≤ i) → (s.at ≡ 44) ⊎ (128 ≤ s.at) → Away i s
      away s (inl h) (inl e) = inl (omega arith)
      away s (inr h) (inl e) = inr (omega arith)
      away s h (inr e) = inl (omega arith)

  low-num : (a n : ℕ) → a + n ≤ 44 → num U a n ≡ num t a n
  low-num a n h = num-same t U a n (λ j l. front-still (a + j) (inl (omega arith)) (omega arith))

  high-num : (a n : ℕ) → 48 ≤ a → a + n ≤ 128 → num U a n ≡ num t a n
  high-num a n k h = num-same t U a n (λ j l. front-still (a + j) (inr (omega arith)) (omega arith))

  -- an offset that is apart from all of them
  offset-still : (r : ℕ) → ((s : Site) → In s pre → (s.at + 6 ≤ r) ⊎ (r + 6 ≤ s.at)) → num U r 4 ≡ num t r 4
  offset-still r f = num-same t U r 4 (λ j h. byte-still (r + j) (λ s m. go j h s (f s m)))
    where
      go : (j : ℕ) → j < 4 → (s : Site) → (s.at + 6 ≤ r) ⊎ (r + 6 ≤ s.at) → Away (r + j) s
      go j h s (inl e) = inr (omega arith)
      go j h s (inr e) = inl (omega arith)

  list-still : (c base : ℕ) → 48 ≤ c → c + 8 ≤ 128 → ListIn t c base → ListIn U c base
  list-still c base k h x = record {
    long = λ z. rw (high-num (c + 4) 2 (omega arith) (omega arith)) (x.long (rw count at z));
    within = λ z. rw (high-num (c + 4) 2 (omega arith) (omega arith), high-num c 4 (omega arith) (omega arith), count, length-u) (x.within (rw count at z));
  }
    where
      count : get_or U (c + 7) 0 ≡ get_or t (c + 7) 0
      count = front-still (c + 7) (inr (omega arith)) (omega arith)

  laid-u : LaidOut t → LaidOut U
  laid-u x = record {
    lent = rw length-u x.lent;
    sized = rw (low-num 4 4 (omega arith), length-u) x.sized;
    heap = record { heap-in = λ z. rw (low-num 36 4 (omega arith), low-num 40 4 (omega arith), length-u) (x.heap.heap-in (rw (low-num 40 4 (omega arith)) at z)) };
    owner = rw (high-num 72 4 (omega arith) (omega arith), length-u) x.owner;
    hfi = list-still 80 32 (omega arith) (omega arith) x.hfi;
    ssns = list-still 88 128 (omega arith) (omega arith) x.ssns;
    security = list-still 96 64 (omega arith) (omega arith) x.security;
    discovery = list-still 104 32 (omega arith) (omega arith) x.discovery;
  }

  -- ---- a record in which no site stands but its own references

  module _ (l : Layout) (ok : Kind l) (a : ℕ) (aligned : (s : Site) → In s (sites t) → Aligned a (base_of l) l.refs s) where
    abbrev ks : List Keep
    ks = l.shape.keep

    -- its image does not look at references
    image-still : image_in l U a ≡ image_in l t a
    unfolding image_in
    image-still =
        image-same ks (drop a U) (drop a t) ok.keeps
        (λ j h.
        ap (λ (x : ℕ). x % top_of (get_or ks j (low 1))) (get_or-drop a U j 0)
        ∙ one j h (away? pre (a + j))
        ∙ ap (λ (x : ℕ). x % top_of (get_or ks j (low 1))) (sym (get_or-drop a t j 0)))
      where
        one : (j : ℕ) → j < length ks → ((s : Site) → In s pre → Away (a + j) s) ⊎ ((s : Site) × In s pre × (s.at ≤ a + j) × (a + j < s.at + 4))
            → get_or U (a + j) 0 % top_of (get_or ks j (low 1)) ≡ get_or t (a + j) 0 % top_of (get_or ks j (low 1))
        one j h (inl f) = ap (λ (x : ℕ). x % top_of (get_or ks j (low 1))) (byte-still (a + j) f)
        one j h (inr y) = go (aligned y.0 (sub y.0 y.1))
          where
            go : Aligned a (base_of l) l.refs y.0 → get_or U (a + j) 0 % top_of (get_or ks j (low 1)) ≡ get_or t (a + j) 0 % top_of (get_or ks j (low 1))
            go (inl e) = absurd (omega (arith, y.3))
            go (inr (inl e)) = absurd (omega (arith, y.2))
            go (inr (inr e)) =
                let w = ok_at 0 ks l.refs e.0 ok.refs_ok e.1 in
                let d = dead-at ks e.0 j w.upto w.none (omega (arith, y.2, y.3, e.2)) (omega (arith, y.2, y.3, e.2)) in
                rw d (mod-one (get_or U (a + j) 0) ∙ sym (mod-one (get_or t (a + j) 0)))

    -- a length is not stored to: a site that stands there changes the four bytes before it alone
    length-still-at : (p : ℕ) → In p (offsets l.refs) → num U (a + p + 4) 2 ≡ num t (a + p + 4) 2
    length-still-at p i = num-same t U (a + p + 4) 2 (λ j h. byte-still (a + p + 4 + j) (λ s m. go j h s (aligned s (sub s m))))
      where
        w : OkAt 0 p ks
        w = ok_at 0 ks l.refs p ok.refs_ok i

        six : (j : ℕ) → j < 2 → (s : Site) (r : ℕ) → Six p r → s.at ≡ a + r → Away (a + p + 4 + j) s
        six j h s r (inl e) f = inr (omega arith)
        six j h s r (inr (inl e)) f = inl (omega arith)
        six j h s r (inr (inr e)) f = inr (omega arith)

        go : (j : ℕ) → j < 2 → (s : Site) → Aligned a (base_of l) l.refs s → Away (a + p + 4 + j) s
        go j h s (inl e) = inr (omega arith)
        go j h s (inr (inl e)) = inl (omega (arith, w.upto))
        go j h s (inr (inr e)) = six j h s e.0 (ok-six 0 ks l.refs p e.0 ok.refs_ok i e.1) e.2

  -- ---- records of the lists, and the host

  entered-still : (k a : ℕ) → ((s : Site) → In s (sites t) → Aligned a (base_of (layout_of k)) (layout_of k).refs s) → entered U k a ≡ entered t k a
  entered-still k a al = ap (λ (x : List ℕ). first_of k (is_valid (layout_of k).shape x)) (image-still (layout_of k) (kind-of k) a al)

  host-still : host_of U ≡ host_of t
  unfolding host_of
  host-still =
      ap (λ (a : ℕ). walk 3 0 2 a (entered U 2 a)) (high-num 72 4 (omega arith) (omega arith))
      ∙ ap (λ (n : ℕ). walk 3 0 2 (num t 72 4) n) (entered-still 2 (num t 72 4) (host-own t g))

  listed-still : (w : Walk) → 3 ≤ w.list → w.list < 7 → list_of U w ≡ list_of t w
  unfolding list_of
  listed-still w lo hi =
      let first = high-num (56 + 8 * w.list) 4 (omega arith) (omega arith) in
      let stride = high-num (56 + 8 * w.list + 4) 2 (omega arith) (omega arith) in
      let count = front-still (56 + 8 * w.list + 7) (inr (omega arith)) (omega arith) in
      rw (first, stride, count) (go (ltb w.position (get_or t (56 + 8 * w.list + 7) 0)) refl)
    where
      a : ℕ
      a = num t (56 + 8 * w.list) 4 + w.position * num t (56 + 8 * w.list + 4) 2

      go : (c : Bool) → ltb w.position (get_or t (56 + 8 * w.list + 7) 0) ≡ c
          → pick c (walk w.list (w.position + 1) w.list a (entered U w.list a)) (walk (w.list + 1) 0 w.kind w.at w.next)
          ≡ pick c (walk w.list (w.position + 1) w.list a (entered t w.list a)) (walk (w.list + 1) 0 w.kind w.at w.next)
      go true e =
          ap (λ (n : ℕ). walk w.list (w.position + 1) w.list a n)
          (entered-still w.list a (list-own t g w.list lo hi w.position (ltb-true w.position (get_or t (56 + 8 * w.list + 7) 0) e)))
      go false e = refl

  record-still : (w : Walk) → 2 ≤ w.list → w.list < 7 → record_of U w ≡ record_of t w
  unfolding record_of
  record-still w lo hi = go (eqb w.list 2) refl
    where
      go : (c : Bool) → eqb w.list 2 ≡ c → pick c (host_of U) (list_of U w) ≡ pick c (host_of t) (list_of t w)
      go true e = host-still
      go false e = listed-still w (omega (arith, eqb-false w.list 2 e)) hi

  -- ---- one reference

  len-still : (k a p : ℕ) → Own t g k a → In p (offsets (layout_of k).refs) → len_at U k a p ≡ len_at t k a p
  unfolding len_at
  len-still k a p al i =
      ap₂ (λ (x : List ℕ) (n : ℕ). under (need_at p (layout_of k).refs x) 0 n) (image-still (layout_of k) (kind-of k) a al) (length-still-at (layout_of k) (kind-of k) a al p i)

  -- the same but for the offset, and that too if the reference counts and is present
  named-still : (k a i : ℕ) → i < ref_count k → Own t g k a
      → (((named_at t k a i).len ≡ 0 → ⊥) → (s : Site) → In s pre → (s.at + 6 ≤ (named_at t k a i).at) ⊎ ((named_at t k a i).at + 6 ≤ s.at)) → Alike (named_at U k a i) (named_at t k a i)
  unfolding named_at
  named-still k a i h al f = record {
    at = refl;
    len = len-still k a (get_or (offsets (layout_of k).refs) i 0) al (in-get_d (offsets (layout_of k).refs) i h);
    kind = refl;
    off = λ c. offset-still (a + get_or (offsets (layout_of k).refs) i 0) (f c);
  }

-- ---- the walk in the table into which it stores

-- a stretch that is shorter
shorter : (a m n : ℕ) (rs : Refs) (s : Site) → m ≤ n → Aligned a n rs s → Aligned a m rs s
shorter a m n rs s h (inl e) = inl e
shorter a m n rs s h (inr (inl e)) = inr (inl (omega arith))
shorter a m n rs s h (inr (inr e)) = inr (inr e)

-- a kind that is not 0
kind-there : (c : Bool) (m : ℕ) → eqb (pick c 0 m) 0 ≡ false → (c ≡ false) × (pick c 0 m ≡ m)
kind-there true m e = absurd (true≢false e)
kind-there false m e = (refl, refl)

clear-pick : (t : List ℕ) (c : Bool) (x y : Walk) → (c ≡ true → Clear t x) → (c ≡ false → Clear t y) → Clear t (pick c x y)
clear-pick t true x y f g = f refl
clear-pick t false x y f g = g refl

module _ (t : List ℕ) (b : (i : ℕ) → get_or t i 0 < 256) (ok : check t ≡ done) (nov : T (not (overlapped t))) where
  fence : Fenced t
  fence = fenced t b ok nov

  pub clear_first : Clear t begun
  clear_first h = head-own t fence

  clear-record : (w : Walk) → 2 ≤ w.list → w.list < 7 → ltb w.next (ref_count w.kind) ≡ false → Clear t (record_of t w)
  unfolding record_of host_of list_of
  clear-record w lo hi z =
      clear-pick t (eqb w.list 2) _ _ (λ e h. host-own t fence)
      (λ e.
      clear-pick t (ltb w.position (get_or t (56 + 8 * w.list + 7) 0)) _ _
      (λ f h. list-own t fence w.list (omega (arith, eqb-false w.list 2 e)) hi w.position (ltb-true w.position (get_or t (56 + 8 * w.list + 7) 0) f))
      (λ f h. absurd (not-both w.next (ref_count w.kind) h z)))

  -- the heap record that reference i of the record of kind k at a names
  clear-held : (k a i : ℕ) → i < ref_count k → Seated t (layout_of k) a true → let x = named_at t k a i in
      (x.len ≡ 0 → ⊥) → eqb x.kind 0 ≡ false → In (site_in x) (sites t) → Own t fence x.kind x.off
  unfolding named_at
  clear-held k a i h seated c e m s j =
      let x : Named = named_at t k a i in
      let v = kind-there (ltb i (length (object_refs (layout_of k).refs))) (inner_kind k) e in
      let l : base_of (layout_of x.kind) ≤ x.len = rw v.1 (long-held t a k i h v.0 seated c) in
      shorter x.off (base_of (layout_of x.kind)) x.len (layout_of x.kind).refs s l
      (subst (λ (d : Bool). Aligned x.off x.len (pick d none (layout_of x.kind).refs) s) e (fence.inside (site_in x) m s j))

  clear-onward : (w : Walk) → Seated t (layout_of w.kind) w.at true → w.next < ref_count w.kind → let x = named_at t w.kind w.at w.next in
      ((x.len ≡ 0 → ⊥) → In (site_in x) (sites t)) → Clear t w → Clear t (onward_of w x)
  unfolding onward_of
  clear-onward w seated h m clear =
      let x : Named = named_at t w.kind w.at w.next in
      clear-pick t (eqb x.len 0) _ _ (λ e z. clear h)
      (λ e. clear-pick t (eqb x.kind 0) _ _ (λ f z. clear h)
      (λ f z. clear-held w.kind w.at w.next h seated (eqb-false x.len 0 e) f (m (eqb-false x.len 0 e))))

  pub clear-on : (w : Walk) → Going t w → w.list < 7 → ((s : Site) → In s (site_of (step_of t w).named) → In s (sites t)) → Clear t w → Clear t (step_of t w).walk
  clear-on w going hi found clear = go (ltb w.next (ref_count w.kind)) refl
    where
      go : (c : Bool) → ltb w.next (ref_count w.kind) ≡ c → Clear t (step_of t w).walk
      go true e =
          let x : Named = named_at t w.kind w.at w.next in
          let h : w.next < ref_count w.kind = ltb-true w.next (ref_count w.kind) e in
          let f : (s : Site) → In s (site_of x) → In s (sites t) = λ s i. found s (rw (step-reference t w h) i) in
          rw (step-reference t w h) (clear-onward w (going.seated h) h (λ c. f (site_in x) (rw (one-site x c) (inl refl))) clear)
      go false e = rw (step-record t w (ltb-false w.next (ref_count w.kind) e)) (clear-record w going.least hi e)

  -- ---- with the sites of pre stored

  module _ (pre rest : List Site) (all : sites t ≡ pre ++ rest) where
    in_all : Sub pre (sites t)
    in_all = first_part pre rest (sites t) all

    pub length-still : length (apply t (offsets_of t pre)) ≡ length t
    length-still = length-u t fence pre in_all

    -- the frame is still as code wants it
    pub laid-still : LaidOut (apply t (offsets_of t pre))
    laid-still = laid-u t fence pre in_all (laid t (record { good = ok }))

  -- the next step finds in the table with the offsets of the sites before it stored what it finds in t; rest-step is the law of the walk itself
  module _ (rest-step : (w : Walk) → Going t w → w.list < 7 → rest_of t w ≡ site_of (step_of t w).named ++ rest_of t (step_of t w).walk)
      (pre : List Site) (w : Walk) (all : sites t ≡ pre ++ rest_of t w)
      (going : Going t w) (hi : w.list < 7) (clear : Clear t w) where
    sub : Sub pre (sites t)
    sub = first_part pre (rest_of t w) (sites t) all

    -- a reference that the step finds is the next of the sites, so it is apart from those before it
    next-apart : ((step_of t w).named.len ≡ 0 → ⊥) → (s : Site) → In s pre → Sixes s (site_in (step_of t w).named)
    next-apart c =
        let x : Named = (step_of t w).named in
        let more : List Site = rest_of t (step_of t w).walk in
        let e : sites t ≡ pre ++ (site_in x ∷ more) = all ∙ ap (λ (r : List Site). pre ++ r) (rest-step w going hi ∙ ap (λ (r : List Site). r ++ more) (one-site x c)) in
        before pre (site_in x) more (subst EachApart e (sites-apart t b ok nov))

    -- with what the step finds the sites before the next step are those that follow
    pub rest-on : sites t ≡ (pre ++ site_of (step_of t w).named) ++ rest_of t (step_of t w).walk
    rest-on = all ∙ ap (λ (r : List Site). pre ++ r) (rest-step w going hi) ∙ sym (append_assoc pre (site_of (step_of t w).named) (rest_of t (step_of t w).walk))

    -- what the step finds is a site
    pub found_in : (s : Site) → In s (site_of (step_of t w).named) → In s (sites t)
    found_in s i =
        let xs : List Site = site_of (step_of t w).named in
        let more : List Site = rest_of t (step_of t w).walk in
        rw rest-on (in_left s (pre ++ xs) more (in_right s pre xs i))

    pub clear_next : Clear t (step_of t w).walk
    clear_next = clear-on w going hi found_in clear

    -- what the step asks for
    pub walkable-still : Walkable (length (apply t (offsets_of t pre))) w
    walkable-still = record { least = going.least; most = going.most; within = λ h. rw (length-u t fence pre sub) (going.seated h).within }

    here-alike : w.next < ref_count w.kind
        → Alike (named_at (apply t (offsets_of t pre)) w.kind w.at w.next) (named_at t w.kind w.at w.next)
    here-alike h = named-still t fence pre sub w.kind w.at w.next h (clear h) (rw (step-reference t w h) at next-apart)

    pub same-named : Alike (step_of (apply t (offsets_of t pre)) w).named (step_of t w).named
    same-named = go (ltb w.next (ref_count w.kind)) refl
      where
        go : (c : Bool) → ltb w.next (ref_count w.kind) ≡ c → Alike (step_of (apply t (offsets_of t pre)) w).named (step_of t w).named
        go true e =
            let h : w.next < ref_count w.kind = ltb-true w.next (ref_count w.kind) e in
            rw (step-reference (apply t (offsets_of t pre)) w h, step-reference t w h) (here-alike h)
        go false e =
            let h : ref_count w.kind ≤ w.next = ltb-false w.next (ref_count w.kind) e in
            rw (step-record (apply t (offsets_of t pre)) w h, step-record t w h) (record { at = refl; len = refl; kind = refl; off = λ c. refl })

    pub same-walk : (step_of (apply t (offsets_of t pre)) w).walk ≡ (step_of t w).walk
    same-walk = go (ltb w.next (ref_count w.kind)) refl
      where
        go : (c : Bool) → ltb w.next (ref_count w.kind) ≡ c → (step_of (apply t (offsets_of t pre)) w).walk ≡ (step_of t w).walk
        go true e =
            let h : w.next < ref_count w.kind = ltb-true w.next (ref_count w.kind) e in
            rw (step-reference (apply t (offsets_of t pre)) w h, step-reference t w h)
            (onward-alike w (named_at (apply t (offsets_of t pre)) w.kind w.at w.next) (named_at t w.kind w.at w.next) (here-alike h))
        go false e =
            let h : ref_count w.kind ≤ w.next = ltb-false w.next (ref_count w.kind) e in
            rw (step-record (apply t (offsets_of t pre)) w h, step-record t w h) (record-still t fence pre sub w going.least hi)

    pub same-site : site_of (step_of (apply t (offsets_of t pre)) w).named ≡ site_of (step_of t w).named
    same-site = site-alike (step_of (apply t (offsets_of t pre)) w).named (step_of t w).named same-named
