-- What is read from a record's own bytes is what stands at its place in the table. Assumes nothing.
use mathlib.Core.Path.{◌≡◌, refl, ap, ap₂, ◌∙◌}
use mathlib.Core.Bool.{Bool, true, false}
use mathlib.Core.List.{List}
use Prim.Native.Nat.{ℕ, ◌+◌, ◌/◌, ◌%◌, ◌≤◌}
use native.Mathlib.Nat.{zero-add}
use native.Mathlib.Omega.{arith}
use lib.ListN.{length, get_or}
use lib.Dec.{eqb, lit≤}
use Rattle.table.specs.declared.Place.{Place}
use Rattle.table.specs.declared.Region.{Region}
use Rattle.table.specs.Bytes.{pick, part, num, padded}
use Rattle.table.specs.Layout.{base_of, region, reference_at}
use Rattle.table.specs.FixedLayouts.{layout_of, hfi, ssns, info}
use Rattle.table.specs.Objects.{under}
use Rattle.table.specs.Rules.{answer, done}
use Rattle.table.specs.Reads.{seat, shown, image_at, width_at, refused_field, field_at, has_plain, need_at, no_place, ref_place, whole_at}
use Rattle.laws.specs.Fields.{image_in, num-part}
use Rattle.layout_images.proofs.Laws.{by_kind, image-own, part-long}
use Rattle.reads_seats.specs.declared.seats.Seat.{Seat}
use Rattle.std.specs.Prelude.{Option, None}
use Rattle.reads_seats.specs.Seats.{found, heap_at, extended_at, identity_at, heap_record}
use Rattle.reads_seats.proofs.ObjectLaws.{plain_fits}

-- the reference at r of the bytes from a on
reference-own : (t : List ℕ) (a n r : ℕ) → r + 6 ≤ n → reference_at (part t a n) r ≡ reference_at t (a + r)
reference-own t a n r h =
    let e : a + (r + 4) ≡ a + r + 4 = omega arith in
    ap₂ region (num-part t a n r 4 (omega arith)) (num-part t a n (r + 4) 2 (omega arith) ∙ ap (λ (m : ℕ). num t m 2) e)

abbrev named : Region → Place
named x = pick (eqb x.len 0) (no_place done) (record { answer = done; present = true; at = x.at; len = x.len })

-- a record of kind k at a
module _ (k : ℕ) (t : List ℕ) (a : ℕ) where
  abbrev own : List ℕ
  own = part t a (base_of (layout_of k))

  pub own-long : a + base_of (layout_of k) ≤ length t → length own ≡ base_of (layout_of k)
  own-long h = part-long t a (base_of (layout_of k)) h

  shown-own : (on : Bool) → shown own (layout_of k) 0 on ≡ shown t (layout_of k) a on
  unfolding image_in
  shown-own true = image-own k t a
  shown-own false = refl

  pub image_at-own : (on : Bool) → image_at own (seat (layout_of k) 0 on) ≡ image_at t (seat (layout_of k) a on)
  image_at-own on = ap (λ (b : List ℕ). record { answer = done; used = on; len = base_of (layout_of k); bytes = padded 128 b }) (shown-own on)

  pub field_at-own : (q : ℕ) (on : Bool) → field_at own q (seat (layout_of k) 0 on) ≡ field_at t q (seat (layout_of k) a on)
  field_at-own q on =
      let w = width_at q (layout_of k).shape.fields in
      ap (λ (b : List ℕ). pick (eqb w 0) (refused_field (answer 16 0 0)) (record { answer = done; used = on; len = w; bytes = padded 16 (part b q w) })) (shown-own on)

  pub whole_at-own : (q : ℕ) (on : Bool) → whole_at own q (seat (layout_of k) 0 on) ≡ whole_at t q (seat (layout_of k) a on)
  whole_at-own q on = go (has_plain q (layout_of k).refs) refl where
    go : (c : Bool) → has_plain q (layout_of k).refs ≡ c
        → pick c (pick on (under (need_at q (layout_of k).refs (shown own (layout_of k) 0 on)) (no_place done) (ref_place own (0 + q))) (no_place done)) (no_place (answer 16 0 0))
        ≡ pick c (pick on (under (need_at q (layout_of k).refs (shown t (layout_of k) a on)) (no_place done) (ref_place t (a + q))) (no_place done)) (no_place (answer 16 0 0))
    go true e =
        ap₂ (λ (b : List ℕ) (x : Region). pick on (under (need_at q (layout_of k).refs b) (no_place done) (named x)) (no_place done))
        (shown-own on) (ap (reference_at own) (zero-add q) ∙ reference-own t a (base_of (layout_of k)) q (plain_fits k q e))
    go false e = refl

-- ---- heap records

heap_at-own : (t : List ℕ) (a n r : ℕ) → r + 6 ≤ n → heap_at (part t a n) r ≡ heap_at t (a + r)
unfolding heap_at
heap_at-own t a n r h = ap (λ (x : Region). pick (eqb x.len 0) None (found x.at true)) (reference-own t a n r h)

extended-own : (t : List ℕ) (a : ℕ) → extended_at (part t a (base_of (layout_of 4))) 0 ≡ extended_at t a
unfolding extended_at layout_of
extended-own t a =
    ap₂ (λ (i : List ℕ) (s : Option Seat). pick (eqb (num i 3 2 / 16 % 2) 0) None s) (image-own 4 t a) (heap_at-own t a (base_of ssns) 60 (unfold ssns in lit≤ tt))

identity-own : (t : List ℕ) (a : ℕ) → identity_at (part t a (base_of (layout_of 7))) 0 ≡ identity_at t a
unfolding identity_at layout_of
identity-own t a =
    ap₂ (λ (i : List ℕ) (s : Option Seat). pick (eqb (get_or i 3 0) 2) s None) (image-own 7 t a) (heap_at-own t a (base_of info) 110 (unfold info in lit≤ tt))

pub heap-record-own : (t : List ℕ) (a k : ℕ) → heap_record (part t a (base_of (layout_of k))) k 0 ≡ heap_record t k a
unfolding heap_record
heap-record-own t a =
    by_kind (λ k. heap_record (part t a (base_of (layout_of k))) k 0 ≡ heap_record t k a)
    refl refl refl (heap_at-own t a (base_of (layout_of 3)) 16 (unfold layout_of hfi in lit≤ tt)) (extended-own t a) refl refl (identity-own t a) refl refl
    (λ k o. rw (o.not3, o.not4, o.not7) refl)
