-- Seats as the code computes them are the definitions'. Assumes nothing.
use mathlib.Core.Path.{◌≡◌, refl, sym, ap, ◌∙◌}
use mathlib.Core.Bool.{Bool, true, false, true≢false, ◌&&◌}
use mathlib.Core.List.{List}
use Prim.Native.Nat.{ℕ, ◌+◌, ◌-◌, ◌*◌, ◌/◌, ◌%◌, ◌≤◌, ◌<◌}
use lib.ListN.{get_or, drop}
use lib.Dec.{eqb, leb}
use borrow.Author.Tests.{le-leb, lt-leb}
use Rattle.table.specs.declared.Need.TheVariants.{Ignored, Optional, Required}
use Rattle.table.specs.Bytes.{pick, num}
use Rattle.table.specs.Layout.{Layout, is_valid, image}
use Rattle.table.specs.FixedLayouts.{layout_of, header, control, host, hfi, ssns, security, discovery, info, extended, hfi_extended, no_kind}
use Rattle.table.specs.Objects.{under}
use Rattle.table.specs.Reads.{Seat, nowhere, seat, seat_of, list_seat, heap_seat}
use Rattle.laws.specs.Fields.{Bytes, image_in, whole}
use Rattle.layout_images.proofs.Laws.{by_kind, Other, other-layout}
use Rattle.reads_seats.specs.declared.seats.Seat as code
use Rattle.std.specs.Prelude.{Option, Some, None}
use Rattle.reads_seats.specs.Seats.{found, as_seat, single_at, heap_at, extended_at, identity_at, heap_record, owned_of, nest_at, is_owner}
use Rattle.reads_seats.specs.Told.{inner_kind}

-- ---- the lists

module _ (k : ℕ) (t : List ℕ) (c n : ℕ) where
  abbrev start : ℕ
  start = num t c 4 + (n - 1) * num t (c + 4) 2

  pub list-none : n ≡ 0 → list_seat (layout_of k) t c n ≡ nowhere
  list-none e = rw e refl

  pub list-past : get_or t (c + 7) 0 < n → list_seat (layout_of k) t c n ≡ nowhere
  list-past h = go (leb 1 n) (lt-leb n (get_or t (c + 7) 0) h) where
    go : (x : Bool)
        → leb n (get_or t (c + 7) 0) ≡ false
        → pick (x && leb n (get_or t (c + 7) 0))
        (seat (layout_of k) start (is_valid (layout_of k).shape (image (layout_of k).shape.keep (drop start t)))) nowhere
        ≡ nowhere
    go true e = rw e refl
    go false e = refl

  pub list-there : 1 ≤ n → n ≤ get_or t (c + 7) 0 → list_seat (layout_of k) t c n ≡ seat (layout_of k) start (is_valid (layout_of k).shape (image_in (layout_of k) t start))
  unfolding image_in
  list-there p q = rw (le-leb 1 n p, le-leb n (get_or t (c + 7) 0) q) refl

-- ---- outside the lists

pub single-is : (l : Layout) (n at : ℕ) → as_seat l (single_at n at) ≡ pick (eqb n 0) (seat l at true) nowhere
unfolding single_at
single-is l n at = go (eqb n 0) where
  go : (c : Bool) → as_seat l (pick c (found at true) None) ≡ pick c (seat l at true) nowhere
  go true = refl
  go false = refl

heap_is : (l : Layout) (t : List ℕ) (r : ℕ) → as_seat l (heap_at t r) ≡ pick (eqb (num t (r + 4) 2) 0) nowhere (seat l (num t r 4) true)
unfolding heap_at
heap_is l t r = go (eqb (num t (r + 4) 2) 0) where
  go : (c : Bool) → as_seat l (pick c None (found (num t r 4) true)) ≡ pick c nowhere (seat l (num t r 4) true)
  go true = refl
  go false = refl

-- ---- heap records

extended-is : (t : List ℕ) (a : ℕ) → as_seat extended (extended_at t a) ≡ heap_seat extended 60 t (seat ssns a true)
unfolding extended_at ssns image_in
extended-is t a = go (eqb (num (image ssns.shape.keep (drop a t)) 3 2 / 16 % 2) 0) where
  go : (c : Bool) → as_seat extended (pick c None (heap_at t (a + 60)))
      ≡ under (pick c Ignored Required) nowhere (pick (eqb (num t (a + 60 + 4) 2) 0) nowhere (seat extended (num t (a + 60) 4) true))
  go true = refl
  go false = heap_is extended t (a + 60)

-- the version of the info whose bytes these are
pub version-is : (x : List ℕ) → Bytes x → get_or (image_in info x 0) 3 0 ≡ get_or x 3 0
unfolding image_in info
version-is x b = whole info.shape.keep x 0 3 tt refl (b 3)

identity-is : (t : List ℕ) (a : ℕ) → as_seat hfi_extended (identity_at t a) ≡ heap_seat hfi_extended 110 t (seat info a true)
unfolding identity_at info image_in
identity-is t a = go (eqb (get_or (image info.shape.keep (drop a t)) 3 0) 2) where
  go : (c : Bool) → as_seat hfi_extended (pick c (heap_at t (a + 110)) None)
      ≡ under (pick c Optional Ignored) nowhere (pick (eqb (num t (a + 110 + 4) 2) 0) nowhere (seat hfi_extended (num t (a + 110) 4) true))
  go true = heap_is hfi_extended t (a + 110)
  go false = refl

other-record : (t : List ℕ) (a k : ℕ) → Other k → as_seat (layout_of (inner_kind k)) (heap_record t k a) ≡ heap_seat (layout_of (inner_kind k)) (nest_at k) t (seat no_kind a true)
unfolding heap_record no_kind
other-record t a k o = rw (o.not3, o.not4, o.not7) refl

-- the heap record of the used record of kind k at a is the one that its reference names
pub heap-record-is : (t : List ℕ) (a k : ℕ) → as_seat (layout_of (inner_kind k)) (heap_record t k a) ≡ heap_seat (layout_of (inner_kind k)) (nest_at k) t (seat (layout_of k) a true)
unfolding heap_record layout_of header control host hfi security discovery extended hfi_extended
heap-record-is t a =
    by_kind (λ k. as_seat (layout_of (inner_kind k)) (heap_record t k a) ≡ heap_seat (layout_of (inner_kind k)) (nest_at k) t (seat (layout_of k) a true))
    refl refl refl (heap_is info t (a + 16)) (extended-is t a) refl refl (identity-is t a) refl refl
    (λ k o. other-record t a k o ∙ ap (λ (l : Layout). heap_seat (layout_of (inner_kind k)) (nest_at k) t (seat l a true)) (sym (other-layout k o)))

-- so it is the one of its owner's position
pub heap-record-of : (t : List ℕ) (n a k : ℕ) → is_owner k ≡ true → seat_of t k n ≡ seat (layout_of k) a true → as_seat (layout_of (inner_kind k)) (heap_record t k a) ≡ seat_of t (inner_kind k) n
unfolding seat_of layout_of
heap-record-of t n a =
    by_kind (λ k. is_owner k ≡ true → seat_of t k n ≡ seat (layout_of k) a true → as_seat (layout_of (inner_kind k)) (heap_record t k a) ≡ seat_of t (inner_kind k) n)
    (λ e s. absurd (true≢false (sym e)))
    (λ e s. absurd (true≢false (sym e)))
    (λ e s. absurd (true≢false (sym e)))
    (λ e s. heap-record-is t a 3 ∙ ap (heap_seat info 16 t) (sym s))
    (λ e s. heap-record-is t a 4 ∙ ap (heap_seat extended 60 t) (sym s))
    (λ e s. absurd (true≢false (sym e)))
    (λ e s. absurd (true≢false (sym e)))
    (λ e s. heap-record-is t a 7 ∙ ap (heap_seat hfi_extended 110 t) (sym s))
    (λ e s. absurd (true≢false (sym e)))
    (λ e s. absurd (true≢false (sym e)))
    (λ k o e s. absurd (true≢false (sym (rw (o.not3, o.not4, o.not7) at e))))

-- by an owner's seat
pub owned-is : (t : List ℕ) (k : ℕ) (s : Option code.Seat) → as_seat (layout_of (inner_kind k)) (owned_of t k s) ≡ heap_seat (layout_of (inner_kind k)) (nest_at k) t (as_seat (layout_of k) s)
unfolding owned_of
owned-is t k None = refl
owned-is t k (Some s) = go s.used where
  go : (c : Bool) → as_seat (layout_of (inner_kind k)) (pick c (heap_record t k s.at) None) ≡ heap_seat (layout_of (inner_kind k)) (nest_at k) t (seat (layout_of k) s.at c)
  go true = heap-record-is t s.at k
  go false = refl
