-- What the reads say of a record, by its seat. Assumes nothing.
use mathlib.Core.Path.{◌≡◌, refl, sym, ap, ap₂, subst}
use mathlib.Core.Bool.{Bool, true, false}
use mathlib.Core.List.{List}
use Prim.Native.Nat.{ℕ}
use native.Mathlib.Omega.{arith}
use Rattle.table.specs.Layout.{Layout, Slots, Entry, unused, used}
use Rattle.table.specs.FixedLayouts.{layout_of, header, control, host, hfi, ssns, security, discovery, info, extended, no_kind}
use Rattle.table.specs.Objects.{read_slots}
use Rattle.table.specs.Reads.{nowhere, seat, seat_of}
use Rattle.laws.specs.Fields.{image_in}
use Rattle.layout_images.proofs.Laws.{by_kind, other-layout}
use Rattle.reader.specs.Accepted.{Accepted}
use Rattle.reads_seats.specs.Seats.{Seated, Good}
use Rattle.reads_seats.specs.Told.{image_of, told_slots, told_entry}
use Rattle.reads_seats.proofs.SeatLaws.{seats-good}
use Rattle.reads_seats.proofs.MeaningLaws.{image-front, Among, slots-told, host-among, hfi-among, ssns-among, security-among, discovery-among, info-told, extended-told, identity-told}

-- a record that the reads find lies in the table, and its references pass
pub seated-at : (t : List ℕ) → Accepted t → (k n a : ℕ) (on : Bool) → seat_of t k n ≡ seat (layout_of k) a on → Seated t (layout_of k) a on
seated-at t ok k n a on s = (subst (Good t k) s (seats-good t ok n k)).1

-- the slots of a used one are those that stand there
module _ (t : List ℕ) (n a : ℕ) where
  pub slots-there : (k : ℕ) → seat_of t k n ≡ seat (layout_of k) a true → told_slots t k n (layout_of k).refs ≡ read_slots t a (image_in (layout_of k) t a) (layout_of k).refs
  unfolding layout_of image_in
  slots-there =
      by_kind (λ k. seat_of t k n ≡ seat (layout_of k) a true → told_slots t k n (layout_of k).refs ≡ read_slots t a (image_in (layout_of k) t a) (layout_of k).refs)
      (λ s. slots-told t 0 n header a s header.refs (unfold header in (refl, refl, omega arith)))
      (λ s. slots-told t 1 n control a s control.refs (unfold control in omega arith))
      (λ s. slots-told t 2 n host a s host.refs (host-among t n a s))
      (λ s. slots-told t 3 n hfi a s hfi.refs (hfi-among t n a s))
      (λ s. slots-told t 4 n ssns a s ssns.refs (ssns-among t n a s))
      (λ s. slots-told t 5 n security a s security.refs (security-among t n a s))
      (λ s. slots-told t 6 n discovery a s discovery.refs (discovery-among t n a s))
      (λ s. info-told t n a s)
      (λ s. extended-told t n a s)
      (λ s. identity-told t n a s)
      (λ k o s. slots-told t k n (layout_of k) a s (layout_of k).refs (subst (Among t k n (layout_of k) a s) (sym (ap (λ (l : Layout). l.refs) (other-layout k o))) (unfold no_kind in omega arith)))

-- the record of kind k and position n, by its seat
module _ (t : List ℕ) (k n : ℕ) where
  abbrev here : Entry (layout_of k)
  here = told_entry (layout_of k) t k n

  pub entry-nowhere : seat_of t k n ≡ nowhere → here ≡ unused
  unfolding told_entry image_of
  entry-nowhere s = rw s refl

  pub entry-off : (a : ℕ) → seat_of t k n ≡ seat (layout_of k) a false → here ≡ unused
  unfolding told_entry image_of
  entry-off a s = rw s refl

  pub entry-on : (a : ℕ) → seat_of t k n ≡ seat (layout_of k) a true → here ≡ used (image_in (layout_of k) t a) (read_slots t a (image_in (layout_of k) t a) (layout_of k).refs)
  unfolding told_entry image_of
  entry-on a s =
      rw s
      (ap₂ {A = List ℕ} {B = Slots (layout_of k).refs} {C = Entry (layout_of k)} (λ i ss. used i ss) (unfold image_in in image-front (layout_of k) t a) (slots-there t n a k s))
