-- What reads give fits the numbers that are handed to C. Assumes nothing.
use mathlib.Core.Path.{◌≡◌, refl, sym, ap, ◌∙◌}
use mathlib.Core.Bool.{Bool, true, false, not}
use mathlib.Core.List.{List}
use Prim.Native.Nat.{ℕ, ◌+◌, ◌/◌, ◌≤◌, ◌<◌}
use native.Mathlib.Omega.{arith}
use lib.Dec.{eqb, leb, lit<}
use borrow.Author.Tests.{eq-eqb, ne_eqb, eqb-true, eqb-false}
use Rattle.table.specs.declared.Field.{Field}
use Rattle.table.specs.declared.Place.{Place}
use Rattle.table.specs.declared.Need.{Need}
use Rattle.table.specs.declared.Need.TheVariants.{Ignored, Optional, Required}
use Rattle.table.specs.Bytes.{pick, part, padded, num}
use Rattle.table.specs.Layout.{Content, anything, text, positions, Layout, reference_at}
use Rattle.table.specs.FixedLayouts.{layout_of}
use Rattle.table.specs.Objects.{under}
use Rattle.table.specs.Rules.{answer, done}
use Rattle.table.specs.Numbers.{check}
use Rattle.table.specs.Reads.{Seat, nowhere, seat, seat_of, width_at, shown, refused_field, field_at, read_field, content_at, handed, has_plain, need_at, no_place, ref_place, whole_at, place_at, read_place, image_at, refused_image, read_record}
use Rattle.laws.specs.Fields.{Bytes}
use Rattle.laws.specs.Positions.{check-placed}
use Rattle.reader.specs.Accepted.{Accepted}
use Rattle.reader.proofs.AcceptedLaws.{heap-far}
use Rattle.reads_seats.specs.Seats.{Good}
use Rattle.reads_seats.proofs.SeatLaws.{seats-good}
use Rattle.reads_seats.proofs.ReadLaws.{width_fits}
use Rattle.reads_seats.proofs.ObjectLaws.{accepted, PlaceFits, one-fits, seat-place, seat-heap, absent-start}
use Rattle.reads_seats.specs.Objects.{handed_place}
use Rattle.reads.proofs.HandedLaws.{handed-told}
use Rattle.reads_whole.specs.Whole.{first_of, left_of, number_of, kinds_to, least, records_answer, refused_records, records_in, read_records}

-- ---- fields

abbrev pub FieldFits : Field → Type 0
FieldFits f = (f.answer.position < 256) × (f.len < 256)

seat-field : (t : List ℕ) (k q : ℕ) (s : Seat) → Good t k s → FieldFits (field_at t q s)
seat-field t k q nowhere g = (lit< tt, lit< tt)
seat-field t k q (seat l a on) g = go (eqb (width_at q l.shape.fields) 0) refl where
  go : (c : Bool)
      → eqb (width_at q l.shape.fields) 0 ≡ c
      → FieldFits (pick c (refused_field (answer 16 0 0)) (record {
        answer = done;
        used = on;
        len = width_at q l.shape.fields;
        bytes = padded 16 (part (shown t l a on) q (width_at q l.shape.fields));
      }))
  go true e = (lit< tt, lit< tt)
  go false e =
      let z = eqb-false (width_at q l.shape.fields) 0 e in
      let w : width_at q l.shape.fields ≡ width_at q (layout_of k).shape.fields = ap (λ (m : Layout). width_at q m.shape.fields) g.0 in
      (lit< tt, omega (arith, w, (width_fits k q (λ y. z (w ∙ y))).1))

pub field_fits : (t : List ℕ) → Bytes t → (k n q : ℕ) → FieldFits (read_field t k n q)
unfolding read_field
field_fits t b k n q = go (eqb (check t).number 0) refl where
  go : (c : Bool) → eqb (check t).number 0 ≡ c → FieldFits (pick c (field_at t q (seat_of t k n)) (refused_field (check t)))
  go true e = seat-field t k q (seat_of t k n) (seats-good t (accepted t (eqb-true (check t).number 0 e)) n k)
  go false e = (check-placed t b, lit< tt)

-- ---- objects

-- what is handed back is no longer
handed-fits : (c : Content) (p : Place) → PlaceFits p → PlaceFits (handed c p)
handed-fits anything p f = f
handed-fits positions p f = f
handed-fits text p f = (f.0, omega (arith, f.1), f.2)

handed-seat : (t : List ℕ) → Bytes t → (q : ℕ) (s : Seat) → PlaceFits (place_at t q s)
handed-seat t b q nowhere = seat-place t b q nowhere
handed-seat t b q (seat l a on) = handed-fits (content_at q l.refs) (whole_at t q (seat l a on)) (seat-place t b q (seat l a on))

pub place-fits : (t : List ℕ) → Bytes t → (k n q : ℕ) → PlaceFits (read_place t k n q)
unfolding read_place
place-fits t b k n q = one-fits (eqb (check t).number 0) _ _ (handed-seat t b q (seat_of t k n)) (check-placed t b, lit< tt, lit< tt)

-- ---- where objects start

-- a place is present exactly where it does not start at 0
abbrev Told : Place → Type 0
Told p = (p.at < 65536) × (not (eqb p.at 0) ≡ p.present)

-- a whole object has bytes exactly where it is present
present-long : (t : List ℕ) (q : ℕ) (s : Seat) → not (eqb (whole_at t q s).len 0) ≡ (whole_at t q s).present
present-long t q nowhere = refl
present-long t q (seat l a on) = go (has_plain q l.refs) on (need_at q l.refs (shown t l a on)) (named (eqb (reference_at t (a + q)).len 0) refl) where
  Long : Place → Type 0
  Long p = not (eqb p.len 0) ≡ p.present

  named : (c : Bool) → eqb (reference_at t (a + q)).len 0 ≡ c → Long (ref_place t (a + q))
  named true e = rw e refl
  named false e = rw (e, e) refl

  go : (c d : Bool) (n : Need) → Long (ref_place t (a + q)) → Long (pick c (pick d (under n (no_place done) (ref_place t (a + q))) (no_place done)) (no_place (answer 16 0 0)))
  go false d n z = refl
  go true false n z = refl
  go true true Ignored z = refl
  go true true Optional z = z
  go true true Required z = z

-- one that is there stands in the heap, which lies behind the control record and within 65,536 bytes
module _ (t : List ℕ) (ok : Accepted t) (k q : ℕ) (s : Seat) (g : Good t k s) where
  abbrev whole : Place
  whole = whole_at t q s

  go : (c : Bool) → eqb whole.len 0 ≡ c → Told whole
  go true e =
      let z : whole.at ≡ 0 = sym (absent-start t q s) ∙ rw e refl in
      (omega (arith, z), rw (eq-eqb whole.at 0 z) (sym (ap not e) ∙ present-long t q s))
  go false e =
      let some : 0 < whole.len = let z = eqb-false whole.len 0 e in omega (arith, z) in
      let i = seat-heap t ok q k s g some in
      let h = heap-far t ok in
      let full : 0 < num t 40 4 = omega (arith, i.above, i.below, some) in
      let far : 128 ≤ whole.at = omega (arith, i.above, h.heap-behind full) in
      (omega (arith, i.above, i.below, some, h.heap-short full), rw (ne_eqb whole.at 0 (λ z. omega (arith, far, z))) (sym (ap not e) ∙ present-long t q s))

  whole-told : Told whole
  whole-told = go (eqb whole.len 0) refl

-- what is handed back of it starts where it does
pub place-told : (t : List ℕ) (k n q : ℕ) → Told (read_place t k n q)
unfolding read_place handed_place
place-told t k n q = go (eqb (check t).number 0) refl where
  go : (c : Bool) → eqb (check t).number 0 ≡ c → Told (pick c (place_at t q (seat_of t k n)) (no_place (check t)))
  go true e =
      let ok = accepted t (eqb-true (check t).number 0 e) in
      rw (handed-told t ok k n q) (whole-told t ok k q (seat_of t k n) (seats-good t ok n k))
  go false e = (lit< tt, refl)

-- ---- records

pub record-fits : (t : List ℕ) → Bytes t → (k n : ℕ) → (read_record t k n).answer.position < 256
unfolding read_record
record-fits t b k n = go (eqb (check t).number 0) (seat_of t k n) where
  go : (c : Bool) (s : Seat) → (pick c (image_at t s) (refused_image (check t))).answer.position < 256
  go true nowhere = lit< tt
  go true (seat l a on) = lit< tt
  go false s = check-placed t b

pub records-fit : (t : List ℕ) → Bytes t → (k n last room : ℕ) → (read_records t k n last room).answer.position < 256
unfolding read_records records_in records_answer
records-fit t b k n last room = go (eqb (check t).number 0) (leb (first_of k) n) (eqb (left_of t k n) 0) where
  all : ℕ
  all = number_of t k n (kinds_to k last)

  go : (c d e : Bool) → let a = pick d (pick e (answer 16 0 0) done) (answer 16 0 0) in
      (pick c (pick (eqb a.number 0) (record { answer = done; written = least all (room / 184); total = all }) (refused_records a)) (refused_records (check t))).answer.position < 256
  go true true true = lit< tt
  go true true false = lit< tt
  go true false e = lit< tt
  go false d e = check-placed t b
