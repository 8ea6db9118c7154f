-- What is handed back of an object: text without the byte that ends it. Assumes nothing.
use mathlib.Core.Path.{◌≡◌, refl, sym, ap, ◌∙◌}
use mathlib.Core.Bool.{Bool, true, false}
use mathlib.Core.List.{List}
use Prim.Native.Nat.{ℕ, ◌-◌, ◌≤◌}
use native.Mathlib.Nat.{add-zero}
use native.Mathlib.Omega.{arith}
use lib.ListN.{length}
use Rattle.table.specs.declared.Place.{Place}
use Rattle.table.specs.Bytes.{part, pick}
use Rattle.table.specs.Layout.{Content, anything, text, positions, Layout}
use Rattle.table.specs.FixedLayouts.{layout_of}
use Rattle.table.specs.Reads as reads
use Rattle.table.specs.Reads.{content_at, handed, place_at, seat, seat_of, whole_at}
use Rattle.layout_fields.specs.Texts.{is_of_text}
use Rattle.laws.specs.Fields.{part-part}
use Rattle.layout_images.proofs.Laws.{part-long}
use Rattle.reader.specs.Accepted.{Accepted}
use Rattle.reads_seats.specs.Seats.{Good}
use Rattle.reads_seats.specs.Objects.{object_in, handed_len, handed_place, handed_in}
use Rattle.reads_seats.proofs.ObjectLaws.{seat-room}
use Rattle.reads_seats.proofs.SeatLaws.{seats-good}

-- a place of which m bytes are handed back
abbrev shortened : Place → ℕ → Place
shortened w m = record { answer = w.answer; present = w.present; at = w.at; len = m }

by-content : (c : Content) (w : Place) → handed c w ≡ shortened w (pick (is_of_text c) (w.len - 1) w.len)
by-content anything w = refl
by-content positions w = refl
by-content text w = refl

-- of a record of kind k, by its own bytes
pub handed-own : (x : List ℕ) (k q : ℕ) (on : Bool) → place_at x q (seat (layout_of k) 0 on) ≡ handed_place k q (whole_at x q (seat (layout_of k) 0 on))
unfolding handed_len handed_place
handed-own x k q on = by-content (content_at q (layout_of k).refs) (whole_at x q (seat (layout_of k) 0 on))

module _ (t : List ℕ) (ok : Accepted t) (k n q : ℕ) where
  abbrev whole : Place
  whole = whole_at t q (seat_of t k n)

  pub handed-place : place_at t q (seat_of t k n) ≡ shortened whole (handed_len k q whole.len)
  unfolding handed_len
  handed-place = go (seat_of t k n) (seats-good t ok n k)
    where
      none : (c : Bool) → ◌≡◌ {A = ℕ} 0 (pick c (0 - 1) 0)
      none true = refl
      none false = refl

      go : (s : reads.Seat) → Good t k s → place_at t q s ≡ shortened (whole_at t q s) (pick (is_of_text (content_at q (layout_of k).refs)) ((whole_at t q s).len - 1) (whole_at t q s).len)
      go reads.nowhere g = ap (shortened (whole_at t q reads.nowhere)) (none (is_of_text (content_at q (layout_of k).refs)))
      go (seat l a on) g =
          by-content (content_at q l.refs) (whole_at t q (seat l a on))
          ∙ ap (λ (m : Layout). shortened (whole_at t q (seat l a on)) (pick (is_of_text (content_at q m.refs)) ((whole_at t q (seat l a on)).len - 1) (whole_at t q (seat l a on)).len)) g.0

  -- the same, by the word for that
  pub handed-told : place_at t q (seat_of t k n) ≡ handed_place k q whole
  unfolding handed_place
  handed-told = handed-place

  -- the first m bytes of the whole object are those that are handed back
  pub handed-bytes : (ys xs : List ℕ) (m : ℕ) → ys ≡ object_in t k n q → m ≡ handed_len k q (length ys) → m ≤ length ys → xs ≡ part ys 0 m → xs ≡ handed_in t k n q
  unfolding object_in handed_in
  handed-bytes ys xs m ey em l ex =
      let r = seat-room t ok q k (seat_of t k n) (seats-good t ok n k) in
      let e : length ys ≡ whole.len = ap length ey ∙ part-long t whole.at whole.len r in
      ex
      ∙ ap (λ (y : List ℕ). part y 0 m) ey
      ∙ part-part t whole.at whole.len 0 m (omega (arith, e, l))
      ∙ ap (λ (a : ℕ). part t a m) (add-zero whole.at)
      ∙ ap (part t whole.at) (em ∙ ap (handed_len k q) e)
      ∙ sym (ap (λ (p : Place). part t p.at p.len) handed-place)

  pub handed-at : (place_at t q (seat_of t k n)).at ≡ whole.at
  handed-at = ap (λ (p : Place). p.at) handed-place
