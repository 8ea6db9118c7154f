-- The header minor by the reads: an HFI asks for 1 by the version of the info that stands at its seat. Assumes nothing.
use mathlib.Core.Path.{◌≡◌, refl, sym, ap, ◌∙◌}
use mathlib.Core.Bool.{Bool, true, false, ◌||◌}
use mathlib.Core.List.{List, [], ◌∷◌}
use Prim.Native.Nat.{ℕ, ◌+◌, ◌-◌, ◌≤◌, ◌<◌}
use lib.ListN.{get_or, drop}
use lib.Dec.{eqb}
use Rattle.table.specs.Bytes.{pick, num}
use Rattle.table.specs.Layout.{Layout, Slots, Entry, unused, used, none, nest, nil, gone, rec, rec_at, image}
use Rattle.table.specs.FixedLayouts.{layout_of, hfi, ssns, security, discovery, info, required}
use Rattle.table.specs.Objects.{read_slots, newer_entry, newer_list, newer_body}
use Rattle.table.specs.Meaning.{meaning, minor_of}
use Rattle.table.specs.Reads as reads
use Rattle.table.specs.Reads.{seat, seat_of, heap_seat}
use Rattle.laws.specs.Fields.{Bytes, image_in}
use Rattle.reader.specs.Accepted.{Accepted}
use Rattle.reads_seats.specs.Seats.{Good}
use Rattle.reads_seats.specs.Told.{told_entry, count_of, told}
use Rattle.reads_seats.proofs.SeatLaws.{seats-good}
use Rattle.reads_seats.proofs.EntryLaws.{entry-nowhere, entry-off, entry-on}
use Rattle.reads_seats.proofs.MeaningLaws.{told-all}
use Rattle.rewriter_sizes.specs.Parts.{list_of, list_from}
use Rattle.rewriter_sizes.proofs.PartLaws.{list-more, list_done, list_all}

-- whether the info at a seat has version 2
abbrev pub newer_at : List ℕ → reads.Seat → Bool
newer_at t reads.nowhere = false
newer_at t (seat l a on) = eqb (get_or (image_in info t a) 3 0) 2

-- the HFI at a place, used
abbrev HfiSlots : Type 0
HfiSlots = Slots (nest 16 required info.shape info.refs none)

newer-slot : (t : List ℕ) (a : ℕ) (c : Bool) (own : Slots info.refs) → let y = image info.shape.keep (drop a t) in
    eqb (get_or (rec_at 16 (pick {X = HfiSlots} c (gone nil) (rec y own nil))) 3 0) 2 ≡ newer_at t (pick c reads.nowhere (seat info a true))
unfolding rec_at image_in
newer-slot t a true own = refl
newer-slot t a false own = refl

newer-used : (t : List ℕ) (a : ℕ) → newer_entry {l = hfi} (used (image_in hfi t a) (read_slots t a (image_in hfi t a) hfi.refs)) ≡ newer_at t (heap_seat info 16 t (seat hfi a true))
unfolding newer_entry hfi read_slots
newer-used t a =
    let b = num t (a + 16) 4 in
    let y = image info.shape.keep (drop b t) in
    newer-slot t b (eqb (num t (a + 16 + 4) 2) 0) (read_slots t b y info.refs)

seat-inner : (t : List ℕ) (n : ℕ) → seat_of t 7 n ≡ heap_seat info 16 t (seat_of t 3 n)
unfolding seat_of
seat-inner t n = refl

not-newer : newer_entry {l = layout_of 3} unused ≡ false
unfolding newer_entry
not-newer = refl

on-newer : (t : List ℕ) (a : ℕ) → newer_entry {l = layout_of 3} (used (image_in (layout_of 3) t a) (read_slots t a (image_in (layout_of 3) t a) (layout_of 3).refs))
    ≡ newer_at t (heap_seat info 16 t (seat (layout_of 3) a true))
unfolding layout_of
on-newer t a = newer-used t a

pub newer-is : (t : List ℕ) → Accepted t → (n : ℕ) → newer_entry (told_entry (layout_of 3) t 3 n) ≡ newer_at t (seat_of t 7 n)
newer-is t ok n = go (seat_of t 3 n) refl (seats-good t ok n 3) where
  inner : (s : reads.Seat) → seat_of t 3 n ≡ s → newer_at t (heap_seat info 16 t s) ≡ newer_at t (seat_of t 7 n)
  inner s e = sym (ap (newer_at t) (seat-inner t n ∙ ap (heap_seat info 16 t) e))

  go : (s : reads.Seat) → seat_of t 3 n ≡ s → Good t 3 s → newer_entry (told_entry (layout_of 3) t 3 n) ≡ newer_at t (seat_of t 7 n)
  go reads.nowhere e g = ap newer_entry (entry-nowhere t 3 n e) ∙ not-newer ∙ inner reads.nowhere e
  go (seat l a false) e g =
      let s : seat_of t 3 n ≡ seat (layout_of 3) a false = e ∙ ap (λ (m : Layout). seat m a false) g.0 in
      ap newer_entry (entry-off t 3 n a s) ∙ not-newer ∙ inner (seat (layout_of 3) a false) s
  go (seat l a true) e g =
      let s : seat_of t 3 n ≡ seat (layout_of 3) a true = e ∙ ap (λ (m : Layout). seat m a true) g.0 in
      ap newer_entry (entry-on t 3 n a s) ∙ on-newer t a ∙ inner (seat (layout_of 3) a true) s

-- ---- the lists

never : (l : Layout) → ((ss : Slots l.refs) → l.newer ss ≡ false) → (es : List (Entry l)) → newer_list es ≡ false
unfolding newer_list newer_entry
never l f [] = refl
never l f (unused ∷ es) = never l f es
never l f (used img ss ∷ es) = ap (λ (c : Bool). c || newer_list es) (f ss) ∙ never l f es

module _ (t : List ℕ) (p n : ℕ) where
  pub newer-more : 0 < p → p ≤ n → newer_list (list_from t 3 n (p - 1)) ≡ (newer_entry (told_entry (layout_of 3) t 3 p) || newer_list (list_from t 3 n p))
  unfolding newer_list
  newer-more g h = ap newer_list (list-more t 3 p n g h)

  pub newer-done : n ≤ p → newer_list (list_from t 3 n p) ≡ false
  unfolding newer_list
  newer-done h = ap newer_list (list_done t 3 p n h)

or-false : (c x y z : Bool) → x ≡ false → y ≡ false → z ≡ false → ◌≡◌ {A = ℕ} (pick (c || (x || (y || (z || false)))) 1 0) (pick c 1 0)
or-false c x y z p q r = rw (p, q, r) (go c) where
  go : (c : Bool) → ◌≡◌ {A = ℕ} (pick (c || false) 1 0) (pick c 1 0)
  go true = refl
  go false = refl

minor-parts : (t : List ℕ) → minor_of (told t) ≡ pick (newer_list (list_of t 3) || (newer_list (list_of t 4) || (newer_list (list_of t 5) || (newer_list (list_of t 6) || false)))) 1 0
unfolding minor_of newer_body told list_of count_of layout_of
minor-parts t = refl

others : (t : List ℕ) → (newer_list (list_of t 4) ≡ false) × (newer_list (list_of t 5) ≡ false) × (newer_list (list_of t 6) ≡ false)
unfolding layout_of ssns security discovery
others t = (never (layout_of 4) (λ ss. refl) (list_of t 4), never (layout_of 5) (λ ss. refl) (list_of t 5), never (layout_of 6) (λ ss. refl) (list_of t 6))

pub minor-is : (t : List ℕ) → Bytes t → Accepted t → (n : ℕ) → n ≡ count_of t 3 → minor_of (meaning t) ≡ pick (newer_list (list_from t 3 n 0)) 1 0
minor-is t b ok n e =
    ap minor_of (sym (told-all t b ok))
    ∙ minor-parts t
    ∙ or-false (newer_list (list_of t 3)) (newer_list (list_of t 4)) (newer_list (list_of t 5)) (newer_list (list_of t 6)) (others t).0 (others t).1 (others t).2
    ∙ ap (λ (es : List (Entry (layout_of 3))). pick (newer_list es) 1 0) (sym (list_all t 3 n e))
