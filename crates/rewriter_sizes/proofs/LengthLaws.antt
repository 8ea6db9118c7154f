-- How long what is laid is, and what a reference names by its numbers. Assumes nothing.
use mathlib.Core.Path.{◌≡◌, refl, sym, ap, ap₂, subst, ◌∙◌}
use mathlib.Core.Bool.{Bool, true, false}
use mathlib.Core.List.{List, [], ◌∷◌}
use Prim.Native.Nat.{ℕ, suc, ◌+◌, ◌<◌}
use native.Mathlib.Omega.{arith}
use lib.ListN.{length, get_or, length-append, length-replicate}
use lib.Dec.{T}
use Rattle.table.specs.Layout.{Layout, Entry, unused, used, base_of}
use Rattle.table.specs.FixedLayouts.{layout_of, header, control, host, hfi, ssns, security, discovery, info, extended, hfi_extended, no_kind}
use Rattle.table.specs.Objects.{size_of, size_entry, patched, heap_of, rec_entry, heap_entry}
use Rattle.table.specs.Reads as reads
use Rattle.table.specs.Reads.{seat, seat_of, has_plain}
use Rattle.laws.specs.Lawful.{ok_refs}
use Rattle.laws.specs.SlotLaws.{length-patched}
use Rattle.laws.specs.Fields.{image_in, length-image_in}
use Rattle.laws.specs.ListWalk.{by_layout}
use Rattle.reader.specs.Accepted.{Accepted}
use Rattle.reads_seats.specs.declared.seats.Seat.{Seat}
use Rattle.std.specs.Prelude.{Option, Some, None}
use Rattle.reads_seats.specs.Seats.{Seated, Good, Held, heap_record}
use Rattle.reads_seats.specs.Told.{inner_kind, told_entry}
use Rattle.reads_seats.proofs.SeatLaws.{seats-good, record-held}
use Rattle.reads_seats.proofs.EntryLaws.{seated-at, entry-nowhere, entry-off, entry-on}
use Rattle.rewriter_sizes.specs.Parts.{Part, refs_of, objects_of, held_of, slots_in, record_part, part_at, record_bytes, bytes_at, spans_over, objects_over}
use Rattle.reads_seats.proofs.ReferenceLaws.{plain-each}
use Rattle.rewriter_sizes.proofs.PartLaws.{object-long, plain-part, nest-part, plain-bytes, nest-bytes, refs-objects, innermost-flat, sized-all, heaped-all}

refs-ok : (k : ℕ) → T (ok_refs 0 (layout_of k).shape.keep (layout_of k).refs)
unfolding header control host hfi ssns security discovery info extended hfi_extended no_kind
refs-ok = by_layout (λ l. T (ok_refs 0 l.shape.keep l.refs)) tt tt tt tt tt tt tt tt tt tt tt

-- a record with its references is as long as its image
pub patched-long : (t : List ℕ) (k a h : ℕ) → length (patched h (image_in (layout_of k) t a) (slots_in (layout_of k) t a)) ≡ base_of (layout_of k)
patched-long t k a h = length-patched (layout_of k).shape.keep h (image_in (layout_of k) t a) (slots_in (layout_of k) t a) (refs-ok k) (length-image_in (layout_of k) t a)

module _ (t : List ℕ) (ok : Accepted t) (k a : ℕ) (s : Seated t (layout_of k) a true) where
  -- what a reference to an object names takes its span
  plain-bytes-long : (h p : ℕ) → has_plain p (layout_of k).refs ≡ true → length (bytes_at t k a h p) ≡ (part_at t k a p).span
  plain-bytes-long h p e = ap length (plain-bytes t ok k a s h p e) ∙ object-long t ok k a s p ∙ sym (ap (λ (q : Part). q.span) (plain-part t ok k a s p e))

  -- ---- what all references name, where what each names takes its span

  objects-long : (ps : List ℕ) → ((i : ℕ) → i < length ps → (h : ℕ) → length (bytes_at t k a h (get_or ps i 0)) ≡ (part_at t k a (get_or ps i 0)).span)
      → (h : ℕ) → length (objects_over t k a h ps) ≡ spans_over t k a ps
  unfolding objects_over spans_over
  objects-long [] f h = refl
  objects-long (p ∷ ps) f h =
      length-append (bytes_at t k a h p) (objects_over t k a (h + (part_at t k a p).span) ps)
      ∙ ap₂ ◌+◌ (f 0 (omega arith) h) (objects-long ps (λ i b. f (suc i) (omega arith)) (h + (part_at t k a p).span))

  all-long : ((i : ℕ) → i < length (refs_of k) → (h : ℕ) → length (bytes_at t k a h (get_or (refs_of k) i 0)) ≡ (part_at t k a (get_or (refs_of k) i 0)).span)
      → (h : ℕ) → length (heap_of h (slots_in (layout_of k) t a)) ≡ size_of (slots_in (layout_of k) t a)
  all-long f h = ap length (heaped-all t ok k a s h) ∙ objects-long (refs_of k) f h ∙ sym (sized-all t ok k a s)

  plain-long : held_of k ≡ [] → (h : ℕ) → length (heap_of h (slots_in (layout_of k) t a)) ≡ size_of (slots_in (layout_of k) t a)
  plain-long o =
      all-long
      (subst (λ (ps : List ℕ). (i : ℕ) → i < length ps → (h : ℕ) → length (bytes_at t k a h (get_or ps i 0)) ≡ (part_at t k a (get_or ps i 0)).span) (sym (refs-objects k o))
      (λ i b h. plain-bytes-long h (get_or (objects_of k) i 0) (plain-each k i b)))

-- ---- a heap record, where what it names takes its size

abbrev Sized : List ℕ → ℕ → ℕ → Type 0
Sized t k a = (h : ℕ) → length (heap_of h (slots_in (layout_of k) t a)) ≡ size_of (slots_in (layout_of k) t a)

record-long : (t : List ℕ) (k h : ℕ) (s : Option Seat) → Held t k s → ((a : ℕ) → Seated t (layout_of k) a true → Sized t k a) → length (record_bytes t k h s) ≡ (record_part t k s).span
unfolding record_bytes record_part
record-long t k h None g f = refl
record-long t k h (Some s) g f =
    let b : ℕ = s.at in
    let h₁ : ℕ = h + base_of (layout_of k) in
    length-append (patched h₁ (image_in (layout_of k) t b) (slots_in (layout_of k) t b)) (heap_of h₁ (slots_in (layout_of k) t b))
    ∙ ap₂ ◌+◌ (patched-long t k b h₁) (f b g h₁)

-- ---- a record, where what its heap record names takes its size

module _ (t : List ℕ) (ok : Accepted t) (k a : ℕ) (s : Seated t (layout_of k) a true) (f : (b : ℕ) → Seated t (layout_of (inner_kind k)) b true → Sized t (inner_kind k) b) where
  nest-bytes-long : (h p : ℕ) → has_plain p (layout_of k).refs ≡ false → length (bytes_at t k a h p) ≡ (part_at t k a p).span
  nest-bytes-long h p e =
      ap length (nest-bytes t ok k a s h p e)
      ∙ record-long t (inner_kind k) h (heap_record t k a) (record-held t ok a k (refl, s)) f
      ∙ sym (ap (λ (q : Part). q.span) (nest-part t ok k a s p e))

  named-long : (h p : ℕ) → length (bytes_at t k a h p) ≡ (part_at t k a p).span
  named-long h p = go (has_plain p (layout_of k).refs) refl where
    go : (c : Bool) → has_plain p (layout_of k).refs ≡ c → length (bytes_at t k a h p) ≡ (part_at t k a p).span
    go true e = plain-bytes-long t ok k a s h p e
    go false e = nest-bytes-long h p e

  all-sized : Sized t k a
  all-sized = all-long t ok k a s (λ i b h. named-long h (get_or (refs_of k) i 0))

-- ---- level by level: a heap record that names objects alone, one that names such a one, and any record

module _ (t : List ℕ) (ok : Accepted t) where
  flat-sized : (k : ℕ) → held_of k ≡ [] → (a : ℕ) → Seated t (layout_of k) a true → Sized t k a
  flat-sized k o a s = plain-long t ok k a s o

  inner-sized : (k : ℕ) → held_of (inner_kind k) ≡ [] → (a : ℕ) → Seated t (layout_of k) a true → Sized t k a
  inner-sized k o a s = all-sized t ok k a s (flat-sized (inner_kind k) o)

module _ (t : List ℕ) (ok : Accepted t) (k a : ℕ) (s : Seated t (layout_of k) a true) where
  -- what a reference names takes its span
  pub bytes-long : (h p : ℕ) → length (bytes_at t k a h p) ≡ (part_at t k a p).span
  bytes-long = named-long t ok k a s (inner-sized t ok (inner_kind k) (innermost-flat k))

  pub slots-long : (h : ℕ) → length (heap_of h (slots_in (layout_of k) t a)) ≡ size_of (slots_in (layout_of k) t a)
  slots-long = all-sized t ok k a s (inner-sized t ok (inner_kind k) (innermost-flat k))

-- ---- the record of a kind and position

module _ (t : List ℕ) (ok : Accepted t) (k n : ℕ) where
  abbrev here : Entry (layout_of k)
  here = told_entry (layout_of k) t k n

  -- it reads as unused, or as what stands at its seat
  pub by-seat : (P : Entry (layout_of k) → Type 0) → P unused → ((a : ℕ) → Seated t (layout_of k) a true → P (used (image_in (layout_of k) t a) (slots_in (layout_of k) t a))) → P here
  unfolding slots_in
  by-seat P p f = go (seat_of t k n) refl (seats-good t ok n k) where
    go : (s : reads.Seat) → seat_of t k n ≡ s → Good t k s → P here
    go reads.nowhere e g = subst P (sym (entry-nowhere t k n e)) p
    go (seat l a false) e g = subst P (sym (entry-off t k n a (e ∙ ap (λ (m : Layout). seat m a false) g.0))) p
    go (seat l a true) e g =
        let s : seat_of t k n ≡ seat (layout_of k) a true = e ∙ ap (λ (m : Layout). seat m a true) g.0 in
        subst P (sym (entry-on t k n a s)) (f a (seated-at t ok k n a true s))

  pub record-bytes : (h : ℕ) → length (rec_entry h here) ≡ base_of (layout_of k)
  unfolding rec_entry
  record-bytes h = by-seat (λ x. length (rec_entry h x) ≡ base_of (layout_of k)) (length-replicate (base_of (layout_of k)) 0) (λ a s. patched-long t k a h)

  pub heap-bytes : (h : ℕ) → length (heap_entry h here) ≡ size_entry here
  unfolding heap_entry size_entry
  heap-bytes h = by-seat (λ x. length (heap_entry h x) ≡ size_entry x) refl (λ a s. slots-long t ok k a s h)
