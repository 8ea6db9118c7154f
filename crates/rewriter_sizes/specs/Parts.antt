-- What the references of a record name, as it is to be laid in a heap: where it stands, its length, and the bytes it takes. Definitions only.
use Rattle.std.specs.Prelude.{Option, Some, None, true, List, [], ◌∷◌, ◌++◌, ℕ, ◌+◌, ◌-◌}
use Rattle.table.specs.declared.Place.{Place}
use Rattle.table.specs.Bytes.{pick, part, Edit, edit}
use Rattle.table.specs.Layout.{Layout, Slots, Entry, base_of, offsets}
use Rattle.table.specs.FixedLayouts.{layout_of}
use Rattle.table.specs.Objects.{read_slots, size_of, patched, heap_of}
use Rattle.table.specs.Reads.{seat, has_plain, whole_at}
use Rattle.laws.specs.Fields.{image_in}
use Rattle.layout_kinds.specs.References.{object_refs, held_refs}
use Rattle.bytes_writer.specs.Stores.{ref_num}
use Rattle.reads_seats.specs.declared.seats.Seat.{Seat}
use Rattle.reads_seats.specs.Seats.{heap_record}
use Rattle.reads_seats.specs.Told.{inner_kind, told_list, count_of}

-- what one reference names: its first byte, its length, and the bytes that it takes with all that it names itself
pub record Part : Type 0 where
  pub at : ℕ
  pub len : ℕ
  pub span : ℕ

-- where the references of kind k stand
abbrev pub refs_of : ℕ → List ℕ
refs_of k = offsets (layout_of k).refs

-- of these, those to objects, and behind them that to a heap record
abbrev pub objects_of : ℕ → List ℕ
objects_of k = object_refs (layout_of k).refs

abbrev pub held_of : ℕ → List ℕ
held_of k = held_refs (layout_of k).refs

-- the objects and heap records of the record of layout l at a
unfoldable pub slots_in : (l : Layout) → List ℕ → ℕ → Slots l.refs
slots_in l t a = read_slots t a (image_in l t a) l.refs

-- the list of kind k, as it is read position by position; and what is left of it behind the first i
unfoldable pub list_of : List ℕ → (k : ℕ) → List (Entry (layout_of k))
list_of t k = told_list (layout_of k) t k 1 (count_of t k)

abbrev pub list_from : List ℕ → (k : ℕ) → ℕ → ℕ → List (Entry (layout_of k))
list_from t k n i = told_list (layout_of k) t k (i + 1) (n - i)

-- an object takes its length
abbrev pub object_part : Place → Part
object_part q = record { at = q.at; len = q.len; span = q.len }

-- a heap record of kind k takes its base size and what its own objects take
unfoldable pub record_part : List ℕ → ℕ → Option Seat → Part
record_part t k None = record { at = 0; len = 0; span = 0 }
record_part t k (Some s) = record { at = s.at; len = base_of (layout_of k); span = base_of (layout_of k) + size_of (slots_in (layout_of k) t s.at) }

-- the reference at p of the record of kind k at a
unfoldable pub part_at : List ℕ → ℕ → ℕ → ℕ → Part
part_at t k a p =
    pick (has_plain p (layout_of k).refs) (object_part (whole_at t p (seat (layout_of k) a true))) (record_part t (inner_kind k) (heap_record t k a))

-- the bytes of a heap record of kind k that is laid at h, its own objects behind it
unfoldable pub record_bytes : List ℕ → ℕ → ℕ → Option Seat → List ℕ
record_bytes t k h None = []
record_bytes t k h (Some s) =
    let l = layout_of k in
    let h₁ = h + base_of l in
    patched h₁ (image_in l t s.at) (slots_in l t s.at) ++ heap_of h₁ (slots_in l t s.at)

-- the bytes of what the reference at p names, laid at h
unfoldable pub bytes_at : List ℕ → ℕ → ℕ → ℕ → ℕ → List ℕ
bytes_at t k a h p = pick (has_plain p (layout_of k).refs) (part t (part_at t k a p).at (part_at t k a p).len) (record_bytes t (inner_kind k) h (heap_record t k a))

-- ---- the references at ps, one after the other: bytes taken, stores in the record, bytes in the heap from h on

unfoldable pub spans_over : List ℕ → ℕ → ℕ → List ℕ → ℕ
spans_over t k a [] = 0
spans_over t k a (p ∷ ps) = (part_at t k a p).span + spans_over t k a ps

unfoldable pub stores_over : List ℕ → ℕ → ℕ → ℕ → List ℕ → List Edit
stores_over t k a h [] = []
stores_over t k a h (p ∷ ps) = edit p (ref_num h (part_at t k a p).len) ∷ stores_over t k a (h + (part_at t k a p).span) ps

unfoldable pub objects_over : List ℕ → ℕ → ℕ → ℕ → List ℕ → List ℕ
objects_over t k a h [] = []
objects_over t k a h (p ∷ ps) = bytes_at t k a h p ++ objects_over t k a (h + (part_at t k a p).span) ps
