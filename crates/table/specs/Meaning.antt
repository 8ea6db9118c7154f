-- Rules 6 (docs/RULES.md), meaning and form: what a table says, the bytes of its one form, and their number. Definitions only.
use Rattle.std.specs.Prelude.{List, [], ◌∷◌, ◌++◌, ℕ, ◌+◌, replicate}
use Rattle.table.specs.Bytes.{pick, part, le, checksum}
use Rattle.table.specs.Layout.{reference_at, Slots, slot_at, base_of, Entry, Body}
use Rattle.table.specs.FixedLayouts.{header, host, list_kinds}
use Rattle.table.specs.Objects.{read_slots, read_entry, read_body, newer_body, ref_for, size_of, heap_of, size_entry, rec_entry, heap_entry, size_body, recs_body, heap_body, span_body, places_body}

-- no table is longer
unfoldable pub limit : ℕ
limit = 65536

-- header bytes 10 to 35, the driver signature, the host, and the four lists; their lengths are the counts
pub record Meaning : Type 0 where
  pub oem : List ℕ
  pub driver : Slots header.refs
  pub owner : Entry host
  pub lists : Body list_kinds

unfoldable pub meaning : List ℕ → Meaning
meaning t = record {
  oem = part t 10 26;
  driver = read_slots t 0 [] header.refs;
  owner = read_entry host t (reference_at t 72).at;
  lists = read_body list_kinds t 80;
}

-- ---- the one form: header, control, host at 128, the lists, the heap, no gaps

-- where the heap starts, and how long it is
unfoldable pub heap_at : Meaning → ℕ
heap_at m = 160 + span_body m.lists

unfoldable pub heap_len : Meaning → ℕ
heap_len m = size_of m.driver + (size_entry m.owner + size_body m.lists)

unfoldable pub form_length : Meaning → ℕ
form_length m = heap_at m + heap_len m

-- the driver signature's reference; its object stands first in the heap
unfoldable pub driver_ref : Meaning → List ℕ
driver_ref m = ref_for (heap_at m) (slot_at 44 m.driver)

-- the header minor: 1 if some HFI's info has version 2
unfoldable pub minor_of : Meaning → ℕ
minor_of m = pick (newer_body m.lists) 1 0

-- the header up to its checksum (n is Length), and behind it (k is the heap length, r the minor)
unfoldable pub head_front : ℕ → List ℕ
head_front n = 0x4E ∷ 0x42 ∷ 0x46 ∷ 0x54 ∷ (le 4 n ++ (1 ∷ []))

unfoldable pub head_back : Meaning → ℕ → ℕ → List ℕ
head_back m k r = m.oem ++ (le 4 (heap_at m) ++ (le 4 k ++ (driver_ref m ++ (r ∷ replicate 13 0))))

unfoldable pub control_bytes : Meaning → List ℕ
control_bytes m =
    (1 ∷ 1 ∷ 0 ∷ 0 ∷ [])
    ++ (le 2 64 ++ ((1 ∷ 0 ∷ []) ++ (le 4 128 ++ (le 2 (base_of host) ++ ((1 ∷ 0 ∷ []) ++ (places_body 160 m.lists ++ replicate 16 0))))))

-- what stands behind the header
unfoldable pub behind : Meaning → List ℕ
behind m =
    let h₀ = heap_at m in
    let h₁ = h₀ + size_of m.driver in
    let h₂ = h₁ + size_entry m.owner in
    control_bytes m
    ++ (rec_entry h₁ m.owner
    ++ (recs_body h₂ m.lists
    ++ (heap_of h₀ m.driver
    ++ (heap_entry h₁ m.owner
    ++ heap_body h₂ m.lists))))

-- a table with Length n, checksum c, heap length k and header minor r
unfoldable pub laid_out : Meaning → ℕ → ℕ → ℕ → ℕ → List ℕ
laid_out m n c k r = head_front n ++ (c ∷ (head_back m k r ++ behind m))

unfoldable pub form : Meaning → List ℕ
form m = laid_out m (form_length m) (checksum (laid_out m (form_length m) 0 (heap_len m) (minor_of m))) (heap_len m) (minor_of m)
