-- `At t heap a img ss`: in the table t the references of the record at a give the objects ss, wherever in the heap those stand. `EntryAt`, `ListAt`
-- and `BodyAt` say so of an entry, a list and all lists. Definitions only.
use Rattle.std.specs.Prelude.{◌≡◌, not, List, [], ◌∷◌, ℕ, ◌+◌, ◌^◌, ◌≤◌, ◌<◌, length, get_or, drop, T}
use Rattle.table.specs.declared.Region.{Region}
use Rattle.table.specs.Bytes.{num, odd, part}
use Rattle.table.specs.Layout.{Body, Entry, Layout, Refs, Slots, bytes, gone, image, more, nil, rec, stop, unused, used}
use Rattle.table.specs.Objects.{ref6, under}
use Rattle.table.specs.Meaning.{Meaning}
use Rattle.table.specs.Numbers.{heap_in}
use Rattle.laws.specs.ByteLaws.{Holds}

-- the reference at r is to the len bytes at off, which lie in the heap
pub record RefTo (t : List ℕ) (heap : Region) (r off len : ℕ) : Type 0 where
  pub small : off < 256 ^ 4
  pub positive : 0 < off
  pub nonzero : 0 < len
  pub short : len < 65536
  pub from : heap.at ≤ off
  pub upto : off + len ≤ heap.at + heap.len
  pub ref : Holds t r (ref6 off len)

abbrev pub PlainAt : List ℕ → Region → ℕ → List ℕ → Type 0
PlainAt t heap r [] = Holds t r (ref6 0 0)
PlainAt t heap r (b ∷ bs) = (off : ℕ) × RefTo t heap r off (length (b ∷ bs)) × Holds t off (b ∷ bs)

-- img is the record's image, by which a reference may be Ignored
abbrev pub At : {rs : Refs} → List ℕ → Region → ℕ → List ℕ → Slots rs → Type 0
At t heap a img nil = Unit {0}
At t heap a img (bytes {p = p} {need = need} b ss) = under (need img) (Unit {0}) (PlainAt t heap (a + p) b) × At t heap a img ss
At t heap a img (gone {p = p} {need = need} ss) = under (need img) (Unit {0}) (Holds t (a + p) (ref6 0 0)) × At t heap a img ss
At t heap a img (rec {p = p} {shape = shape} img' own ss) =
    ((off : ℕ) × (len : ℕ) × RefTo t heap (a + p) off len × (length shape.keep ≤ len) × (image shape.keep (drop off t) ≡ img') × At t heap off img' own)
    × At t heap a img ss

abbrev pub EntryAt : {l : Layout} → List ℕ → Region → ℕ → Entry l → Type 0
EntryAt {l} t heap a unused = T (not (odd (get_or (image l.shape.keep (drop a t)) l.shape.flags.at 0)))
EntryAt {l} t heap a (used img ss) = (image l.shape.keep (drop a t) ≡ img) × At t heap a img ss

abbrev pub ListAt : {l : Layout} → List ℕ → Region → ℕ → ℕ → List (Entry l) → Type 0
ListAt t heap a step [] = Unit {0}
ListAt t heap a step (e ∷ es) = EntryAt t heap a e × ListAt t heap (a + step) step es

abbrev pub BodyAt : {ls : List Layout} → List ℕ → Region → ℕ → Body ls → Type 0
BodyAt t heap c stop = Unit {0}
BodyAt t heap c (more es rest) = (get_or t (c + 7) 0 ≡ length es) × ListAt t heap (num t c 4) (num t (c + 4) 2) es × BodyAt t heap (c + 8) rest

-- a meaning stands in a table: its header bytes, and its records with their objects, wherever in the heap those are
pub record Stands (t : List ℕ) (m : Meaning) : Type 0 where
  pub oem_at : part t 10 26 ≡ m.oem
  pub driver_at : At t (heap_in t) 0 [] m.driver
  pub owner_at : EntryAt t (heap_in t) (num t 72 4) m.owner
  pub lists_at : BodyAt t (heap_in t) 80 m.lists
