-- A record as its writer leaves it. Definitions only.
use Rattle.std.specs.Prelude.{◌≡◌, List, ℕ, ◌≤◌, length, get_or}
use Rattle.table.specs.Bytes.{apply}
use Rattle.table.specs.Layout.{Layout, base_of, offsets}
use Rattle.laws.specs.Fields.{image_in}
use Rattle.bytes_writer.specs.Stores.{stores_from}

-- what is told of a record, with its references: how long the object of each is, and how many bytes it takes of the heap, from heap on
unfoldable pub record_with : Layout → (told : List ℕ) (heap : ℕ) (lengths spans : List ℕ) → List ℕ
record_with l told heap lengths spans = apply (image_in l told 0) (stores_from (offsets l.refs) lengths spans heap 0 (length (offsets l.refs)))

-- the part and what is told are as long as the record, and the heap does not wrap
abbrev pub Lent : Layout → (part told : List ℕ) (heap : ℕ) → Type 0
Lent l part told heap = (length part ≡ base_of l) × (length told ≡ base_of l) × (heap ≤ 131072)

abbrev pub Narrow : (spans : List ℕ) → Type 0
Narrow spans = (i : ℕ) → get_or spans i 0 ≤ 131072
