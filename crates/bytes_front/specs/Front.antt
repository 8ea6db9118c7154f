-- Header and control record as bytes, by the numbers that code has: Length, places and counts. Definitions only.
use Rattle.std.specs.Prelude.{List, [], ◌∷◌, ◌++◌, ℕ, ◌+◌, ◌*◌, replicate, eqb}
use Rattle.table.specs.Bytes.{pick, le}
use Rattle.table.specs.Layout.{Layout, base_of}
use Rattle.table.specs.FixedLayouts.{host, list_kinds}
use Rattle.table.specs.Meaning.{head_front}
use Rattle.bytes_writer.specs.Stores.{ref_num}

-- the header of a table of so many bytes, its checksum 0: its heap stands at heap, and first in it a driver signature of signature bytes
unfoldable pub header_for : (size : ℕ) (oem : List ℕ) (heap heapsize signature minor : ℕ) → List ℕ
header_for size oem heap heapsize signature minor =
    head_front size ++ (0 ∷ (oem ++ (le 4 heap ++ (le 4 heapsize ++ (ref_num heap signature ++ (minor ∷ replicate 13 0))))))

-- the entry of a list of so many records of a size
abbrev pub entry_for : (place size count : ℕ) → List ℕ
entry_for place size count = pick (eqb count 0) (le 4 0 ++ (le 2 0 ++ (1 ∷ 0 ∷ []))) (le 4 place ++ (le 2 size ++ (1 ∷ count ∷ [])))

-- the entries of lists of so many records each, the first of them at a place
unfoldable pub places_for : (place : ℕ) → List Layout → (counts : List ℕ) → List ℕ
places_for place [] counts = []
places_for place (l ∷ ls) [] = []
places_for place (l ∷ ls) (count ∷ counts) = entry_for place (base_of l) count ++ places_for (place + count * base_of l) ls counts

unfoldable pub control_for : (counts : List ℕ) → List ℕ
control_for counts =
    (1 ∷ 1 ∷ 0 ∷ 0 ∷ [])
    ++ (le 2 64 ++ ((1 ∷ 0 ∷ []) ++ (le 4 128 ++ (le 2 (base_of host) ++ ((1 ∷ 0 ∷ []) ++ (places_for 160 list_kinds counts ++ replicate 16 0))))))
