-- Bytes laid at two places: records, and in the heap behind them what they name. Definitions only.
use Rattle.std.specs.Prelude.{List, [], ◌∷◌, ℕ, ◌+◌}
use Rattle.table.specs.Bytes.{splice, Edit}
use Rattle.table.specs.Layout.{Refs, Slots}
use Rattle.table.specs.Objects.{stores, heap_of}
use Rattle.rewriter_sizes.specs.Parts.{stores_over, objects_over}

-- an output with records from place on, and with their heap from next on
abbrev pub laid : (out : List ℕ) (place : ℕ) (records : List ℕ) (next : ℕ) (heap : List ℕ) → List ℕ
laid out place records next heap = splice (splice out place records) next heap

-- an output with the stores into the record that stands at place
unfoldable pub apply_at : (out : List ℕ) (place : ℕ) → List Edit → List ℕ
apply_at out place [] = out
apply_at out place (e ∷ es) = apply_at (splice out (place + e.at) e.put) place es

-- an output with the references to the slots stored in the record that stands at place, and what they name from next on
abbrev pub named : {rs : Refs} → (out : List ℕ) (place next : ℕ) → Slots rs → List ℕ
named out place next slots = splice (apply_at out place (stores next slots)) next (heap_of next slots)

-- the same of the references at ps of the record of kind k that stands in the table t at a
abbrev pub laid_over : (out : List ℕ) (place next : ℕ) (t : List ℕ) (k a : ℕ) → List ℕ → List ℕ
laid_over out place next t k a ps = splice (apply_at out place (stores_over t k a next ps)) next (objects_over t k a next ps)
