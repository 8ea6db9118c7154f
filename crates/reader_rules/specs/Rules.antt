-- The rule of a record's reference, 11 or 12, of a table whose heap is lent as a part. Definitions only.
use Rattle.std.specs.Prelude.{◌≡◌, List, ℕ, ◌+◌, ◌<◌, length}
use Rattle.table.specs.declared.Region.{Region}
use Rattle.table.specs.Bytes.{part}
use Rattle.table.specs.FixedLayouts.{layout_of}
use Rattle.laws.specs.Fields.{image_in}
use Rattle.laws.specs.ListWalk.{env_in}
use Rattle.laws.specs.RefWalk.{rule_at}

-- the heap, lent as the part of the table from `from` on; sums with its end do not wrap
pub record IsHeap (t heap : List ℕ) (from : ℕ) : Type 0 where
  pub is_part : heap ≡ part t from (length heap)
  pub small : from + length heap < 8589934592

-- the reference at offset q of the record at a
unfoldable pub ref_fault : ℕ → Region → List ℕ → ℕ → ℕ → ℕ → ℕ
ref_fault k heap t a pos q = rule_at heap (env_in t pos) t a (image_in (layout_of k) t a) (layout_of k).refs q
