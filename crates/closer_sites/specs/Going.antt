-- What a walk over an accepted table keeps, and how far it is from its end. Definitions only.
use Rattle.std.specs.Prelude.{◌≡◌, true, List, ℕ, ◌+◌, ◌-◌, ◌*◌, ◌≤◌, ◌<◌}
use Rattle.table.specs.FixedLayouts.{layout_of}
use Rattle.reads_seats.specs.Seats.{Seated}
use Rattle.reads_seats.specs.Told.{depth}
use Rattle.closer_sites.specs.declared.Walk.{Walk}
use Rattle.closer_sites.specs.Walk.{ref_count}

pub record Going (t : List ℕ) (w : Walk) : Type 0 where
  pub least : 2 ≤ w.list
  pub upto : w.list ≤ 7
  pub most : w.position ≤ 255
  pub short : w.next ≤ ref_count w.kind
  pub over : w.list ≡ 7 → w.next ≡ ref_count w.kind
  pub seated : w.next < ref_count w.kind → Seated t (layout_of w.kind) w.at true

-- more than the steps that are left: a record has six references at most, a list 255 records
unfoldable pub left : Walk → ℕ
left w = 100000 * (8 - w.list) + (100 * (256 - w.position) + (10 * depth w.kind + (ref_count w.kind - w.next)))
