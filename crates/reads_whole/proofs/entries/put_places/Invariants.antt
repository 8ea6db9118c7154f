use Rattle.reads_whole.specs.Whole.{rows, place_row}
use Rattle.table.specs.Reads.{seat}
use Rattle.table.specs.FixedLayouts.{layout_of}
use Rattle.table.specs.Bytes.{splice}
use lib.ListN.{length, replicate}
use mathlib.Core.Path.{◌≡◌}
use Rattle.reads_whole.proofs.entries.put_places.Given as goal

abbrev pub invariant-loop-i : goal.invariant-loop-i
invariant-loop-i l =
    (length l.part ≡ 48)
    × (l.part ≡ splice (replicate 48 0) 0 (rows (place_row l.x l.kind (seat (layout_of l.kind) 0 l.used)) 0 l.i))
