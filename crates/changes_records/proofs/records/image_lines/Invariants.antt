use mathlib.Core.Path.{◌≡◌}
use mathlib.Core.List.{◌++◌}
use Prim.Native.Nat.{◌+◌, ◌-◌, ◌*◌, ◌≤◌}
use lib.ListN.{length, take}
use Rattle.table.specs.FixedLayouts.{layout_of}
use Rattle.changes.specs.Changes.{each, offset_lines, texts_of}
use Rattle.changes_records.specs.Told.{plain_lines}
use Rattle.changes_records.proofs.records.image_lines.Given as goal

abbrev pub invariant-loop-offset : goal.invariant-loop-offset
invariant-loop-offset l =
    (l.from ≤ l.at) × (l.at ≤ l.from + 128 * l.offset)
    × (take l.at l.out ≡ take l.from l.initial.out ++ texts_of (each (offset_lines l.kind l.position (layout_of l.kind).shape.fields l.one l.other (plain_lines l.t l.u l.kind l.position)) 0 l.offset))
    × (length l.out ≡ length l.initial.out)
