use Rattle.reader_heap_records.specs.HeapRecords.{own_fault}
use Rattle.laws.specs.RefWalk.{first_over}
use Rattle.table.specs.FixedLayouts.{layout_of}
use Rattle.table.specs.Layout.{offsets}
use lib.ListN.{drop}
use mathlib.Core.Path.{◌≡◌}
use Rattle.reader_heap_records.proofs.own_fault.Given as goal

abbrev pub invariant-loop-off : goal.invariant-loop-off
invariant-loop-off l =
    first_over (own_fault l.kind l.heap.bytes.now l.heap.from l.x) (drop l.off-index (offsets (layout_of l.kind).refs))
    ≡ first_over (own_fault l.kind l.heap.bytes.now l.heap.from l.x) (offsets (layout_of l.kind).refs)
