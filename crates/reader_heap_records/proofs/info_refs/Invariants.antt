use mathlib.Core.Path.{◌≡◌}
use lib.ListN.{drop}
use Rattle.table.specs.Layout.{offsets}
use Rattle.table.specs.FixedLayouts.{info}
use Rattle.laws.specs.RefWalk.{first_over}
use Rattle.reader_heap_records.specs.HeapRecords.{info_fault}
use Rattle.reader_heap_records.proofs.info_refs.Given as goal

abbrev pub invariant-loop-off : goal.invariant-loop-off
invariant-loop-off l =
    first_over (info_fault l.heap.bytes.now l.heap.from l.position l.x) (drop l.off-index (offsets info.refs))
    ≡ first_over (info_fault l.heap.bytes.now l.heap.from l.position l.x) (offsets info.refs)
