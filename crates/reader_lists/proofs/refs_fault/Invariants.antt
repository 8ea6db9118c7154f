use Rattle.reader_rules.specs.Rules.{ref_fault}
use Rattle.laws.specs.RefWalk.{first_over}
use Rattle.table.specs.FixedLayouts.{layout_of}
use Rattle.table.specs.Layout.{region, offsets}
use lib.ListN.{length, drop}
use mathlib.Core.Path.{◌≡◌}
use Rattle.reader_lists.proofs.refs_fault.Given as goal

abbrev pub invariant-loop-off : goal.invariant-loop-off
invariant-loop-off l =
    first_over (ref_fault l.kind (region l.heap.from (length l.heap.bytes.now)) l.t l.a l.position) (drop l.off-index (offsets (layout_of l.kind).refs)) ≡ first_over
    (ref_fault l.kind (region l.heap.from (length l.heap.bytes.now)) l.t l.a l.position) (offsets (layout_of l.kind).refs)
