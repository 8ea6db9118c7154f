use Rattle.rewriter_objects.specs.Laid.{laid}
use Rattle.rewriter_sizes.specs.Parts.{list_of, list_from}
use Rattle.table.specs.Objects.{size_list, recs_list, heap_list}
use Rattle.table.specs.FixedLayouts.{layout_of}
use Rattle.table.specs.Layout.{base_of}
use lib.ListN.{length}
use Prim.Native.Nat.{◌+◌, ◌-◌, ◌*◌, ◌≤◌}
use mathlib.Core.Path.{◌≡◌}
use Rattle.rewriter_lists.proofs.lay_list.Given as goal

abbrev pub invariant-loop-position : goal.invariant-loop-position
invariant-loop-position l =
    (l.at + (l.count - (l.position - 1)) * base_of (layout_of l.kind) ≤ l.cursor)
    × (l.cursor + size_list (list_from l.t l.kind l.count (l.position - 1)) ≡ l.next + size_list (list_of l.t l.kind))
    × (length l.out ≡ length l.initial.out)
    × (laid l.out l.at (recs_list l.cursor (list_from l.t l.kind l.count (l.position - 1))) l.cursor
    (heap_list l.cursor (list_from l.t l.kind l.count (l.position - 1)))
    ≡ laid l.initial.out l.place (recs_list l.next (list_of l.t l.kind)) l.next (heap_list l.next (list_of l.t l.kind)))
