use Rattle.rewriter_sizes.specs.Parts.{list_of, list_from}
use Rattle.table.specs.Objects.{size_list}
use Prim.Native.Nat.{◌+◌, ◌-◌, ◌*◌, ◌≤◌}
use mathlib.Core.Path.{◌≡◌}
use Rattle.rewriter_sizes.proofs.sizes.list_size.Given as goal

abbrev pub invariant-loop-position : goal.invariant-loop-position
invariant-loop-position l =
    (l.sum + size_list (list_from l.t l.kind l.count (l.position - 1)) ≡ size_list (list_of l.t l.kind)) × (l.sum ≤ 1200000 * (l.position - 1)) × (l.position ≤ l.count + 1)
