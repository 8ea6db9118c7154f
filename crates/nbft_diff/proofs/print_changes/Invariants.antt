use mathlib.Core.Path.{◌≡◌}
use Prim.Native.Nat.{◌≤◌, ◌<◌}
use lib.ListN.{length}
use Rattle.changes_records.specs.Walk.{left}
use Rattle.nbft_diff.proofs.print_changes.Given as goal

abbrev pub invariant-loop-w : goal.invariant-loop-w
invariant-loop-w l = (length l.out ≡ 65536) × (l.w.list ≤ 7) × (l.w.position < 256)

abbrev pub decreases-loop-w : goal.decreases-loop-w
decreases-loop-w l = left l.w
