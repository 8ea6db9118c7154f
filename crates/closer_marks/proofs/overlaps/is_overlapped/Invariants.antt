use mathlib.Core.Path.{◌≡◌}
use Prim.Native.Nat.{◌+◌, ◌≤◌}
use Rattle.table.specs.Closing.{overlapped}
use Rattle.closing_laws.specs.Whole.{whole_hits}
use Rattle.closer_sites.specs.Walk.{begun, rest_of, sites_within}
use Rattle.closer_sites.specs.Going.{Going, left}
use Rattle.closer_marks.proofs.OverlapLaws.{Reached}
use Rattle.closer_marks.proofs.overlaps.is_overlapped.Given as goal

abbrev pub invariant-loop-w : goal.invariant-loop-w
invariant-loop-w l =
    Going l.t l.w × (l.i + left l.w ≤ 1000000) × Reached l.t l.i l.w × (overlapped l.t ≡ whole_hits (sites_within l.t begun l.i) (rest_of l.t l.w))

abbrev pub decreases-loop-w : goal.decreases-loop-w
decreases-loop-w l = left l.w
