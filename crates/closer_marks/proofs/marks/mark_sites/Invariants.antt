use mathlib.Core.Path.{◌≡◌}
use Prim.Native.Nat.{◌-◌}
use lib.ListN.{length}
use Rattle.closer_sites.specs.Going.{left}
use Rattle.closer_marks.proofs.MarkLaws.{Marked}
use Rattle.closer_marks.proofs.marks.mark_sites.Given as goal

abbrev pub invariant-loop-w : goal.invariant-loop-w
invariant-loop-w l = Marked l.t (length l.initial.map) l.map l.w × (length l.map ≡ length l.initial.map)

abbrev pub decreases-loop-w : goal.decreases-loop-w
decreases-loop-w l = left l.w
