use mathlib.Core.Path.{◌≡◌}
use Prim.Native.Nat.{◌-◌}
use lib.ListN.{length}
use Rattle.closer_sites.specs.Going.{left}
use Rattle.closer_stores.proofs.TurnLaws.{Turn}
use Rattle.closer_stores.proofs.store_sites.Given as goal

abbrev pub invariant-loop-w : goal.invariant-loop-w
invariant-loop-w l = Turn l.initial.t l.t l.w × (length l.t ≡ length l.initial.t)

abbrev pub decreases-loop-w : goal.decreases-loop-w
decreases-loop-w l = left l.w
