use mathlib.Core.Path.{◌≡◌}
use Prim.Native.Nat.{◌-◌}
use Rattle.closing_laws.specs.Whole.{hits}
use Rattle.closer_sites.specs.Walk.{sites_within}
use Rattle.closer_sites.specs.Going.{Going}
use Rattle.closer_marks.proofs.overlaps.is_hit.Given as goal

abbrev pub invariant-loop : goal.invariant-loop
invariant-loop l =
    Going l.t l.w × (hits l.x.off l.x.len (sites_within l.t l.initial.w l.steps) ≡ hits l.x.off l.x.len (sites_within l.t l.w (l.steps - l.counter)))
