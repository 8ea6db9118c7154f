use Rattle.std.proofs.Common.{◌+◌, ◌*◌, ◌<◌}
use Rattle.bytes_wire.proofs.Laws.{Summed}
use Rattle.bytes_wire.proofs.sum8.Given as goal

abbrev pub invariant-loop-i : goal.invariant-loop-i
invariant-loop-i l =
    ((l.first < 256) × Summed l.t 0 l.i l.first) ×
    ((l.second < 256) × Summed l.t l.quarter (l.quarter + l.i) l.second) ×
    ((l.third < 256) × Summed l.t (2 * l.quarter) (2 * l.quarter + l.i) l.third) ×
    ((l.fourth < 256) × Summed l.t (3 * l.quarter) (3 * l.quarter + l.i) l.fourth)
