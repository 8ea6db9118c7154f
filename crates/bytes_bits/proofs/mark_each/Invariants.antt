use mathlib.Core.Path.{◌≡◌}
use lib.ListN.{length}
use Rattle.bytes_bits.specs.Bits.{with_bits}
use Rattle.bytes_bits.proofs.mark_each.Given as goal

abbrev pub invariant-loop-i : goal.invariant-loop-i
invariant-loop-i l = (l.map ≡ with_bits l.initial.map l.a l.i) × (length l.map ≡ length l.initial.map)
