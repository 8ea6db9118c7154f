use lib.Seq.{paste}
use lib.ListN.{length}
use mathlib.Core.Path.{◌≡◌}
use Rattle.bytes_writer.proofs.stores.copy_into.Given as goal

abbrev pub invariant-loop-i : goal.invariant-loop-i
invariant-loop-i l = (l.out ≡ paste l.initial.out l.at l.src l.i) × (length l.out ≡ length l.initial.out)
