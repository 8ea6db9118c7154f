use Rattle.reads_whole.specs.Whole.{rows, entry_at}
use Rattle.table.specs.Bytes.{splice}
use lib.ListN.{length}
use mathlib.Core.Path.{◌≡◌}
use Rattle.reads_whole.proofs.lists.put_run.Given as goal

abbrev pub invariant-loop-i : goal.invariant-loop-i
invariant-loop-i l = (length l.out ≡ length l.initial.out) × (l.out ≡ splice l.initial.out 0 (rows (entry_at l.t l.kind) l.position l.i))
