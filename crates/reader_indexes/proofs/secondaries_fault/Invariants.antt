use mathlib.Core.Path.{◌≡◌}
use lib.ListN.{drop}
use Rattle.table.specs.Layout.{each}
use Rattle.laws.specs.IndexLaws.{after, found_by}
use Rattle.laws.specs.ListWalk.{valid_in}
use Rattle.reader_indexes.proofs.secondaries_fault.Given as goal

abbrev pub invariant-loop-i : goal.invariant-loop-i
invariant-loop-i l = after l.i (found_by (valid_in l.t) (each 3 (drop l.i l.x))) ≡ found_by (valid_in l.t) (each 3 l.x)
