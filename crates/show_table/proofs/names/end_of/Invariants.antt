use mathlib.Core.Path.{◌≡◌}
use mathlib.Core.List.{◌++◌}
use Prim.Native.Nat.{◌-◌}
use lib.ListN.{take, drop}
use Rattle.show_table.specs.Names.{until_bar}
use Rattle.show_table.proofs.names.end_of.Given as goal

abbrev pub invariant-loop-at : goal.invariant-loop-at
invariant-loop-at l =
    take (l.at - l.from) (drop l.from l.names) ++ until_bar (drop l.at l.names) ≡ until_bar (drop l.from l.names)
