use mathlib.Core.Path.{◌≡◌}
use lib.ListN.{drop}
use Rattle.show_table.specs.Names.{behind_bars}
use Rattle.show_table.proofs.names.start_of.Given as goal

abbrev pub invariant-loop-at : goal.invariant-loop-at
invariant-loop-at l = behind_bars l.bars (drop l.at l.names) ≡ behind_bars l.n l.names
