use mathlib.Core.Path.{◌≡◌}
use Prim.Native.Nat.{◌-◌}
use Rattle.table.specs.Objects.{newer_list}
use Rattle.rewriter_sizes.specs.Parts.{list_from}
use Rattle.rewriter_sizes.proofs.minor.form_minor.Given as goal

-- no HFI before asks for it
abbrev pub invariant-loop-position : goal.invariant-loop-position
invariant-loop-position l = newer_list (list_from l.t 3 l.count (l.position - 1)) ≡ newer_list (list_from l.t 3 l.count 0)
