use Rattle.std.proofs.Common.{◌≡◌, drop}
use Rattle.table.specs.Bytes.{val}
use Rattle.changes.proofs.lines.number_of.Given as goal

-- The number is that of the bytes read.
abbrev pub invariant-loop-i : goal.invariant-loop-i
invariant-loop-i l = l.number ≡ val (drop l.i l.x)
