use Rattle.std.proofs.Common.{◌≡◌, ◌+◌, ◌≤◌, length, drop}
use Rattle.changes.specs.Changes.{differ_at}
use Rattle.changes.proofs.lines.differ_at.Given as goal

-- What is left of both rows differs where they do, less what was passed.
abbrev pub invariant-loop-at : goal.invariant-loop-at
invariant-loop-at l = (l.at ≤ length l.other) × (l.at + differ_at (drop l.at l.one) (drop l.at l.other) ≡ differ_at l.one l.other)
