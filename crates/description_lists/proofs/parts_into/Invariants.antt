use Rattle.std.proofs.Common.{◌≤◌, length}
use Rattle.description_lists.proofs.parts_into.Given as goal

abbrev pub invariant-loop-part : goal.invariant-loop-part
invariant-loop-part l = l.len ≤ length l.initial.into
