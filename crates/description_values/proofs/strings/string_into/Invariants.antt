use Rattle.std.proofs.Common.{◌≤◌, length}
use Rattle.description_values.proofs.strings.string_into.Given as goal

abbrev pub invariant-loop-rest : goal.invariant-loop-rest
invariant-loop-rest l = l.len ≤ length l.initial.into

abbrev pub decreases-loop-rest : goal.decreases-loop-rest
decreases-loop-rest l = length l.rest
