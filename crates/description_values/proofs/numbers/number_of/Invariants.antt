use Rattle.std.proofs.Common.{◌≤◌}
use Rattle.description_values.proofs.numbers.number_of.Given as goal

abbrev pub invariant-loop-b : goal.invariant-loop-b
invariant-loop-b l = l.value ≤ 4294967295
