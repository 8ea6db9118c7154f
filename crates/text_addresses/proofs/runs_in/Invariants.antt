use Rattle.std.proofs.Common.{◌≡◌, drop}
use Rattle.text_addresses.specs.Runs.{runs_of}
use Rattle.text_addresses.specs.Addresses.{groups}
use Rattle.text_addresses.proofs.runs_in.Given as goal

abbrev pub invariant-loop-i : goal.invariant-loop-i
invariant-loop-i l = l.r ≡ runs_of (drop l.i (groups l.b))
