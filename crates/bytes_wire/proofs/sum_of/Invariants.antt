use Rattle.std.proofs.Common.{◌<◌}
use Rattle.bytes_wire.proofs.Laws.{Summed}
use Rattle.bytes_wire.proofs.sum_of.Given as goal

abbrev pub invariant-loop-byte : goal.invariant-loop-byte
invariant-loop-byte l = Summed l.bytes 0 l.byte-index l.sum × (l.sum < 256)
