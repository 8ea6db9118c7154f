use mathlib.Core.Path.{◌≡◌}
use mathlib.Core.Bool.{not}
use lib.ListN.{take}
use Rattle.laws.specs.TextLaws.{no_zero}
use Rattle.bytes_text.proofs.has_zero.Given as goal

abbrev pub invariant-loop-byte : goal.invariant-loop-byte
invariant-loop-byte l = l.seen ≡ not (no_zero (take l.byte-index l.bytes))
