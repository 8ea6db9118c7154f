use mathlib.Core.Path.{◌≡◌}
use Prim.Native.Nat.{◌*◌, ◌≤◌}
use Rattle.bytes_bits.specs.Bits.{bits_below}
use Rattle.bytes_bits.proofs.ones_below.Given as goal

abbrev pub invariant-loop-byte : goal.invariant-loop-byte
invariant-loop-byte l = (l.sum ≤ 8 * l.byte-index) × (l.sum ≡ bits_below l.map (8 * l.byte-index))
