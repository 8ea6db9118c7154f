use mathlib.Core.Path.{◌≡◌}
use Prim.Native.Nat.{◌≤◌}
use lib.ListN.{length}
use Rattle.table.specs.Closing.{moved_of, ones}
use Rattle.bytes_bits.specs.Bits.{marked}
use Rattle.closing_laws.specs.SlideLaws.{slid_to}
use Rattle.closer_slide.proofs.slide.Given as goal

abbrev pub invariant-loop-n : goal.invariant-loop-n
invariant-loop-n l =
    (l.heap ≡ slid_to (marked l.map) l.n l.initial.heap)
    × (length l.heap ≡ length l.initial.heap)
    × (l.kept ≡ ones (marked l.map) l.n)
    × (l.kept ≤ l.n)
    × (l.moved ≡ moved_of (marked l.map) l.n)
    × (l.moved ≤ l.n)
