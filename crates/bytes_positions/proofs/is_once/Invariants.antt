use Rattle.std.proofs.Common.{◌≡◌, true, List, ℕ, ◌++◌, length}
use Rattle.std.specs.Slice.Iter.{iter_rest}
use Rattle.std.specs.Iterator.Adapters.{rev_source}
use Rattle.table.specs.Bytes.{once}
use Rattle.bytes_positions.proofs.Laws.{Marks}
use Rattle.bytes_positions.proofs.is_once.Given as goal

-- those that were met are marked, and stand behind those that are left
abbrev pub invariant-loop-byte : goal.invariant-loop-byte
invariant-loop-byte l =
    (length l.met ≡ 256)
    × ((behind : List ℕ) × (l.bytes ≡ iter_rest (rev_source l.byte-iterator) ++ behind) × Marks l.met behind × (once behind ≡ true))
