use mathlib.Core.Path.{◌≡◌}
use Prim.Native.Nat.{◌≤◌, ◌-◌, ◌+◌, ◌*◌}
use lib.ListN.{length}
use Rattle.table.specs.Bytes.{apply}
use Rattle.bytes_writer.specs.Stores.{stores_from}
use Rattle.bytes_writer.proofs.records.put_refs.Given as goal

abbrev pub invariant-loop-i : goal.invariant-loop-i
invariant-loop-i l =
    (l.next ≤ 131072 + 131072 * l.i)
    × (length l.part ≡ length l.initial.part)
    × (apply l.part (stores_from l.offsets l.sizes.len l.sizes.span l.next l.i (length l.offsets - l.i))
    ≡ apply l.initial.part (stores_from l.offsets l.sizes.len l.sizes.span l.heap 0 (length l.offsets)))
