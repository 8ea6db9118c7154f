use mathlib.Core.Path.{◌≡◌}
use Prim.Native.Nat.{◌≤◌, ◌-◌, ◌+◌, ◌*◌}
use lib.ListN.{length}
use Rattle.table.specs.Layout.{region}
use Rattle.reader_lists.specs.Lists.{from_looks, list_from}
use Rattle.reader_lists.proofs.list_from.Given as goal

abbrev pub invariant-loop-i : goal.invariant-loop-i
invariant-loop-i l =
    (l.base ≡ l.at + l.i * l.step)
    × (list_from l.kind (region l.heap.from (length l.heap.bytes.now)) l.t l.step (l.i + 1) l.base (l.count - l.i)
    ≡ list_from l.kind (region l.heap.from (length l.heap.bytes.now)) l.t l.step 1 l.at l.count)
    × (l.looks + from_looks l.kind (region l.heap.from (length l.heap.bytes.now)) l.t l.step (l.i + 1) l.base (l.count - l.i)
    ≡ from_looks l.kind (region l.heap.from (length l.heap.bytes.now)) l.t l.step 1 l.at l.count)
    × (l.looks ≤ l.i * 8589934596)
