use Rattle.reads_whole.specs.Whole.{entries_of, number_of, least}
use Rattle.table.specs.Bytes.{splice}
use lib.ListN.{length, take, drop}
use Prim.Native.Nat.{◌+◌, ◌-◌, ◌*◌, ◌≤◌}
use mathlib.Core.Path.{◌≡◌}
use Rattle.reads_whole.proofs.lists.put_kinds.Given as goal

abbrev pub invariant-loop : goal.invariant-loop
invariant-loop l =
    let whole = entries_of l.t l.first_kind l.first_position l.kinds in
    let rest = l.kinds - l.counter in
    (l.kind + rest ≡ l.first_kind + l.kinds)
    × (l.position ≤ 256)
    × (l.written ≡ least l.total l.room)
    × (l.written ≤ l.room)
    × (l.total + 256 * rest ≤ 256 * l.kinds)
    × (length l.out ≡ length l.initial.out)
    × (184 * l.total ≤ length whole)
    × (drop (184 * l.total) whole ≡ entries_of l.t l.kind l.position rest)
    × (l.total + number_of l.t l.kind l.position rest ≡ number_of l.t l.first_kind l.first_position l.kinds)
    × (l.out ≡ splice l.initial.out 0 (take (184 * l.written) whole))
