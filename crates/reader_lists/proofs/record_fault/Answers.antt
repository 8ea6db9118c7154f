use mathlib.Core.Path.{◌≡◌}
use mathlib.Core.Bool.{true}
use Prim.Native.Nat.{◌+◌}
use native.Mathlib.Omega.{arith}
use lib.ListN.{get_or, length}
use Rattle.table.specs.Bytes.{odd}
use Rattle.table.specs.Layout.{region}
use Rattle.table.specs.FixedLayouts.{layout_of}
use Rattle.reader_lists.proofs.Laws.{record-by, looks-by, flag-within}
use Rattle.table.proofs.Rules.{picks}
use Rattle.reader_lists.proofs.record_fault.Goals as goal

pub overflow_add-a : goal.overflow_add-a
overflow_add-a c =
    omega (arith, flag-within c.args.kind c.requires.1 c.requires.2, c.flags_at-flag.ensures, c.requires.3)

pub bounds-t-a : goal.bounds-t-a
bounds-t-a c =
    omega (
      arith,
      flag-within c.args.kind c.requires.1 c.requires.2,
      c.flags_at-flag.ensures,
      c.requires.3,
    )

pub returns-then-t-a-ne1 : goal.returns-then-t-a-ne1
returns-then-t-a-ne1 c =
    let a = c.args in
    let heap = region a.heap.from (length a.heap.bytes.now) in
    let flag = c.flags_at-flag.ensures in (
      rw (← record-by a.kind heap a.t.now a.a a.position c.requires.1 c.requires.2, ← flag) (search picks),
      rw (← looks-by a.kind heap a.t.now a.a a.position c.requires.1 c.requires.2, ← flag) (search picks),
      search picks,
    )

pub returns : goal.returns
returns c =
    let a = c.args in
    let heap = region a.heap.from (length a.heap.bytes.now) in
    let e : odd (get_or a.t.now (a.a + (layout_of a.kind).shape.flags.at) 0) ≡ true = rw (← c.flags_at-flag.ensures) (search picks) in (
      rw (← record-by a.kind heap a.t.now a.a a.position c.requires.1 c.requires.2, e) c.used_fault.ensures.0,
      rw (← looks-by a.kind heap a.t.now a.a a.position c.requires.1 c.requires.2, e) c.used_fault.ensures.1,
      c.used_fault.ensures.2,
    )
