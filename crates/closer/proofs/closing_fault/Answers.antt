use mathlib.Core.Path.{sym, ◌∙◌}
use Prim.Native.Nat.{◌+◌, ◌/◌, ◌≤◌}
use native.Mathlib.Omega.{arith}
use Rattle.table.specs.Bytes.{num}
use Rattle.table.specs.Numbers.{heap_in}
use Rattle.reader.proofs.AcceptedLaws.{laid}
use Rattle.closer.proofs.Laws.{none-shared, one-shared, small-map}
use Rattle.closer.proofs.closing_fault.Goals as goal

pub u32_at-size-requires : goal.u32_at-size-requires
u32_at-size-requires c = omega (arith, (laid c.args.t.now c.requires).lent)

pub returns-then-room-size : goal.returns-then-room-size
unfolding heap_in
returns-then-room-size c =
    c.refuse.ensures ∙ sym (small-map c.args.t.now c.args.room (omega (arith, c.if-room-size.true, c.u32_at-size.ensures.0)))

pub returns-then-is_overlapped : goal.returns-then-is_overlapped
unfolding heap_in
returns-then-is_overlapped c =
    let a = c.args in
    let h : (num a.t.now 40 4 + 7) / 8 ≤ a.room = omega (arith, c.if-room-size.false, c.u32_at-size.ensures.0) in
    c.refuse-then-is_overlapped.ensures ∙ sym (one-shared a.t.now a.room h (sym c.is_overlapped.ensures ∙ c.if-is_overlapped.true))

pub returns : goal.returns
unfolding heap_in
returns c =
    let a = c.args in
    let h : (num a.t.now 40 4 + 7) / 8 ≤ a.room = omega (arith, c.if-room-size.false, c.u32_at-size.ensures.0) in
    c.done.ensures ∙ sym (none-shared a.t.now a.room h (sym c.is_overlapped.ensures ∙ c.if-is_overlapped.false))
