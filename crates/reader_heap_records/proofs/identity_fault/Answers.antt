use Rattle.reader_heap_records.specs.HeapRecords.{spot, flat_part}
use Rattle.laws.specs.Fields.{image_in}
use Rattle.table.specs.Rules.{is_sound}
use mathlib.Core.Path.{◌≡◌, ◌∙◌}
use Rattle.reader_heap_records.proofs.Laws.{identity-sound, origin-is, identity-own, sound-short, sound-stop, sound-on}
use Rattle.table.specs.Bytes.{pick}
use Rattle.table.specs.FixedLayouts.{layout_of, info, hfi_extended}
use Rattle.table.specs.Layout.{image}
use native.Mathlib.Omega.{arith}
use Rattle.reader_heap_records.proofs.identity_fault.Goals.{After-sound-fault}
use Rattle.reader_heap_records.proofs.identity_fault.Goals as goal

-- its fields are sound, or the answer is 12
judged : (c : After-sound-fault) → let a = c.args in
    c.sound-fault.result ≡ pick (is_sound hfi_extended.shape (spot a.position) (image_in info a.owner.now 0) (image hfi_extended.shape.keep a.x.now)) 0 12
unfolding hfi_extended
judged c =
    let a = c.args in
    rw (
      ← identity-sound a.x.now a.position (λ i. omega (arith, c.type_inv.x i)) (image_in info a.owner.now 0),
      origin-is a.owner.now (λ i. omega (arith, c.type_inv.owner i)),
    ) (rw (c.u16_at.ensures.0, c.identity_right.ensures) at c.sound-fault.ensures)

pub returns-then-x-lt-SIZE : goal.returns-then-x-lt-SIZE
unfolding hfi_extended flat_part
returns-then-x-lt-SIZE c =
    let a = c.args in
    sound-short a.position hfi_extended.shape (image_in info a.owner.now 0) a.x.now _ (omega (arith, c.if-x-lt-SIZE.true))

pub returns-then-fault-ne0 : goal.returns-then-fault-ne0
unfolding hfi_extended flat_part
returns-then-fault-ne0 c =
    let a = c.args in
    sound-stop a.position hfi_extended.shape (image_in info a.owner.now 0) a.x.now c.sound-fault.result _ (omega (arith, c.if-x-lt-SIZE.false)) (judged (goal.at.returns-then-fault-ne0 c).After-sound-fault)
    c.if-fault-ne0.true

pub own_fault-requires : goal.own_fault-requires
unfolding layout_of hfi_extended
own_fault-requires c =
    omega (arith, c.if-x-lt-SIZE.false)

pub returns : goal.returns
unfolding hfi_extended flat_part
returns c =
    let a = c.args in
    sound-on a.position hfi_extended.shape (image_in info a.owner.now 0) a.x.now c.sound-fault.result _ (omega (arith, c.if-x-lt-SIZE.false)) (judged (goal.at.returns c).After-sound-fault)
    c.own_fault.result c.if-fault-ne0.false (c.own_fault.ensures ∙ identity-own a.heap.bytes.now a.heap.from a.x.now)
