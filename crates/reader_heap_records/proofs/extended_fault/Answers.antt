use Rattle.reader_heap_records.specs.HeapRecords.{spot, flat_part}
use mathlib.Core.List.{[]}
use Rattle.table.specs.Rules.{is_sound}
use mathlib.Core.Path.{◌≡◌, ◌∙◌}
use Rattle.reader_heap_records.proofs.Laws.{extended-sound, extended-own, sound-short, sound-stop, sound-on}
use Rattle.table.specs.Bytes.{pick}
use Rattle.table.specs.FixedLayouts.{layout_of, extended}
use Rattle.table.specs.Layout.{image}
use native.Mathlib.Omega.{arith}
use Rattle.reader_heap_records.proofs.extended_fault.Goals.{After-sound-fault}
use Rattle.reader_heap_records.proofs.extended_fault.Goals as goal

-- its fields are sound, or the answer is 12
judged : (c : After-sound-fault) → let s = c.args in c.sound-fault.result ≡ pick
    (is_sound extended.shape (spot s.position) [] (image extended.shape.keep s.x.now)) 0 12
unfolding extended
judged c =
    rw (← extended-sound c.args.x.now c.args.position
    (λ i. omega (arith, c.type_inv.x i)) []) (cc (c.sound-fault.ensures, c.u16_at.ensures.0))

pub returns-then-x-lt-SIZE : goal.returns-then-x-lt-SIZE
unfolding extended flat_part
returns-then-x-lt-SIZE c =
    let a = c.args in
    sound-short a.position extended.shape [] a.x.now _ (omega (arith, c.if-x-lt-SIZE.true))

pub returns-then-fault-ne0 : goal.returns-then-fault-ne0
unfolding extended flat_part
returns-then-fault-ne0 c =
    let s = c.args in
    sound-stop s.position extended.shape [] s.x.now c.sound-fault.result _ (omega (arith, c.if-x-lt-SIZE.false)) (judged (goal.at.returns-then-fault-ne0 c).After-sound-fault) c.if-fault-ne0.true

pub own_fault-requires : goal.own_fault-requires
unfolding layout_of extended
own_fault-requires c =
    omega (arith, c.if-x-lt-SIZE.false)

pub returns : goal.returns
unfolding extended flat_part
returns c =
    let s = c.args in
    sound-on s.position extended.shape [] s.x.now c.sound-fault.result _ (omega (arith, c.if-x-lt-SIZE.false)) (judged (goal.at.returns c).After-sound-fault)
    c.own_fault.result c.if-fault-ne0.false
    (c.own_fault.ensures ∙ extended-own s.heap.bytes.now s.heap.from s.x.now)
