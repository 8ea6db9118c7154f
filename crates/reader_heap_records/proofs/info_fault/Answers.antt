use mathlib.Core.Path.{◌≡◌, ap, ◌∙◌}
use mathlib.Core.Bool.{Bool}
use mathlib.Core.List.{[]}
use native.Mathlib.Omega.{arith}
use Rattle.table.specs.Bytes.{pick}
use Rattle.table.specs.Layout.{image}
use Rattle.table.specs.FixedLayouts.{info}
use Rattle.table.specs.Rules.{is_sound}
use Rattle.reader_heap_records.specs.HeapRecords.{spot, info_part}
use Rattle.reader_heap_records.proofs.Laws.{info-sound, sound-short, sound-stop, sound-on}
use Rattle.reader_heap_records.proofs.info_fault.Goals.{After-sound-fault}
use Rattle.reader_heap_records.proofs.info_fault.Goals as goal

-- its fields are sound, or the answer is 12
judged : (c : After-sound-fault) → let a = c.args in
    c.sound-fault.result ≡ pick (is_sound info.shape (spot a.position) [] (image info.shape.keep a.x.now)) 0 12
unfolding info
judged c =
    let a = c.args in
    (rw (c.u16_at.ensures.0, c.info_right.ensures, c.info_flags-flags.ensures) at c.sound-fault.ensures)
    ∙ ap (λ (b : Bool). pick b 0 12) (info-sound a.x.now a.position (λ i. omega (arith, c.type_inv.x i)) [])

pub returns-then-x-lt-SIZE : goal.returns-then-x-lt-SIZE
unfolding info info_part
returns-then-x-lt-SIZE c =
    let a = c.args in
    sound-short a.position info.shape [] a.x.now _ (omega (arith, c.if-x-lt-SIZE.true))

pub returns-then-fault-ne0 : goal.returns-then-fault-ne0
unfolding info info_part
returns-then-fault-ne0 c =
    let a = c.args in
    sound-stop a.position info.shape [] a.x.now c.sound-fault.result _ (omega (arith, c.if-x-lt-SIZE.false)) (judged (goal.at.returns-then-fault-ne0 c).After-sound-fault) c.if-fault-ne0.true

pub returns : goal.returns
unfolding info info_part
returns c =
    let a = c.args in
    sound-on a.position info.shape [] a.x.now c.sound-fault.result _ (omega (arith, c.if-x-lt-SIZE.false)) (judged (goal.at.returns c).After-sound-fault)
    c.info_refs.result c.if-fault-ne0.false c.info_refs.ensures
