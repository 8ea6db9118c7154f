use mathlib.Core.Path.{sym, ap, ◌∙◌}
use lib.ListN.{length}
use borrow.Author.Tests.{eqb-true, eqb-false}
use Rattle.reader_heap_records.proofs.Laws.{identity-wrong, identity-absent, identity-there}
use Rattle.reader_heap_records.specs.HeapRecords.{identity_fault}
use Rattle.table.proofs.Rules.{picks}
use Rattle.reader_heap_records.proofs.identity_ref.Goals as goal

pub returns-then-x-ne2 : goal.returns-then-x-ne2
unfolding identity_fault
returns-then-x-ne2 c = search picks

pub returns-then-fault-ne0 : goal.returns-then-fault-ne0
returns-then-fault-ne0 c =
    let a = c.args in
    identity-wrong a.heap.bytes.now a.heap.from a.position a.x.now c.if-x-ne2.false c.plain_fault-fault.result c.plain_fault-fault.ensures c.if-fault-ne0.true

pub returns-then-is_empty : goal.returns-then-is_empty
returns-then-is_empty c =
    let a = c.args in
    identity-absent a.heap.bytes.now a.heap.from a.position a.x.now c.if-x-ne2.false c.plain_fault-fault.result c.plain_fault-fault.ensures
    c.if-fault-ne0.false (ap length (sym c.part_at-named.ensures) ∙ eqb-true _ 0 (sym c.is_empty.ensures ∙ c.if-is_empty.true))

pub returns : goal.returns
returns c =
    let a = c.args in
    identity-there a.heap.bytes.now a.heap.from a.position a.x.now c.if-x-ne2.false c.plain_fault-fault.result c.plain_fault-fault.ensures
    c.identity_fault.result c.if-fault-ne0.false (λ z. eqb-false _ 0 (sym c.is_empty.ensures ∙ c.if-is_empty.false) (ap length c.part_at-named.ensures ∙ z))
    (rw c.part_at-named.ensures at c.identity_fault.ensures)
