use Rattle.table.specs.Layout.{reference_at}
use Rattle.table.specs.FixedLayouts.{layout_of}
use borrow.Author.Tests.{ne_eqb}
use Rattle.reader_references.proofs.Laws.{as-text, as_bytes}
use Rattle.reader_heap_records.specs.HeapRecords.{info_fault}
use Rattle.table.proofs.Rules.{picks}
use Rattle.reader_heap_records.proofs.info_ref.Goals as goal

pub returns-then-off-eq110 : goal.returns-then-off-eq110
unfolding info_fault
returns-then-off-eq110 c = search picks

pub returns-then-holds_text : goal.returns-then-holds_text
unfolding info_fault layout_of
returns-then-holds_text c =
    let a = c.args in
    rw (ne_eqb a.off 110 c.if-off-eq110.false)
    (as-text _ _ _ _ a.heap.bytes.now a.heap.from (reference_at a.x.now a.off) c.text_fault.result c.plain_need-need.ensures c.holds_text.ensures
    c.if-holds_text.true c.text_fault.ensures)

pub returns : goal.returns
unfolding info_fault layout_of
returns c =
    let a = c.args in
    rw (ne_eqb a.off 110 c.if-off-eq110.false)
    (as_bytes _ _ _ _ a.heap.bytes.now a.heap.from (reference_at a.x.now a.off) c.plain_fault.result c.plain_need-need.ensures c.holds_text.ensures
    c.if-holds_text.false c.plain_fault.ensures)
