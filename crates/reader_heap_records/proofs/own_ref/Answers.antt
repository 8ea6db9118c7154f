use Rattle.table.specs.Layout.{reference_at}
use Rattle.reader_references.proofs.Laws.{as-text, as_bytes}
use Rattle.reader_heap_records.specs.HeapRecords.{own_fault}
use Rattle.reader_heap_records.proofs.own_ref.Goals as goal

pub returns-then-holds_text : goal.returns-then-holds_text
unfolding own_fault
returns-then-holds_text c =
    let a = c.args in
    as-text _ _ _ _ a.heap.bytes.now a.heap.from (reference_at a.x.now a.off) c.text_fault.result c.own_need-need.ensures c.holds_text.ensures
    c.if-holds_text.true c.text_fault.ensures

pub returns : goal.returns
unfolding own_fault
returns c =
    let a = c.args in
    as_bytes _ _ _ _ a.heap.bytes.now a.heap.from (reference_at a.x.now a.off) c.plain_fault.result c.own_need-need.ensures c.holds_text.ensures
    c.if-holds_text.false c.plain_fault.ensures
