use Rattle.reader_rules.proofs.HeapLaws.{info-no, info-yes}
use Prim.Native.Nat.{◌+◌}
use Rattle.reader_heap_records.specs.HeapRecords.{info_part}
use Rattle.reader_references.proofs.Laws.{part_none, part-some, part-yes}
use native.Mathlib.Omega.{arith}
use Rattle.table.specs.Layout.{reference_at}
use mathlib.Core.Path.{ap, sym, ◌∙◌}
use Rattle.reader_rules.proofs.info_ref.Goals as goal

pub returns-then-x-eq0 : goal.returns-then-x-eq0
returns-then-x-eq0 c =
    let x = reference_at c.args.t.now (c.args.a + 16) in
    info-no c.args.t.now c.args.heap.bytes.now c.args.heap.from c.args.a c.args.position c.requires.1
    (part_none c.args.heap.bytes.now c.args.heap.from x.at x.len (rw c.part_at-x.ensures at c.if-x-eq0.true))

pub returns : goal.returns
returns c =
    let x = reference_at c.args.t.now (c.args.a + 16) in
    let r = part-some c.args.heap.bytes.now c.args.heap.from x.at x.len
    (rw c.part_at-x.ensures at c.if-x-eq0.false) in
    c.info_fault.ensures
    ∙ ap (info_part c.args.heap.bytes.now c.args.heap.from c.args.position)
    (c.part_at-x.ensures ∙ sym (part-yes c.args.heap.bytes.now c.args.heap.from x.at x.len r))
    ∙ info-yes c.args.t.now c.args.heap.bytes.now c.args.heap.from c.args.a c.args.position c.requires.1
    (λ i. omega (arith, c.type_inv.t i)) r
