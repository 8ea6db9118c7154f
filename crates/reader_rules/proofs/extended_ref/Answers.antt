use Rattle.reader_rules.proofs.HeapLaws.{extended-off, extended-no, extended-yes}
use Rattle.table.specs.FixedLayouts.{extended}
use borrow.Author.Tests.{eq-eqb, ne_eqb}
use Prim.Native.Nat.{◌+◌}
use Rattle.reader_heap_records.specs.HeapRecords.{flat_part}
use Rattle.reader_references.proofs.Laws.{part_none, part-some, part-yes}
use Rattle.table.specs.Layout.{reference_at}
use mathlib.Core.List.{[]}
use mathlib.Core.Path.{ap, sym, ◌∙◌}
use Rattle.reader_rules.proofs.extended_ref.Goals as goal

pub returns-then-ssns_flags-eq0 : goal.returns-then-ssns_flags-eq0
returns-then-ssns_flags-eq0 c =
    extended-off c.args.t.now c.args.heap.bytes.now c.args.heap.from c.args.a c.args.position c.requires.1
    (eq-eqb _ 0 (rw c.ssns_flags.ensures at c.if-ssns_flags-eq0.true))

pub returns-then-x-eq0 : goal.returns-then-x-eq0
returns-then-x-eq0 c =
    let x = reference_at c.args.t.now (c.args.a + 60) in
    extended-no c.args.t.now c.args.heap.bytes.now c.args.heap.from c.args.a c.args.position c.requires.1
    (ne_eqb _ 0 (rw c.ssns_flags.ensures at c.if-ssns_flags-eq0.false))
    (part_none c.args.heap.bytes.now c.args.heap.from x.at x.len (rw c.part_at-x.ensures at c.if-x-eq0.true))

pub returns : goal.returns
returns c =
    let x = reference_at c.args.t.now (c.args.a + 60) in
    let r = part-some c.args.heap.bytes.now c.args.heap.from x.at x.len
    (rw c.part_at-x.ensures at c.if-x-eq0.false) in
    c.extended_fault.ensures
    ∙ ap (flat_part c.args.heap.bytes.now c.args.heap.from c.args.position extended.shape extended.refs []) (c.part_at-x.ensures ∙ sym (part-yes c.args.heap.bytes.now c.args.heap.from x.at x.len r))
    ∙ extended-yes c.args.t.now c.args.heap.bytes.now c.args.heap.from c.args.a c.args.position c.requires.1
    (ne_eqb _ 0 (rw c.ssns_flags.ensures at c.if-ssns_flags-eq0.false)) r
