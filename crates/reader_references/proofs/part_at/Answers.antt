use mathlib.Core.Path.{sym, ◌∙◌}
use lib.ListN.{length}
use Rattle.table.specs.Layout.{region, reference_at}
use Rattle.reader_references.proofs.Laws.{of-bounds, ref-part, ref-nowhere, part-inside, part-yes, part_no}
use Rattle.reader_references.proofs.part_at.Goals as goal

pub part-requires : goal.part-requires
part-requires c =
    let a = c.args in
    let r = reference_at a.t.now a.r in
    let e = of-bounds _ _ _ _ r.at r.len _ c.bounds.ensures.0 c.bounds.ensures.1 c.ref_at.ensures in
    let i = part-inside a.heap.from (length a.heap.bytes.now) r.at r.len _ _ (sym e ∙ c.in-Part.is) in
    (i.above, i.below)

pub returns-in_default : goal.returns-in_default
returns-in_default c =
    let a = c.args in
    let r = reference_at a.t.now a.r in
    let e = of-bounds _ _ _ _ r.at r.len _ c.bounds.ensures.0 c.bounds.ensures.1 c.ref_at.ensures in
    part_no a.heap.bytes.now a.heap.from r.at r.len
    (ref-nowhere (region a.heap.from (length a.heap.bytes.now)) r.at r.len c.ref_at.result e c.in_default.not-Part)

pub returns-in-Part : goal.returns-in-Part
returns-in-Part c =
    let a = c.args in
    let r = reference_at a.t.now a.r in
    let e = of-bounds _ _ _ _ r.at r.len _ c.bounds.ensures.0 c.bounds.ensures.1 c.ref_at.ensures in
    let f = ref-part (region a.heap.from (length a.heap.bytes.now)) r.at r.len _ _ (sym e ∙ c.in-Part.is) in
    c.part.ensures ∙ rw (f.1, f.2) (part-yes a.heap.bytes.now a.heap.from r.at r.len f.0)
