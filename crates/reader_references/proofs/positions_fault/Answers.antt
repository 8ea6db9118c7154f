use mathlib.Core.Path.{refl, sym, ◌∙◌}
use lib.ListN.{length}
use Rattle.table.specs.declared.Need.TheVariants.{Optional}
use Rattle.table.specs.Layout.{region, reference_at}
use Rattle.reader_references.specs.References.{positions_rule}
use Rattle.reader_references.proofs.Laws.{of-bounds, part-inside, ref-nowhere, asked-nowhere, asked-there, positions-free}
use Rattle.reader_references.proofs.positions_fault.Goals as goal

pub positions_number-requires : goal.positions_number-requires
positions_number-requires c =
    let a = c.args in
    let r = reference_at a.t.now a.r in
    let e = of-bounds _ _ _ _ r.at r.len _ c.bounds.ensures.0 c.bounds.ensures.1 c.ref_at.ensures in
    let i = part-inside a.heap.from (length a.heap.bytes.now) r.at r.len _ _ (sym e ∙ c.in-Part.is) in
    (i.above, i.below)

pub returns-in-Part : goal.returns-in-Part
returns-in-Part c =
    let a = c.args in
    let r = reference_at a.t.now a.r in
    let e = of-bounds _ _ _ _ r.at r.len _ c.bounds.ensures.0 c.bounds.ensures.1 c.ref_at.ensures in
    c.positions_number.ensures
    ∙ asked-there Optional (positions_rule a.most) (positions-free a.most) a.heap.bytes.now a.heap.from r c.in-Part.at c.in-Part.len (sym e ∙ c.in-Part.is) refl

pub returns-in_default : goal.returns-in_default
returns-in_default c =
    let a = c.args in
    let r = reference_at a.t.now a.r in
    let e = of-bounds _ _ _ _ r.at r.len _ c.bounds.ensures.0 c.bounds.ensures.1 c.ref_at.ensures in
    c.ref_number.ensures
    ∙ asked-nowhere Optional (positions_rule a.most) (positions-free a.most) a.heap.bytes.now a.heap.from r c.ref_at.result e
    (ref-nowhere (region a.heap.from (length a.heap.bytes.now)) r.at r.len c.ref_at.result e c.in_default.not-Part)
