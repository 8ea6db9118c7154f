use mathlib.Core.Path.{refl, sym, ◌∙◌}
use lib.ListN.{length}
use Rattle.table.specs.Layout.{region, reference_at}
use Rattle.reader_references.specs.References.{object_rule}
use Rattle.reader_references.proofs.Laws.{of-bounds, part-inside, ref-nowhere, counted, text-nowhere, text-there}
use Rattle.reader_references.proofs.text_fault.Goals as goal

pub text_number-requires : goal.text_number-requires
text_number-requires c =
    let a = c.args in
    let r = reference_at a.t.now a.r in
    let e = of-bounds _ _ _ _ r.at r.len _ c.bounds.ensures.0 c.bounds.ensures.1 c.ref_at.ensures in
    let i = part-inside a.heap.from (length a.heap.bytes.now) r.at r.len _ _ (sym e ∙ c.in_default-Part.is-1) in
    (i.above, i.below)

pub returns-in-Ignored-default : goal.returns-in-Ignored-default
unfolding object_rule
returns-in-Ignored-default c = rw c.in-Ignored-default.is-0 refl

pub returns-in_default-Part : goal.returns-in_default-Part
returns-in_default-Part c =
    let a = c.args in
    let r = reference_at a.t.now a.r in
    let e = of-bounds _ _ _ _ r.at r.len _ c.bounds.ensures.0 c.bounds.ensures.1 c.ref_at.ensures in
    let p = c.in_default-Part in
    c.text_number.ensures
    ∙ text-there a.need a.heap.bytes.now a.heap.from r p.at p.len (sym e ∙ p.is-1) (counted a.need p.not-Ignored-0)

pub returns-in_default : goal.returns-in_default
returns-in_default c =
    let a = c.args in
    let r = reference_at a.t.now a.r in
    let e = of-bounds _ _ _ _ r.at r.len _ c.bounds.ensures.0 c.bounds.ensures.1 c.ref_at.ensures in
    c.ref_number.ensures
    ∙ text-nowhere a.need a.heap.bytes.now a.heap.from r c.ref_at.result e
    (ref-nowhere (region a.heap.from (length a.heap.bytes.now)) r.at r.len c.ref_at.result e c.in_default.not-Part-1)
