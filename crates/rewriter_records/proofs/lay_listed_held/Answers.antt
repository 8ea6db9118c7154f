use mathlib.Core.Path.{◌≡◌, ap, ◌∙◌}
use native.Mathlib.Omega.{arith}
use lib.ListN.{length, length-append}
use Rattle.rewriter_sizes.specs.Parts.{objects_of, held_of}
use Rattle.reads_seats.proofs.ReferenceLaws.{refs-split}
use Rattle.rewriter_objects.proofs.LaidLaws.{over-empty}
use Rattle.rewriter_records.proofs.lay_listed_held.Goals as goal

-- all references are to objects: that to a heap record is none
pub returns-then-all-object_count : goal.returns-then-all-object_count
returns-then-all-object_count c =
    let r = c.reference_offsets-all.ensures in
    let a = c.args in
    let k = a.kind in
    let l = ap length (refs-split k) ∙ length-append (objects_of k) (held_of k) in
    let e : length (held_of k) ≡ 0 = omega (arith, l, ap length r.0, c.object_count.ensures.0, c.if-all-object_count.true) in
    over-empty a.t.now k a.source (held_of k) e a.out.now a.place a.next
