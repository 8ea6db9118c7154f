use mathlib.Core.Path.{sym, ◌∙◌}
use Rattle.rewriter_sizes.specs.Parts.{objects_of}
use Rattle.rewriter_objects.proofs.LaidLaws.{over-empty}
use Rattle.rewriter_records.proofs.lay_listed_objects.Goals as goal

pub returns-then-object_count-eq0 : goal.returns-then-object_count-eq0
returns-then-object_count-eq0 c =
    let a = c.args in
    let k = a.kind in
    over-empty a.t.now k a.source (objects_of k) (sym c.object_count.ensures.0 ∙ c.if-object_count-eq0.true) a.out.now a.place a.next
