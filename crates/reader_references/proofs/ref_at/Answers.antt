use Rattle.reader_references.specs.References.{ref_of}
use Rattle.table.specs.Layout.{region}
use Rattle.table.specs.declared.Region.{Region}
use mathlib.Core.Path.{ap, ◌∙◌}
use Rattle.reader_references.proofs.ref_at.Goals as goal

pub returns : goal.returns
returns c =
    c.ref_of.ensures
    ∙ ap (λ (x : Region). ref_of (region c.args.heap.from c.args.heap.len) x.at x.len)
    c.reference_at-x.ensures.0
