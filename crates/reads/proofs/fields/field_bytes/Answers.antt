use Rattle.reads_seats.proofs.ReadLaws.{zeros-padded, part-zeros}
use Rattle.laws.specs.Fields.{image_in}
use Rattle.table.specs.FixedLayouts.{layout_of}
use Rattle.table.specs.Layout.{base_of}
use Rattle.table.specs.Bytes.{padded}
use mathlib.Core.Path.{sym, ap, ◌∙◌}
use Rattle.reads.proofs.fields.field_bytes.Goals as goal

pub returns-then-used : goal.returns-then-used
unfolding image_in
returns-then-used c = rw c.if-used.true c.field_at.ensures

pub returns : goal.returns
returns c =
    let a = c.args in
    rw c.if-used.false (zeros-padded a.len 16 c.requires.2
    ∙ ap (padded 16) (sym (part-zeros (base_of (layout_of a.kind)) a.off a.len c.requires.1)))
