use mathlib.Core.Path.{ap₂, ◌∙◌}
use Rattle.table.specs.declared.Field.{Field}
use Rattle.show_values.specs.Values.{field_text}
use Rattle.show.proofs.records.text_in.Goals as goal

pub returns : goal.returns
returns c =
    let field = c.field_in-field.ensures in
    let other = c.field_in-other.ensures in
    let row = c.args.cell.row in
    c.field_text.ensures ∙ ap₂ (λ (f g : Field). field_text row.form row.weight f.bytes g.bytes) field other
