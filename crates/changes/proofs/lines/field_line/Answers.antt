use Rattle.text.specs.Numerals.{numeral}
use Rattle.changes.specs.Changes.{text_of, value_of}
use Rattle.changes.proofs.LineLaws.{field-columns}
use Rattle.changes.proofs.lines.field_line.Goals as goal

pub returns : goal.returns
unfolding text_of
returns c =
    let a = c.args in
    cc (
      c.push-2.ensures,
      c.put_value-2.ensures.1,
      c.push.ensures,
      c.put_value.ensures.1,
      c.put_column.ensures.1,
      c.place_columns-text.ensures.1,
      field-columns (numeral a.kind) (numeral a.position) (numeral a.offset) (value_of a.one.now) (value_of a.other.now),
    )
