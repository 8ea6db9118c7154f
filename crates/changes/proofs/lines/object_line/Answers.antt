use Rattle.text.specs.Numerals.{numeral}
use Rattle.changes.specs.Changes.{text_of}
use Rattle.changes.proofs.LineLaws.{object-columns}
use Rattle.changes.proofs.lines.object_line.Goals as goal

pub returns : goal.returns
unfolding text_of
returns c =
    let a = c.args in
    cc (
      c.put_column-4.ensures.1,
      c.put_column-3.ensures.1,
      c.put_column-2.ensures.1,
      c.put_column.ensures.1,
      c.place_columns-text.ensures.1,
      object-columns (numeral a.kind) (numeral a.position) (numeral a.offset) (numeral a.one) (numeral a.other) (numeral a.at),
    )
