use Rattle.text.specs.Numerals.{numeral}
use Rattle.changes.proofs.LineLaws.{side-columns}
use Rattle.changes.proofs.lines.side_line.Goals as goal

pub returns : goal.returns
returns c =
    let a = c.args in
    cc (
      c.from.ensures,
      c.put_column.ensures.1,
      c.push.ensures,
      c.append.ensures,
      c.place_columns-text.ensures.1,
      side-columns (numeral a.kind) (numeral a.position) a.word.now (numeral a.side),
    )
