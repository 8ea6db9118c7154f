use Rattle.std.proofs.Common.{arith, ◌≡◌, ◌++◌, ap, length, append_assoc}
use Rattle.text.specs.Ascii.{ascii}
use Rattle.text.specs.Numerals.{numeral}
use Rattle.changes.proofs.lines.place_columns.Goals as goal

pub returns : goal.returns
returns c =
    let a = c.args in
    let first : c.put_column.new.text ≡ numeral a.kind ++ ascii " " = rw (c.new-text.ensures, c.from.ensures) at c.put_column.ensures.1 in (
      omega (arith, c.put_column.ensures.0, c.put_column-2.ensures.0, ap length c.new-text.ensures),
      cc (c.put_column-2.ensures.1, first, append_assoc (numeral a.kind) (ascii " ") (numeral a.position ++ ascii " ")),
    )
