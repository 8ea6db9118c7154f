use Rattle.std.proofs.Common.{arith, [], ◌∷◌, append_assoc, length-append}
use lib.Dec.{lit≤}
use Rattle.text.proofs.Laws.{longer-by}
use Rattle.text.specs.Numerals.{numeral}
use Rattle.changes.proofs.LineLaws.{numeral-short}
use Rattle.changes.proofs.lines.put_column.Goals as goal

pub returns : goal.returns
returns c =
    let a = c.args in
    let digits = longer-by a.text.now (numeral a.n) 5 c.put_number.ensures.1 (numeral-short a.n c.requires.0) in (
      omega (arith, digits, longer-by c.put_number.new.text (a.behind ∷ []) 1 c.push.ensures (lit≤ tt)),
      rw (c.push.ensures, c.put_number.ensures.1) (append_assoc a.text.now (numeral a.n) (a.behind ∷ [])),
    )
