use Rattle.std.proofs.Common.{arith, length}
use borrow.Author.Tests.{le-leb, lt-leb}
use Rattle.changes.proofs.lines.put_value.Goals as goal

pub returns-then-x-le4 : goal.returns-then-x-le4
returns-then-x-le4 c =
    let x = c.args.x.now in
    (omega (arith, c.put_number.ensures.0), rw (le-leb (length x) 4 c.if-x-le4.true) (cc (c.put_number.ensures.1, c.number_of.ensures)))

pub returns-else-x-le4 : goal.returns-else-x-le4
returns-else-x-le4 c =
    let x = c.args.x.now in
    (omega (arith, c.put_hexes.ensures.0, c.requires.1), rw (lt-leb (length x) 4 c.if-x-le4.false) c.put_hexes.ensures.1)
