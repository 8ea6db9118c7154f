use lib.Dec.{lit≤}
use Rattle.text.proofs.Laws.{longer-by}
use Rattle.text_hex.specs.Escapes.{escaped_of}
use borrow.Author.Tests.{eq-eqb, ne_eqb}
use Rattle.text_hex.proofs.escaping.put_escaped.Goals as goal
use Rattle.text_hex.proofs.escaping.put_escaped.Goals.{else-is_printable-via-then-is_printable+else-b-ne92, else-is_printable-via-else-is_printable}

pub returns-then-b-ne92 : goal.returns-then-b-ne92
unfolding escaped_of
returns-then-b-ne92 c = (longer-by _ _ 4 c.push.ensures (lit≤ tt), rw (← c.is_printable.ensures, c.if-is_printable.true, ne_eqb c.args.b 0x5c c.if-b-ne92.true) c.push.ensures)

pub returns-else-is_printable : goal.returns-else-is_printable
unfolding escaped_of
returns-else-is_printable c = (
  c.put_code.ensures.0,
  elim c.else-is_printable.branch [
    | else-is_printable-via-then-is_printable+else-b-ne92 w ↦
        rw (← c.is_printable.ensures, w.if-is_printable.true, eq-eqb c.args.b 0x5c w.if-b-ne92.false) c.put_code.ensures.1
    | else-is_printable-via-else-is_printable w ↦ rw (← c.is_printable.ensures, w.if-is_printable.false) c.put_code.ensures.1
  ],
)
