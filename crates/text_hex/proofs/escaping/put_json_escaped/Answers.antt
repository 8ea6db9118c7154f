use Rattle.std.proofs.Common.{arith, append_assoc}
use lib.Dec.{lit≤}
use Rattle.text.proofs.Laws.{longer-by}
use Rattle.text.specs.Ascii.{ascii}
use Rattle.text_hex.specs.Escapes.{json_of}
use Rattle.text_hex.specs.Hexadecimal.{hex_of}
use borrow.Author.Tests.{eq-eqb, ne_eqb}
use Rattle.text_hex.proofs.escaping.put_json_escaped.Goals as goal

pub returns-then-not-is_printable : goal.returns-then-not-is_printable
unfolding json_of
returns-then-not-is_printable c =
    let a = c.args in (
      omega (arith, c.put_hex_byte.ensures.0, longer-by c.args.text.now (ascii "\\u00") 4 c.append.ensures (lit≤ tt)),
      rw (← c.is_printable.ensures, c.if-not-is_printable.true, c.put_hex_byte.ensures.1, c.append.ensures) (append_assoc a.text.now (ascii "\\u00") (hex_of 2 a.b)),
    )

pub returns-then-b-eq34 : goal.returns-then-b-eq34
unfolding json_of
returns-then-b-eq34 c = (
  longer-by _ _ 6 c.append-then-b-eq34.ensures (lit≤ tt),
  rw (← c.is_printable.ensures, c.if-not-is_printable.false, eq-eqb c.args.b 0x22 c.if-b-eq34.true) c.append-then-b-eq34.ensures,
)

pub returns-then-b-eq92 : goal.returns-then-b-eq92
unfolding json_of
returns-then-b-eq92 c =
    let b = c.args.b in (
      longer-by _ _ 6 c.append-then-b-eq92.ensures (lit≤ tt),
      rw (← c.is_printable.ensures, c.if-not-is_printable.false, ne_eqb b 0x22 c.if-b-eq34.false, eq-eqb b 0x5c c.if-b-eq92.true) c.append-then-b-eq92.ensures,
    )

pub returns-else-b-eq92 : goal.returns-else-b-eq92
unfolding json_of
returns-else-b-eq92 c =
    let b = c.args.b in (
      longer-by _ _ 6 c.push.ensures (lit≤ tt),
      rw (← c.is_printable.ensures, c.if-not-is_printable.false, ne_eqb b 0x22 c.if-b-eq34.false, ne_eqb b 0x5c c.if-b-eq92.false) c.push.ensures,
    )
