use Rattle.std.proofs.Common.{arith, refl, ◌++◌, append_assoc, append-nil}
use borrow.Author.Tests.{eq-eqb, ne_eqb}
use lib.Dec.{lit≤}
use Rattle.text.specs.Ascii.{ascii}
use Rattle.text.proofs.Laws.{longer-by}
use Rattle.text_answers.specs.Words.{kind_of, place_of}
use Rattle.text_answers.proofs.put_place.Goals as goal

pub returns-then-position-ne0 : goal.returns-then-position-ne0
unfolding place_of
returns-then-position-ne0 c =
    let a = c.args in (
      omega (arith, c.put_number.ensures.0, longer-by c.put_kind.new.text (ascii " ") 1 c.push.ensures (lit≤ tt), c.put_kind.ensures.0, longer-by a.text.now (ascii ": ") 2 c.append.ensures (lit≤ tt)),
      rw (ne_eqb a.position 0 c.if-position-ne0.true) (simp (c.put_number.ensures.1, c.push.ensures, c.put_kind.ensures.1, c.append.ensures, append_assoc) refl),
    )

pub returns-else-position-ne0 : goal.returns-else-position-ne0
unfolding place_of
returns-else-position-ne0 c =
    let a = c.args in (
      omega (arith, c.put_kind.ensures.0, longer-by a.text.now (ascii ": ") 2 c.append.ensures (lit≤ tt)),
      rw (eq-eqb a.position 0 c.if-position-ne0.false, append-nil (ascii ": " ++ ascii (kind_of a.kind))) (simp (c.put_kind.ensures.1, c.append.ensures, append_assoc) refl),
    )
