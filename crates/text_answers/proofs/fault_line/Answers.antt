use Rattle.std.proofs.Common.{refl, append_assoc, append-nil}
use Rattle.text.specs.Ascii.{ascii}
use borrow.Author.Tests.{eq-eqb, ne_eqb}
use Rattle.text_answers.specs.Words.{meaning_of, fault_line}
use Rattle.text_answers.proofs.fault_line.Goals as goal
use Rattle.text_answers.proofs.fault_line.Goals.{then-number-ne0, else-number-ne0}

pub returns : goal.returns
unfolding fault_line
returns c =
    let n = c.args.number in
    elim c.if-number-ne0.branch [
      | then-number-ne0 w ↦
          rw (ne_eqb n 0 w.if-number-ne0.true) (simp (c.push.ensures, w.text-is, w.put_place.ensures.1, c.put_meaning.ensures.1, c.new-text.ensures, append_assoc) refl)
      | else-number-ne0 w ↦
          rw (eq-eqb n 0 w.if-number-ne0.false, append-nil (ascii (meaning_of n))) (simp (c.push.ensures, w.text-is, c.put_meaning.ensures.1, c.new-text.ensures, append_assoc) refl)
    ]
