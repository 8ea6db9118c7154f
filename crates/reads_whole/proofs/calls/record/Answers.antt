use Rattle.reads_whole.specs.Whole.{entry_after}
use Rattle.reads_seats.proofs.ObjectLaws.{accepted}
use Rattle.table.specs.Reads.{read_record}
use Rattle.table.specs.Numbers.{check}
use Rattle.table.specs.declared.Answer.{Answer}
use borrow.Author.Tests.{eq-eqb, ne_eqb}
use mathlib.Core.Path.{sym, ap, ◌∙◌}
use Rattle.table.proofs.Rules.{picks}
use Rattle.reads_whole.proofs.calls.record.Goals as goal

pub returns-then-answer-ne0 : goal.returns-then-answer-ne0
unfolding read_record entry_after
returns-then-answer-ne0 c =
    let e = ap (λ (x : Answer). x.number) c.check-answer.ensures in (
      rw (ne_eqb (check c.args.t.now).number 0 (λ z. c.if-answer-ne0.true (e ∙ z)))
          c.check-answer.ensures,
      search picks,
    )

pub record_in-requires : goal.record_in-requires
record_in-requires c = (
  accepted c.args.t.now
      (sym (ap (λ (x : Answer). x.number) c.check-answer.ensures) ∙ c.if-answer-ne0.false),
  c.requires,
)

pub returns : goal.returns
unfolding read_record
returns c =
    let e = ap (λ (x : Answer). x.number) c.check-answer.ensures in (
      rw (eq-eqb (check c.args.t.now).number 0 (sym e ∙ c.if-answer-ne0.false))
          c.record_in.ensures.0,
      c.record_in.ensures.1,
    )
