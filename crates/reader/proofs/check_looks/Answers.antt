use mathlib.Core.Path.{sym, ap, ◌∙◌}
use Rattle.table.specs.declared.Answer.{Answer}
use Rattle.reader_frame.proofs.Laws.{laid_out_lem}
use Rattle.laws.specs.LookLaws.{behind_more, behind-stop}
use Rattle.reader.proofs.Laws.{answer-stop, answer-more, check-is, looks-are}
use Rattle.reader.proofs.check_looks.Goals as goal

pub returns-then-answer-ne0 : goal.returns-then-answer-ne0
returns-then-answer-ne0 c =
    let t = c.args.t.now in
    let fault = c.frame_fault-answer.ensures in (
      answer-stop _ fault c.if-answer-ne0.true ∙ check-is t,
      sym (behind-stop _ _ (λ z. c.if-answer-ne0.true (ap (λ (x : Answer). x.number) fault ∙ z))) ∙ looks-are t,
    )

pub records_fault-requires : goal.records_fault-requires
records_fault-requires c = laid_out_lem c.args.t.now (rw c.frame_fault-answer.ensures at c.if-answer-ne0.false)

pub returns : goal.returns
returns c =
    let t = c.args.t.now in
    let fault = c.frame_fault-answer.ensures in
    let framed = c.if-answer-ne0.false in
    let records = c.records_fault.ensures in (
      answer-more fault framed records.0 ∙ check-is t,
      records.1 ∙ sym (behind_more _ _ (sym (ap (λ (x : Answer). x.number) fault) ∙ framed)) ∙ looks-are t,
    )
