use mathlib.Core.Path.{◌≡◌, refl, ap, ◌∙◌}
use lib.Dec.{lit≤, lit<}
use Rattle.table.specs.declared.Need.TheVariants.{Required}
use Rattle.table.specs.Layout.{text}
use Rattle.table.specs.FixedLayouts.{layout_of, host}
use Rattle.table.specs.Rules.{first_fail}
use Rattle.table.specs.Builder.{Outcome}
use Rattle.laws.specs.Fields.{image_in}
use Rattle.builder_record.specs.Steps.{judge_tests}
use Rattle.builder_record.proofs.LayLaws.{step_is}
use Prim.Native.Nat.{ℕ}
use Rattle.laws.specs.TextLaws.{told_fault}
use Rattle.builder_host.proofs.Laws.{host-refused, host-passed, host-done}
use Rattle.builder_host.proofs.host.Goals.{After-judged-answer}
use Rattle.builder_host.proofs.host.Goals as goal

-- what was answered, by the objects
judged-is : (c : After-judged-answer) →
    c.judged-answer.result
    ≡ first_fail (judge_tests (layout_of 2) c.args.state
    (image_in (layout_of 2) c.mark_whole-marked.result 0) 0
    (told_fault Required text c.args.nqn.now))
judged-is c =
    c.judged-answer.ensures
    ∙ ap (λ (f : ℕ). first_fail (judge_tests (layout_of 2) c.args.state
    (image_in (layout_of 2) c.mark_whole-marked.result 0) 0 f)) c.fits_text.ensures

pub mark_whole-marked-requires : goal.mark_whole-marked-requires
unfolding layout_of host
mark_whole-marked-requires c = (lit< tt, (refl, refl))

pub judged-answer-requires : goal.judged-answer-requires
unfolding layout_of host
judged-answer-requires c = (lit≤ tt, lit≤ tt, c.mark_whole-marked.ensures.2)

pub returns-then-answer-ne0 : goal.returns-then-answer-ne0
returns-then-answer-ne0 c =
    let t = host-refused c.args.state c.args.out.now c.args.told.bytes c.mark_whole-marked.result
    c.args.nqn.now c.judged-answer.result c.mark_whole-marked.ensures.0 (judged-is (goal.at.returns-then-answer-ne0 c).After-judged-answer) c.if-answer-ne0.true in (
      step_is c.refused.result c.judged-answer.result c.args.state c.refused.ensures.0
          c.refused.ensures.1
          ∙ t.0,
      t.1,
    )

pub lay_host-requires : goal.lay_host-requires
unfolding host
lay_host-requires c =
    let p = host-passed c.args.state c.args.out.now c.args.told.bytes c.mark_whole-marked.result
    c.args.nqn.now c.judged-answer.result c.mark_whole-marked.ensures.0 (judged-is (goal.at.lay_host-requires c).After-judged-answer)
    c.if-answer-ne0.false in
    (p.0, c.mark_whole-marked.ensures.2, p.1)

pub returns : goal.returns
returns c =
    let d = host-done c.args.state c.args.out.now c.args.told.bytes c.mark_whole-marked.result
    c.args.nqn.now c.judged-answer.result c.mark_whole-marked.ensures.0 (judged-is (goal.at.returns c).After-judged-answer)
    c.if-answer-ne0.false in (
      c.lay_host.ensures.0 ∙ ap (λ (o : Outcome). o.step) d,
      c.lay_host.ensures.1 ∙ ap (λ (o : Outcome). o.buffer) d,
    )
