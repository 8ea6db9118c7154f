use mathlib.Core.Path.{◌≡◌, refl, ap, ◌∙◌}
use lib.Dec.{lit≤, lit<}
use Rattle.table.specs.Rules.{first_fail}
use Rattle.table.specs.Builder.{Outcome}
use Rattle.laws.specs.Fields.{image_in}
use Rattle.builder_record.specs.Steps.{judge_tests}
use Rattle.builder_record.proofs.LayLaws.{step_is}
use Prim.Native.Nat.{ℕ}
use Rattle.table.specs.FixedLayouts.{layout_of, ssns, extended}
use Rattle.builder_ssns.specs.SsnsParts.{ssns_fault}
use Rattle.builder_ssns.proofs.Laws.{ssns-refused, ssns-passed, ssns-done}
use Rattle.builder_ssns.proofs.ssns.Goals.{After-judged-answer}
use Rattle.builder_ssns.proofs.ssns.Goals as goal

-- what was answered, by the objects
judged-is : (c : After-judged-answer) →
    c.judged-answer.result
    ≡ first_fail (judge_tests (layout_of 4) c.args.state (image_in (layout_of 4) c.mark_whole-marked.result 0) 0
    (ssns_fault (image_in ssns c.mark_whole-marked.result 0) c.args.state.hfi c.args.address.now c.args.service.now
    c.args.others.now c.args.nqn.now c.args.path.now))
judged-is c =
    c.judged-answer.ensures
    ∙ ap (λ (f : ℕ). first_fail
    (judge_tests (layout_of 4) c.args.state (image_in (layout_of 4) c.mark_whole-marked.result 0) 0 f))
    c.ssns_fault-fault.ensures

pub mark_whole-marked-requires : goal.mark_whole-marked-requires
unfolding layout_of ssns
mark_whole-marked-requires c = (lit< tt, (refl, refl))

pub mark_whole-marked_extended-requires : goal.mark_whole-marked_extended-requires
unfolding layout_of extended
mark_whole-marked_extended-requires c = (lit< tt, (refl, refl))

pub judged-answer-requires : goal.judged-answer-requires
unfolding layout_of ssns
judged-answer-requires c = (lit≤ tt, lit≤ tt, c.mark_whole-marked.ensures.2)

pub returns-then-answer-ne0 : goal.returns-then-answer-ne0
returns-then-answer-ne0 c =
    let t = ssns-refused c.args.state c.args.out.now c.args.told.bytes
    c.mark_whole-marked.result c.args.address.now c.args.service.now c.args.others.now
    c.args.nqn.now c.args.extended.bytes c.mark_whole-marked_extended.result c.args.path.now
    c.judged-answer.result c.mark_whole-marked.ensures.0 c.mark_whole-marked_extended.ensures.0 (judged-is (goal.at.returns-then-answer-ne0 c).After-judged-answer)
    c.if-answer-ne0.true in (
      step_is c.refused.result c.judged-answer.result c.args.state c.refused.ensures.0
          c.refused.ensures.1
          ∙ t.0,
      t.1,
    )

pub lay_ssns-requires : goal.lay_ssns-requires
unfolding ssns extended
lay_ssns-requires c =
    let p = ssns-passed c.args.state c.args.out.now c.args.told.bytes c.mark_whole-marked.result
    c.args.address.now c.args.service.now c.args.others.now c.args.nqn.now
    c.args.extended.bytes c.mark_whole-marked_extended.result c.args.path.now c.judged-answer.result
    c.mark_whole-marked.ensures.0 c.mark_whole-marked_extended.ensures.0 (judged-is (goal.at.lay_ssns-requires c).After-judged-answer) c.if-answer-ne0.false in
    record { state_value = (p.0, c.mark_whole-marked.ensures.2, c.mark_whole-marked_extended.ensures.2); address_len_bound = (p.1, p.2, p.3, p.4, p.5) }

pub returns : goal.returns
returns c =
    let d = ssns-done c.args.state c.args.out.now c.args.told.bytes c.mark_whole-marked.result
    c.args.address.now c.args.service.now c.args.others.now c.args.nqn.now
    c.args.extended.bytes c.mark_whole-marked_extended.result c.args.path.now c.judged-answer.result
    c.mark_whole-marked.ensures.0 c.mark_whole-marked_extended.ensures.0 (judged-is (goal.at.returns c).After-judged-answer) c.if-answer-ne0.false in (
      c.lay_ssns.ensures.0 ∙ ap (λ (o : Outcome). o.step) d,
      c.lay_ssns.ensures.1 ∙ ap (λ (o : Outcome). o.buffer) d,
    )
