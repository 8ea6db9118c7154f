use Rattle.builder_finish.proofs.EndLaws.{finish-early, finish-short, finish-refused, finish-done}
use Rattle.table.specs.Builder.{sealed}
use Rattle.table.specs.Bytes.{pick}
use borrow.Author.Tests.{eq-eqb, ne_eqb}
use mathlib.Core.Bool.{Bool}
use Rattle.builder_record.proofs.LayLaws.{step_is}
use Rattle.table.specs.declared.State.{State}
use Rattle.table.specs.declared.Answer.{Answer}
use mathlib.Core.Path.{sym, ap, ◌∙◌}
use native.Mathlib.Omega.{arith}
use Rattle.builder_finish.proofs.finish.Goals as goal

pub returns-then-not-waits : goal.returns-then-not-waits
returns-then-not-waits c =
    let a = c.args in
    let b = a.out.now in
    let t = finish-early a.state b
    (sym c.waits.ensures ∙ c.if-not-waits.true) in (
      step_is c.refused.result c.refuse.result a.state c.refused.ensures.0
          c.refused.ensures.1
          ∙ ap (λ (x : Answer). record { answer = x; state = a.state }) c.refuse.ensures
          ∙ t.0,
      t.1,
    )

pub returns-then-state-out : goal.returns-then-state-out
returns-then-state-out c =
    let a = c.args in
    let b = a.out.now in
    let t = finish-short a.state b
    (sym c.waits.ensures ∙ c.if-not-waits.false)
    (omega (arith, c.if-state-out.true)) in (
      step_is c.refused-then-state-out.result c.refuse-then-state-out.result a.state c.refused-then-state-out.ensures.0
          c.refused-then-state-out.ensures.1
          ∙ ap (λ (x : Answer). record { answer = x; state = a.state }) c.refuse-then-state-out.ensures
          ∙ t.0,
      t.1,
    )

pub judge_finished-answer-requires : goal.judge_finished-answer-requires
judge_finished-answer-requires c =
    let a = c.args in
    let b = a.out.now in (
      sym c.waits.ensures ∙ c.if-not-waits.false,
      omega (arith, c.if-state-out.false),
    )

pub returns-then-answer-ne0 : goal.returns-then-answer-ne0
returns-then-answer-ne0 c =
    let a = c.args in
    let b = a.out.now in
    let j = c.judge_finished-answer.ensures in
    let t = finish-refused a.state b
    (sym c.waits.ensures ∙ c.if-not-waits.false)
    (omega (arith, c.if-state-out.false)) c.judge_finished-answer.result j.0
    c.if-answer-ne0.true in (
      step_is c.refused-then-answer-ne0.result c.judge_finished-answer.result a.state c.refused-then-answer-ne0.ensures.0
          c.refused-then-answer-ne0.ensures.1
          ∙ t.0,
      j.1
          ∙ ap (λ (c : Bool). pick c (sealed a.state b) b)
          (ne_eqb c.judge_finished-answer.result.number 0 c.if-answer-ne0.true)
          ∙ t.1,
    )

pub returns : goal.returns
returns c =
    let a = c.args in
    let b = a.out.now in
    let j = c.judge_finished-answer.ensures in
    let t = finish-done a.state b
    (sym c.waits.ensures ∙ c.if-not-waits.false)
    (omega (arith, c.if-state-out.false)) c.judge_finished-answer.result j.0 c.if-answer-ne0.false in (
      ap (λ (y : State). record { answer = c.judge_finished-answer.result; state = y })
          c.finished-finished.ensures
          ∙ t.0,
      j.1
          ∙ ap (λ (c : Bool). pick c (sealed a.state b) b)
          (eq-eqb c.judge_finished-answer.result.number 0 c.if-answer-ne0.false)
          ∙ t.1,
    )
