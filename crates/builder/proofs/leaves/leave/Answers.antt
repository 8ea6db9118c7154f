use Rattle.builder.proofs.LeaveLaws.{leave-early, leave-nowhere, leave-short, leave-done}
use Rattle.builder_record.proofs.LayLaws.{step_is}
use Rattle.builder_state.proofs.Laws.{in-limit, used-bounds}
use Rattle.table.specs.declared.State.{State}
use Rattle.table.specs.declared.Answer.{Answer}
use mathlib.Core.Path.{sym, ap, ap₂, ◌∙◌}
use native.Mathlib.Omega.{arith}
use Rattle.builder.proofs.leaves.leave.Goals as goal

pub returns-then-not-waits : goal.returns-then-not-waits
returns-then-not-waits c =
    let a = c.args in
    let b = a.out.now in
    let t = leave-early a.state b
    (sym c.waits.ensures ∙ c.if-not-waits.true) in (
      step_is c.refused.result c.refuse.result a.state c.refused.ensures.0
          c.refused.ensures.1
          ∙ ap (λ (x : Answer). record { answer = x; state = a.state }) c.refuse.ensures
          ∙ t.0,
      t.1,
    )

pub returns-then-state-eq0 : goal.returns-then-state-eq0
returns-then-state-eq0 c =
    let a = c.args in
    let b = a.out.now in
    let t = leave-nowhere a.state b
    (sym c.waits.ensures ∙ c.if-not-waits.false)
    c.if-state-eq0.true in (
      step_is c.refused-then-state-eq0.result c.refuse-then-state-eq0.result a.state c.refused-then-state-eq0.ensures.0
          c.refused-then-state-eq0.ensures.1
          ∙ ap (λ (x : Answer). record { answer = x; state = a.state }) c.refuse-then-state-eq0.ensures
          ∙ t.0,
      t.1,
    )

pub returns-then-state-out : goal.returns-then-state-out
returns-then-state-out c =
    let a = c.args in
    let b = a.out.now in
    let t = leave-short a.state b
    (sym c.waits.ensures ∙ c.if-not-waits.false) c.if-state-eq0.false
    (omega (arith, c.if-state-out.true)) in (
      step_is c.refused-then-state-out.result c.refuse-then-state-out.result a.state c.refused-then-state-out.ensures.0
          c.refused-then-state-out.ensures.1
          ∙ ap (λ (x : Answer). record { answer = x; state = a.state }) c.refuse-then-state-out.ensures
          ∙ t.0,
      t.1,
    )

pub next-after-requires : goal.next-after-requires
next-after-requires c =
    let a = c.args in
    let b = a.out.now in
    let v = used-bounds a.state a.state.turn
    (sym c.waits.ensures ∙ c.if-not-waits.false) in
    in-limit _ (omega (arith, v))

pub returns : goal.returns
returns c =
    let a = c.args in
    let b = a.out.now in
    let t = leave-done a.state b
    (sym c.waits.ensures ∙ c.if-not-waits.false) c.if-state-eq0.false
    (omega (arith, c.if-state-out.false)) in (
      ap₂ (λ (x : Answer) (y : State). record { answer = x; state = y }) c.done-answer.ensures c.next-after.ensures
          ∙ t.0,
      t.1,
    )
