use Rattle.table.specs.Meaning.{limit}
use mathlib.Core.Path.{ap, ap₂, sym, ◌∙◌}
use mathlib.Core.Bool.{Bool}
use borrow.Author.Tests.{ne_eqb}
use Prim.Native.Nat.{ℕ, ◌+◌}
use lib.Dec.{eqb}
use Rattle.table.specs.Bytes.{pick}
use Rattle.table.specs.Builder.{moved, turn}
use Rattle.builder_state.proofs.Laws.{next-inside, next-later}
use native.Mathlib.Omega.{arith}
use borrow.Author.Rules.{rules}
use Rattle.builder_state.proofs.next.Goals as goal

pub overflow_add-used : goal.overflow_add-used
unfolding limit
overflow_add-used c = search rules

pub returns-then-state-count_of : goal.returns-then-state-count_of
returns-then-state-count_of c =
    let a = c.args in
    c.moved_to.ensures
    ∙ ap (moved a.state (turn a.state.turn (a.state.position + 1)) (a.state.used + a.written)) c.minor_behind-minor.ensures
    ∙ next-inside a.state a.written c.count_of.result a.newer c.count_of.ensures.0
    c.if-state-count_of.true

pub returns-then-kind-eq-FINISHING : goal.returns-then-kind-eq-FINISHING
returns-then-kind-eq-FINISHING c =
    let a = c.args in
    c.moved_to-then-kind-eq-FINISHING.ensures
    ∙ ap₂ (λ x (v : ℕ). moved a.state x (a.state.used + a.written) v)
    (sym (ap (λ (k : ℕ). turn k (pick (eqb k 7) 0 1)) c.if-kind-eq-FINISHING.true) ∙ c.later_list-kind.ensures)
    c.minor_behind-minor.ensures
    ∙ next-later a.state a.written c.count_of.result a.newer c.count_of.ensures.0
    (omega (arith, c.if-state-count_of.false))

pub returns : goal.returns
returns c =
    let a = c.args in
    c.moved_to-2.ensures
    ∙ ap₂ (λ x (v : ℕ). moved a.state x (a.state.used + a.written) v)
    (ap (λ (b : Bool). turn c.later_list-kind.result (pick b 0 1))
    (sym (ne_eqb c.later_list-kind.result 7 c.if-kind-eq-FINISHING.false))
    ∙ c.later_list-kind.ensures)
    c.minor_behind-minor.ensures
    ∙ next-later a.state a.written c.count_of.result a.newer c.count_of.ensures.0
    (omega (arith, c.if-state-count_of.false))
