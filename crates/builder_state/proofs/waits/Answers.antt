use mathlib.Core.Path.{refl}
use borrow.Author.Tests.{ne_eqb}
use Rattle.table.specs.Builder.{waits}
use Rattle.builder_state.proofs.Laws.{not-in-place, too-low, too-high, waits-for}
use native.Mathlib.Omega.{arith}
use Rattle.builder_state.proofs.waits.Goals as goal

pub returns-then-state-kind : goal.returns-then-state-kind
unfolding waits
returns-then-state-kind c =
    rw (ne_eqb c.args.state.turn c.args.kind c.if-state-kind.true) refl

pub returns-then-not-in_place : goal.returns-then-not-in_place
returns-then-not-in_place c =
    not-in-place c.args.state c.args.kind c.in_place.result c.if-state-kind.false
    c.in_place.ensures c.if-not-in_place.true

pub returns-then-state-records_end : goal.returns-then-state-records_end
returns-then-state-records_end c =
    too-low c.args.state c.args.kind c.records_end.result c.in_place.result
    c.if-state-kind.false c.in_place.ensures c.if-not-in_place.false
    c.records_end.ensures.0 c.if-state-records_end.true

pub returns-then-state-gt-LIMIT : goal.returns-then-state-gt-LIMIT
returns-then-state-gt-LIMIT c =
    too-high c.args.state c.args.kind c.records_end.result c.in_place.result
    c.if-state-kind.false c.in_place.ensures c.if-not-in_place.false
    c.records_end.ensures.0 (omega (arith, c.if-state-records_end.false)) c.if-state-gt-LIMIT.true

pub returns : goal.returns
returns c =
    waits-for c.args.state c.args.kind c.records_end.result c.in_place.result
    c.if-state-kind.false c.in_place.ensures c.if-not-in_place.false
    c.records_end.ensures.0 (omega (arith, c.if-state-records_end.false)) (omega (arith, c.if-state-gt-LIMIT.false))
