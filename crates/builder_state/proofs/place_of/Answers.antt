use Rattle.builder_state.proofs.Laws.{list-kind, host-place, hfi-place, ssns-place, security-place, discovery-place, in-its-list}
use mathlib.Core.Path.{◌≡◌, ap, ◌∙◌}
use Prim.Native.Nat.{ℕ, ◌+◌, ◌-◌, ◌*◌}
use Rattle.table.specs.FixedLayouts.{layout_of}
use native.Mathlib.Omega.{arith}
use Rattle.builder_state.proofs.place_of.Goals as goal

pub returns-then-kind-eq-ID : goal.returns-then-kind-eq-ID
unfolding layout_of
returns-then-kind-eq-ID c = rw c.if-kind-eq-ID.true (host-place c.args.state)

pub overflow_sub-i : goal.overflow_sub-i
overflow_sub-i c =
    (in-its-list c.args.state c.args.kind
    (list-kind c.args.kind c.requires.1 c.if-kind-eq-ID.false) c.requires.2).0

pub returns-in-3 : goal.returns-in-3
unfolding layout_of
returns-in-3 c =
    let k = c.in-3.is in
    let p = hfi-place c.args.state (rw k at c.requires.2) in
    let q = rw k at c.list_start-start.ensures.0 in
    rw k (ap (λ (n : ℕ). n + (c.args.state.position - 1) * 32) q ∙ p.0, omega (arith, p.1, q))

pub returns-in-4 : goal.returns-in-4
unfolding layout_of
returns-in-4 c =
    let k = c.in-4.is in
    let p = ssns-place c.args.state (rw k at c.requires.2) in
    let q = rw k at c.list_start-start.ensures.0 in
    rw k (ap (λ (n : ℕ). n + (c.args.state.position - 1) * 128) q ∙ p.0, omega (arith, p.1, q))

pub returns-in-5 : goal.returns-in-5
unfolding layout_of
returns-in-5 c =
    let k = c.in-5.is in
    let p = security-place c.args.state (rw k at c.requires.2) in
    let q = rw k at c.list_start-start.ensures.0 in
    rw k (ap (λ (n : ℕ). n + (c.args.state.position - 1) * 64) q ∙ p.0, omega (arith, p.1, q))

pub returns-in_default : goal.returns-in_default
unfolding layout_of
returns-in_default c =
    let k : c.args.kind ≡ 6 = omega (arith, c.in_default.in_default-own.rest, c.requires, c.if-kind-eq-ID.false) in
    let p = discovery-place c.args.state (rw k at c.requires.2) in
    let q = rw k at c.list_start-start.ensures.0 in
    rw k (ap (λ (n : ℕ). n + (c.args.state.position - 1) * 32) q ∙ p.0, omega (arith, p.1, q))
