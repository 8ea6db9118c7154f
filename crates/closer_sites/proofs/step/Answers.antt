use mathlib.Core.Path.{sym, ap, ap₂, ◌∙◌}
use mathlib.Core.List.{List}
use Prim.Native.Nat.{ℕ}
use lib.Dec.{lit<}
use lib.ListN.{get_or}
use Rattle.closer_sites.specs.Walk.{onward_of, step}
use Rattle.closer_sites.proofs.Laws.{step-record, step-reference}
use Rattle.closer_sites.proofs.step.Goals as goal

pub named_at-named-requires : goal.named_at-named-requires
named_at-named-requires c =
    let r = c.reference_offsets-refs in
    let h = rw r.ensures.0 at c.if-next-refs.true in
    (c.requires.1.within h, h, ap (λ (ps : List ℕ). get_or ps c.args.w.next 0) r.ensures.0)

pub returns-then-next-refs : goal.returns-then-next-refs
returns-then-next-refs c =
    let r = c.reference_offsets-refs in
    let t = c.args.t.now in
    let w = c.args.w in
    let n = c.named_at-named.ensures in
    (ap₂ step n.0 (c.onward.ensures ∙ ap (onward_of w) n.0) ∙ sym (step-reference t w (rw r.ensures.0 at c.if-next-refs.true)), n.1, n.2)

pub returns : goal.returns
returns c =
    let r = c.reference_offsets-refs in
    let t = c.args.t.now in
    let w = c.args.w in
    let n = c.none_named.ensures in
    (ap₂ step n c.to_record.ensures ∙ sym (step-record t w (rw r.ensures.0 at c.if-next-refs.false)), rw n (lit< tt), rw n (lit< tt))
