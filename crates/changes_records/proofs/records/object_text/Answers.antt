use mathlib.Core.Path.{◌≡◌, sym, ap, ap₂, ◌∙◌}
use mathlib.Core.List.{List}
use Prim.Native.Nat.{ℕ}
use Rattle.reads_seats.specs.Objects.{object_in}
use Rattle.changes.specs.Changes.{differ_at, objects, text_of}
use native.Mathlib.Omega.{arith}
use lib.ListN.{length}
use Rattle.laws.specs.Fields.{Bytes}
use Rattle.changes_records.proofs.TextLaws.{like-text, object-short, one-outcome, unlike-text}
use Rattle.changes_records.proofs.records.object_text.Goals as goal

pub returns-then-same : goal.returns-then-same
returns-then-same c =
    let one = c.whole_object-one.ensures.0 in
    let other = c.whole_object-other.ensures.0 in
    let e = sym one ∙ c.same.ensures.0 c.if-same.true ∙ other in
    c.new.ensures ∙ sym (like-text _ _ _ e)

pub object_line-requires : goal.object_line-requires
object_line-requires c =
    let a = c.args in
    let bt : Bytes a.t.now = λ i. omega (arith, c.type_inv.t i) in
    let bu : Bytes a.u.now = λ i. omega (arith, c.type_inv.u i) in
    let x = ap length c.whole_object-one.ensures.0 in
    let y = ap length c.whole_object-other.ensures.0 in
    let m = object-short a.t.now bt a.kind a.position a.offset in
    let n = object-short a.u.now bu a.kind a.position a.offset in
    (c.requires.2, c.requires.3, omega (arith, x, m), omega (arith, y, n), omega (arith, x, m, c.differ_at-at.ensures.1))

pub returns : goal.returns
returns c =
    let a = c.args in
    let x : List ℕ = object_in a.t.now a.kind a.position a.offset in
    let y : List ℕ = object_in a.u.now a.kind a.position a.offset in
    let one = c.whole_object-one.ensures.0 in
    let other = c.whole_object-other.ensures.0 in
    let at : c.differ_at-at.result ≡ differ_at x y = c.differ_at-at.ensures.0 ∙ ap₂ differ_at one other in
    c.object_line.ensures
    ∙ ap₂ (λ (l m : ℕ). text_of (objects a.kind a.position a.offset l m c.differ_at-at.result)) (ap length one) (ap length other)
    ∙ ap (λ (d : ℕ). text_of (objects a.kind a.position a.offset (length x) (length y) d)) at
    ∙ sym (unlike-text x y _ (λ e. one-outcome (c.same.ensures.1 (one ∙ e ∙ sym other)) c.if-same.false))
