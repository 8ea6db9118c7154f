use mathlib.Core.Path.{ap, ◌∙◌}
use Prim.Native.Nat.{ℕ, ◌+◌}
use Rattle.table.specs.Layout.{reference_at}
use Rattle.layout_needs.specs.Needs.{ssns_need}
use Rattle.reader_references.proofs.Laws.{as-text, as_bytes}
use borrow.Author.Tests.{ne_eqb}
use Rattle.reader_rules.proofs.HeapLaws.{secondary-is, ssns-plain}
use Rattle.reader_rules.proofs.ssns_ref.Goals as goal

pub returns-then-off-eq60 : goal.returns-then-off-eq60
returns-then-off-eq60 c = rw c.if-off-eq60.true c.extended_ref.ensures

pub returns-then-off-eq48 : goal.returns-then-off-eq48
returns-then-off-eq48 c =
    let a = c.args in
    rw c.if-off-eq48.true (c.secondary_ref.ensures ∙ secondary-is a.t.now a.heap.bytes.now a.heap.from a.a a.position c.requires.2)

pub returns-then-holds_text : goal.returns-then-holds_text
returns-then-holds_text c =
    let a = c.args in
    let need = c.ssns_need-need.ensures ∙ ap (λ (f : ℕ). ssns_need f a.off) c.ssns_flags.ensures in
    as-text _ _ _ _ a.heap.bytes.now a.heap.from (reference_at a.t.now (a.a + a.off)) c.text_fault.result need c.holds_text.ensures
    c.if-holds_text.true c.text_fault.ensures
    ∙ ssns-plain a.t.now a.heap.bytes.now a.heap.from a.a a.position c.requires.2 a.off (ne_eqb _ 60 c.if-off-eq60.false) (ne_eqb _ 48 c.if-off-eq48.false)

pub returns : goal.returns
returns c =
    let a = c.args in
    let need = c.ssns_need-need.ensures ∙ ap (λ (f : ℕ). ssns_need f a.off) c.ssns_flags.ensures in
    as_bytes _ _ _ _ a.heap.bytes.now a.heap.from (reference_at a.t.now (a.a + a.off)) c.plain_fault.result need c.holds_text.ensures
    c.if-holds_text.false c.plain_fault.ensures
    ∙ ssns-plain a.t.now a.heap.bytes.now a.heap.from a.a a.position c.requires.2 a.off (ne_eqb _ 60 c.if-off-eq60.false) (ne_eqb _ 48 c.if-off-eq48.false)
