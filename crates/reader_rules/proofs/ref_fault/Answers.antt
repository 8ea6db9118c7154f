use mathlib.Core.Path.{refl, ◌∙◌}
use mathlib.Core.Bool.{true, false}
use Prim.Native.Nat.{◌+◌}
use Rattle.table.specs.Layout.{reference_at}
use Rattle.reader_references.proofs.Laws.{as-text, as_bytes}
use Rattle.table.specs.FixedLayouts.{layout_of, hfi, ssns, security}
use Rattle.reader_rules.proofs.HeapLaws.{security-plain, host-texts, discovery-texts, plain-left}
use Rattle.table.proofs.Rules.{picks}
use Rattle.reader_rules.proofs.ref_fault.Goals as goal

pub hfi_ref-requires : goal.hfi_ref-requires
unfolding layout_of hfi
hfi_ref-requires c =
    (rw c.in-3.is at c.requires.1, c.requires.3)

pub ssns_ref-requires : goal.ssns_ref-requires
unfolding layout_of ssns
ssns_ref-requires c =
    (rw c.in-4.is at c.requires.1, c.requires.2, c.requires.3)

pub security_need-requires : goal.security_need-requires
unfolding layout_of security
security_need-requires c = rw c.in-5.is at c.requires.1

pub returns-in-3 : goal.returns-in-3
returns-in-3 c = rw c.in-3.is c.hfi_ref.ensures

pub returns-in-4 : goal.returns-in-4
returns-in-4 c = rw c.in-4.is c.ssns_ref.ensures

pub returns-in-5 : goal.returns-in-5
returns-in-5 c =
    let a = c.args in
    rw c.in-5.is
    (as_bytes _ _ false false a.heap.bytes.now a.heap.from (reference_at a.t.now (a.a + a.off)) c.plain_fault.result c.security_need.ensures refl refl
    c.plain_fault.ensures
    ∙ security-plain a.t.now a.heap.bytes.now a.heap.from a.a a.position c.requires.3 a.off)

pub returns-in-2 : goal.returns-in-2
returns-in-2 c =
    let a = c.args in
    rw c.in-2.is
    (as-text _ _ true true a.heap.bytes.now a.heap.from (reference_at a.t.now (a.a + a.off)) c.text_fault.result c.plain_need.ensures refl refl
    c.text_fault.ensures
    ∙ host-texts a.t.now a.heap.bytes.now a.heap.from a.a a.position c.requires.3 a.off)

pub returns-in-6 : goal.returns-in-6
returns-in-6 c =
    let a = c.args in
    rw c.in-6.is
    (as-text _ _ true true a.heap.bytes.now a.heap.from (reference_at a.t.now (a.a + a.off)) c.text_fault-in-6.result c.plain_need-in-6.ensures refl refl
    c.text_fault-in-6.ensures
    ∙ discovery-texts a.t.now a.heap.bytes.now a.heap.from a.a a.position c.requires.3 a.off)

pub returns-in_default : goal.returns-in_default
returns-in_default c =
    let a = c.args in
    as_bytes _ _ false false a.heap.bytes.now a.heap.from (reference_at a.t.now (a.a + a.off)) c.plain_fault-in_default.result c.plain_need-in_default.ensures refl refl
    c.plain_fault-in_default.ensures
    ∙ plain-left a.t.now a.heap.bytes.now a.heap.from a.a a.position c.requires.3 a.off a.kind c.requires.0
    (search picks) (search picks) (search picks) (search picks) (search picks)
