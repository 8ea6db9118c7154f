use mathlib.Core.Path.{◌≡◌, ap, ◌∙◌}
use native.Mathlib.Omega.{arith}
use lib.ListN.{length}
use lib.Dec.{lit≤}
use Rattle.table.specs.declared.Region.{Region}
use Rattle.table.specs.Bytes.{num}
use Rattle.table.specs.Layout.{region}
use Rattle.table.specs.FixedLayouts.{layout_of, host}
use Rattle.reader.proofs.Laws.{host-off, host-on, looks-off, looks_on}
use Rattle.table.proofs.Rules.{picks}
use Rattle.reader.proofs.host_fault.Goals as goal

pub overflow_add-a : goal.overflow_add-a
unfolding layout_of host
overflow_add-a c =
    let a = c.args in
    let g : c.flags_at-flag.result ≡ 1 = c.flags_at-flag.ensures in
    let e : c.reference_at-r.result.at ≡ num a.t.now 72 4 = ap (λ (x : Region). x.at) c.reference_at-r.ensures.0 in
    omega (arith, g, e, c.requires.0.owner, c.requires.0.lent, c.reference_at-r.ensures.1)

pub bounds-t-a : goal.bounds-t-a
unfolding layout_of host
bounds-t-a c =
    let a = c.args in
    let g : c.flags_at-flag.result ≡ 1 = c.flags_at-flag.ensures in
    let e : c.reference_at-r.result.at ≡ num a.t.now 72 4 = ap (λ (x : Region). x.at) c.reference_at-r.ensures.0 in
    omega (arith, g, e, c.requires.0.owner)

pub returns-then-t-a-ne1 : goal.returns-then-t-a-ne1
unfolding layout_of host
returns-then-t-a-ne1 c =
    let a = c.args in
    let g : c.flags_at-flag.result ≡ 1 = c.flags_at-flag.ensures in
    let e : c.reference_at-r.result.at ≡ num a.t.now 72 4 = ap (λ (x : Region). x.at) c.reference_at-r.ensures.0 in
    let heap = region a.heap.from (length a.heap.bytes.now) in
    let at = c.reference_at-r.result.at in (
      c.refuse.ensures ∙ host-off heap a.t.now at e (rw g at c.if-t-a-ne1.true),
      looks-off heap a.t.now at e (rw g at c.if-t-a-ne1.true),
      search picks,
    )

pub used_fault-used-requires : goal.used_fault-used-requires
unfolding layout_of host
used_fault-used-requires c =
    let a = c.args in
    let g : c.flags_at-flag.result ≡ 1 = c.flags_at-flag.ensures in
    let e : c.reference_at-r.result.at ≡ num a.t.now 72 4 = ap (λ (x : Region). x.at) c.reference_at-r.ensures.0 in
    (c.requires.0, lit≤ tt, lit≤ tt, rw e c.requires.0.owner, c.requires.1)

pub returns : goal.returns
unfolding layout_of host
returns c =
    let a = c.args in
    let g : c.flags_at-flag.result ≡ 1 = c.flags_at-flag.ensures in
    let e : c.reference_at-r.result.at ≡ num a.t.now 72 4 = ap (λ (x : Region). x.at) c.reference_at-r.ensures.0 in
    let heap = region a.heap.from (length a.heap.bytes.now) in
    let at = c.reference_at-r.result.at in
    let used = c.used_fault-used in (
      c.answer_of.ensures ∙ host-on heap a.t.now at used.result.number e (rw g at c.if-t-a-ne1.false) used.ensures.0,
      looks_on heap a.t.now at used.result.looks e (rw g at c.if-t-a-ne1.false) used.ensures.1,
      used.ensures.2,
    )
