use mathlib.Core.Path.{◌≡◌, ap, ◌∙◌}
use mathlib.Core.Bool.{true}
use Prim.Native.Nat.{◌+◌, ◌≤◌, ◌<◌}
use native.Mathlib.Omega.{arith}
use lib.ListN.{length}
use Rattle.table.specs.declared.Region.{Region}
use Rattle.table.specs.FixedLayouts.{layout_of}
use Rattle.table.specs.Reads.{has_plain}
use Rattle.laws.specs.ListWalk.{refs-within}
use Rattle.layout_kinds.specs.References.{object_refs}
use Rattle.closer_sites.proofs.Laws.{named-held, named-object, nest_last, object-len, plain_at}
use Rattle.closer_sites.proofs.named_at.Goals.{Start}
use Rattle.closer_sites.proofs.named_at.Goals as goal

-- the reference lies in the table
fits : (c : Start) → c.args.at + c.args.offset + 6 ≤ length c.args.t.now
fits c = omega (arith, c.requires.0, c.requires.2, refs-within c.args.kind c.args.next c.requires.1)

pub overflow_add-at : goal.overflow_add-at
overflow_add-at c = omega (arith, fits (goal.at.overflow_add-at c).Start)

pub reference_at-off-requires : goal.reference_at-off-requires
reference_at-off-requires c = omega (arith, fits (goal.at.reference_at-off-requires c).Start)

pub overflow_add-result : goal.overflow_add-result
overflow_add-result c = omega (arith, fits (goal.at.overflow_add-result c).Start)

pub object_len-requires : goal.object_len-requires
object_len-requires c =
    (c.requires.0, rw c.requires.2 (plain_at c.args.kind c.args.next (omega (arith, c.if-next-object_count.true, c.object_count.ensures.0))))

pub returns-then-next-object_count : goal.returns-then-next-object_count
returns-then-next-object_count c =
    let a = c.args in
    let h : a.next < length (object_refs (layout_of a.kind).refs) = omega (arith, c.if-next-object_count.true, c.object_count.ensures.0) in
    let p : has_plain a.offset (layout_of a.kind).refs ≡ true = rw c.requires.2 (plain_at a.kind a.next h) in
    let off = c.reference_at-off.ensures in
    let len = c.object_len.ensures in
    let l = len.0 ∙ object-len a.t.now a.kind a.at a.offset p in
    (named-object a.t.now a.kind a.at a.next a.offset _ _ c.requires.2 (ap (λ (r : Region). r.at) off.0) l h, off.1, omega (arith, len.1))

pub overflow_add-result-2 : goal.overflow_add-result-2
overflow_add-result-2 c = omega (arith, fits (goal.at.overflow_add-result-2 c).Start)

pub held_len-requires : goal.held_len-requires
held_len-requires c =
    let a = c.args in
    let l : length (object_refs (layout_of a.kind).refs) ≤ a.next = omega (arith, c.if-next-object_count.false, c.object_count.ensures.0) in
    (c.requires.0, c.requires.2 ∙ nest_last a.next a.kind l c.requires.1, omega (arith, c.requires.2, refs-within a.kind a.next c.requires.1))

pub returns : goal.returns
returns c =
    let a = c.args in
    let off = c.reference_at-off.ensures in
    let len = c.held_len.ensures in
    let h : length (object_refs (layout_of a.kind).refs) ≤ a.next = omega (arith, c.if-next-object_count.false, c.object_count.ensures.0) in
    let q = named-held a.t.now a.kind a.at a.next a.offset _ _ c.requires.2 (ap (λ (r : Region). r.at) off.0) len.0 h in
    (rw c.held_kind.ensures q, off.1, len.1)
