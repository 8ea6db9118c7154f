use Rattle.reads_seats.proofs.ReferenceLaws.{plain-each}
use Rattle.rewriter_sizes.proofs.PartLaws.{plain-part, adding-more, spans-done}
use Rattle.rewriter_sizes.specs.Parts.{Part, objects_of}
use lib.ListN.{length, get_or}
use native.Mathlib.Omega.{arith}
use Prim.Native.Nat.{◌<◌}
use mathlib.Core.Path.{◌≡◌, refl, sym, ap, ◌∙◌}
use Rattle.rewriter_sizes.proofs.references.objects_size.Goals as goal

pub object_len-total-requires : goal.object_len-total-requires
object_len-total-requires c =
    let e = c.object_offsets-offset-items.ensures.0 in
    (c.requires.1.within, rw e (plain-each c.args.kind c.loop-offset.offset-index (rw (sym e) c.loop-offset-test.true)))

pub loop-offset-preserved : goal.loop-offset-preserved
loop-offset-preserved c =
    let a = c.args in
    let k = a.kind in
    let l = c.loop-offset in
    let q = c.object_len-total in
    let e = c.object_offsets-offset-items.ensures.0 in
    let h : l.offset-index < length (objects_of k) = rw (sym e) c.loop-offset-test.true in
    let p = get_or (objects_of k) l.offset-index 0 in
    let g = plain-part a.t.now c.requires.0 k a.at c.requires.1 p (plain-each k l.offset-index h) in (
      adding-more a.t.now k a.at (objects_of k) l.total l.offset-index q.result p l.invariant.0 h refl
          (rw e at q.ensures.0 ∙ sym (ap (λ (x : Part). x.span) g)),
      omega (arith, l.invariant.1, q.ensures.1),
    )

pub returns : goal.returns
returns c =
    let a = c.args in
    let l = c.loop-offset in
    let o = c.object_offsets-offset-items.ensures in
    let e : l.offset-index ≡ length (objects_of a.kind) = omega (arith, ap length o.0) in
    let z = spans-done a.t.now a.kind a.at (objects_of a.kind) in
    (omega (arith, rw e at l.invariant.0, z), omega (arith, l.invariant.1, o.1))
