use mathlib.Core.Path.{refl, sym, ap}
use Prim.Native.Nat.{◌<◌}
use lib.ListN.{length}
use native.Mathlib.Omega.{arith}
use Rattle.rewriter_objects.proofs.LaidLaws.{objects-within, walk-room, walk_turn, walk-done}
use Rattle.reads_seats.proofs.ReferenceLaws.{plain-each}
use Rattle.rewriter_sizes.specs.Parts.{objects_of}
use Rattle.table.proofs.Rules.{picks}
use Rattle.rewriter_objects.proofs.lay_objects.Goals as goal

pub loop-offset-init : goal.loop-offset-init
loop-offset-init c = (refl, search picks, refl, refl)

pub lay_object-cursor-requires : goal.lay_object-cursor-requires
lay_object-cursor-requires c =
    let a = c.args in
    let k = a.kind in
    let l = c.loop-offset in
    let e = c.object_offsets-offset-items.ensures.0 in
    let h : l.offset-index < length (objects_of k) = rw (sym e) c.loop-offset-test.true in rw e record {
      accepted = (c.requires.accepted.0, c.requires.accepted.1, plain-each k l.offset-index h);
      offset_bound = walk-room a.t.now c.requires.accepted.0 k a.source c.requires.accepted.1 (objects_of k)
          (objects-within a.t.now c.requires.accepted.0 k a.source c.requires.accepted.1) a.out.now a.place a.next
          c.requires.kind_bound.0 c.requires.kind_bound.1 l.out l.cursor l.offset-index l.invariant _ h refl;
    }

pub loop-offset-preserved : goal.loop-offset-preserved
loop-offset-preserved c =
    let a = c.args in
    let k = a.kind in
    let l = c.loop-offset in
    let e = c.object_offsets-offset-items.ensures.0 in
    let h : l.offset-index < length (objects_of k) = rw (sym e) c.loop-offset-test.true in
    let q = c.lay_object-cursor in
    walk_turn a.t.now c.requires.accepted.0 k a.source c.requires.accepted.1 (objects_of k)
    (objects-within a.t.now c.requires.accepted.0 k a.source c.requires.accepted.1) a.out.now a.place a.next
    c.requires.kind_bound.0 c.requires.kind_bound.1 l.out l.cursor l.offset-index l.invariant _ h
    (rw e refl) q.new.out q.result q.ensures.0 q.auto.out q.ensures.1

pub returns : goal.returns
returns c =
    let a = c.args in
    let k = a.kind in
    let l = c.loop-offset in
    walk-done a.t.now c.requires.accepted.0 k a.source c.requires.accepted.1 (objects_of k)
    (objects-within a.t.now c.requires.accepted.0 k a.source c.requires.accepted.1) a.out.now a.place a.next
    c.requires.kind_bound.0 c.requires.kind_bound.1 l.out l.cursor l.offset-index l.invariant
    (omega (arith, ap length c.object_offsets-offset-items.ensures.0))
