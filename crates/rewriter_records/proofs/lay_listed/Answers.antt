use native.Mathlib.Omega.{arith}
use Rattle.rewriter_sizes.proofs.PartLaws.{sized-split}
use Rattle.rewriter_objects.proofs.LaidLaws.{used-laid}
use Rattle.rewriter_records.proofs.lay_listed.Goals as goal

pub lay_listed_objects-behind_objects-requires : goal.lay_listed_objects-behind_objects-requires
lay_listed_objects-behind_objects-requires c =
    let a = c.args in
    let z = sized-split a.t.now c.requires.accepted.0 a.kind a.source c.requires.accepted.1 in
    record { accepted = c.requires.accepted; kind_bound = (c.requires.kind_bound.0, omega (arith, c.requires.kind_bound, z, c.put_record.auto.out)) }

pub lay_listed_held-requires : goal.lay_listed_held-requires
lay_listed_held-requires c =
    let o = c.lay_listed_objects-behind_objects in
    let a = c.args in
    let z = sized-split a.t.now c.requires.accepted.0 a.kind a.source c.requires.accepted.1 in
    record { accepted = c.requires.accepted; kind_bound = (omega (arith, c.requires.kind_bound, o.ensures.0), omega (arith, c.requires.kind_bound, z, o.ensures.0, o.auto.out, c.put_record.auto.out)) }

pub returns : goal.returns
returns c =
    let a = c.args in
    let t = a.t.now in
    let k = a.kind in
    let ok = c.requires.accepted.0 in
    let d = c.requires.accepted.1 in
    let o = c.lay_listed_objects-behind_objects in
    let h = c.lay_listed_held in (
      omega (arith, h.ensures.0, o.ensures.0, sized-split t ok k a.source d),
      used-laid t ok k a.source d a.out.now c.put_record.new.out o.new.out h.new.out a.place
          a.next o.result c.requires.kind_bound.0 c.requires.kind_bound.1 c.put_record.ensures o.ensures.0 o.ensures.1
          h.ensures.1,
    )
