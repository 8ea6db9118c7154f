use Rattle.rewriter_sizes.specs.Parts.{record_part}
use Rattle.laws.specs.ListWalk.{base-small}
use Rattle.rewriter_sizes.proofs.PartLaws.{sized-flat}
use native.Mathlib.Omega.{arith}
use mathlib.Core.Path.{refl}
use lib.Dec.{lit≤}
use Rattle.rewriter_sizes.proofs.references.flat_span.Goals as goal

pub objects_size-len-requires : goal.objects_size-len-requires
objects_size-len-requires c = let s = c.requires in (s.0, rw c.in-Some.is at s.1)

pub overflow_add-result : goal.overflow_add-result
overflow_add-result c = omega (arith, c.base_size-size.ensures, base-small c.args.kind, c.objects_size-len.ensures.1)

pub returns-in-None : goal.returns-in-None
unfolding record_part
returns-in-None c = rw c.in-None.is (refl, lit≤ tt)

pub returns-in-Some : goal.returns-in-Some
unfolding record_part
returns-in-Some c =
    let a = c.args in
    let k = a.kind in
    let b = c.base_size-size.ensures in
    let o = c.objects_size-len.ensures in
    let z = sized-flat a.t.now c.requires.0 k c.in-Some.held.at (rw c.in-Some.is at c.requires.1) c.requires.2 in
    rw c.in-Some.is (omega (arith, b, o.0, z), omega (arith, b, base-small k, o.1))
