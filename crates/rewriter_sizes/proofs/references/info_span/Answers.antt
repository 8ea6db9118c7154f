use mathlib.Core.Path.{refl}
use native.Mathlib.Omega.{arith}
use lib.Dec.{lit≤}
use Rattle.table.specs.FixedLayouts.{layout_of, info}
use Rattle.rewriter_sizes.specs.Parts.{record_part}
use Rattle.rewriter_sizes.proofs.PartLaws.{sized-split}
use Rattle.rewriter_sizes.proofs.references.info_span.Goals as goal

pub objects_size-objects-requires : goal.objects_size-objects-requires
objects_size-objects-requires c = let s = c.requires in (s.0, rw c.in-Some.is at s.1)

pub identity_span-identity-requires : goal.identity_span-identity-requires
identity_span-identity-requires c = let s = c.requires in (s.0, rw c.in-Some.is at s.1)

pub returns-in-None : goal.returns-in-None
unfolding record_part
returns-in-None c = rw c.in-None.is (refl, lit≤ tt)

pub returns-in-Some : goal.returns-in-Some
unfolding record_part layout_of info
returns-in-Some c =
    let a = c.args in
    let o = c.objects_size-objects.ensures in
    let h = c.identity_span-identity.ensures in
    let z = sized-split a.t.now c.requires.0 7 c.in-Some.held.at (rw c.in-Some.is at c.requires.1) in
    rw c.in-Some.is (omega (arith, o.0, h.0, z), omega (arith, o.1, h.1))
