use Rattle.c_reads.specs.PackedReads.{packed_span}
use Rattle.c_reads.proofs.Laws.{place-fits, place-told}
use native.Mathlib.Omega.{arith}
use mathlib.Core.Path.{ap, ◌∙◌}
use Rattle.c_reads.proofs.object_place.Goals as goal

pub pack_pair-requires : goal.pack_pair-requires
pack_pair-requires c = let a = c.args in
    let f = place-fits a.t.now (λ i. omega (arith, c.type_inv.t i)) a.kind a.position a.offset in
    let g = place-told a.t.now a.kind a.position a.offset in
    rw c.object_place-place.ensures (f.0, omega (arith, f.1, g.0), omega (arith, f.1, g.0))

pub returns : goal.returns
unfolding packed_span
returns c = c.pack_pair.ensures ∙ ap packed_span c.object_place-place.ensures
