use Rattle.c_reads.proofs.Laws.{place-fits}
use Rattle.c_answers.specs.Packed.{packed_place}
use native.Mathlib.Omega.{arith}
use mathlib.Core.Path.{ap, ◌∙◌}
use Rattle.c_reads.proofs.object.Goals as goal

pub pack_place-requires : goal.pack_place-requires
pack_place-requires c =
    let a = c.args in
    let f = place-fits a.t.now (λ i. omega (arith, c.type_inv.t i)) a.kind a.position
    a.offset in
    rw c.object_place.ensures (f.0, f.1)

pub returns : goal.returns
returns c = c.pack_place.ensures ∙ ap packed_place c.object_place.ensures
