use Rattle.c_reads.proofs.Laws.{field_fits}
use Rattle.c_answers.specs.Packed.{packed_field, value_after}
use native.Mathlib.Omega.{arith}
use mathlib.Core.Path.{ap, ◌∙◌}
use Rattle.c_reads.proofs.field.Goals as goal

pub pack_field-requires : goal.pack_field-requires
pack_field-requires c =
    let a = c.args in
    rw c.field-f.ensures (field_fits a.t.now (λ i. omega (arith, c.type_inv.t i))
    a.kind a.position a.offset)

pub returns : goal.returns
unfolding value_after
returns c =
    let field = c.field-f in
    (c.pack_field.ensures ∙ ap packed_field field.ensures, rw (← field.ensures) c.store.ensures)
