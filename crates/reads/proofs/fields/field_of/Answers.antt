use Rattle.reads_seats.proofs.ReadLaws.{width_fits}
use Rattle.table.specs.Reads.{refused_field}
use borrow.Author.Tests.{eq-eqb, ne_eqb}
use native.Mathlib.Omega.{arith}
use mathlib.Core.Path.{refl, ap, ◌∙◌}
use Rattle.reads.proofs.fields.field_of.Goals as goal

pub returns-then-len-eq0 : goal.returns-then-len-eq0
returns-then-len-eq0 c =
    let field-width = c.field_width-len in
    rw (← field-width.ensures, eq-eqb field-width.result 0 c.if-len-eq0.true)
    (c.refused_field.ensures ∙ ap refused_field c.refuse.ensures)

pub field_bytes-bytes-requires : goal.field_bytes-bytes-requires
field_bytes-bytes-requires c =
    let a = c.args in
    let w = width_fits a.kind a.off (λ z. c.if-len-eq0.false (c.field_width-len.ensures ∙ z)) in (
      c.requires,
      omega (arith, w.0, c.field_width-len.ensures),
      omega (arith, w.1, c.field_width-len.ensures),
    )

pub returns : goal.returns
returns c =
    let field-width = c.field_width-len in
    rw (
      ← field-width.ensures,
      ne_eqb field-width.result 0 c.if-len-eq0.false,
      c.done-answer.ensures,
      c.field_bytes-bytes.ensures,
    ) refl
