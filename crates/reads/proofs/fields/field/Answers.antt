use Rattle.reads_seats.proofs.ObjectLaws.{accepted}
use Rattle.table.specs.Reads.{read_field, refused_field}
use Rattle.table.specs.Numbers.{check}
use Rattle.table.specs.declared.Answer.{Answer}
use borrow.Author.Tests.{eq-eqb, ne_eqb}
use mathlib.Core.Path.{sym, ap, ◌∙◌}
use Rattle.reads.proofs.fields.field.Goals as goal

pub returns-then-a-ne0 : goal.returns-then-a-ne0
unfolding read_field
returns-then-a-ne0 c =
    let e = ap (λ (x : Answer). x.number) c.check-a.ensures in
    rw (ne_eqb (check c.args.t.now).number 0 (λ z. c.if-a-ne0.true (e ∙ z)))
    (c.refused_field.ensures ∙ ap refused_field c.check-a.ensures)

pub field_in-requires : goal.field_in-requires
field_in-requires c = accepted c.args.t.now (sym (ap (λ (x : Answer). x.number) c.check-a.ensures) ∙ c.if-a-ne0.false)

pub returns : goal.returns
unfolding read_field
returns c =
    let e = ap (λ (x : Answer). x.number) c.check-a.ensures in
    rw (eq-eqb (check c.args.t.now).number 0
    (sym e ∙ c.if-a-ne0.false)) c.field_in.ensures
