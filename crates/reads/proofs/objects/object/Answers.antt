use Rattle.reads_seats.proofs.ObjectLaws.{accepted}
use Rattle.reads_seats.specs.Objects.{handed_in}
use Rattle.table.specs.Reads.{read_object, read_place}
use Rattle.table.specs.Numbers.{check}
use Rattle.table.specs.declared.Answer.{Answer}
use borrow.Author.Tests.{eq-eqb, ne_eqb}
use mathlib.Core.Path.{sym, ap, ◌∙◌}
use Rattle.reads.proofs.objects.object.Goals as goal

pub returns-then-a-ne0 : goal.returns-then-a-ne0
unfolding read_object read_place
returns-then-a-ne0 c = let t = c.args.t.now in let e = ap (λ (x : Answer). x.number) c.check-a.ensures in
    let n = ne_eqb (check t).number 0 (λ z. c.if-a-ne0.true (e ∙ z)) in
    (rw n c.part_of.ensures.0, c.part_of.ensures.1, rw n c.part_of.ensures.2)

pub object_in-requires : goal.object_in-requires
object_in-requires c = accepted c.args.t.now (sym (ap (λ (x : Answer). x.number) c.check-a.ensures) ∙ c.if-a-ne0.false)

pub returns : goal.returns
unfolding read_object read_place handed_in
returns c = let t = c.args.t.now in let e = ap (λ (x : Answer). x.number) c.check-a.ensures in
    let n = eq-eqb (check t).number 0 (sym e ∙ c.if-a-ne0.false) in
    (rw n c.object_in.ensures.0, c.object_in.ensures.1, rw n c.object_in.ensures.2)
