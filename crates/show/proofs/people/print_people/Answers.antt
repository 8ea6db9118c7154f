use mathlib.Core.Path.{sym, ap, ◌∙◌}
use Rattle.table.specs.declared.Answer.{Answer}
use Rattle.reads_seats.proofs.ObjectLaws.{accepted}
use Rattle.show.proofs.people.print_people.Goals as goal

pub print_good-requires : goal.print_good-requires
print_good-requires c =
    accepted c.args.t.now (sym (ap (λ (x : Answer). x.number) c.check-a.ensures) ∙ c.if-a-ne0.false)
