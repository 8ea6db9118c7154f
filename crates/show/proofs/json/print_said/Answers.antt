use mathlib.Core.Path.{sym, ap, ◌∙◌}
use Rattle.table.specs.declared.Answer.{Answer}
use Rattle.reads_seats.proofs.ObjectLaws.{accepted}
use Rattle.show.proofs.json.print_said.Goals as goal

pub print_table-requires : goal.print_table-requires
print_table-requires c =
    accepted c.args.t.now (sym (ap (λ (x : Answer). x.number) c.check-a.ensures) ∙ c.if-a-ne0.false)
