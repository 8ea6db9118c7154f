use Rattle.table.specs.Reads.{no_place}
use mathlib.Core.Path.{ap, ◌∙◌}
use Rattle.reads_seats.proofs.objects.named_place.Goals as goal

pub returns-in-Ignored : goal.returns-in-Ignored
returns-in-Ignored c = rw c.in-Ignored.is (c.no_place.ensures ∙ ap no_place c.done.ensures)
