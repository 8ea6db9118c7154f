use Rattle.table.specs.Reads.{no_place}
use mathlib.Core.Path.{sym, ap, ◌∙◌}
use Rattle.reads.proofs.objects.whole_of.Goals as goal

pub object_of-requires : goal.object_of-requires
object_of-requires c = (c.requires, sym c.has_object.ensures ∙ c.if-has_object.true)

pub returns : goal.returns
returns c = rw (← c.has_object.ensures, c.if-has_object.false) (c.no_place.ensures ∙ ap no_place c.refuse.ensures)
