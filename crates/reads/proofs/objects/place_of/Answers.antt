use mathlib.Core.Path.{sym, ap, ◌∙◌}
use Rattle.reads_seats.specs.Objects.{handed_place}
use Rattle.reads.proofs.HandedLaws.{handed-own}
use Rattle.reads.proofs.objects.place_of.Goals as goal

pub returns : goal.returns
returns c =
    let a = c.args in
    c.handed.ensures ∙ ap (handed_place a.kind a.off) c.whole_of.ensures ∙ sym (handed-own a.x.now a.kind a.off a.used)
