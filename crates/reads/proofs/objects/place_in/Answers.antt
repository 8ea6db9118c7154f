use mathlib.Core.Path.{sym, ap, ◌∙◌}
use Rattle.reads_seats.specs.Objects.{handed_place}
use Rattle.reads.proofs.HandedLaws.{handed-told}
use Rattle.reads.proofs.objects.place_in.Goals as goal

pub returns : goal.returns
returns c =
    let a = c.args in
    c.handed.ensures ∙ ap (handed_place a.kind a.off) c.whole_in.ensures
    ∙ sym (handed-told a.t.now c.requires a.kind a.position a.off)
