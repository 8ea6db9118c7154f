use Rattle.bytes_writer.proofs.RecordLaws.{splice_all}
use Rattle.reads_seats.proofs.MeaningLaws.{image-front}
use Rattle.reads_seats.proofs.SeatLaws.{standing}
use Rattle.reads_seats.proofs.OwnLaws.{own-long}
use Rattle.layout_images.proofs.Laws.{image-own}
use Rattle.laws.specs.Fields.{image_in, length-image_in}
use Rattle.table.specs.FixedLayouts.{layout_of}
use Rattle.std.proofs.Common.{ℕ, true, List, length, sym, ap, ◌∙◌, arith}
use Rattle.reads_by_seat.proofs.image.image_into.Goals as goal

pub record_at-requires : goal.record_at-requires
record_at-requires c = (c.requires.0, standing c.args.t.now (layout_of c.args.kind) c.args.at true c.requires.1)

pub put_image-requires : goal.put_image-requires
put_image-requires c = let a = c.args in
    (omega (arith, ap length c.record_at.ensures, own-long a.kind a.t.now a.at c.requires.1.within), omega (arith, c.requires.2))

pub returns : goal.returns
unfolding image_in
returns c =
    let a = c.args in
    let l = layout_of a.kind in
    let x = c.record_at.result.now in
    c.put_image.ensures
    ∙ splice_all a.part.now (image_in l x 0) (length-image_in l x 0 ∙ sym c.requires.2)
    ∙ ap (λ (y : List ℕ). image_in l y 0) c.record_at.ensures
    ∙ image-own a.kind a.t.now a.at
    ∙ sym (image-front l a.t.now a.at)
