use Rattle.std.proofs.Common.{length, sym, ap, ◌∙◌, arith}
use Rattle.layout_images.proofs.Laws.{part-long}
use Rattle.reader.proofs.AcceptedLaws.{laid}
use Rattle.reads_seats.proofs.MeaningLaws.{oem-told}
use Rattle.reads_seats.specs.Told.{oem_of}
use Rattle.reads_by_seat.proofs.counts.oem.Goals as goal

pub part_of-requires : goal.part_of-requires
part_of-requires c = omega (arith, (laid c.args.t.now c.requires).lent)

pub returns : goal.returns
unfolding oem_of
returns c = (
  c.part_of.ensures.0
      ∙ sym
      (oem-told c.args.t.now (λ i. omega (arith, c.type_inv.t i)) c.requires),
  ap length c.part_of.ensures.0
      ∙ part-long c.args.t.now 10 26 (omega (arith, (laid c.args.t.now c.requires).lent)),
)
