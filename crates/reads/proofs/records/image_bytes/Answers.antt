use Rattle.reads_seats.proofs.ReadLaws.{zeros-padded}
use Rattle.laws.specs.ListWalk.{base-small}
use Rattle.laws.specs.Fields.{image_in}
use Rattle.table.specs.FixedLayouts.{layout_of}
use Rattle.table.specs.Layout.{base_of}
use Rattle.reads.proofs.records.image_bytes.Goals as goal

pub returns-then-used : goal.returns-then-used
unfolding image_in
returns-then-used c = rw c.if-used.true c.image_at.ensures

pub returns : goal.returns
returns c = let k = c.args.kind in rw c.if-used.false (zeros-padded (base_of (layout_of k)) 128 (base-small k))
