use mathlib.Core.Path.{ap}
use lib.Dec.{eqb}
use Rattle.table.specs.declared.Image.{Image}
use Rattle.reads_seats.specs.Told.{image_of}
use Rattle.changes_records.proofs.wholes.is_there.Goals as goal

pub returns : goal.returns
unfolding image_of
returns c = ap (λ (i : Image). eqb i.answer.number 0) c.record_in-read.ensures
