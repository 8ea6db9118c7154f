use mathlib.Core.Path.{ap}
use Rattle.table.specs.declared.Image.{Image}
use Rattle.show.proofs.records.is_used.Goals as goal

pub returns : goal.returns
returns c = ap (λ (i : Image). i.used) c.record_in-image.ensures
