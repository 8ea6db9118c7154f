use mathlib.Core.Path.{ap}
use lib.ListN.{length}
use Rattle.closer_sites.proofs.first_of.Goals as goal

pub returns : goal.returns
returns c = rw c.if-used.false (ap length c.reference_offsets.ensures.0)
