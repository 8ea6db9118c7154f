use mathlib.Core.Path.{refl}
use Rattle.reads_seats.specs.Objects.{handed_place}
use Rattle.reads.proofs.objects.handed.Goals as goal

pub returns : goal.returns
unfolding handed_place
returns c = rw (← c.handed_len-len.ensures.0) refl
