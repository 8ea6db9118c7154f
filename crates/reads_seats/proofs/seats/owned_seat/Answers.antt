use Rattle.reads_seats.specs.Seats.{owned_of}
use mathlib.Core.Path.{refl}
use Rattle.reads_seats.proofs.seats.owned_seat.Goals as goal

pub heap_record-requires : goal.heap_record-requires
heap_record-requires c = rw c.in-Some.is at c.requires

pub returns-in-None : goal.returns-in-None
unfolding owned_of
returns-in-None c = rw c.in-None.is refl

pub returns-then-used : goal.returns-then-used
unfolding owned_of
returns-then-used c = rw (c.in-Some.is, c.if-used.true) c.heap_record.ensures

pub returns-else-used : goal.returns-else-used
unfolding owned_of
returns-else-used c = rw (c.in-Some.is, c.if-used.false) refl
