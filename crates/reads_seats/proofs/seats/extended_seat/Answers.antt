use Rattle.reads_seats.specs.Seats.{extended_at}
use Rattle.table.proofs.Rules.{picks}
use Rattle.reads_seats.proofs.seats.extended_seat.Goals as goal

pub returns-then-ssns_flags-eq0 : goal.returns-then-ssns_flags-eq0
unfolding extended_at
returns-then-ssns_flags-eq0 c = rw (← c.ssns_flags.ensures) (search picks)

pub returns : goal.returns
unfolding extended_at
returns c = rw (← c.ssns_flags.ensures) (search (picks, c.heap_seat.ensures))
