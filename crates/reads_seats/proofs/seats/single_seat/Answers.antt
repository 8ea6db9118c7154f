use Rattle.reads_seats.specs.Seats.{single_at}
use Rattle.table.proofs.Rules.{picks}
use Rattle.reads_seats.proofs.seats.single_seat.Goals as goal

pub returns-then-position-ne0 : goal.returns-then-position-ne0
unfolding single_at
returns-then-position-ne0 c = search picks

pub returns : goal.returns
unfolding single_at
returns c = search picks
