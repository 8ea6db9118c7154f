use Rattle.reads_seats.specs.Seats.{heap_record}
use Rattle.table.specs.FixedLayouts.{layout_of, hfi, ssns, info}
use native.Mathlib.Omega.{arith}
use Rattle.table.proofs.Rules.{picks}
use Rattle.reads_seats.proofs.seats.inner_seat.Goals as goal

pub heap_seat-requires : goal.heap_seat-requires
unfolding layout_of hfi
heap_seat-requires c = omega (arith, rw c.in-3.is at c.requires)

pub extended_seat-requires : goal.extended_seat-requires
unfolding layout_of ssns
extended_seat-requires c = omega (arith, rw c.in-4.is at c.requires)

pub identity_seat-requires : goal.identity_seat-requires
unfolding layout_of info
identity_seat-requires c = omega (arith, rw c.in-7.is at c.requires)

pub returns-in-3 : goal.returns-in-3
unfolding heap_record
returns-in-3 c = search picks

pub returns-in-4 : goal.returns-in-4
unfolding heap_record
returns-in-4 c = rw c.in-4.is c.extended_seat.ensures

pub returns-in-7 : goal.returns-in-7
unfolding heap_record
returns-in-7 c = rw c.in-7.is c.identity_seat.ensures

pub returns-in_default : goal.returns-in_default
unfolding heap_record
returns-in_default c = search picks
