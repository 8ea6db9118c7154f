use Rattle.reads_seats.proofs.ObjectLaws.{absent-start, seat-heap}
use Rattle.reads_seats.proofs.SeatLaws.{seats-good}
use Rattle.reads_seats.specs.Objects.{object_in}
use Rattle.table.specs.Reads.{seat_of}
use Rattle.reads.proofs.objects.whole_object.Goals as goal

pub heap_part-requires : goal.heap_part-requires
heap_part-requires c = let a = c.args in let t = a.t.now in
    (c.requires, rw c.whole_in-p.ensures (seat-heap t c.requires a.off a.kind (seat_of t a.kind a.position) (seats-good t c.requires a.position a.kind)))

pub returns : goal.returns
unfolding object_in
returns c = let a = c.args in
    let e = absent-start a.t.now a.off (seat_of a.t.now a.kind a.position) in
    (rw (← c.whole_in-p.ensures) c.heap_part.ensures.0, c.heap_part.ensures.1, rw (← e, ← c.whole_in-p.ensures) c.heap_part.ensures.2)
