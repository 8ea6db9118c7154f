use mathlib.Core.Path.{◌≡◌, sym, ap, subst, ◌∙◌}
use native.Mathlib.Omega.{arith}
use lib.Dec.{lit≤}
use Rattle.table.specs.FixedLayouts.{layout_of, hfi, info}
use Rattle.table.specs.Reads as reads
use Rattle.reader.proofs.AcceptedLaws.{laid}
use Rattle.reads_seats.specs.Seats.{as_seat, Good}
use Rattle.reads_seats.proofs.Laws.{owned-is}
use Rattle.reads_seats.proofs.SeatLaws.{seats-good, good-in}
use Rattle.reads_seats.proofs.seats.info_seat.Goals as goal

pub list_seat-owner-requires : goal.list_seat-owner-requires
unfolding layout_of hfi
list_seat-owner-requires c =
    let l = laid c.args.t.now c.requires in
    (lit≤ tt, lit≤ tt, omega (arith, l.lent), l.hfi)

pub owned_seat-requires : goal.owned_seat-requires
unfolding layout_of hfi
owned_seat-requires c = c.list_seat-owner.ensures.1

pub returns : goal.returns
unfolding reads.seat_of layout_of
returns c =
    let t = c.args.t.now in
    let n = c.args.position in
    let e : as_seat info c.owned_seat.result ≡ reads.seat_of t 7 n =
    ap (as_seat info) c.owned_seat.ensures ∙ owned-is t 3 c.list_seat-owner.result ∙ ap (reads.heap_seat info 16 t) c.list_seat-owner.ensures.0 in
    (e, good-in t c.requires 7 c.owned_seat.result (subst (Good t 7) (sym e) (seats-good t c.requires n 7)))
