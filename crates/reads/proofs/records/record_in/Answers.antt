use Rattle.reads_seats.proofs.SeatLaws.{standing}
use Rattle.reads_seats.proofs.OwnLaws.{own-long, image_at-own}
use Rattle.reads_seats.proofs.EntryLaws.{seated-at}
use Rattle.reads_seats.specs.Seats.{Seated, as_seat}
use Rattle.table.specs.Reads.{seat, image_at, refused_image}
use Rattle.table.specs.FixedLayouts.{layout_of}
use lib.ListN.{length}
use native.Mathlib.Omega.{arith}
use Prim.Native.Nat.{ℕ}
use mathlib.Core.List.{List}
use mathlib.Core.Path.{sym, ap, ◌∙◌}
use Rattle.reads.proofs.records.record_in.Goals.{In-Some}
use Rattle.reads.proofs.records.record_in.Goals as goal

-- the record that was found stands in the table
seated : (c : In-Some) →
    Seated c.args.t.now (layout_of c.args.kind) c.in-Some.seat.at
    c.in-Some.seat.used
seated c =
    let a = c.args in
    seated-at a.t.now c.requires a.kind a.position c.in-Some.seat.at
    c.in-Some.seat.used
    (sym c.seat_of.ensures ∙ ap (as_seat (layout_of a.kind)) c.in-Some.is)

pub record_at-requires : goal.record_at-requires
record_at-requires c = (
  c.requires,
  standing c.args.t.now (layout_of c.args.kind) c.in-Some.seat.at
      c.in-Some.seat.used (seated (goal.at.record_at-requires c).In-Some),
)

pub image_of-requires : goal.image_of-requires
image_of-requires c = let a = c.args in
    omega (arith, ap length c.record_at.ensures, own-long a.kind a.t.now c.in-Some.seat.at (seated (goal.at.image_of-requires c).In-Some).within)

pub returns-in-None : goal.returns-in-None
returns-in-None c = rw (← c.seat_of.ensures, c.in-None.is) (c.refused_image.ensures ∙ ap refused_image c.refuse.ensures)

pub returns-in-Some : goal.returns-in-Some
returns-in-Some c =
    let a = c.args in
    let at = c.in-Some.seat.at in
    let used = c.in-Some.seat.used in
    rw (← c.seat_of.ensures, c.in-Some.is) (c.image_of.ensures
    ∙ ap (λ (x : List ℕ). image_at x (seat (layout_of a.kind) 0 used)) c.record_at.ensures
    ∙ image_at-own a.kind a.t.now at used)
