use Rattle.reads_whole.specs.Whole.{entry_of, entry_at}
use Rattle.reads_whole.proofs.EntryLaws.{entry-own}
use Rattle.reads_seats.proofs.SeatLaws.{standing}
use Rattle.reads_seats.proofs.OwnLaws.{own-long}
use Rattle.reads_seats.proofs.EntryLaws.{seated-at}
use Rattle.reads_seats.specs.Seats.{Seated, as_seat}
use Rattle.table.specs.Reads.{seat}
use Rattle.table.specs.FixedLayouts.{layout_of}
use lib.ListN.{length}
use native.Mathlib.Omega.{arith}
use Prim.Native.Nat.{ℕ}
use mathlib.Core.List.{List}
use mathlib.Core.Path.{sym, ap, ◌∙◌}
use Rattle.reads_whole.proofs.entries.put_entry.Goals.{In-Some}
use Rattle.reads_whole.proofs.entries.put_entry.Goals as goal

-- the record that was found stands in the table
seated : (c : In-Some) →
    Seated c.args.t.now (layout_of c.args.kind) c.in-Some.seat.at
    c.in-Some.seat.used
seated c =
    let a = c.args in
    seated-at a.t.now c.requires.0 a.kind a.position c.in-Some.seat.at
    c.in-Some.seat.used
    (sym c.seat_of.ensures ∙ ap (as_seat (layout_of a.kind)) c.in-Some.is)

pub record_at-requires : goal.record_at-requires
record_at-requires c = (
  c.requires.0,
  standing c.args.t.now (layout_of c.args.kind) c.in-Some.seat.at c.in-Some.seat.used
      (seated (goal.at.record_at-requires c).In-Some),
)

pub put_found-requires : goal.put_found-requires
put_found-requires c =
    let a = c.args in (
      c.requires.1,
      omega (arith, ap length c.record_at.ensures, own-long a.kind a.t.now c.in-Some.seat.at (seated (goal.at.put_found-requires c).In-Some).within),
    )

pub returns-in-None : goal.returns-in-None
unfolding entry_at
returns-in-None c =
    rw (← c.seat_of.ensures, c.in-None.is) c.put_none.ensures

pub returns-in-Some : goal.returns-in-Some
unfolding entry_at
returns-in-Some c =
    let a = c.args in
    let at = c.in-Some.seat.at in
    let used = c.in-Some.seat.used in
    rw (← c.seat_of.ensures, c.in-Some.is) (c.put_found.ensures
    ∙ ap (λ (x : List ℕ). entry_of x a.kind a.position (seat (layout_of a.kind) 0 used))
    c.record_at.ensures
    ∙ entry-own a.kind a.t.now at a.position used)
