use mathlib.Core.Path.{sym, ap, ◌∙◌}
use mathlib.Core.Bool.{true}
use lib.Dec.{lit≤}
use Rattle.table.specs.FixedLayouts.{layout_of}
use Rattle.table.specs.Reads.{seat}
use Rattle.table.specs.Objects.{size_entry}
use Rattle.rewriter_sizes.specs.Parts.{slots_in}
use Rattle.reads_seats.specs.Seats.{as_seat}
use Rattle.reads_seats.proofs.EntryLaws.{seated-at, entry-nowhere, entry-off, entry-on}
use Rattle.rewriter_sizes.proofs.sizes.entry_size.Goals as goal

pub named_size-requires : goal.named_size-requires
named_size-requires c = (
  c.requires,
  seated-at c.args.t.now c.requires c.args.kind c.args.position c.in-Some.seat.at true
      (sym c.seat_of.ensures
      ∙ ap (as_seat (layout_of c.args.kind)) c.in-Some.is
      ∙ ap (seat (layout_of c.args.kind) c.in-Some.seat.at) c.if-seat.true),
)

pub returns-in-None : goal.returns-in-None
unfolding size_entry
returns-in-None c = (
  sym (ap size_entry (entry-nowhere c.args.t.now c.args.kind c.args.position
      (sym c.seat_of.ensures ∙ ap (as_seat (layout_of c.args.kind)) c.in-None.is))),
  lit≤ tt,
)

pub returns-then-seat : goal.returns-then-seat
unfolding size_entry slots_in
returns-then-seat c = (
  c.named_size.ensures.0
      ∙ sym (ap size_entry (entry-on c.args.t.now c.args.kind c.args.position c.in-Some.seat.at
      (sym c.seat_of.ensures
      ∙ ap (as_seat (layout_of c.args.kind)) c.in-Some.is
      ∙ ap (seat (layout_of c.args.kind) c.in-Some.seat.at) c.if-seat.true))),
  c.named_size.ensures.1,
)

pub returns-else-seat : goal.returns-else-seat
unfolding size_entry
returns-else-seat c = (
  sym (ap size_entry (entry-off c.args.t.now c.args.kind c.args.position c.in-Some.seat.at
      (sym c.seat_of.ensures
      ∙ ap (as_seat (layout_of c.args.kind)) c.in-Some.is
      ∙ ap (seat (layout_of c.args.kind) c.in-Some.seat.at) c.if-seat.false))),
  lit≤ tt,
)
