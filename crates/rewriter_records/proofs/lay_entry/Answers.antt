use mathlib.Core.Path.{sym, ap, ◌∙◌}
use mathlib.Core.Bool.{true}
use native.Mathlib.Nat.{add-zero}
use native.Mathlib.Omega.{arith}
use lib.ListN.{replicate}
use Rattle.table.specs.FixedLayouts.{layout_of}
use Rattle.table.specs.Reads.{seat}
use Rattle.table.specs.Bytes.{splice}
use Rattle.table.specs.Layout.{base_of}
use Rattle.table.specs.Objects.{size_entry, rec_entry, heap_entry}
use Rattle.bytes_writer.proofs.StoreLaws.{splice-none}
use Rattle.rewriter_sizes.specs.Parts.{slots_in}
use Rattle.reads_seats.specs.Seats.{as_seat}
use Rattle.reads_seats.proofs.EntryLaws.{seated-at, entry-nowhere, entry-off, entry-on}
use Rattle.rewriter_records.proofs.lay_entry.Goals as goal

pub lay_used-requires : goal.lay_used-requires
unfolding size_entry slots_in
lay_used-requires c =
    let a = c.args in
    let t = a.t.now in
    let k = a.kind in
    let e = (sym c.seat_of.ensures
    ∙ ap (as_seat (layout_of k)) c.in-Some.is
    ∙ ap (seat (layout_of k) c.in-Some.seat.at) c.if-seat.true) in
    let z = ap size_entry (entry-on t k a.position c.in-Some.seat.at e) in
    let on = seated-at t c.requires.accepted k a.position c.in-Some.seat.at true e in
    record { accepted = (c.requires.accepted, on); kind_bound = (c.requires.kind_bound.0, omega (arith, z, c.requires.kind_bound)) }

pub returns-in-None : goal.returns-in-None
unfolding size_entry rec_entry heap_entry
returns-in-None c =
    let a = c.args in
    let t = a.t.now in
    let k = a.kind in
    rw (entry-nowhere t k a.position
    (sym c.seat_of.ensures ∙ ap (as_seat (layout_of k)) c.in-None.is)) (
      c.lay_unused.ensures.0 ∙ sym (add-zero a.next),
      c.lay_unused.ensures.1
          ∙ splice-none (splice a.out.now a.place (replicate (base_of (layout_of k)) 0)) a.next,
    )

pub returns-then-seat : goal.returns-then-seat
unfolding size_entry rec_entry heap_entry slots_in
returns-then-seat c =
    let a = c.args in
    let t = a.t.now in
    let k = a.kind in
    rw (entry-on t k a.position c.in-Some.seat.at (sym c.seat_of.ensures
    ∙ ap (as_seat (layout_of k)) c.in-Some.is
    ∙ ap (seat (layout_of k) c.in-Some.seat.at) c.if-seat.true)) c.lay_used.ensures

pub returns-else-seat : goal.returns-else-seat
unfolding size_entry rec_entry heap_entry
returns-else-seat c =
    let a = c.args in
    let t = a.t.now in
    let k = a.kind in
    rw (entry-off t k a.position c.in-Some.seat.at (sym c.seat_of.ensures
    ∙ ap (as_seat (layout_of k)) c.in-Some.is
    ∙ ap (seat (layout_of k) c.in-Some.seat.at) c.if-seat.false)) (
      c.lay_unused-else-seat.ensures.0 ∙ sym (add-zero a.next),
      c.lay_unused-else-seat.ensures.1
          ∙ splice-none (splice a.out.now a.place (replicate (base_of (layout_of k)) 0)) a.next,
    )
