use mathlib.Core.Path.{refl, sym, ap, ◌∙◌}
use native.Mathlib.Omega.{arith}
use lib.Dec.{lit≤}
use Rattle.table.specs.FixedLayouts.{layout_of, hfi, ssns, extended}
use Rattle.std.specs.Prelude.{Option}
use Rattle.reads_seats.specs.declared.seats.Seat.{Seat}
use Rattle.reads_seats.proofs.SeatLaws.{record-held}
use Rattle.rewriter_sizes.specs.Parts.{record_part, spans_over}
use Rattle.rewriter_sizes.proofs.PartLaws.{spans-held, held_none}
use Rattle.rewriter_sizes.proofs.references.held_span.Goals as goal

pub heap_record-requires : goal.heap_record-requires
heap_record-requires c = (rw c.in-3.is at c.requires).1.within

pub info_span-requires : goal.info_span-requires
info_span-requires c =
    let a = c.args in
    let p = rw c.in-3.is at c.requires in
    rw c.heap_record.ensures (p.0, record-held a.t.now p.0 a.at 3 (refl, p.1))

pub heap_record-requires-in-4 : goal.heap_record-requires-in-4
heap_record-requires-in-4 c = (rw c.in-4.is at c.requires).1.within

pub flat_span-requires : goal.flat_span-requires
unfolding layout_of extended
flat_span-requires c =
    let a = c.args in
    let p = rw c.in-4.is at c.requires in
    rw c.heap_record-in-4.ensures (p.0, record-held a.t.now p.0 a.at 4 (refl, p.1), refl)

pub identity_span-requires : goal.identity_span-requires
identity_span-requires c = rw c.in-7.is at c.requires

pub returns-in-3 : goal.returns-in-3
unfolding layout_of hfi
returns-in-3 c =
    let a = c.args in
    let p = rw c.in-3.is at c.requires in
    let o = c.info_span.ensures in
    rw c.in-3.is (
      o.0
          ∙ ap (λ (w : Option Seat). (record_part a.t.now 7 w).span) c.heap_record.ensures
          ∙ sym (spans-held a.t.now p.0 3 a.at p.1 16 refl),
      o.1,
    )

pub returns-in-4 : goal.returns-in-4
unfolding layout_of ssns
returns-in-4 c =
    let a = c.args in
    let p = rw c.in-4.is at c.requires in
    let o = c.flat_span.ensures in
    rw c.in-4.is (
      o.0
          ∙ ap (λ (w : Option Seat). (record_part a.t.now 9 w).span) c.heap_record-in-4.ensures
          ∙ sym (spans-held a.t.now p.0 4 a.at p.1 60 refl),
      omega (arith, o.1),
    )

pub returns-in-7 : goal.returns-in-7
returns-in-7 c = rw c.in-7.is (c.identity_span.ensures.0, omega (arith, c.identity_span.ensures.1))

pub returns-in_default : goal.returns-in_default
unfolding spans_over
returns-in_default c =
    let a = c.args in
    let m = c.in_default.in_default-own.rest in
    (sym (ap (spans_over a.t.now a.kind a.at) (held_none a.kind m.0.0.1 m.0.1 m.1)), lit≤ tt)
