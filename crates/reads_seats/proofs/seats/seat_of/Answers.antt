use Rattle.table.specs.declared.Region.{Region}
use Rattle.reads_seats.proofs.Laws.{single-is, owned-is}
use Rattle.reader.proofs.AcceptedLaws.{laid}
use Rattle.table.specs.Reads.{seat_of, heap_seat}
use Rattle.table.specs.FixedLayouts.{layout_of, header, control, host, hfi, ssns, security, discovery, info, extended, hfi_extended}
use lib.Dec.{lit≤}
use native.Mathlib.Omega.{arith}
use mathlib.Core.Path.{ap, ◌∙◌}
use Rattle.table.proofs.Rules.{picks}
use Rattle.reads_seats.proofs.seats.seat_of.Goals as goal

pub reference_at-requires : goal.reference_at-requires
reference_at-requires c =
    omega (arith, (laid c.args.t.now c.requires).lent)

pub list_seat-requires : goal.list_seat-requires
unfolding layout_of hfi
list_seat-requires c =
    let l = laid c.args.t.now c.requires in
    (lit≤ tt, lit≤ tt, omega (arith, l.lent), l.hfi)

pub list_seat-requires-in-4 : goal.list_seat-requires-in-4
unfolding layout_of ssns
list_seat-requires-in-4 c =
    let l = laid c.args.t.now c.requires in
    (lit≤ tt, lit≤ tt, omega (arith, l.lent), l.ssns)

pub list_seat-requires-in-5 : goal.list_seat-requires-in-5
unfolding layout_of security
list_seat-requires-in-5 c =
    let l = laid c.args.t.now c.requires in
    (lit≤ tt, lit≤ tt, omega (arith, l.lent), l.security)

pub list_seat-requires-in-6 : goal.list_seat-requires-in-6
unfolding layout_of discovery
list_seat-requires-in-6 c =
    let l = laid c.args.t.now c.requires in
    (lit≤ tt, lit≤ tt, omega (arith, l.lent), l.discovery)

pub info_seat-requires : goal.info_seat-requires
info_seat-requires c = c.requires

pub list_seat-requires-in-9 : goal.list_seat-requires-in-9
unfolding layout_of ssns
list_seat-requires-in-9 c =
    let l = laid c.args.t.now c.requires in
    (lit≤ tt, lit≤ tt, omega (arith, l.lent), l.ssns)

pub owned_seat-requires : goal.owned_seat-requires
unfolding layout_of ssns
owned_seat-requires c = c.list_seat-in-9.ensures.1

pub info_seat-requires-in-10 : goal.info_seat-requires-in-10
info_seat-requires-in-10 c = c.requires

pub owned_seat-requires-in-10 : goal.owned_seat-requires-in-10
unfolding layout_of info
owned_seat-requires-in-10 c = c.info_seat-in-10.ensures.1

pub returns-in-0 : goal.returns-in-0
unfolding seat_of layout_of
returns-in-0 c = rw (c.in-0.is, c.single_seat.ensures) (single-is header c.args.position 0)

pub returns-in-1 : goal.returns-in-1
unfolding seat_of layout_of
returns-in-1 c = rw (c.in-1.is, c.single_seat-in-1.ensures) (single-is control c.args.position 0)

pub returns-in-2 : goal.returns-in-2
unfolding seat_of layout_of
returns-in-2 c = rw (c.in-2.is, c.single_seat-in-2.ensures, ← ap (λ (r : Region). r.at) c.reference_at.ensures.0) (single-is host
    c.args.position c.reference_at.result.at)

pub returns-in-3 : goal.returns-in-3
unfolding seat_of layout_of
returns-in-3 c = rw c.in-3.is c.list_seat.ensures.0

pub returns-in-4 : goal.returns-in-4
unfolding seat_of layout_of
returns-in-4 c = rw c.in-4.is c.list_seat-in-4.ensures.0

pub returns-in-5 : goal.returns-in-5
unfolding seat_of layout_of
returns-in-5 c = rw c.in-5.is c.list_seat-in-5.ensures.0

pub returns-in-6 : goal.returns-in-6
unfolding seat_of layout_of
returns-in-6 c = rw c.in-6.is c.list_seat-in-6.ensures.0

pub returns-in-7 : goal.returns-in-7
unfolding layout_of
returns-in-7 c = rw c.in-7.is c.info_seat.ensures.0

pub returns-in-9 : goal.returns-in-9
unfolding seat_of layout_of
returns-in-9 c =
    rw (c.in-9.is, c.owned_seat.ensures) (owned-is c.args.t.now 4
    c.list_seat-in-9.result
    ∙ ap (heap_seat extended 60 c.args.t.now) c.list_seat-in-9.ensures.0)

pub returns-in-10 : goal.returns-in-10
unfolding seat_of layout_of
returns-in-10 c =
    rw (c.in-10.is, c.owned_seat-in-10.ensures) (owned-is c.args.t.now 7
    c.info_seat-in-10.result
    ∙ ap (heap_seat hfi_extended 110 c.args.t.now) c.info_seat-in-10.ensures.0)

pub returns-in_default : goal.returns-in_default
unfolding seat_of
returns-in_default c = search picks
