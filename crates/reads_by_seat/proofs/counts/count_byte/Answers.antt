use Rattle.std.proofs.Common.{sym, refl, arith}
use Rattle.table.specs.FixedLayouts.{control}
use Rattle.reader.proofs.AcceptedLaws.{laid}
use Rattle.reads_seats.proofs.MeaningLaws.{counted}
use Rattle.reads_seats.specs.Told.{count_of}
use Rattle.table.proofs.Rules.{picks}
use Rattle.reads_by_seat.proofs.counts.count_byte.Goals as goal

pub bounds-t-87 : goal.bounds-t-87
bounds-t-87 c =
    omega (arith, (laid c.args.t.now c.requires).lent)

pub bounds-t-95 : goal.bounds-t-95
bounds-t-95 c =
    omega (arith, (laid c.args.t.now c.requires).lent)

pub bounds-t-103 : goal.bounds-t-103
bounds-t-103 c =
    omega (arith, (laid c.args.t.now c.requires).lent)

pub bounds-t-111 : goal.bounds-t-111
bounds-t-111 c =
    omega (arith, (laid c.args.t.now c.requires).lent)

pub returns-in-3 : goal.returns-in-3
unfolding count_of
returns-in-3 c =
    rw c.in-3.is (sym (counted c.args.t.now
    (λ i. omega (arith, c.type_inv.t i)) c.requires 87 tt (unfold control in refl)))

pub returns-in-4 : goal.returns-in-4
unfolding count_of
returns-in-4 c =
    rw c.in-4.is (sym (counted c.args.t.now
    (λ i. omega (arith, c.type_inv.t i)) c.requires 95 tt (unfold control in refl)))

pub returns-in-5 : goal.returns-in-5
unfolding count_of
returns-in-5 c =
    rw c.in-5.is (sym (counted c.args.t.now
    (λ i. omega (arith, c.type_inv.t i)) c.requires 103 tt (unfold control in refl)))

pub returns-in-6 : goal.returns-in-6
unfolding count_of
returns-in-6 c =
    rw c.in-6.is (sym (counted c.args.t.now
    (λ i. omega (arith, c.type_inv.t i)) c.requires 111 tt (unfold control in refl)))

pub returns-in_default : goal.returns-in_default
unfolding count_of
returns-in_default c = search picks
