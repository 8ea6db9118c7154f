use mathlib.Core.Path.{refl}
use native.Mathlib.Omega.{arith}
use borrow.Author.Tests.{eq-eqb, ne_eqb}
use Rattle.reads_seats.specs.Seats.{identity_at}
use Rattle.reads_seats.proofs.Laws.{version-is}
use Rattle.reads_seats.proofs.seats.identity_seat.Goals as goal

pub returns-then-bytes-ne2 : goal.returns-then-bytes-ne2
unfolding identity_at
returns-then-bytes-ne2 c =
    rw (version-is c.args.bytes.now (λ i. omega (arith, c.type_inv.bytes i)), ne_eqb _ 2 c.if-bytes-ne2.true) refl

pub returns : goal.returns
unfolding identity_at
returns c =
    rw (version-is c.args.bytes.now (λ i. omega (arith, c.type_inv.bytes i)), eq-eqb _ 2 c.if-bytes-ne2.false) c.heap_seat.ensures
