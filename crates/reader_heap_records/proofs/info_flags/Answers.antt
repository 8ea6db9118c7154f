use mathlib.Core.Path.{refl}
use native.Mathlib.Omega.{arith}
use borrow.Author.Tests.{eq-eqb, ne_eqb}
use Rattle.reader_heap_records.proofs.Laws.{info-flags}
use Rattle.reader_heap_records.proofs.info_flags.Goals as goal

pub returns-then-x-eq0 : goal.returns-then-x-eq0
returns-then-x-eq0 c =
    let x = c.args.x.now in
    rw (info-flags x 0 (λ i. omega (arith, c.type_inv.x i)), eq-eqb _ 0 c.if-x-eq0.true) refl

pub returns-else-x-eq0 : goal.returns-else-x-eq0
returns-else-x-eq0 c =
    let x = c.args.x.now in
    rw (info-flags x 0 (λ i. omega (arith, c.type_inv.x i)), ne_eqb _ 0 c.if-x-eq0.false) refl
