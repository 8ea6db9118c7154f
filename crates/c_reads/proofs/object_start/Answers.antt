use Rattle.c_reads.proofs.Laws.{place-fits}
use Rattle.table.specs.declared.Place.{Place}
use native.Mathlib.Omega.{arith}
use mathlib.Core.Path.{ap}
use Rattle.c_reads.proofs.object_start.Goals as goal

pub overflow_cast-result : goal.overflow_cast-result
overflow_cast-result c =
    let a = c.args in
    let f = place-fits a.t.now (λ i. omega (arith, c.type_inv.t i)) a.kind
    a.position a.offset in
    omega (arith, f.2, ap (λ (p : Place). p.at) c.object_place-p.ensures)

pub returns : goal.returns
returns c = ap (λ (p : Place). p.at) c.object_place-p.ensures
