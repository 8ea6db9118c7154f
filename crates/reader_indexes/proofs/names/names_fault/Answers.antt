use native.Mathlib.Omega.{arith}
use Rattle.table.specs.FixedLayouts.{layout_of, ssns, discovery}
use Rattle.reader_indexes.proofs.Laws.{no_names}
use Rattle.table.proofs.Rules.{picks}
use Rattle.reader_indexes.proofs.names.names_fault.Goals as goal

pub ssns_names-requires : goal.ssns_names-requires
unfolding layout_of ssns
ssns_names-requires c =
    let p = c.requires in
    (p.0, rw c.in-4.is at p.1, p.2, rw c.in-4.is at p.3)

pub discovery_names-requires : goal.discovery_names-requires
unfolding layout_of discovery
discovery_names-requires c =
    let p = c.requires in
    (p.0, rw c.in-6.is at p.1)

pub returns-in-4 : goal.returns-in-4
returns-in-4 c = rw c.in-4.is c.ssns_names.ensures

pub returns-in-6 : goal.returns-in-6
returns-in-6 c = (rw c.in-6.is c.discovery_names.ensures.0, omega (arith, c.discovery_names.ensures.1))

pub returns-in_default : goal.returns-in_default
returns-in_default c =
    let a = c.args in
    (no_names a.t.now a.a a.kind (search picks) (search picks), search picks)
