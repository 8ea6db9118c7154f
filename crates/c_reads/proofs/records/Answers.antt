use Rattle.c_reads.specs.PackedReads.{packed_records}
use Rattle.c_reads.proofs.Laws.{records-fit}
use lib.ListN.{length}
use native.Mathlib.Omega.{arith}
use mathlib.Core.Path.{ap, ◌∙◌}
use Rattle.c_reads.proofs.records.Goals as goal

pub pack_pair-requires : goal.pack_pair-requires
pack_pair-requires c = let a = c.args in
    let read = c.records-read.ensures in
    let f = records-fit a.t.now (λ i. omega (arith, c.type_inv.t i)) a.kind a.position a.last (length a.out.now) in
    (rw read.value.0 f, omega (arith, read.written_le_total), omega (arith, read.written_le_total))

pub returns : goal.returns
unfolding packed_records
returns c = let read = c.records-read.ensures in
    (c.pack_pair.ensures ∙ ap packed_records read.value.0, read.value.1)
