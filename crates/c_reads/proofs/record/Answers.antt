use Rattle.c_reads.proofs.Laws.{record-fits}
use Rattle.reads_whole.specs.Whole.{entry_after}
use Rattle.c_answers.specs.Packed.{packed}
use Rattle.table.specs.declared.Answer.{Answer}
use native.Mathlib.Omega.{arith}
use mathlib.Core.Path.{ap, ◌∙◌}
use Rattle.c_reads.proofs.record.Goals as goal

pub pack-requires : goal.pack-requires
pack-requires c = let a = c.args in
    rw c.«record».ensures.0 (record-fits a.t.now (λ i. omega (arith, c.type_inv.t i)) a.kind a.position)

pub returns : goal.returns
returns c = let a = c.args in
    let read = c.«record».ensures in
    (c.pack.ensures ∙ ap packed read.0, read.1 ∙ ap (λ (x : Answer). entry_after a.t.now a.kind a.position x a.entry.now) read.0)
