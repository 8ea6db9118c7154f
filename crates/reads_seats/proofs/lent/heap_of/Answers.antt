use Rattle.reader.proofs.AcceptedLaws.{laid}
use Rattle.table.specs.Numbers.{heap_in}
use Rattle.table.specs.declared.Region.{Region}
use mathlib.Core.Path.{ap}
use native.Mathlib.Omega.{arith}
use Rattle.reads_seats.proofs.lent.heap_of.Goals as goal

pub part_of-requires : goal.part_of-requires
unfolding heap_in
part_of-requires c = let e = ap (λ (r : Region). r.at) c.requires.1 in let f = ap (λ (r : Region). r.len) c.requires.1 in
    omega (arith, e, f, (laid c.args.t.now c.requires.0).heap.heap-in (omega (arith, f, c.requires.2)))
