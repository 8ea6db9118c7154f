use native.Mathlib.Omega.{arith}
use Rattle.table.specs.Meaning.{heap_at}
use Rattle.rewriter_sizes.proofs.PartLaws.{span-parts}
use Rattle.rewriter_sizes.proofs.sizes.heap_start.Goals as goal

pub returns : goal.returns
unfolding heap_at
returns c =
    let p = span-parts c.args.t.now (λ i. omega (arith, c.type_inv.t i)) c.requires in
    let x = c.list_span.ensures in
    let y = c.list_span-2.ensures in
    let z = c.list_span-3.ensures in
    let w = c.list_span-4.ensures in
    (omega (arith, p, x.0, y.0, z.0, w.0), omega (arith, x.1, y.1, z.1, w.1))
