use native.Mathlib.Omega.{arith}
use Rattle.laws.specs.ListWalk.{refs-within}
use Rattle.reader_heap_records.proofs.own_fault.Goals as goal

pub own_ref-fault-requires : goal.own_ref-fault-requires
own_ref-fault-requires c =
    let o = c.reference_offsets-off-items.ensures.0 in
    let w = refs-within c.args.kind c.loop-off.off-index (rw o at c.loop-off-test.true) in
    (c.requires, rw o (omega (arith, w, c.requires)))
