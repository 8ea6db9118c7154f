use native.Mathlib.Omega.{arith}
use Rattle.table.specs.FixedLayouts.{layout_of, info}
use Rattle.laws.specs.ListWalk.{refs-within}
use Rattle.reader_heap_records.proofs.info_refs.Goals as goal

pub info_ref-fault-requires : goal.info_ref-fault-requires
unfolding layout_of info
info_ref-fault-requires c =
    let o = c.reference_offsets-off-items.ensures.0 in
    let w = refs-within 7 c.loop-off.off-index (rw o at c.loop-off-test.true) in
    (c.requires, rw o (omega (arith, w, c.requires)))
