use native.Mathlib.Omega.{arith}
use Rattle.std.proofs.lemmas.Grind.{common_steps}
use lib.ListN.{length}
use Rattle.table.specs.Layout.{region}
use Rattle.laws.specs.ListWalk.{refs-within}
use Rattle.reader_lists.proofs.Laws.{refs-are}
use Rattle.reader_lists.proofs.refs_fault.Goals as goal

pub ref_fault-fault-requires : goal.ref_fault-fault-requires
ref_fault-fault-requires c =
    let o = c.reference_offsets-off-items.ensures.0 in
    let w = refs-within c.args.kind c.loop-off.off-index (rw o at c.loop-off-test.true) in
    (c.requires.0, c.requires.1, rw o (omega (arith, w, c.requires.1)), c.requires.2)

pub returns-then-fault-ne0 : goal.returns-then-fault-ne0
returns-then-fault-ne0 c =
    let a = c.args in
    rw (refs-are a.kind (region a.heap.from (length a.heap.bytes.now)) a.t.now a.a a.position) (grind (arith, common_steps))

pub returns : goal.returns
returns c =
    let a = c.args in
    rw (refs-are a.kind (region a.heap.from (length a.heap.bytes.now)) a.t.now a.a a.position) (grind (arith, common_steps))
