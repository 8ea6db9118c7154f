use mathlib.Core.Path.{◌≡◌, ap, ◌∙◌}
use Prim.Native.Nat.{◌+◌, ◌≤◌, ◌<◌}
use lib.ListN.{length}
use Rattle.table.specs.declared.Region.{Region}
use Rattle.reader.proofs.Laws.{heap-length, is-heap}
use Rattle.reader.proofs.records_fault.Goals as goal

pub heap_of-requires : goal.heap_of-requires
heap_of-requires c = let e = c.region_at.ensures in (rw e.0 c.requires.heap.heap-in, e.1.0, e.1.1)

pub parts_fault-requires : goal.parts_fault-requires
parts_fault-requires c =
    let t = c.args.t.now in
    let r = c.region_at.result in
    let e = c.region_at.ensures in
    let h = c.heap_of.ensures in
    let w : 0 < r.len → r.at + r.len ≤ length t = rw e.0 c.requires.heap.heap-in in
    let n : length c.heap_of.result.bytes.now ≡ r.len = ap length h.0 ∙ heap-length t r.at r.len w in (
      c.requires,
      rw h.1 (is-heap t c.heap_of.result.bytes.now r.at r.len h.0 n e.1.0 e.1.1),
      h.1 ∙ ap (λ (x : Region). x.at) e.0,
      n ∙ ap (λ (x : Region). x.len) e.0,
    )
