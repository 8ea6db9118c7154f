use mathlib.Core.Path.{ap, ◌∙◌}
use mathlib.Core.List.{List}
use Prim.Native.Nat.{ℕ, ◌+◌, ◌≤◌}
use native.Mathlib.Omega.{arith}
use lib.ListN.{length}
use Rattle.table.specs.Layout.{each, reference_at}
use Rattle.laws.specs.IndexLaws.{found_by}
use Rattle.laws.specs.ListWalk.{valid_in}
use Rattle.reader_references.specs.References.{part_in}
use Rattle.reader_indexes.proofs.Laws.{secondary-part, part-short}
use Rattle.reader_indexes.proofs.secondary_names.Goals as goal

pub secondaries_fault-requires : goal.secondaries_fault-requires
secondaries_fault-requires c =
    let a = c.args in
    let r = reference_at a.t.now (a.a + 48) in
    let short : length (part_in a.heap.bytes.now a.heap.from r.at r.len) ≤ length a.heap.bytes.now = part-short a.heap.bytes.now a.heap.from r.at r.len in
    (c.requires.0, omega (arith, ap length c.part_at.ensures, short, c.requires.2.small))

pub returns : goal.returns
returns c =
    let a = c.args in
    let r = reference_at a.t.now (a.a + 48) in
    let short : length (part_in a.heap.bytes.now a.heap.from r.at r.len) ≤ length a.heap.bytes.now = part-short a.heap.bytes.now a.heap.from r.at r.len in
    let list = c.part_at.ensures ∙ secondary-part a.t.now a.heap.bytes.now a.heap.from a.a a.position c.requires.2 c.requires.3 in (
      c.secondaries_fault.ensures.0 ∙ ap (λ (x : List ℕ). found_by (valid_in a.t.now) (each 3 x)) list,
      omega (arith, c.secondaries_fault.ensures.1, ap length c.part_at.ensures, short, c.requires.2.small),
    )
