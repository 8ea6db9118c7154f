use Prim.Native.Nat.{ℕ}
use Rattle.reads_seats.proofs.OwnLaws.{heap-record-own}
use Rattle.reads_seats.specs.Seats.{heap_record}
use Rattle.layout_images.proofs.Laws.{part-long}
use Rattle.table.specs.Bytes.{part}
use lib.ListN.{length}
use mathlib.Core.List.{List}
use mathlib.Core.Path.{ap, ◌∙◌}
use native.Mathlib.Omega.{arith}
use Rattle.reads_seats.proofs.seats.heap_record.Goals as goal

pub inner_seat-requires : goal.inner_seat-requires
inner_seat-requires c = let n = c.base_size in let l = part-long c.args.t.now c.args.at n.result (omega (arith, n.ensures, c.requires)) in
    omega (arith, ap length c.part_of.ensures.0, l, n.ensures)

pub returns : goal.returns
returns c = let a = c.args in
    c.inner_seat.ensures
    ∙ ap (λ (x : List ℕ). heap_record x a.kind 0) (c.part_of.ensures.0 ∙ ap (part a.t.now a.at) c.base_size.ensures)
    ∙ heap-record-own a.t.now a.at a.kind
