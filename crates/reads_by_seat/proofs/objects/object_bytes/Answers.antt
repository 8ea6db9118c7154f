use Rattle.reads_by_seat.proofs.ObjectLaws.{own-start}
use Rattle.reads_seats.proofs.ObjectLaws.{plain_fits, seat-heap}
use Rattle.reads_seats.proofs.SeatLaws.{standing}
use Rattle.reads_seats.proofs.OwnLaws.{own-long}
use Rattle.table.specs.Reads.{seat, whole_at}
use Rattle.table.specs.FixedLayouts.{layout_of}
use Rattle.table.specs.Layout.{reference_at}
use Rattle.table.specs.Bytes.{part}
use Rattle.table.specs.declared.Region.{Region}
use Rattle.std.proofs.Common.{◌≡◌, ℕ, true, List, length, refl, ap, ◌∙◌, ap₂, arith}
use Rattle.reads_by_seat.proofs.objects.object_bytes.Goals.{After-reference_at-named}
use Rattle.reads_by_seat.proofs.objects.object_bytes.Goals as goal

-- the object starts where its reference says
start : (c : After-reference_at-named) → let a = c.args in c.reference_at-named.result.at ≡ (whole_at a.t.now a.offset (seat (layout_of a.kind) a.at true)).at
start c = let a = c.args in
    ap (λ (r : Region). r.at) c.reference_at-named.ensures.0
    ∙ ap (λ (x : List ℕ). (reference_at x a.offset).at) c.record_at.ensures
    ∙ own-start a.t.now a.kind a.at a.offset c.requires.accepted.2 (λ e. omega (arith, c.requires.len_value, e))

pub record_at-requires : goal.record_at-requires
record_at-requires c = (c.requires.accepted.0, standing c.args.t.now (layout_of c.args.kind) c.args.at true c.requires.accepted.1)

pub reference_at-named-requires : goal.reference_at-named-requires
reference_at-named-requires c = let a = c.args in
    omega (arith, plain_fits a.kind a.offset c.requires.accepted.2, ap length c.record_at.ensures, own-long a.kind a.t.now a.at c.requires.accepted.1.within)

pub heap_part-requires : goal.heap_part-requires
heap_part-requires c = let a = c.args in let t = a.t.now in let q = seat (layout_of a.kind) a.at true in
    let i = seat-heap t c.requires.accepted.0 a.offset a.kind q (refl, c.requires.accepted.1) (omega (arith, c.requires.len_value)) in
    (c.requires.accepted.0, λ h. record { above = omega (arith, i, start (goal.at.heap_part-requires c).After-reference_at-named); below = omega (arith, i, start (goal.at.heap_part-requires c).After-reference_at-named, c.requires.len_value.0) })

pub returns : goal.returns
returns c = c.heap_part.ensures.0 ∙ ap₂ (part c.args.t.now) (start (goal.at.returns c).After-reference_at-named) c.requires.len_value.0
