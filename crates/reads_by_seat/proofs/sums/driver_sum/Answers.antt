use Rattle.table.specs.declared.Region.{Region}
use Rattle.std.proofs.Common.{◌≡◌, ℕ, ◌-◌, ◌%◌, true, List, length, take, sym, refl, ap, ◌∙◌, ap₂, arith}
use native.Mathlib.Nat.{sub-zero}
use Rattle.table.specs.Bytes.{part, total}
use Rattle.table.specs.FixedLayouts.{layout_of, header}
use Rattle.table.specs.Reads.{seat, whole_at, has_plain}
use Rattle.reader.proofs.AcceptedLaws.{laid}
use Rattle.reads_seats.proofs.ObjectLaws.{seat-room}
use Rattle.reads_seats.proofs.SeatLaws.{header-seated}
use Rattle.layout_images.proofs.Laws.{part-long}
use Rattle.reads_by_seat.specs.Driver.{driver_of}
use Rattle.reads_by_seat.proofs.SumLaws.{part-front, accepted-sum}
use Rattle.reads_by_seat.proofs.ObjectLaws.{place-start}
use Rattle.reads_by_seat.proofs.sums.driver_sum.Goals as goal

pub object_part-driver-requires : goal.object_part-driver-requires
unfolding layout_of header
object_part-driver-requires c = (c.requires, header-seated c.args.t.now c.requires, refl)

pub u32_at-size-requires : goal.u32_at-size-requires
u32_at-size-requires c =
    omega (arith, (laid c.args.t.now c.requires).lent)

pub reference_at-at-requires : goal.reference_at-at-requires
reference_at-at-requires c =
    omega (arith, (laid c.args.t.now c.requires).lent)

pub returns-then-at-len : goal.returns-then-at-len
returns-then-at-len c = c.sum8.ensures ∙ ap (λ (x : List ℕ). total x % 256) c.object_part-driver.ensures

pub returns-then-len-size : goal.returns-then-len-size
returns-then-len-size c = c.sum8-then-len-size.ensures ∙ ap (λ (x : List ℕ). total x % 256) c.object_part-driver.ensures

pub slice_bounds-sum_but-end : goal.slice_bounds-sum_but-end
slice_bounds-sum_but-end c = omega (arith, (laid c.args.t.now c.requires).sized, c.u32_at-size.ensures.0)

pub returns : goal.returns
returns c =
    let t = c.args.t.now in
    let ok = c.requires in
    let o = c.object_part-driver in
    let n = c.u32_at-size in
    let at = c.reference_at-at in
    let d = length o.result.now in
    let q = whole_at t 44 (seat (layout_of 0) 0 true) in
    let g : has_plain 44 (layout_of 0).refs ≡ true = unfold layout_of header in
    refl in let l : d ≡ q.len = ap length o.ensures ∙ part-long t q.at q.len
    (seat-room t ok 44 0 (seat (layout_of 0) 0 true) (refl, header-seated t ok)) in let some : q.len ≡ 0 → ⊥ = λ e.
    omega (arith, l, e, c.if-len-size.false) in let z : total (take (n.result - 0) t) % 256 ≡ 0 =
    ap (λ (m : ℕ). total (take m t) % 256) (sub-zero n.result ∙ n.ensures.0) ∙ accepted-sum t ok in let same : part
    (take (n.result - 0) t) at.result.at d ≡ driver_of t = ap (λ (m : ℕ). part (take m t) at.result.at d)
    (sub-zero n.result) ∙ part-front t n.result at.result.at d (omega (arith, c.if-at-len.false))
    (omega (arith, (laid t ok).sized, n.ensures.0)) ∙ ap₂ (part t)
    (ap (λ (r : Region). r.at) at.ensures.0 ∙ sym (place-start t (layout_of 0) 44 g some)) l in
    omega (arith, z, ap total same, c.sum_but-rest.ensures, c.wrapping_sub_u8.ensures)
