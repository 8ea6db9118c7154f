use Rattle.reads_seats.proofs.Laws.{list-none, list-past, list-there}
use Rattle.reader.proofs.AcceptedLaws.{record-in}
use Rattle.layout_images.proofs.Laws.{image-own, part-long}
use Rattle.laws.specs.Fields.{image_in}
use Rattle.table.specs.Reads.{seat}
use Rattle.table.specs.FixedLayouts.{layout_of}
use Rattle.table.specs.Layout.{base_of, is_valid}
use Rattle.table.specs.Bytes.{num, part}
use lib.ListN.{length}
use Prim.Native.Nat.{ℕ, ◌+◌, ◌-◌, ◌*◌, ◌≤◌}
use mathlib.Core.List.{List}
use mathlib.Core.Path.{◌≡◌, sym, ap, ap₂, ◌∙◌}
use native.Mathlib.Omega.{arith}
use borrow.Author.Rules.{rules}
use Rattle.reads_seats.proofs.seats.list_seat.Goals.{After-u16_at-step}
use Rattle.reads_seats.proofs.seats.list_seat.Goals as goal

-- the record lies in the table
inside : (c : After-u16_at-step) → let a = c.args in num a.t.now a.list 4 + (a.position - 1) * c.u16_at-step.result + base_of (layout_of
    a.kind) ≤ length a.t.now
inside c = let a = c.args in
    rw (← c.u16_at-step.ensures.0) at (record-in a.t.now a.list (base_of (layout_of a.kind)) (a.position - 1) c.requires.3 (omega
    (arith, c.wide.ensures.0, c.if-wide-position.false)))

pub returns-then-position-eq0 : goal.returns-then-position-eq0
returns-then-position-eq0 c = let a = c.args in (sym (list-none a.kind a.t.now a.list a.position c.if-position-eq0.true), search rules)

pub returns-then-wide-position : goal.returns-then-wide-position
returns-then-wide-position c =
    let a = c.args in (
      sym (list-past a.kind a.t.now a.list a.position (rw c.wide.ensures.0 at c.if-wide-position.true)),
      search rules,
    )

pub overflow_mul-distance : goal.overflow_mul-distance
overflow_mul-distance c = omega (arith, inside (goal.at.overflow_mul-distance c).After-u16_at-step)

pub overflow_add-at : goal.overflow_add-at
overflow_add-at c = omega (arith, inside (goal.at.overflow_add-at c).After-u16_at-step, c.u32_at.ensures.0)

pub part_of-requires : goal.part_of-requires
part_of-requires c = omega (arith, inside (goal.at.part_of-requires c).After-u16_at-step, c.u32_at.ensures.0, c.base_size-base.ensures)

pub is_used-used-requires : goal.is_used-used-requires
is_used-used-requires c =
    let a = c.args in
    let n = c.base_size-base in
    let at = c.u32_at.result + (a.position - 1) * c.u16_at-step.result in
    let l = part-long a.t.now at n.result
    (omega (arith, inside (goal.at.is_used-used-requires c).After-u16_at-step, c.u32_at.ensures.0, n.ensures)) in
    (c.requires.0, c.requires.1, omega (arith, ap length c.part_of.ensures.0, l, n.ensures))

pub returns : goal.returns
returns c =
    let a = c.args in
    let t = a.t.now in
    let l = layout_of a.kind in
    let start = num t a.list 4 + (a.position - 1) * num t (a.list + 4) 2 in
    let e : c.u32_at.result + (a.position - 1) * c.u16_at-step.result ≡ start = ap₂
    (λ (x y : ℕ). x + (a.position - 1) * y) c.u32_at.ensures.0 c.u16_at-step.ensures.0 in
    let f : c.is_used-used.result ≡ is_valid l.shape (image_in l t start) = c.is_used-used.ensures ∙ ap
    (λ (x : List ℕ). is_valid l.shape (image_in l x 0))
    (c.part_of.ensures.0 ∙ ap₂ (part t) e c.base_size-base.ensures) ∙ ap
    (is_valid l.shape) (image-own a.kind t start) in (
      ap₂ (seat l) e f
          ∙ sym (list-there a.kind t a.list a.position (omega (arith, c.if-position-eq0.false))
          (omega (arith, c.wide.ensures.0, c.if-wide-position.false))),
      omega (arith, inside (goal.at.returns c).After-u16_at-step, c.u32_at.ensures.0),
    )
