use Rattle.reads_seats.proofs.LentLaws.{inside-heap, part-of-heap}
use Rattle.reader.proofs.AcceptedLaws.{laid}
use Rattle.table.specs.Numbers.{heap_in}
use Rattle.table.specs.Bytes.{part}
use Rattle.table.specs.declared.Region.{Region}
use Prim.Native.Nat.{ℕ, ◌-◌, ◌<◌}
use mathlib.Core.List.{List}
use mathlib.Core.Path.{ap, ◌∙◌}
use native.Mathlib.Omega.{arith}
use borrow.Author.Tests.{eq-eqb, ne_eqb}
use borrow.Author.Rules.{rules}
use Rattle.reads_seats.proofs.lent.heap_part.Goals as goal

pub returns-then-len-eq0 : goal.returns-then-len-eq0
returns-then-len-eq0 c = (
  search rules,
  c.part_of.ensures.1,
  rw (eq-eqb c.args.len 0 c.if-len-eq0.true) c.part_of.ensures.2,
)

pub region_at-region-requires : goal.region_at-region-requires
region_at-region-requires c =
    omega (arith, (laid c.args.t.now c.requires.0).lent)

pub heap_of-heap-requires : goal.heap_of-heap-requires
unfolding heap_in
heap_of-heap-requires c = let h = c.requires.1 (omega (arith, c.if-len-eq0.false)) in
    (c.requires.0, c.region_at-region.ensures.0, omega (arith, h, c.if-len-eq0.false, ap (λ (r : Region). r.len) c.region_at-region.ensures.0))

pub overflow_sub-at : goal.overflow_sub-at
overflow_sub-at c = let i = c.requires.1 (omega (arith, c.if-len-eq0.false)) in
    omega (arith, i, ap (λ (r : Region). r.at) c.region_at-region.ensures.0)

pub part_of-requires-2 : goal.part_of-requires-2
part_of-requires-2 c = let a = c.args in let h : 0 < a.len = omega (arith, c.if-len-eq0.false) in
    rw (c.heap_of-heap.ensures.0, c.region_at-region.ensures.0) (inside-heap a.t.now c.requires.0 a.at a.len h (c.requires.1 h))

pub returns : goal.returns
unfolding heap_in
returns c =
    let a = c.args in
    let t = a.t.now in
    let h : 0 < a.len = omega (arith, c.if-len-eq0.false) in
    let i = c.requires.1 h in (
      c.part_of-2.ensures.0
          ∙ ap (λ (x : List ℕ). part x (a.at - c.region_at-region.result.at) a.len) c.heap_of-heap.ensures.0
          ∙ ap (λ (r : Region). part (part t r.at r.len) (a.at - r.at) a.len)
          c.region_at-region.ensures.0
          ∙ part-of-heap t c.requires.0 a.at a.len h i,
      c.part_of-2.ensures.1 ∙ c.heap_of-heap.ensures.1,
      rw (ne_eqb a.len 0 c.if-len-eq0.false) (omega (
        arith,
        i,
        c.part_of-2.ensures.2,
        c.heap_of-heap.ensures.2,
        ap (λ (r : Region). r.at) c.region_at-region.ensures.0,
      )),
    )
