use mathlib.Core.Path.{refl, sym, ap, ap₂, ◌∙◌}
use mathlib.Core.Bool.{Bool}
use mathlib.Core.List.{List}
use Prim.Native.Nat.{ℕ, ◌≤◌}
use native.Mathlib.Nat.{sub-zero}
use native.Mathlib.Omega.{arith}
use lib.ListN.{length, take}
use lib.Dec.{lit≤}
use borrow.Author.Tests.{eq-eqb, ne_eqb}
use Rattle.table.specs.Bytes.{pick}
use Rattle.table.specs.Numbers.{check}
use Rattle.table.specs.Builder.{sealed}
use Rattle.laws.specs.Fields.{num-part}
use Rattle.builder_state.proofs.Laws.{used-bounds, minor-bound}
use Rattle.builder_finish.proofs.EndLaws.{ends-from, sealed-is, all_back}
use Rattle.builder_finish.proofs.judge_finished.Goals.{After-slice_known-1}
use Rattle.builder_finish.proofs.judge_finished.Goals as goal

-- the buffer has all bytes of the shortest table
wide : (c : After-slice_known-1) → 160 ≤ length c.args.out.now
wide c = omega (arith, used-bounds c.args.state 7 c.requires.0, ends-from c.args.state, c.requires.1)

pub bounds-out-50 : goal.bounds-out-50
bounds-out-50 c =
    omega (arith, wide (goal.at.bounds-out-50 c).After-slice_known-1)

pub overflow_cast-state : goal.overflow_cast-state
overflow_cast-state c =
    omega (arith, minor-bound c.args.state 7 c.requires.0)

pub put_u8-requires : goal.put_u8-requires
put_u8-requires c =
    omega (arith, wide (goal.at.put_u8-requires c).After-slice_known-1)

pub slice_bounds-u32_at-end : goal.slice_bounds-u32_at-end
slice_bounds-u32_at-end c =
    omega (arith, wide (goal.at.slice_bounds-u32_at-end c).After-slice_known-1, c.put_u8.auto.part)

pub overflow_sub-used : goal.overflow_sub-used
overflow_sub-used c =
    omega (arith, used-bounds c.args.state 7 c.requires.0, c.records_end.ensures.0)

pub put_u32-requires : goal.put_u32-requires
put_u32-requires c =
    omega (arith, wide (goal.at.put_u32-requires c).After-slice_known-1, c.put_u8.auto.part)

pub slice_bounds-u32_at-end-2 : goal.slice_bounds-u32_at-end-2
slice_bounds-u32_at-end-2 c =
    omega (arith, wide (goal.at.slice_bounds-u32_at-end-2 c).After-slice_known-1, c.put_u8.auto.part, c.put_u32.auto.part)

pub put_u32-requires-2 : goal.put_u32-requires-2
put_u32-requires-2 c =
    omega (arith, wide (goal.at.put_u32-requires-2 c).After-slice_known-1, c.put_u8.auto.part, c.put_u32.auto.part)

pub bounds-out-9 : goal.bounds-out-9
bounds-out-9 c =
    omega (arith, wide (goal.at.bounds-out-9 c).After-slice_known-1, c.put_u8.auto.part, c.put_u32.auto.part, c.put_u32-2.auto.part)

pub put_u8-requires-2 : goal.put_u8-requires-2
put_u8-requires-2 c =
    omega (arith, wide (goal.at.put_u8-requires-2 c).After-slice_known-1, c.put_u8.auto.part, c.put_u32.auto.part, c.put_u32-2.auto.part)

pub seal-requires : goal.seal-requires
seal-requires c = (
  omega (arith, used-bounds c.args.state 7 c.requires.0, ends-from c.args.state),
  omega (
    arith,
    c.requires.1,
    c.put_u8.auto.part,
    c.put_u32.auto.part,
    c.put_u32-2.auto.part,
    c.put_u8-2.auto.part,
  ),
)

pub put_u8-requires-then-judged-ne0 : goal.put_u8-requires-then-judged-ne0
put_u8-requires-then-judged-ne0 c =
    omega (arith, wide (goal.at.put_u8-requires-then-judged-ne0 c).After-slice_known-1, c.put_u8.auto.part, c.put_u32.auto.part, c.put_u32-2.auto.part, c.put_u8-2.auto.part, c.seal.auto.out)

pub put_u32-requires-then-judged-ne0 : goal.put_u32-requires-then-judged-ne0
put_u32-requires-then-judged-ne0 c =
    omega (arith, wide (goal.at.put_u32-requires-then-judged-ne0 c).After-slice_known-1, c.put_u8.auto.part, c.put_u32.auto.part, c.put_u32-2.auto.part, c.put_u8-2.auto.part, c.seal.auto.out, c.put_u8-then-judged-ne0.auto.part)

pub put_u32-requires-then-judged-ne0-2 : goal.put_u32-requires-then-judged-ne0-2
put_u32-requires-then-judged-ne0-2 c =
    omega (arith, wide (goal.at.put_u32-requires-then-judged-ne0-2 c).After-slice_known-1, c.put_u8.auto.part, c.put_u32.auto.part, c.put_u32-2.auto.part, c.put_u8-2.auto.part, c.seal.auto.out, c.put_u8-then-judged-ne0.auto.part, c.put_u32-then-judged-ne0.auto.part)

pub put_u8-requires-then-judged-ne0-2 : goal.put_u8-requires-then-judged-ne0-2
put_u8-requires-then-judged-ne0-2 c =
    omega (
      arith,
      wide (goal.at.put_u8-requires-then-judged-ne0-2 c).After-slice_known-1,
      c.put_u8.auto.part,
      c.put_u32.auto.part,
      c.put_u32-2.auto.part,
      c.put_u8-2.auto.part,
      c.seal.auto.out,
      c.put_u8-then-judged-ne0.auto.part,
      c.put_u32-then-judged-ne0.auto.part,
      c.put_u32-then-judged-ne0-2.auto.part,
    )

pub shape_of-out-then-judged-ne0 : goal.shape_of-out-then-judged-ne0
shape_of-out-then-judged-ne0 c =
    c.put_u8-then-judged-ne0-2.auto.part
    ∙ c.put_u32-then-judged-ne0-2.auto.part
    ∙ c.put_u32-then-judged-ne0.auto.part
    ∙ c.put_u8-then-judged-ne0.auto.part
    ∙ c.seal.auto.out
    ∙ c.put_u8-2.auto.part
    ∙ c.put_u32-2.auto.part
    ∙ c.put_u32.auto.part
    ∙ c.put_u8.auto.part

pub returns-then-judged-ne0 : goal.returns-then-judged-ne0
returns-then-judged-ne0 c =
    let a = c.args in
    let b = a.out.now in (
      c.check-judged.ensures
          ∙ ap₂ (λ (n : ℕ) (x : List ℕ). check (take n x)) (sub-zero a.state.used) (sealed-is a.state b
          c.put_u8.new.part c.put_u32.new.part c.put_u32-2.new.part c.put_u8-2.new.part
          c.seal.new.out c.records_end.result c.records_end.ensures.0 c.put_u8.ensures
          c.put_u32.ensures c.put_u32-2.ensures c.put_u8-2.ensures c.seal.ensures),
      all_back a.state b c.put_u8.new.part c.put_u32.new.part c.put_u32-2.new.part
          c.put_u8-2.new.part c.seal.new.out c.records_end.result c.records_end.ensures.0
          c.put_u8.ensures c.put_u32.ensures c.put_u32-2.ensures c.put_u8-2.ensures
          c.seal.ensures (wide (goal.at.returns-then-judged-ne0 c).After-slice_known-1) (λ i. omega (arith, c.slice_known-3-1.given i))
          (λ i. omega (arith, c.slice_known-4-1.given i)) c.put_u8-then-judged-ne0.new.part c.put_u32-then-judged-ne0.new.part
          c.put_u32-then-judged-ne0-2.new.part c.put_u8-then-judged-ne0-2.new.part _ c.u32_at-length.result c.u32_at-heap.result _ refl
          (c.u32_at-length.ensures.0 ∙ num-part c.put_u32.new.part 0 160 4 4 (lit≤ tt))
          (c.u32_at-heap.ensures.0 ∙ num-part c.put_u8.new.part 0 160 40 4 (lit≤ tt)) refl
          c.put_u8-then-judged-ne0.ensures c.put_u32-then-judged-ne0.ensures c.put_u32-then-judged-ne0-2.ensures c.put_u8-then-judged-ne0-2.ensures
          ∙ sym (ap (λ (c : Bool). pick c (sealed a.state b) b)
          (ne_eqb c.check-judged.result.number 0 c.if-judged-ne0.true)),
    )

pub shape_of-out-else-judged-ne0 : goal.shape_of-out-else-judged-ne0
shape_of-out-else-judged-ne0 c =
    c.seal.auto.out
    ∙ c.put_u8-2.auto.part
    ∙ c.put_u32-2.auto.part
    ∙ c.put_u32.auto.part
    ∙ c.put_u8.auto.part

pub returns-else-judged-ne0 : goal.returns-else-judged-ne0
returns-else-judged-ne0 c =
    let a = c.args in
    let b = a.out.now in
    let e = sealed-is a.state b c.put_u8.new.part c.put_u32.new.part c.put_u32-2.new.part c.put_u8-2.new.part c.seal.new.out
    c.records_end.result c.records_end.ensures.0 c.put_u8.ensures c.put_u32.ensures c.put_u32-2.ensures
    c.put_u8-2.ensures c.seal.ensures in (
      c.check-judged.ensures ∙ ap₂ (λ (n : ℕ) (x : List ℕ). check (take n x)) (sub-zero a.state.used) e,
      e ∙ sym (ap (λ (c : Bool). pick c (sealed a.state b) b) (eq-eqb c.check-judged.result.number 0 c.if-judged-ne0.false)),
    )
