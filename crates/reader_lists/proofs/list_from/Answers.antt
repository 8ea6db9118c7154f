use mathlib.Core.Path.{sym, ap, ◌∙◌}
use Prim.Native.Nat.{ℕ, ◌+◌}
use native.Mathlib.Nat.{zero-mul, zero-add, add-zero, sub-zero}
use native.Mathlib.Omega.{arith}
use lib.ListN.{length}
use Rattle.table.specs.Layout.{region}
use Rattle.reader_indexes.proofs.Laws.{stride}
use Rattle.reader_lists.proofs.Laws.{turn-stop, turn_more, turn-none, took-stop, took_more, took-none, next_start}
use Rattle.table.proofs.Rules.{picks}
use Rattle.reader_lists.proofs.list_from.Goals.{After-record_fault-found}
use Rattle.reader_lists.proofs.list_from.Goals as goal

pub loop-i-init : goal.loop-i-init
loop-i-init c = (simp (zero-mul, add-zero), rw sub-zero, rw sub-zero (simp zero-add), search picks)

pub record_fault-found-requires : goal.record_fault-found-requires
record_fault-found-requires c =
    let a = c.args in
    let h = c.loop-i-test.true in
    let i = c.loop-i.i in
    let q = stride i a.count a.step h in
    let w = c.requires.step_in_bounds.0 (omega arith) in
    let b = c.requires.step_in_bounds.1 (omega arith) in
    (c.requires.laid_out.0, c.requires.laid_out.1, c.requires.laid_out.2, omega arith, c.requires.laid_out.3)

pub overflow_add-looks : goal.overflow_add-looks
overflow_add-looks c =
    let l = c.loop-i in
    omega (arith, c.record_fault-found.ensures.2, l.invariant.3, c.loop-i-test.true, c.requires.step_in_bounds.2)

pub returns-then-found-ne0 : goal.returns-then-found-ne0
returns-then-found-ne0 c =
    let a = c.args in
    let heap = region a.heap.from (length a.heap.bytes.now) in
    let h = c.loop-i-test.true in
    let e = c.record_fault-found.ensures in
    let stopped = turn-stop a.kind heap a.t.now a.step c.loop-i.base c.loop-i.i a.count c.requires.laid_out.1 c.requires.laid_out.2 h e.0 c.if-found-ne0.true in
    let took = took-stop a.kind heap a.t.now a.step c.loop-i.base c.loop-i.i a.count h e.0 c.if-found-ne0.true in (
      c.refuse.ensures ∙ sym stopped ∙ c.loop-i.invariant.1,
      ap (λ (n : ℕ). c.loop-i.looks + n) (e.1 ∙ sym took) ∙ c.loop-i.invariant.2,
      omega (arith, c.record_fault-found.ensures.2, c.loop-i.invariant.3, h, c.requires.step_in_bounds.2),
    )

pub overflow_add-base : goal.overflow_add-base
overflow_add-base c =
    let a = c.args in
    let h = c.loop-i-test.true in
    let i = c.loop-i.i in
    let q = stride i a.count a.step h in
    let w = c.requires.step_in_bounds.0 (omega arith) in
    omega arith

pub loop-i-preserved : goal.loop-i-preserved
loop-i-preserved c =
    let a = c.args in
    let heap = region a.heap.from (length a.heap.bytes.now) in
    let h = c.loop-i-test.true in
    let e = c.record_fault-found.ensures in
    let more = turn_more a.kind heap a.t.now a.step c.loop-i.base c.loop-i.i a.count h e.0 c.if-found-ne0.false in
    let took = took_more a.kind heap a.t.now a.step c.loop-i.base c.loop-i.i a.count h e.0 c.if-found-ne0.false in (
      omega (arith, next_start a.at c.loop-i.i a.step),
      more ∙ c.loop-i.invariant.1,
      omega (arith, e.1, took, c.loop-i.invariant.2),
      omega (arith, c.record_fault-found.ensures.2, c.loop-i.invariant.3),
    )

pub returns : goal.returns
returns c =
    let a = c.args in
    let l = c.loop-i in
    let heap = region a.heap.from (length a.heap.bytes.now) in
    let left = c.loop-i-test.false in (
      c.done.ensures ∙ sym (sym l.invariant.1 ∙ turn-none a.kind heap a.t.now a.step l.base l.i a.count left),
      omega (arith, took-none a.kind heap a.t.now a.step l.base l.i a.count left, l.invariant.2),
      omega (arith, l.invariant.3, l.auto.i-end, c.requires.step_in_bounds.2),
    )
