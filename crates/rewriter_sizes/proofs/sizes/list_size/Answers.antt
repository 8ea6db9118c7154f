use Rattle.rewriter_sizes.proofs.PartLaws.{size-more, size-done, list_all}
use Rattle.rewriter_sizes.specs.Parts.{list_of, list_from}
use Rattle.table.specs.Objects.{size_list}
use native.Mathlib.Nat.{zero-add}
use native.Mathlib.Omega.{arith}
use Prim.Native.Nat.{◌+◌, ◌-◌}
use mathlib.Core.Path.{◌≡◌, ap, ◌∙◌}
use Rattle.table.proofs.Rules.{picks}
use Rattle.rewriter_sizes.proofs.sizes.list_size.Goals as goal
use Rattle.rewriter_sizes.proofs.sizes.list_size.Goals.{After-entry_size-sum}

pub loop-position-init : goal.loop-position-init
loop-position-init c = let a = c.args in (zero-add _ ∙ ap size_list (list_all a.t.now a.kind c.count_of-count.result c.count_of-count.ensures.0), search picks, omega arith)

-- what is added up behind a turn
added : (c : After-entry_size-sum) → let a = c.args in
    c.loop-position.sum + c.entry_size-sum.result + size_list (list_from a.t.now a.kind c.count_of-count.result c.loop-position.position) ≡ size_list (list_of a.t.now a.kind)
added c =
    let a = c.args in
    let l = c.loop-position in
    omega (arith, l.invariant.0, size-more a.t.now a.kind l.position c.count_of-count.result (omega arith) (omega arith), c.entry_size-sum.ensures.0)

pub loop-position-preserved : goal.loop-position-preserved
loop-position-preserved c =
    let e : c.loop-position.position + 1 - 1 ≡ c.loop-position.position = omega arith in
    rw e (added (goal.at.loop-position-preserved c).After-entry_size-sum, omega (arith, c.loop-position.invariant.1, c.entry_size-sum.ensures.1), omega arith)

pub returns : goal.returns
returns c =
    let a = c.args in
    let l = c.loop-position in (
      omega (arith, l.invariant.0, size-done a.t.now a.kind (l.position - 1) c.count_of-count.result (omega arith)),
      omega (arith, l.invariant.1, l.invariant.2, c.count_of-count.ensures.1),
    )

pub returns-2 : goal.returns-2
returns-2 c =
    let a = c.args in
    let l = c.loop-position in (
      omega (arith, added (goal.at.returns-2 c).After-entry_size-sum, size-done a.t.now a.kind l.position c.count_of-count.result (omega arith)),
      omega (arith, l.invariant.1, c.entry_size-sum.ensures.1, c.count_of-count.ensures.1),
    )
