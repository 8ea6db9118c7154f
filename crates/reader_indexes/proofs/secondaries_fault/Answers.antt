use mathlib.Core.Path.{◌≡◌, ap, ◌∙◌}
use mathlib.Core.List.{[], ◌∷◌}
use Prim.Native.Nat.{ℕ}
use native.Mathlib.Omega.{arith}
use lib.ListN.{get_or}
use Rattle.table.specs.declared.Found.{Found}
use Rattle.table.specs.Layout.{index}
use Rattle.laws.specs.IndexLaws.{found_by}
use Rattle.laws.specs.ListWalk.{valid_in}
use Rattle.reader_indexes.proofs.Laws.{list-stop, list-more}
use Rattle.reader_indexes.proofs.secondaries_fault.Goals.{After-index_fault-named}
use Rattle.reader_indexes.proofs.secondaries_fault.Goals as goal

-- what was found of the byte at i
heard : (c : After-index_fault-named) →
    c.index_fault-named.result ≡ found_by (valid_in c.args.t.now) (index 3 (get_or c.args.x.now c.loop-i.i 0) ∷ [])
heard c =
    c.index_fault-named.ensures.0 ∙ ap (λ (n : ℕ). found_by (valid_in c.args.t.now) (index 3 n ∷ [])) c.from.ensures

pub returns-then-named-ne0 : goal.returns-then-named-ne0
returns-then-named-ne0 c =
    let x = c.args.x.now in
    let l = c.loop-i in
    let h = c.loop-i-test.true in
    let named = c.index_fault-named in (
      c.behind.ensures ∙ list-stop (valid_in c.args.t.now) x l.i named.result (heard (goal.at.returns-then-named-ne0 c).After-index_fault-named) h c.if-named-ne0.true ∙ l.invariant,
      omega (arith, ap (λ (f : Found). f.looks) c.behind.ensures, named.ensures.1, h),
    )

pub loop-i-preserved : goal.loop-i-preserved
loop-i-preserved c =
    let l = c.loop-i in
    list-more (valid_in c.args.t.now) c.args.x.now l.i c.index_fault-named.result (heard (goal.at.loop-i-preserved c).After-index_fault-named) c.loop-i-test.true c.if-named-ne0.false ∙ l.invariant
