use mathlib.Core.Path.{refl, ap, ◌∙◌}
use native.Mathlib.Omega.{arith}
use lib.ListN.{length}
use Rattle.table.specs.declared.Found.{Found}
use Rattle.table.specs.Layout.{region}
use Rattle.laws.specs.IndexLaws.{after}
use Rattle.laws.specs.RefWalk.{stop, more}
use Rattle.reader_lists.proofs.Laws.{used-is, looks-wrong, looks-faulty, looks-names}
use borrow.Author.Rules.{rules}
use Rattle.reader_lists.proofs.used_fault.Goals as goal

pub returns-then-wrong-ne0 : goal.returns-then-wrong-ne0
returns-then-wrong-ne0 c =
    let a = c.args in
    let heap = region a.heap.from (length a.heap.bytes.now) in
    let used = used-is a.kind heap a.t.now a.a a.position in
    let wrong = c.right_fault-wrong.ensures in (
      stop _ wrong c.if-wrong-ne0.true ∙ used,
      looks-wrong a.kind heap a.t.now a.a a.position (rw wrong at c.if-wrong-ne0.true),
      search rules,
    )

pub returns-then-fault-ne0 : goal.returns-then-fault-ne0
returns-then-fault-ne0 c =
    let a = c.args in
    let heap = region a.heap.from (length a.heap.bytes.now) in
    let used = used-is a.kind heap a.t.now a.a a.position in
    let fault = c.refs_fault-fault.ensures in (
      more c.right_fault-wrong.ensures c.if-wrong-ne0.false (stop _ fault c.if-fault-ne0.true) ∙ used,
      looks-faulty a.kind heap a.t.now a.a a.position (rw fault at c.if-fault-ne0.true),
      search rules,
    )

pub returns : goal.returns
returns c =
    let a = c.args in
    let heap = region a.heap.from (length a.heap.bytes.now) in
    let used = used-is a.kind heap a.t.now a.a a.position in
    let wrong = c.right_fault-wrong.ensures in
    let fault = c.refs_fault-fault.ensures in
    let names = c.names_fault.ensures in
    let right = c.if-wrong-ne0.false in
    let named = c.if-fault-ne0.false in
    let found = c.behind.ensures in (
      ap (λ (f : Found). f.number) (found ∙ ap (after 1) names.0) ∙ more wrong right (more fault named refl) ∙ used,
      ap (λ (f : Found). f.looks) (found ∙ ap (after 1) names.0) ∙ looks-names a.kind heap a.t.now a.a a.position (rw wrong at right) (rw fault at named),
      omega (arith, ap (λ (f : Found). f.looks) found, names.1),
    )
