use mathlib.Core.Path.{◌≡◌, sym, ap, ◌∙◌}
use mathlib.Core.Bool.{Bool, ◌||◌}
use Prim.Native.Nat.{◌+◌, ◌-◌}
use native.Mathlib.Omega.{arith}
use Rattle.table.specs.Bytes.{pick}
use Rattle.table.specs.Objects.{newer_list}
use Rattle.table.specs.Meaning.{meaning, minor_of}
use Rattle.rewriter_sizes.specs.Parts.{list_from}
use Rattle.rewriter_sizes.proofs.MinorLaws.{newer-more, newer-done, minor-is}
use Rattle.rewriter_sizes.proofs.minor.form_minor.Goals.{After-count_of-count, After-is_newer}
use Rattle.rewriter_sizes.proofs.minor.form_minor.Goals as goal

-- the minor by the list
whole : (c : After-count_of-count) → let t = c.args.t.now in
    minor_of (meaning t) ≡ pick (newer_list (list_from t 3 c.count_of-count.result 0)) 1 0
whole c =
    minor-is c.args.t.now (λ i. omega (arith, c.type_inv.t i)) c.requires c.count_of-count.result c.count_of-count.ensures.0

-- by the HFI at a position and the list behind it, where none before asks for it
turn : (c : After-is_newer) → let t = c.args.t.now in let n = c.count_of-count.result in
    newer_list (list_from t 3 n 0) ≡ (c.is_newer.result || newer_list (list_from t 3 n c.loop-position.position))
turn c =
    let t = c.args.t.now in
    let n = c.count_of-count.result in
    let p = c.loop-position.position in
    sym c.loop-position.invariant ∙ newer-more t p n (omega arith) (omega arith) ∙ ap (λ (b : Bool). b || newer_list (list_from t 3 n p)) (sym c.is_newer.ensures)

pub returns-then-is_newer : goal.returns-then-is_newer
returns-then-is_newer c =
    let a = goal.at.returns-then-is_newer c in
    sym (whole a.After-count_of-count ∙ ap (λ (b : Bool). pick b 1 0) (rw c.if-is_newer.true at (turn a.After-is_newer)))

pub loop-position-preserved : goal.loop-position-preserved
loop-position-preserved c =
    let e : c.loop-position.position + 1 - 1 ≡ c.loop-position.position = omega arith in
    rw e (sym (rw c.if-is_newer.false at (turn (goal.at.loop-position-preserved c).After-is_newer)))

pub returns : goal.returns
returns c =
    let e = sym c.loop-position.invariant ∙ newer-done c.args.t.now (c.loop-position.position - 1) c.count_of-count.result (omega arith) in
    sym (whole (goal.at.returns c).After-count_of-count ∙ ap (λ (b : Bool). pick b 1 0) e)

pub returns-else-is_newer : goal.returns-else-is_newer
returns-else-is_newer c =
    let a = goal.at.returns-else-is_newer c in
    let e = (rw c.if-is_newer.false at (turn a.After-is_newer)) ∙ newer-done c.args.t.now c.loop-position.position c.count_of-count.result (omega arith) in
    sym (whole a.After-count_of-count ∙ ap (λ (b : Bool). pick b 1 0) e)
