use mathlib.Core.Path.{sym, ap₂, ◌∙◌}
use native.Mathlib.Omega.{arith}
use Rattle.changes_records.specs.Told.{longer}
use Rattle.changes_records.proofs.PlaceLaws.{longer-less, longer-more}
use Rattle.changes_records.proofs.places.most_of.Goals as goal

pub returns-then-one-other : goal.returns-then-one-other
returns-then-one-other c =
    let one = c.count_of-one.ensures in
    let other = c.count_of-other.ensures in
    (sym (longer-less _ _ c.if-one-other.true) ∙ ap₂ longer one.0 other.0, other.1)

pub returns : goal.returns
returns c =
    let one = c.count_of-one.ensures in
    let other = c.count_of-other.ensures in
    (sym (longer-more _ _ (omega (arith, c.if-one-other.false))) ∙ ap₂ longer one.0 other.0, one.1)
