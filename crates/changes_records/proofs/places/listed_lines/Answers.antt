use mathlib.Core.Path.{refl, sym, ap, ◌∙◌}
use native.Mathlib.Omega.{arith}
use Rattle.changes.specs.Changes.{texts_of}
use Rattle.changes_records.proofs.PlaceLaws.{listed-none, listed-some}
use Rattle.changes_records.proofs.places.listed_lines.Goals as goal

pub returns-then-w-most_of : goal.returns-then-w-most_of
returns-then-w-most_of c =
    let a = c.args in
    let g = c.position_lines.ensures in
    let h = c.if-w-most_of.true in
    let e = listed-some a.t.now a.u.now a.w c.requires.2 (omega (arith, h, c.most_of.ensures.0)) in
    (g.0, g.1 ∙ ap texts_of (sym e), g.2)

pub returns : goal.returns
returns c =
    let a = c.args in
    let e = listed-none a.t.now a.u.now a.w c.requires.2 (omega (arith, c.if-w-most_of.false, c.most_of.ensures.0)) in
    (omega arith, ap texts_of (sym e), refl)
