use mathlib.Core.Path.{sym, ap, ◌∙◌}
use native.Mathlib.Omega.{arith}
use Rattle.laws.specs.Fields.{Bytes}
use Rattle.changes.specs.Changes.{texts_of}
use Rattle.changes_records.proofs.TextLaws.{line-text}
use Rattle.changes_records.proofs.PlaceLaws.{position-both, position-one, position-other, there-listed}
use Rattle.changes_records.proofs.places.position_lines.Goals as goal

pub pair_lines-requires : goal.pair_lines-requires
pair_lines-requires c =
    let a = c.args in
    let p = c.requires in
    let bt : Bytes a.t.now = λ i. omega (arith, c.type_inv.t i) in
    let bu : Bytes a.u.now = λ i. omega (arith, c.type_inv.u i) in
    let x = c.count_of.ensures.0 in
    let y = c.count_of-then-position-count_of.ensures.0 in
    let one = there-listed a.t.now bt p.0 a.kind a.position p.2 p.3 p.4 (omega (arith, x, c.if-position-count_of.true)) in
    let other = there-listed a.u.now bu p.1 a.kind a.position p.2 p.3 p.4 (omega (arith, y, c.if-position-count_of-2.true)) in
    (p.0, p.1, p.3, omega (arith, p.5), omega (arith, p.6), one, other)

pub returns-then-position-count_of-2 : goal.returns-then-position-count_of-2
returns-then-position-count_of-2 c =
    let a = c.args in
    let g = c.pair_lines.ensures in
    let x = c.count_of.ensures.0 in
    let y = c.count_of-then-position-count_of.ensures.0 in
    let e = position-both a.t.now a.u.now a.kind a.position (omega (arith, x, c.if-position-count_of.true)) (omega (arith, y, c.if-position-count_of-2.true)) in
    (g.0, g.1 ∙ ap texts_of (sym e), g.2)

pub returns-then-position-count_of : goal.returns-then-position-count_of
returns-then-position-count_of c =
    let a = c.args in
    let put = c.put_text.ensures in
    let x = c.count_of.ensures.0 in
    let y = c.count_of-then-position-count_of.ensures.0 in
    let e = position-one a.t.now a.u.now a.kind a.position (omega (arith, x, c.if-position-count_of.true)) (omega (arith, y, c.if-position-count_of-2.false)) in
    (omega (arith, put.1), put.2 ∙ c.only_line.ensures ∙ sym (line-text _) ∙ ap texts_of (sym e), put.3)

pub returns : goal.returns
returns c =
    let a = c.args in
    let put = c.put_text-2.ensures in
    let x = c.count_of.ensures.0 in
    let e = position-other a.t.now a.u.now a.kind a.position (omega (arith, x, c.if-position-count_of.false)) in
    (omega (arith, put.1), put.2 ∙ c.only_line-2.ensures ∙ sym (line-text _) ∙ ap texts_of (sym e), put.3)
