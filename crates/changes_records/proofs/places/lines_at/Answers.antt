use mathlib.Core.Path.{sym, ap, ◌∙◌}
use native.Mathlib.Omega.{arith}
use Rattle.changes.specs.Changes.{texts_of}
use Rattle.changes_records.proofs.PlaceLaws.{at-counts, at-header, at-host, there-front}
use Rattle.changes_records.proofs.places.lines_at.Goals as goal

pub own_lines-requires : goal.own_lines-requires
own_lines-requires c =
    let p = c.requires in
    (p.0, p.1, omega arith, omega (arith, p.3), (there-front c.args.t.now).1, (there-front c.args.u.now).1)

pub whole_lines-requires : goal.whole_lines-requires
whole_lines-requires c =
    let p = c.requires in
    (p.0, p.1, omega arith, omega arith, omega (arith, p.3), (there-front c.args.t.now).0, (there-front c.args.u.now).0)

pub pair_lines-requires : goal.pair_lines-requires
pair_lines-requires c =
    let p = c.requires in
    (p.0, p.1, omega arith, omega arith, omega (arith, p.3), (there-front c.args.t.now).2, (there-front c.args.u.now).2)

pub returns-in-0 : goal.returns-in-0
returns-in-0 c =
    let a = c.args in
    let g = c.own_lines.ensures in
    (omega (arith, g.1), g.2 ∙ ap texts_of (sym (at-counts a.t.now a.u.now a.w c.in-0.is)), g.3)

pub returns-in-1 : goal.returns-in-1
returns-in-1 c =
    let a = c.args in
    let g = c.whole_lines.ensures in
    (g.0, g.1 ∙ ap texts_of (sym (at-header a.t.now a.u.now a.w c.in-1.is)), g.2)

pub returns-in-2 : goal.returns-in-2
returns-in-2 c =
    let a = c.args in
    let g = c.pair_lines.ensures in
    (g.0, g.1 ∙ ap texts_of (sym (at-host a.t.now a.u.now a.w c.in-2.is)), g.2)
