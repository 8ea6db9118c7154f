use mathlib.Core.Path.{sym, ap, ◌∙◌}
use mathlib.Core.List.{List, ◌++◌}
use native.Mathlib.Omega.{arith}
use lib.ListN.{take}
use Rattle.changes.specs.Changes.{Line, texts_of}
use Rattle.changes_records.specs.Told.{level_lines}
use Rattle.changes_records.proofs.HeldLaws.{info-alone, info-whole, then_lines}
use Rattle.changes_records.proofs.wholes.info_lines.Goals as goal

pub returns-then-info : goal.returns-then-info
returns-then-info c =
    let a = c.args in
    let h = c.held_lines-info.ensures in
    let g = c.held_lines-extended.ensures in
    let e = info-whole a.t.now a.u.now a.position (sym h.0 ∙ c.if-info.true) in
    let l7 = level_lines a.t.now a.u.now 7 a.position in
    let l10 = level_lines a.t.now a.u.now 10 a.position in (
      omega (arith, h.2, g.2),
      then_lines (take a.from a.out.now) l7 l10 h.3 g.3 ∙ ap (λ (ls : List Line). take a.from a.out.now ++ texts_of ls) (sym e),
      g.4 ∙ h.4,
    )

pub returns : goal.returns
returns c =
    let a = c.args in
    let h = c.held_lines-info.ensures in
    let e = info-alone a.t.now a.u.now a.position (sym h.0 ∙ c.if-info.false) in
    (omega (arith, h.2), h.3 ∙ ap (λ (ls : List Line). take a.from a.out.now ++ texts_of ls) (sym e), h.4)
