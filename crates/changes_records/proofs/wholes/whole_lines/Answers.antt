use mathlib.Core.Path.{◌≡◌, sym, ap, ◌∙◌}
use mathlib.Core.List.{List, [], ◌++◌}
use Prim.Native.Nat.{ℕ}
use native.Mathlib.Omega.{arith}
use Rattle.changes.specs.Changes.{Line, texts_of}
use Rattle.reads_seats.specs.Told.{depth}
use Rattle.changes_records.specs.Told.{held_lines, level_lines, own_lines}
use Rattle.changes_records.proofs.HeldLaws.{held-once, then_lines, whole-deep, whole-flat}
use Rattle.changes_records.proofs.wholes.whole_lines.Goals as goal

pub returns-then-kind-eq-ID : goal.returns-then-kind-eq-ID
returns-then-kind-eq-ID c =
    let a = c.args in
    let own = c.own_lines-at.ensures in
    let g = c.info_lines.ensures in
    let k : a.kind ≡ 3 = c.if-kind-eq-ID.true in
    let o = own_lines a.t.now a.u.now a.kind a.position in
    let h = held_lines a.t.now a.u.now 2 3 a.position in
    let e = whole-deep a.t.now a.u.now a.kind 2 a.position (ap depth k) in (
      omega (arith, own.1, g.0),
      then_lines [] o h own.2 g.1
          ∙ ap (λ (j : ℕ). texts_of (o ++ held_lines a.t.now a.u.now 2 j a.position)) (sym k)
          ∙ ap texts_of (sym e),
      g.2 ∙ own.3,
    )

pub returns-then-kind-eq-ID-2 : goal.returns-then-kind-eq-ID-2
returns-then-kind-eq-ID-2 c =
    let a = c.args in
    let own = c.own_lines-at.ensures in
    let g = c.held_lines-extended.ensures in
    let k : a.kind ≡ 4 = c.if-kind-eq-ID-2.true in
    let o = own_lines a.t.now a.u.now a.kind a.position in
    let l = level_lines a.t.now a.u.now 9 a.position in
    let e = whole-deep a.t.now a.u.now a.kind 1 a.position (ap depth k) in (
      omega (arith, own.1, g.2),
      then_lines [] o l own.2 g.3
          ∙ ap (λ (ls : List Line). texts_of (o ++ ls)) (sym (held-once a.t.now a.u.now 4 a.position))
          ∙ ap (λ (j : ℕ). texts_of (o ++ held_lines a.t.now a.u.now 1 j a.position)) (sym k)
          ∙ ap texts_of (sym e),
      g.4 ∙ own.3,
    )

pub returns : goal.returns
returns c =
    let a = c.args in
    let own = c.own_lines-at.ensures in
    let e = whole-flat a.t.now a.u.now a.kind a.position c.requires.2 c.if-kind-eq-ID.false c.if-kind-eq-ID-2.false in
    (omega (arith, own.1), own.2 ∙ ap texts_of (sym e), own.3)
