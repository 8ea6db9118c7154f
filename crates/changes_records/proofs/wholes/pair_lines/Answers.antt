use mathlib.Core.Path.{◌≡◌, refl, sym, ap, ◌∙◌}
use mathlib.Core.Bool.{Bool}
use mathlib.Core.List.{List, [], ◌∷◌}
use Prim.Native.Nat.{ℕ}
use native.Mathlib.Omega.{arith}
use Rattle.table.specs.declared.Image.{Image}
use Rattle.table.specs.Bytes.{pick}
use Rattle.reads_seats.specs.Told.{image_of}
use Rattle.changes.specs.Changes.{texts_of, used_on}
use Rattle.changes_records.specs.Told.{pair_lines, whole_lines}
use Rattle.changes_records.proofs.TextLaws.{line-text}
use Rattle.changes_records.proofs.wholes.pair_lines.Goals.{After-record_in-y}
use Rattle.changes_records.proofs.wholes.pair_lines.Goals as goal

module _ (w : After-record_in-y) where
  abbrev t : List ℕ
  t = w.args.t.now

  abbrev u : List ℕ
  u = w.args.u.now

  abbrev k : ℕ
  k = w.args.kind

  abbrev n : ℕ
  n = w.args.position

  pair_is : {a b : Bool} → w.record_in-x.result.used ≡ a → w.record_in-y.result.used ≡ b
      → pair_lines t u k n ≡ pick a (pick b (whole_lines t u k n) (used_on k n 1 ∷ [])) (pick b (used_on k n 2 ∷ []) [])
  unfolding pair_lines image_of
  pair_is e f =
      let x = sym (ap (λ (i : Image). i.used) w.record_in-x.ensures) ∙ e in
      let y = sym (ap (λ (i : Image). i.used) w.record_in-y.ensures) ∙ f in
      rw (x, y) refl

pub returns-then-y : goal.returns-then-y
returns-then-y c =
    let g = c.whole_lines.ensures in
    (g.0, g.1 ∙ ap texts_of (sym (pair_is (goal.at.returns-then-y c).After-record_in-y c.if-x.true c.if-y.true)), g.2)

pub returns-then-x : goal.returns-then-x
returns-then-x c =
    let put = c.put_text.ensures in
    let x = c.used_line.ensures ∙ sym (line-text _) in
    (omega (arith, put.1), put.2 ∙ x ∙ ap texts_of (sym (pair_is (goal.at.returns-then-x c).After-record_in-y c.if-x.true c.if-y.false)), put.3)

pub returns-then-y-2 : goal.returns-then-y-2
returns-then-y-2 c =
    let put = c.put_text-then-y-2.ensures in
    let x = c.used_line-then-y-2.ensures ∙ sym (line-text _) in
    (omega (arith, put.1), put.2 ∙ x ∙ ap texts_of (sym (pair_is (goal.at.returns-then-y-2 c).After-record_in-y c.if-x.false c.if-y-2.true)), put.3)

pub returns : goal.returns
returns c =
    (omega arith, ap texts_of (sym (pair_is (goal.at.returns c).After-record_in-y c.if-x.false c.if-y-2.false)), refl)
