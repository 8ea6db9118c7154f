use mathlib.Core.Path.{◌≡◌, refl, sym, ap, ap₂, ◌∙◌}
use mathlib.Core.Bool.{Bool, ◌&&◌}
use mathlib.Core.List.{List, [], ◌∷◌, ◌++◌, append-nil}
use Prim.Native.Nat.{ℕ}
use native.Mathlib.Omega.{arith}
use lib.ListN.{take}
use lib.Dec.{eqb}
use borrow.Author.Tests.{eqb-true}
use Rattle.table.specs.Bytes.{pick}
use Rattle.reads_seats.specs.Told.{image_of}
use Rattle.changes.specs.Changes.{Line, only_on, texts_of}
use Rattle.changes_records.specs.Told.{both_there, level_lines, own_lines}
use Rattle.changes_records.proofs.TextLaws.{line-text}
use Rattle.changes_records.proofs.wholes.held_lines.Goals.{After-is_there-other}
use Rattle.changes_records.proofs.wholes.held_lines.Goals as goal

module _ (w : After-is_there-other) where
  abbrev t : List ℕ
  t = w.args.t.now

  abbrev u : List ℕ
  u = w.args.u.now

  abbrev i : ℕ
  i = w.args.kind

  abbrev n : ℕ
  n = w.args.position

  one-is : {a : Bool} → w.is_there-one.result ≡ a → eqb (image_of t i n).answer.number 0 ≡ a
  one-is e = sym w.is_there-one.ensures ∙ e

  other-is : {b : Bool} → w.is_there-other.result ≡ b → eqb (image_of u i n).answer.number 0 ≡ b
  other-is e = sym w.is_there-other.ensures ∙ e

  both_is : {a b : Bool} → w.is_there-one.result ≡ a → w.is_there-other.result ≡ b → both_there t u i n ≡ (a && b)
  both_is e f = ap₂ ◌&&◌ (one-is e) (other-is f)

  level-is : {a b : Bool} → w.is_there-one.result ≡ a → w.is_there-other.result ≡ b
      → level_lines t u i n ≡ pick a (pick b (own_lines t u i n) (only_on i n 1 ∷ [])) (pick b (only_on i n 2 ∷ []) [])
  unfolding level_lines
  level-is e f = rw (one-is e, other-is f) refl

  -- the buffer with these bytes, and with these lines, behind what was there
  abbrev then : List ℕ → List ℕ
  then y = take w.args.from w.args.out.now ++ y

  abbrev behind : List Line → List ℕ
  behind ls = then (texts_of ls)

pub own_lines-requires : goal.own_lines-requires
own_lines-requires c =
    let w = (goal.at.own_lines-requires c).After-is_there-other in
    let p = c.requires in
    (p.0, p.1, p.2, omega (arith, p.3), eqb-true _ 0 (one-is w c.if-one.true), eqb-true _ 0 (other-is w c.if-other.true))

pub returns-then-other : goal.returns-then-other
returns-then-other c =
    let w = (goal.at.returns-then-other c).After-is_there-other in
    let own = c.own_lines.ensures in
    let e = c.if-one.true in
    let f = c.if-other.true in
    let l = c.level_of.ensures in (
      l.1 ∙ sym (both_is w e f),
      omega (arith, l.0, own.0),
      omega (arith, l.0, own.1),
      ap (λ (m : ℕ). take m c.own_lines.new.out) l.0 ∙ own.2 ∙ ap (behind w) (sym (level-is w e f)),
      own.3,
    )

pub returns-then-one : goal.returns-then-one
returns-then-one c =
    let w = (goal.at.returns-then-one c).After-is_there-other in
    let put = c.put_text.ensures in
    let e = c.if-one.true in
    let f = c.if-other.false in
    let l = c.level_of-then-one.ensures in
    let x = c.only_line.ensures ∙ sym (line-text _) in (
      l.1 ∙ sym (both_is w e f),
      omega (arith, l.0, put.0),
      omega (arith, l.0, put.1),
      ap (λ (m : ℕ). take m c.put_text.new.out) l.0 ∙ put.2 ∙ ap (then w) x ∙ ap (behind w) (sym (level-is w e f)),
      put.3,
    )

pub returns-then-other-2 : goal.returns-then-other-2
returns-then-other-2 c =
    let w = (goal.at.returns-then-other-2 c).After-is_there-other in
    let put = c.put_text-then-other-2.ensures in
    let e = c.if-one.false in
    let f = c.if-other-2.true in
    let l = c.level_of-then-other-2.ensures in
    let x = c.only_line-then-other-2.ensures ∙ sym (line-text _) in (
      l.1 ∙ sym (both_is w e f),
      omega (arith, l.0, put.0),
      omega (arith, l.0, put.1),
      ap (λ (m : ℕ). take m c.put_text-then-other-2.new.out) l.0 ∙ put.2 ∙ ap (then w) x ∙ ap (behind w) (sym (level-is w e f)),
      put.3,
    )

pub returns : goal.returns
returns c =
    let w = (goal.at.returns c).After-is_there-other in
    let e = c.if-one.false in
    let f = c.if-other-2.false in
    let l = c.level_of-2.ensures in (
      l.1 ∙ sym (both_is w e f),
      omega (arith, l.0),
      omega (arith, l.0),
      ap (λ (m : ℕ). take m c.args.out.now) l.0 ∙ sym (append-nil (take c.args.from c.args.out.now)) ∙ ap (behind w) (sym (level-is w e f)),
      refl,
    )
