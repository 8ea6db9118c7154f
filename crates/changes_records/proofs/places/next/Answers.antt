use mathlib.Core.Path.{sym, ap, ◌∙◌}
use native.Mathlib.Omega.{arith}
use Rattle.changes_records.specs.declared.places.Walk.{Walk}
use Rattle.changes_records.specs.Walk.{left}
use Rattle.changes_records.proofs.PlaceLaws.{next-front, next-over, next-some}
use Rattle.changes_records.proofs.places.next.Goals as goal

pub returns-then-w-lt3 : goal.returns-then-w-lt3
unfolding left
returns-then-w-lt3 c =
    let r = c.walk_of.ensures in
    let h = c.if-w-lt3.true in
    let l = ap (λ (w : Walk). w.list) r in
    let n = ap (λ (w : Walk). w.position) r in
    (r ∙ sym (next-front c.args.t.now c.args.u.now c.args.w h), omega (arith, l, h), omega (arith, n), omega (arith, l, n, h, c.requires.3))

pub returns-then-w-most_of : goal.returns-then-w-most_of
unfolding left
returns-then-w-most_of c =
    let m = c.most_of.ensures.0 in
    let h = c.if-w-most_of.true in
    let q = c.most_of.ensures.1 in
    let r = c.walk_of-then-w-most_of.ensures in
    let l = ap (λ (w : Walk). w.list) r in
    let n = ap (λ (w : Walk). w.position) r in (
      r ∙ sym (next-some c.args.t.now c.args.u.now c.args.w (omega (arith, c.if-w-lt3.false)) (omega (arith, h, m))),
      omega (arith, l, c.requires.2),
      omega (arith, n, h, q),
      omega (arith, l, n, c.requires.3),
    )

pub returns : goal.returns
unfolding left
returns c =
    let m = c.most_of.ensures.0 in
    let h = c.if-w-most_of.false in
    let r = c.walk_of-2.ensures in
    let l = ap (λ (w : Walk). w.list) r in
    let n = ap (λ (w : Walk). w.position) r in (
      r ∙ sym (next-over c.args.t.now c.args.u.now c.args.w (omega (arith, c.if-w-lt3.false)) (omega (arith, h, m))),
      omega (arith, l, c.requires.2),
      omega (arith, n),
      omega (arith, l, n, c.requires.2, c.requires.3),
    )
