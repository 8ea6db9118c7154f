use native.Mathlib.Omega.{arith}
use Rattle.changes.proofs.LineLaws.{differ-end, differ-here, differ-on, differ-other-end}
use Rattle.changes.proofs.lines.differ_at.Goals as goal

pub returns-then-at-other : goal.returns-then-at-other
returns-then-at-other c =
    let a = c.args in
    omega (arith, differ-other-end a.one.now a.other.now c.loop-at.at (omega (arith, c.if-at-other.true)))

pub returns-then-one-at : goal.returns-then-one-at
returns-then-one-at c =
    let l = c.loop-at in
    let a = c.args in
    omega (
      arith,
      differ-here a.one.now a.other.now l.at c.loop-at-test.true l.invariant.0 c.if-at-other.false c.if-one-at.true,
    )

pub loop-at-preserved : goal.loop-at-preserved
loop-at-preserved c =
    let l = c.loop-at in
    let a = c.args in
    omega (
      arith,
      differ-on a.one.now a.other.now l.at c.loop-at-test.true l.invariant.0 c.if-at-other.false c.if-one-at.false,
    )

pub returns : goal.returns
returns c =
    let a = c.args in
    omega (arith, differ-end a.one.now a.other.now c.loop-at.at (omega (arith, c.loop-at-test.false)))
