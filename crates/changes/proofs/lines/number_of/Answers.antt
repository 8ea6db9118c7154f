use Rattle.std.proofs.Common.{arith, ◌≡◌, ap, sym, ◌<◌}
use lib.Seq.{drop-length}
use Rattle.table.specs.Bytes.{val}
use Rattle.changes.proofs.LineLaws.{val-down, val-small}
use Rattle.changes.proofs.lines.number_of.Goals.{After-wide}
use Rattle.changes.proofs.lines.number_of.Goals as goal

pub loop-i-init : goal.loop-i-init
loop-i-init c = sym (ap val (drop-length c.args.x.now))

-- One of four bytes leaves room for the next step.
small : (c : After-wide) → c.loop-i.number < 4294967296
small c =
    let l = c.loop-i in
    omega (arith, l.invariant, val-small c.args.x.now l.i c.requires (λ j. omega (arith, c.type_inv.x j)))

pub overflow_mul-number : goal.overflow_mul-number
overflow_mul-number c = omega (arith, small (goal.at.overflow_mul-number c).After-wide)

pub overflow_add-number : goal.overflow_add-number
overflow_add-number c = omega (arith, small (goal.at.overflow_add-number c).After-wide)

pub loop-i-preserved : goal.loop-i-preserved
loop-i-preserved c =
    let l = c.loop-i in
    omega (arith, c.wide.ensures.0, l.invariant, val-down c.args.x.now l.i l.auto.i (omega (arith, c.loop-i-test.true)))

pub returns : goal.returns
returns c =
    let none : c.loop-i.i ≡ 0 = omega (arith, c.loop-i-test.false) in
    rw none at c.loop-i.invariant
