use mathlib.Core.Path.{◌≡◌, sym, ap, ◌∙◌}
use Prim.Native.Nat.{ℕ, ◌+◌, ◌-◌, ◌<◌}
use native.Mathlib.Omega.{arith}
use lib.ListN.{length, drop}
use Rattle.show_table.proofs.Laws.{behind-step, behind-end}
use Rattle.show_table.specs.Names.{behind_bars}
use Rattle.show_table.proofs.names.start_of.Goals as goal

pub returns-then-bars-eq0 : goal.returns-then-bars-eq0
returns-then-bars-eq0 c =
    let l = c.loop-at in
    let names = c.args.names.now in
    let e : l.bars ≡ 0 = omega (arith, c.if-bars-eq0.true) in
    (omega (arith, c.loop-at-test.true), sym (ap (λ (m : ℕ). behind_bars m (drop l.at names)) e) ∙ l.invariant)

pub loop-at-preserved : goal.loop-at-preserved
loop-at-preserved c =
    let l = c.loop-at in
    let names = c.args.names.now in
    let some : 0 < l.bars = omega (arith, c.if-bars-eq0.false) in
    let inside : l.at < length names = omega (arith, c.loop-at-test.true) in
    ap (λ (b : ℕ). behind_bars (l.bars - b) (drop (l.at + 1) names)) c.bars_in-bars.ensures.0 ∙ sym (behind-step names l.at l.bars some inside) ∙ l.invariant

pub returns : goal.returns
returns c =
    let l = c.loop-at in
    let names = c.args.names.now in
    let e : length names ≡ l.at = omega arith in
    (omega arith, ap (λ (j : ℕ). drop j names) e ∙ sym (behind-end names l.at l.bars (omega arith) (omega arith)) ∙ l.invariant)
