use mathlib.Core.Path.{◌≡◌, sym, ap, ◌∙◌}
use mathlib.Core.List.{List, ◌++◌, append-nil}
use Prim.Native.Nat.{ℕ, ◌-◌}
use native.Mathlib.Omega.{arith}
use borrow.Author.Tests.{eq-eqb, ne_eqb}
use Rattle.show_table.proofs.Laws.{until-bar, until-step, until_end}
use lib.ListN.{length, take, drop}
use Rattle.show_table.specs.Names.{until_bar}
use Rattle.show_table.proofs.names.end_of.Goals as goal

pub loop-at-init : goal.loop-at-init
loop-at-init c =
    let names = c.args.names.now in
    let from = c.args.from in
    let e : from - from ≡ 0 = omega arith in
    ap (λ (i : ℕ). take i (drop from names) ++ until_bar (drop from names)) e

pub returns-then-names-at-eq124 : goal.returns-then-names-at-eq124
returns-then-names-at-eq124 c =
    let l = c.loop-at in
    let names = c.args.names.now in
    let from = c.args.from in
    let e = until-bar names l.at c.loop-at-test.true (eq-eqb _ _ c.if-names-at-eq124.true) in
    (omega arith, omega arith, sym (append-nil (take (l.at - from) (drop from names))) ∙ ap (λ (x : List ℕ). take (l.at - from) (drop from names) ++ x) (sym e) ∙ l.invariant)

pub loop-at-preserved : goal.loop-at-preserved
loop-at-preserved c =
    let l = c.loop-at in
    let names = c.args.names.now in
    let inside = c.loop-at-test.true in
    sym (until-step names l.at c.args.from (omega arith) inside (ne_eqb _ _ c.if-names-at-eq124.false)) ∙ l.invariant

pub returns : goal.returns
returns c =
    let l = c.loop-at in
    let names = c.args.names.now in
    let from = c.args.from in
    let here : length names ≡ l.at = omega arith in
    let e = until_end names l.at (omega arith) (omega arith) in (
      omega arith,
      omega arith,
      ap (λ (j : ℕ). take (j - from) (drop from names)) here
          ∙ sym (append-nil (take (l.at - from) (drop from names))) ∙ ap (λ (x : List ℕ). take (l.at - from) (drop from names) ++ x) (sym e) ∙ l.invariant,
    )
