use mathlib.Core.Path.{◌≡◌, refl, ◌∙◌}
use lib.Dec.{lit≤}
use native.Mathlib.Omega.{arith}
use lib.ListN.{get_or-eq_default}
use Rattle.show_table.specs.Shown.{Line, lines, line_at, no_line}
use Rattle.show_table.proofs.Laws.{names-right}
use Rattle.show_table.proofs.names.title_at.Goals as goal

pub returns-then-i-ge100 : goal.returns-then-i-ge100
unfolding lines
returns-then-i-ge100 c =
    let e : line_at c.args.i ≡ no_line = get_or-eq_default lines no_line c.if-i-ge100.true in
    rw (c.new.ensures, e) (lit≤ tt, refl)

pub name_at-requires : goal.name_at-requires
unfolding lines
name_at-requires c = (names-right (λ (l : Line). l.title) _ lines tt c.args.i (omega (arith, c.if-i-ge100.false))).1

pub returns : goal.returns
unfolding lines
returns c =
    let right = names-right (λ (l : Line). l.title) _ lines tt c.args.i (omega (arith, c.if-i-ge100.false)) in
    (rw c.name_at.ensures right.1, c.name_at.ensures ∙ right.0)
