use mathlib.Core.Path.{◌≡◌, sym, ap}
use lib.ListN.{get_or-eq_default}
use Rattle.show_table.specs.Shown.{Line, lines, line_at, no_line}
use Rattle.show_table.proofs.Laws.{row-of}
use Rattle.show_table.proofs.row_at.Goals as goal

pub returns-then-i-ge100 : goal.returns-then-i-ge100
unfolding lines
returns-then-i-ge100 c =
    let e : line_at c.args.i ≡ no_line = get_or-eq_default lines no_line c.if-i-ge100.true in
    sym (ap (λ (l : Line). l.row) e)

pub returns : goal.returns
unfolding lines
returns c = row-of lines c.args.i
