use Rattle.reads_seats.specs.Told.{count_of}
use mathlib.Core.Path.{ap, ◌∙◌}
use Rattle.reads_whole.specs.Whole.{many_of}
use Rattle.table.proofs.Rules.{picks}
use Rattle.reads_whole.proofs.lists.many_of.Goals as goal

pub returns-then-kind-le-ID : goal.returns-then-kind-le-ID
unfolding many_of
returns-then-kind-le-ID c = search picks

pub returns : goal.returns
unfolding many_of
returns c = (c.count_of.ensures.0 ∙ ap (count_of c.args.t.now) c.list_kind.ensures ∙ search picks, c.count_of.ensures.1)
