use Rattle.reads_whole.specs.Whole.{first_of}
use Rattle.table.proofs.Rules.{picks}
use Rattle.reads_whole.proofs.lists.first_of.Goals as goal

pub returns-then-kind-le-ID : goal.returns-then-kind-le-ID
unfolding first_of
returns-then-kind-le-ID c = search picks

pub returns-else-kind-le-ID : goal.returns-else-kind-le-ID
unfolding first_of
returns-else-kind-le-ID c = search picks
