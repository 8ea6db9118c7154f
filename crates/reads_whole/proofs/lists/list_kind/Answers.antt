use Rattle.reads_whole.specs.Whole.{list_kind}
use Rattle.table.proofs.Rules.{picks}
use Rattle.reads_whole.proofs.lists.list_kind.Goals as goal

pub returns-in-7 : goal.returns-in-7
unfolding list_kind
returns-in-7 c = rw c.in-7.is (search picks)

pub returns-in-9 : goal.returns-in-9
unfolding list_kind
returns-in-9 c = rw c.in-9.is (search picks)

pub returns-in-10 : goal.returns-in-10
unfolding list_kind
returns-in-10 c = rw c.in-10.is (search picks)

pub returns-in_default : goal.returns-in_default
unfolding list_kind
returns-in_default c = search picks
