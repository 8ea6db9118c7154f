use Rattle.table.specs.FixedLayouts.{hfi, ssns, security, discovery}
use Rattle.reader_frame.specs.Tests.{short_lists}
use Rattle.table.proofs.Rules.{picks}
use Rattle.reader_frame.proofs.short_lists.Goals as goal

pub returns : goal.returns
unfolding short_lists hfi ssns security discovery
returns c = search picks
