use Rattle.reader_frame.specs.Tests.{wrong_versions}
use Rattle.table.proofs.Rules.{picks}
use Rattle.reader_frame.proofs.wrong_versions.Goals as goal

pub returns : goal.returns
unfolding wrong_versions
returns c = search picks
