use Rattle.reader_frame.specs.Tests.{head_tests}
use Rattle.reader_frame.proofs.head_fault.Goals as goal

pub returns : goal.returns
unfolding head_tests
returns c = cc
