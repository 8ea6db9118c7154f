use Rattle.changes.specs.Changes.{text_of}
use Rattle.changes.proofs.lines.used_line.Goals as goal

pub returns : goal.returns
unfolding text_of
returns c = c.side_line.ensures
